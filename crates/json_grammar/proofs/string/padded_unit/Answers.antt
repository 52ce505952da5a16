use Rattle.std.proofs.Common.{arith}
use Rattle.json.specs.Text.{code_unit}
use Rattle.json_grammar.proofs.string.padded_unit.Goals as goal

pub returns-then-a-b : goal.returns-then-a-b
unfolding code_unit
returns-then-a-b c =
    rw (
      ← c.byte_or.ensures,
      ← c.byte_or-2.ensures,
      ← c.byte_or-3.ensures,
      ← c.byte_or-4.ensures,
      ← c.digit-a.ensures,
      ← c.digit-b.ensures,
      ← c.digit-c.ensures,
      ← c.digit-d.ensures,
    ) (grind arith)

pub returns-else-a-b : goal.returns-else-a-b
unfolding code_unit
returns-else-a-b c =
    rw (
      ← c.byte_or.ensures,
      ← c.byte_or-2.ensures,
      ← c.byte_or-3.ensures,
      ← c.byte_or-4.ensures,
      ← c.digit-a.ensures,
      ← c.digit-b.ensures,
      ← c.digit-c.ensures,
      ← c.digit-d.ensures,
    ) (grind arith)
