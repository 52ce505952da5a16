use Rattle.std.proofs.Common.{sym, ◌∙◌, arith}
use Rattle.json_grammar.proofs.Content.{no_unit, unit_at}
use Rattle.json_grammar.proofs.string.code_unit.Goals as goal

pub returns-then-bytes-lt4 : goal.returns-then-bytes-lt4
returns-then-bytes-lt4 c = sym (no_unit c.args.bytes.now (omega arith))

pub returns-else-bytes-lt4 : goal.returns-else-bytes-lt4
returns-else-bytes-lt4 c = c.padded_unit.ensures ∙ sym (unit_at c.args.bytes.now (omega arith))
