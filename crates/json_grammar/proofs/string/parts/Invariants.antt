use Rattle.std.proofs.Common.{◌-◌, length}
use Rattle.json.specs.Text.{plain}
use Rattle.json_grammar.specs.Strings.{Reads}
use Rattle.json_grammar.proofs.string.parts.Given as goal

-- the bytes so far are parts
abbrev pub invariant-loop-part : goal.invariant-loop-part
invariant-loop-part l = Reads plain l.bytes l.len

abbrev pub decreases-loop-part : goal.decreases-loop-part
decreases-loop-part l = length l.bytes - l.len
