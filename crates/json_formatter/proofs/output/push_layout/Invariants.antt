use Rattle.std.proofs.Common.{◌≡◌, ◌++◌, length}
use Rattle.std.specs.String.{string_bytes}
use Rattle.json_formatter.proofs.output.push_layout.Given as goal

-- what was added, and what is left, is the layout
abbrev pub invariant-loop-gap : goal.invariant-loop-gap
invariant-loop-gap l = string_bytes l.text ++ l.layout ≡ string_bytes l.fn.text ++ l.fn.layout

abbrev pub decreases-loop-gap : goal.decreases-loop-gap
decreases-loop-gap l = length l.layout
