use Rattle.std.proofs.Common.{◌≡◌, ◌≤◌, ◌++◌, List, length, ℕ}
use Rattle.json_formatter.proofs.output.hold_some.Given as goal

-- what was held, and what is left, is the layout
abbrev pub invariant-loop-gap : goal.invariant-loop-gap
invariant-loop-gap l = (done : List ℕ) × (l.held.bytes ≡ l.fn.held.bytes ++ done) × (l.fn.layout ≡ done ++ l.layout)
    × (length l.layout ≤ length l.fn.layout)

abbrev pub decreases-loop-gap : goal.decreases-loop-gap
decreases-loop-gap l = length l.layout
