use Rattle.std.proofs.Common.{◌≡◌, ◌++◌, List, length, ℕ}
use Rattle.json_formatter.specs.Outputs.{WritesHeld}
use Rattle.json_formatter.proofs.output.put_layout.Given as goal

-- what was put, and what is left, is the layout
abbrev pub invariant-loop-gap : goal.invariant-loop-gap
invariant-loop-gap g l = (done : List ℕ) × (l.fn.layout ≡ done ++ l.layout)
    × WritesHeld (g.W.Write.contents l.fn.writer) (g.W.Write.contents l.writer) l.fn.held.bytes l.held.bytes done

abbrev pub decreases-loop-gap : goal.decreases-loop-gap
decreases-loop-gap g l = length l.layout
