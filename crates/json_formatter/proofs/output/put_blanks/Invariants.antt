use Rattle.std.proofs.Common.{◌-◌, ◌≤◌}
use Rattle.std.specs.Prelude.{replicate}
use Rattle.json_formatter.specs.Blanks.{blank_code}
use Rattle.json_formatter.specs.Outputs.{WritesHeld}
use Rattle.json_formatter.proofs.output.put_blanks.Given as goal

-- those that were put
abbrev pub invariant-loop-left : goal.invariant-loop-left
invariant-loop-left g l = (l.left ≤ l.count)
    × WritesHeld (g.W.Write.contents l.fn.writer) (g.W.Write.contents l.writer) l.fn.held.bytes l.held.bytes
    (replicate (l.count - l.left) (blank_code l.blank))

abbrev pub decreases-loop-left : goal.decreases-loop-left
decreases-loop-left g l = l.left
