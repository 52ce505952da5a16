use Rattle.std.proofs.Common.{◌≡◌, ◌≤◌, ◌-◌}
use Rattle.prettyless_model.specs.Spaces.{spaces}
use Rattle.prettyless_sink.specs.Sink.{Accepts}
use Rattle.prettyless_sink.proofs.pieces.write_spaces.Given as goal

abbrev pub invariant-loop-left : goal.invariant-loop-left
invariant-loop-left g l = (l.left ≤ l.count)
    × (g.W.Render.lender l.out ≡ g.W.Render.lender l.fn.out)
    × Accepts (g.W.Render.bytes l.fn.out) (g.W.Render.bytes l.out) (spaces (l.count - l.left)) (g.W.Render.failures l.fn.out)
    (g.W.Render.failures l.out)

abbrev pub decreases-loop-left : goal.decreases-loop-left
decreases-loop-left g l = l.left
