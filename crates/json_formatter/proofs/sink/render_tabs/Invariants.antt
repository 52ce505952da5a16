use Rattle.std.proofs.Common.{◌≡◌, ◌≤◌, ◌-◌}
use Rattle.prettyless_sink.specs.Sink.{Accepts}
use Rattle.json_formatter.specs.Spelling.{tabs}
use Rattle.json_formatter.proofs.sink.render_tabs.Given as goal

-- those that were put
abbrev pub invariant-loop-left : goal.invariant-loop-left
invariant-loop-left g l = (l.left ≤ l.count)
    × (g.S.Render.lender l.sink ≡ g.S.Render.lender l.fn.sink)
    × Accepts (g.S.Render.bytes l.fn.sink) (g.S.Render.bytes l.sink) (tabs (l.count - l.left)) (g.S.Render.failures l.fn.sink)
    (g.S.Render.failures l.sink)

abbrev pub decreases-loop-left : goal.decreases-loop-left
decreases-loop-left g l = l.left
