use Rattle.std.proofs.Common.{◌≡◌, ◌++◌, List, length, ℕ}
use Rattle.prettyless_sink.specs.Sink.{Accepts}
use Rattle.json_formatter.proofs.sink.render_layout.Given as goal

-- what was put, and what is left, is the layout
abbrev pub invariant-loop-gap : goal.invariant-loop-gap
invariant-loop-gap g l = (done : List ℕ) × (l.fn.layout ≡ done ++ l.layout) × (g.S.Render.lender l.sink ≡ g.S.Render.lender l.fn.sink)
    × Accepts (g.S.Render.bytes l.fn.sink) (g.S.Render.bytes l.sink) done (g.S.Render.failures l.fn.sink) (g.S.Render.failures l.sink)

abbrev pub decreases-loop-gap : goal.decreases-loop-gap
decreases-loop-gap g l = length l.layout
