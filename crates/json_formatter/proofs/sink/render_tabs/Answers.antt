use Rattle.std.proofs.Common.{◌+◌, ◌-◌, ◌++◌, arith, rules}
use Rattle.prettyless_sink.proofs.Beginnings.{accepted_both, on_err, refused_after}
use Rattle.json_formatter.specs.Spelling.{tabs}
use Rattle.json_formatter.proofs.BlankRuns.{run_left, run_more}
use Rattle.json_formatter.proofs.Sinks.{accepts_same, refuses_more, refuses_same}
use Rattle.json_formatter.proofs.sink.render_tabs.Goals as goal

pub returns-in_err-write_str_all-clause-err : goal.returns-in_err-write_str_all-clause-err
returns-in_err-write_str_all-clause-err g c =
    let count = c.args.count in
    let done = count - c.loop-left.left in
    let k = c.min-piece.result in
    let piece = c.some_tabs.result.now in
    let i = c.loop-left.invariant in
    on_err c.from_residual.result
    (refuses_same _ _ ((tabs done ++ piece) ++ tabs (count - (done + k))) (tabs count) _ _
    (run_left 9 piece count done k (omega (arith, i.0, c.min-piece.ensures)) c.some_tabs.ensures)
    (refuses_more _ _ (tabs done ++ piece) (tabs (count - (done + k))) _ _
    (refused_after _ _ _ (tabs done) piece _ _ _ i.2 c.in_err-write_str_all.ensures.err)))

pub loop-left-preserved : goal.loop-left-preserved
loop-left-preserved g c =
    let count = c.args.count in
    let left = c.loop-left.left in
    let k = c.min-piece.result in
    let piece = c.some_tabs.result.now in
    let i = c.loop-left.invariant in (
      omega (arith, i.0),
      cc,
      accepts_same _ _ (tabs (count - left) ++ piece) (tabs (count - (left - k))) _ _
          (run_more 9 piece (count - (left - k)) (count - left) k (omega (arith, i.0, c.min-piece.ensures)) c.some_tabs.ensures)
          (accepted_both _ _ _ (tabs (count - left)) piece _ _ _ i.2 c.in_ok-write_str_all.ensures.ok),
    )

pub returns-clause-ok : goal.returns-clause-ok
returns-clause-ok g c = search rules depth 1
