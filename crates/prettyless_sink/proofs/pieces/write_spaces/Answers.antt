use Rattle.std.proofs.Common.{◌-◌, ap, ◌∙◌, arith, rules}
use Rattle.prettyless_sink.specs.Sink.{rise}
use Rattle.prettyless_sink.proofs.Beginnings.{on_err}
use Rattle.prettyless_sink.proofs.Gaps.{piece_after_gap, beginning_of_gap}
use Rattle.prettyless_sink.proofs.pieces.write_spaces.Goals as goal

pub returns-in_err-write_str_all-clause-err : goal.returns-in_err-write_str_all-clause-err
returns-in_err-write_str_all-clause-err g c =
    on_err c.from_residual.result
    (λ t.
    let before = c.loop-left.invariant.2 t in
    let failed = c.in_err-write_str_all.ensures.err before.0 in (
      failed.0,
      (
        beginning_of_gap _ _ _ _ c.args.count (c.args.count - c.loop-left.left) c.min-piece.result (omega arith) c.some_spaces.ensures
            before.1.0 failed.1.0,
        failed.1.1 ∙ ap rise before.1.1,
      ),
    ))

pub loop-left-preserved : goal.loop-left-preserved
loop-left-preserved g c = (
  omega arith,
  cc,
  λ t.
      let before = c.loop-left.invariant.2 t in
      let wrote = c.in_ok-write_str_all.ensures.ok before.0 in (
        wrote.0,
        (
          piece_after_gap _ _ _ _ _ (c.args.count - c.loop-left.left) c.min-piece.result (omega arith) c.some_spaces.ensures
              before.1.0 wrote.1.0,
          wrote.1.1 ∙ before.1.1,
        ),
      ),
)

pub returns-clause-ok : goal.returns-clause-ok
returns-clause-ok g c = search rules depth 1
