use Rattle.std.proofs.Common.{arith, refl}
use Rattle.std.proofs.lemmas.Grind.{common_steps}
use Rattle.std.proofs.lemmas.Result.{on_err_weaker, on_ok_weaker}
use Rattle.prettyless_model.specs.Spaces.{spaces}
use Rattle.prettyless_sink.specs.Sink.{Accepts, known}
use Rattle.prettyless_sink.proofs.Beginnings.{accepted_both, beginning_of_more, on_err, refused_after}
use Rattle.prettyless_sink.proofs.Gaps.{after_no_gap}
use Rattle.prettyless_sink.proofs.pieces.write_gap_and_text.Goals as goal
use Rattle.prettyless_sink.proofs.pieces.write_gap_and_text.Goals.{then-gap-gt0+in_ok-write_spaces, else-gap-gt0}

pub returns-in_err-write_spaces-clause-err : goal.returns-in_err-write_spaces-clause-err
returns-in_err-write_spaces-clause-err g c =
    on_err c.from_residual.result (λ is_known. let failed = c.in_err-write_spaces.ensures.err is_known in
    (failed.0, (beginning_of_more _ _ _ c.args.text.now failed.1.0, failed.1.1)))

pub returns-clause-ok : goal.returns-clause-ok
returns-clause-ok g c =
    let bytes = g.W.Render.bytes in
    let failures = g.W.Render.failures in
    let old = c.args.out.now in
    let mid = c.if-gap-gt0.out in
    let gap_written : Accepts (bytes old) (bytes mid) (spaces c.args.gap) (failures old) (failures mid) =
    elim c.if-gap-gt0.branch [
      | then-gap-gt0+in_ok-write_spaces w ↦ rw w.out-is w.in_ok-write_spaces.ensures.ok
      | else-gap-gt0 w ↦ rw w.out-is (λ is_known. (is_known, (after_no_gap (known (bytes old)) c.args.gap (omega arith), refl)))
    ] in
    on_ok_weaker c.write_str_all.result (λ wrote. accepted_both _ _ _ _ _ _ _ _ gap_written wrote) c.write_str_all.ensures.ok

pub returns-clause-err : goal.returns-clause-err
returns-clause-err g c =
    let bytes = g.W.Render.bytes in
    let failures = g.W.Render.failures in
    let old = c.args.out.now in
    let mid = c.if-gap-gt0.out in
    let gap_written : Accepts (bytes old) (bytes mid) (spaces c.args.gap) (failures old) (failures mid) =
    elim c.if-gap-gt0.branch [
      | then-gap-gt0+in_ok-write_spaces w ↦ rw w.out-is w.in_ok-write_spaces.ensures.ok
      | else-gap-gt0 w ↦ rw w.out-is (λ is_known. (is_known, (after_no_gap (known (bytes old)) c.args.gap (omega arith), refl)))
    ] in
    on_err_weaker c.write_str_all.result (λ fails. refused_after _ _ _ _ _ _ _ _ gap_written fails) c.write_str_all.ensures.err

pub returns-then-is_empty-clause-ok : goal.returns-then-is_empty-clause-ok
returns-then-is_empty-clause-ok g c = grind (arith, common_steps)
