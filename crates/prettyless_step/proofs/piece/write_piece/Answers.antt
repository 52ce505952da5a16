use Rattle.std.proofs.Common.{◌≡◌, List, ℕ, [], ◌++◌, append-nil, subst}
use Rattle.std.proofs.lemmas.Result.{on_err_weaker, on_ok_weaker}
use Rattle.prettyless_model.specs.Spaces.{spaces}
use Rattle.prettyless_sink.proofs.Beginnings.{accepted_both, beginning_of_more, on_err, refused_after}
use Rattle.prettyless_sink.specs.Sink.{Accepts, Refuses}
use Rattle.prettyless_step.specs.Piece.{piece_bytes}
use Rattle.prettyless_step.proofs.piece.write_piece.Goals as goal

pub returns-in_err-write_gap_and_text-in-Line-clause-err : goal.returns-in_err-write_gap_and_text-in-Line-clause-err
returns-in_err-write_gap_and_text-in-Line-clause-err g c =
    let bytes = g.W.Render.bytes in
    let failures = g.W.Render.failures in
    let old = c.args.out.now in
    let new = c.write_gap_and_text-in-Line.new.out in
    on_err
    {P = Refuses (bytes old) (bytes new) (piece_bytes c.args.piece) (failures old) (failures new)}
    c.from_residual.result
    (rw c.in-Line.is (λ is_known.
    let failed = c.in_err-write_gap_and_text-in-Line.ensures.err is_known in
    (failed.0, (beginning_of_more _ _ c.in-Line.ending.now (spaces c.in-Line.indent) failed.1.0, failed.1.1))))

pub returns-in_ok-write_gap_and_text-in-Line-clause-ok : goal.returns-in_ok-write_gap_and_text-in-Line-clause-ok
returns-in_ok-write_gap_and_text-in-Line-clause-ok g c =
    let bytes = g.W.Render.bytes in
    let failures = g.W.Render.failures in
    let old = c.args.out.now in
    let new = c.write_gap_and_text-in-Line-2.new.out in
    let line = c.in-Line in
    let last : spaces line.indent ++ [] ≡ spaces line.indent = append-nil (spaces line.indent) in
    on_ok_weaker c.write_gap_and_text-in-Line-2.result
    (λ next. rw line.is (subst (λ (x : List ℕ). Accepts (bytes old) (bytes new) (line.ending.now ++ x) (failures old) (failures new)) last
    (accepted_both _ _ _ line.ending.now (spaces line.indent ++ []) _ _ _ c.in_ok-write_gap_and_text-in-Line.ensures.ok next)))
    c.write_gap_and_text-in-Line-2.ensures.ok

pub returns-in_ok-write_gap_and_text-in-Line-clause-err : goal.returns-in_ok-write_gap_and_text-in-Line-clause-err
returns-in_ok-write_gap_and_text-in-Line-clause-err g c =
    let bytes = g.W.Render.bytes in
    let failures = g.W.Render.failures in
    let old = c.args.out.now in
    let new = c.write_gap_and_text-in-Line-2.new.out in
    let line = c.in-Line in
    let last : spaces line.indent ++ [] ≡ spaces line.indent = append-nil (spaces line.indent) in
    on_err_weaker c.write_gap_and_text-in-Line-2.result
    (λ next. rw line.is (subst (λ (x : List ℕ). Refuses (bytes old) (bytes new) (line.ending.now ++ x) (failures old) (failures new)) last
    (refused_after _ _ _ line.ending.now (spaces line.indent ++ []) _ _ _ c.in_ok-write_gap_and_text-in-Line.ensures.ok next)))
    c.write_gap_and_text-in-Line-2.ensures.err
