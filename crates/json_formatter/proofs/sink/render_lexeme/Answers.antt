use Rattle.std.proofs.lemmas.Result.{on_err_weaker, on_ok_weaker}
use Rattle.prettyless_model.specs.Spaces.{spaces}
use Rattle.prettyless_sink.proofs.Beginnings.{accepted_both, on_err, refused_after}
use Rattle.std.proofs.Common.{◌++◌}
use Rattle.json_formatter.specs.Kept.{spelled_bytes}
use Rattle.json_formatter.specs.Spelling.{tabs}
use Rattle.json_formatter.proofs.Sinks.{accepts_same, gap_text, refuses_more, refuses_same}
use Rattle.json_formatter.proofs.sink.render_lexeme.Goals as goal

pub returns-in_err-write_gap_and_text-clause-err : goal.returns-in_err-write_gap_and_text-clause-err
returns-in_err-write_gap_and_text-clause-err g c =
    let ends = c.parts-tabs.result.0.now in
    let tabbed = tabs c.parts-tabs.result.1 in
    let spaced = spaces c.parts-tabs.result.2 in
    let text = c.args.text.now in
    on_err c.from_residual.result
    (refuses_same _ _ ((ends ++ tabbed) ++ (spaced ++ text)) (spelled_bytes c.args.gap ++ text) _ _
    (gap_text (spelled_bytes c.args.gap) ends tabbed spaced text c.parts-tabs.ensures)
    (refuses_more _ _ (ends ++ tabbed) (spaced ++ text) _ _
    (refuses_more _ _ ends tabbed _ _ c.in_err-write_gap_and_text.ensures.err)))

pub returns-in_err-render_tabs-clause-err : goal.returns-in_err-render_tabs-clause-err
returns-in_err-render_tabs-clause-err g c =
    let ends = c.parts-tabs.result.0.now in
    let tabbed = tabs c.parts-tabs.result.1 in
    let spaced = spaces c.parts-tabs.result.2 in
    let text = c.args.text.now in
    on_err c.from_residual-in_err-render_tabs.result
    (refuses_same _ _ ((ends ++ tabbed) ++ (spaced ++ text)) (spelled_bytes c.args.gap ++ text) _ _
    (gap_text (spelled_bytes c.args.gap) ends tabbed spaced text c.parts-tabs.ensures)
    (refuses_more _ _ (ends ++ tabbed) (spaced ++ text) _ _
    (refused_after _ _ _ ends tabbed _ _ _ c.in_ok-write_gap_and_text.ensures.ok c.in_err-render_tabs.ensures.err)))

pub returns-clause-ok : goal.returns-clause-ok
returns-clause-ok g c =
    let ends = c.parts-tabs.result.0.now in
    let tabbed = tabs c.parts-tabs.result.1 in
    let spaced = spaces c.parts-tabs.result.2 in
    let text = c.args.text.now in
    on_ok_weaker c.write_gap_and_text-2.result
    (λ wrote. accepts_same _ _ ((ends ++ tabbed) ++ (spaced ++ text)) (spelled_bytes c.args.gap ++ text) _ _
    (gap_text (spelled_bytes c.args.gap) ends tabbed spaced text c.parts-tabs.ensures)
    (accepted_both _ _ _ (ends ++ tabbed) (spaced ++ text) _ _ _
    (accepted_both _ _ _ ends tabbed _ _ _ c.in_ok-write_gap_and_text.ensures.ok c.in_ok-render_tabs.ensures.ok) wrote))
    c.write_gap_and_text-2.ensures.ok

pub returns-clause-err : goal.returns-clause-err
returns-clause-err g c =
    let ends = c.parts-tabs.result.0.now in
    let tabbed = tabs c.parts-tabs.result.1 in
    let spaced = spaces c.parts-tabs.result.2 in
    let text = c.args.text.now in
    on_err_weaker c.write_gap_and_text-2.result
    (λ failed. refuses_same _ _ ((ends ++ tabbed) ++ (spaced ++ text)) (spelled_bytes c.args.gap ++ text) _ _
    (gap_text (spelled_bytes c.args.gap) ends tabbed spaced text c.parts-tabs.ensures)
    (refused_after _ _ _ (ends ++ tabbed) (spaced ++ text) _ _ _
    (accepted_both _ _ _ ends tabbed _ _ _ c.in_ok-write_gap_and_text.ensures.ok c.in_ok-render_tabs.ensures.ok) failed))
    c.write_gap_and_text-2.ensures.err
