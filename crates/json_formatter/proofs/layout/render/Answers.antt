use Rattle.std.proofs.Common.{◌++◌}
use Rattle.std.proofs.lemmas.Result.{on_err_weaker, on_ok_weaker}
use Rattle.json_formatter.specs.BlankLines.{layout_of}
use Rattle.json_formatter.proofs.Layouts.{layout_formatted, layout_whole, lays_bounded}
use Rattle.json_formatter.proofs.Sinks.{accepts_same, refuses_same}
use Rattle.json_formatter.proofs.layout.render.Goals as goal

pub returns-clause-formatted : goal.returns-clause-formatted
returns-clause-formatted g c =
    layout_formatted c.args.style c.args.text.now c.new-lexemes.result c.line_end.result.now c.in_ok-check_json.ensures.ok
    (record {
      spelling = c.of-spelling.result;
      spells = c.of-spelling.ensures;
      lays = lays_bounded c.args.style c.args.text.now c.of-spelling.result c.bounded.ensures c.new-lexemes.ensures;
      ends = c.line_end.ensures;
    })

pub returns-clause-ok : goal.returns-clause-ok
returns-clause-ok g c =
    let laid = c.new-lexemes.result in
    let end = c.line_end.result.now in
    let whole = layout_whole c.args.style c.args.text.now laid end c.in_ok-check_json.ensures.ok
    (record {
      spelling = c.of-spelling.result;
      spells = c.of-spelling.ensures;
      lays = lays_bounded c.args.style c.args.text.now c.of-spelling.result c.bounded.ensures c.new-lexemes.ensures;
      ends = c.line_end.ensures;
    }) in
    on_ok_weaker c.render_layout.result
    (λ wrote. accepts_same _ _ (laid ++ end) (layout_of c.args.style c.args.text.now) _ _ whole wrote)
    c.render_layout.ensures.ok

pub returns-clause-err : goal.returns-clause-err
returns-clause-err g c =
    let laid = c.new-lexemes.result in
    let end = c.line_end.result.now in
    let whole = layout_whole c.args.style c.args.text.now laid end c.in_ok-check_json.ensures.ok
    (record {
      spelling = c.of-spelling.result;
      spells = c.of-spelling.ensures;
      lays = lays_bounded c.args.style c.args.text.now c.of-spelling.result c.bounded.ensures c.new-lexemes.ensures;
      ends = c.line_end.ensures;
    }) in
    on_err_weaker c.render_layout.result
    (λ failed. refuses_same _ _ (laid ++ end) (layout_of c.args.style c.args.text.now) _ _ whole failed)
    c.render_layout.ensures.err
