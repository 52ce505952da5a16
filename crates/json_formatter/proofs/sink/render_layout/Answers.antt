use Rattle.std.proofs.Common.{◌++◌, ◌∙◌}
use Rattle.std.proofs.lemmas.Result.{on_err_weaker, on_ok_weaker}
use Rattle.prettyless_sink.proofs.Beginnings.{accepted_both, on_err}
use Rattle.json_lexemes.specs.View.{text_of}
use Rattle.json_formatter.specs.Kept.{spelled_bytes}
use Rattle.json_formatter.proofs.Sinks.{accepts_end, lexeme_more, lexeme_next, refuses_end, refuses_in}
use Rattle.json_formatter.proofs.sink.render_layout.Goals as goal

pub loop-gap-preserved : goal.loop-gap-preserved
loop-gap-preserved g c =
    let i = c.loop-gap.invariant in
    let part = spelled_bytes c.in-Some.gap ++ c.text.result.now in (
      i.0 ++ part,
      lexeme_more c.args.layout.now i.0 c.loop-gap.layout (spelled_bytes c.in-Some.gap) c.text.result.now
          (text_of c.in-Some.lexeme) c.next.new.self i.1
          c.in-Some.ensures.next c.text.ensures,
      c.render_lexeme.ensures.same_lender ∙ i.2,
      accepted_both _ _ _ i.0 part _ _ _ i.3 c.in_ok-render_lexeme.ensures.ok,
    )

pub returns-in_err-render_lexeme-clause-err : goal.returns-in_err-render_lexeme-clause-err
returns-in_err-render_lexeme-clause-err g c =
    let i = c.loop-gap.invariant in
    let part = spelled_bytes c.in-Some.gap ++ c.text.result.now in
    on_err c.from_residual.result
    (refuses_in _ part c.next.new.self c.args.end.now _ (record { split = i.1; wrote = i.3 })
    (lexeme_next (spelled_bytes c.in-Some.gap) c.text.result.now c.next.new.self c.in-Some.ensures.next c.text.ensures)
    c.in_err-render_lexeme.ensures.err)

pub returns-clause-ok : goal.returns-clause-ok
returns-clause-ok g c =
    let i = c.loop-gap.invariant in
    on_ok_weaker c.write_str_all.result
    (λ wrote. accepts_end _ c.args.end.now _ (record { split = i.1; wrote = i.3 }) c.in_default.ensures.next.0 wrote)
    c.write_str_all.ensures.ok

pub returns-clause-err : goal.returns-clause-err
returns-clause-err g c =
    let i = c.loop-gap.invariant in
    on_err_weaker c.write_str_all.result
    (λ failed. refuses_end _ c.args.end.now _ (record { split = i.1; wrote = i.3 }) c.in_default.ensures.next.0 failed)
    c.write_str_all.ensures.err
