use Rattle.std.proofs.Common.{List, ℕ, ap, sym, subst, ◌≡◌, ◌∙◌, ◌++◌}
use Rattle.std.specs.String.{string_bytes}
use Rattle.json_formatter.specs.Formats.{IsFormatted}
use Rattle.json_formatter.proofs.Layouts.{laid_formatted, lays_bounded}
use Rattle.json_formatter.proofs.layout.formatted.Goals as goal

pub returns-clause-ok : goal.returns-clause-ok
returns-clause-ok c =
    let laid = c.new-lexemes.result in
    let end = c.line_end.result.now in
    let bytes : string_bytes c.push_layout.new.text ≡ laid ++ end =
    c.in_ok-push_layout.ensures ∙ ap (λ (l : List ℕ). l ++ (laid ++ end)) c.new-layout.ensures.bytes in
    subst (IsFormatted c.args.style c.args.text.now) (sym bytes)
    (laid_formatted c.args.style c.args.text.now laid end c.in_ok-check_json.ensures.ok
    (record {
      spelling = c.of-spelling.result;
      spells = c.of-spelling.ensures;
      lays = lays_bounded c.args.style c.args.text.now c.of-spelling.result c.bounded.ensures c.new-lexemes.ensures;
      ends = c.line_end.ensures;
    }))
