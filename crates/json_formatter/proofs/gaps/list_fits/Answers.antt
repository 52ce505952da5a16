use Rattle.std.proofs.Common.{◌≡◌, ℕ, ◌-◌, ◌<◌, ◌≤◌, List, ◌∙◌, ap, subst}
use Rattle.json_formatter.specs.Documents.{greatest_width}
use Rattle.json_formatter.specs.PieceTexts.{piece_text}
use Rattle.prettyless_model.specs.Column.{saturating_add}
use Rattle.json_formatter.specs.Flat.{piece_columns}
use Rattle.json_formatter.specs.Window.{IsWidthUpTo}
use Rattle.json_formatter.proofs.WindowFits.{fits_found, past_bracket, wide_bracket}
use Rattle.json_formatter.proofs.gaps.list_fits.Goals as goal

pub returns-clause-fits : goal.returns-clause-fits
returns-clause-fits c =
    let style = c.args.style in
    let column = c.args.column in
    let ss = c.args.pieces.now in
    let s = piece_text c.args.opening in
    let begun : c.saturating_add-begun.result ≡ saturating_add column (piece_columns style.compact s ss) =
    c.saturating_add-begun.ensures
    ∙ ap (λ (n : ℕ). saturating_add column n) (c.in-Some.ensures ∙ ap (piece_columns style.compact s) c.again.ensures) in
    c.is_some.ensures
    ∙ fits_found style column (piece_columns style.compact s ss) ss
    c.requires.bounded c.columns_with_comma.result
    (subst (λ (n : ℕ). n ≤ style.width) begun c.if-begun-style.false)
    (subst (λ (n : ℕ). IsWidthUpTo style.compact (style.width - n) ss c.columns_with_comma.result) begun
    c.columns_with_comma.ensures.width)

pub returns-then-begun-style-clause-fits : goal.returns-then-begun-style-clause-fits
returns-then-begun-style-clause-fits c =
    let style = c.args.style in
    let column = c.args.column in
    let ss = c.args.pieces.now in
    let s = piece_text c.args.opening in
    let begun : c.saturating_add-begun.result ≡ saturating_add column (piece_columns style.compact s ss) =
    c.saturating_add-begun.ensures
    ∙ ap (λ (n : ℕ). saturating_add column n) (c.in-Some.ensures ∙ ap (piece_columns style.compact s) c.again.ensures) in
    past_bracket style column s ss c.requires.bounded (subst (λ (n : ℕ). style.width < n) begun c.if-begun-style.true)

pub returns-in_default-clause-fits : goal.returns-in_default-clause-fits
returns-in_default-clause-fits c =
    let style = c.args.style in
    let s = piece_text c.args.opening in
    wide_bracket style c.args.column s c.args.pieces.now c.requires.bounded
    (subst (λ (ss : List (List ℕ)). greatest_width ≤ piece_columns style.compact s ss) c.again.ensures c.in_default.ensures)
