-- Whether a list stays within the width is what the window finds of it.
use Rattle.std.proofs.Common.{◌≡◌, ℕ, ◌+◌, ◌-◌, ◌<◌, ◌≤◌, ◌^◌, min, Bool, true, false, nat_le, inl, inr, refl, sym, ◌∙◌, ap, arith}
use Rattle.std.proofs.Common.{List, [], ◌∷◌, Option, Some, None, is_some}
use Rattle.std.proofs.lemmas.Bool.{le-leb, lt-leb, cases_lt, cases_Bool}
use Rattle.json_formatter.specs.Documents.{opens, closes, greatest_width}
use Rattle.json_formatter.specs.Flat.{piece_columns, wider, width_to_close}
use Rattle.prettyless_model.specs.Column.{saturating_add}
use Rattle.json_formatter.specs.Gaps.{comma_column, comma_after, list_end, list_fits}
use Rattle.json_formatter.specs.Window.{width_with_comma, IsWidthUpTo}
use Rattle.json_formatter.specs.declared.style.Style.{Style}
use Rattle.json_formatter.proofs.Closing.{to_inner, to_opening, to_plain}
use Rattle.json_formatter.proofs.WindowWidths.{at_closing, at_opening, at_plain}

-- a width, and the comma after it
abbrev and_comma : Option ℕ → Bool → Option ℕ
and_comma None comma = None
and_comma (Some w) comma = Some (w + comma_column comma)

wider_comma : (a : ℕ) (o : Option ℕ) (comma : Bool) → wider a (and_comma o comma) ≡ and_comma (wider a o) comma
wider_comma a None comma = refl
wider_comma a (Some w) comma = ap Some (let k = comma_column comma in omega arith)

-- the window's width is the width up to what closes the list, and the comma after that
width_splits : (compact : Bool) (n : ℕ) (ss : List (List ℕ))
    → width_with_comma compact n ss ≡ and_comma (width_to_close compact n ss) (comma_after n ss)
width_splits compact n [] = refl
width_splits compact n (s ∷ ss) = elim (cases_Bool (opens s)) [
  | inl o ↦
      let comma : comma_after n (s ∷ ss) ≡ comma_after (n + 1) ss = rw o refl in
      at_opening compact n s ss o
      ∙ ap (wider (piece_columns compact s ss)) (width_splits compact (n + 1) ss)
      ∙ wider_comma (piece_columns compact s ss) (width_to_close compact (n + 1) ss) (comma_after (n + 1) ss)
      ∙ (λ i. and_comma (sym (to_opening compact n s ss o) i) (sym comma i))
  | inr o ↦ elim (cases_Bool (closes s)) [
    | inl c ↦ elim (cases_lt 1 n) [
      | inl more ↦
          let e : nat_le n 1 ≡ false = lt-leb n 1 more in
          let comma : comma_after n (s ∷ ss) ≡ comma_after (n - 1) ss = rw (o, c, e) refl in
          at_closing compact n s ss o c more
          ∙ ap (wider (piece_columns compact s ss)) (width_splits compact (n - 1) ss)
          ∙ wider_comma (piece_columns compact s ss) (width_to_close compact (n - 1) ss) (comma_after (n - 1) ss)
          ∙ (λ i. and_comma (sym (to_inner compact n s ss o c e) i) (sym comma i))
      | inr last ↦ let e : nat_le n 1 ≡ true = le-leb n 1 last in rw (o, c, e) refl
    ]
    | inr c ↦
        let comma : comma_after n (s ∷ ss) ≡ comma_after n ss = rw (o, c) refl in
        at_plain compact n s ss o c
        ∙ ap (wider (piece_columns compact s ss)) (width_splits compact n ss)
        ∙ wider_comma (piece_columns compact s ss) (width_to_close compact n ss) (comma_after n ss)
        ∙ (λ i. and_comma (sym (to_plain compact n s ss o c) i) (sym comma i))
  ]
]

-- the list that begins at column c fits where the window finds its width in the columns after the k columns of its bracket
module _ (style : Style) (c k : ℕ) (ss : List (List ℕ)) (narrow : style.width < 2 ^ 64 - 1) where
  -- its width, with what closes it, and the comma after it
  abbrev width : Option ℕ
  width = width_to_close style.compact 1 ss

  abbrev comma : Bool
  comma = comma_after 1 ss

  -- it does
  abbrev fits : Bool
  fits = nat_le (list_end c k width comma) style.width

  -- no list fits that is not closed
  never : width ≡ None → false ≡ fits
  never e =
      let no : nat_le (2 ^ 64 - 1) style.width ≡ false = lt-leb (2 ^ 64 - 1) style.width narrow in
      rw e (sym no)

  -- what the window has is the width and the comma
  with_comma : {o : Option ℕ} → width ≡ o → width_with_comma style.compact 1 ss ≡ and_comma o comma
  with_comma e = width_splits style.compact 1 ss ∙ ap (λ o. and_comma o comma) e

  pub fits_found : (found : Option ℕ) → saturating_add c k ≤ style.width
      → IsWidthUpTo style.compact (style.width - saturating_add c k) ss found → is_some found ≡ fits
  fits_found None h is = go width refl
    where
      go : (o : Option ℕ) → width ≡ o → false ≡ fits
      go None e = never e
      go (Some w) e =
          let x = comma_column comma in
          let past : style.width - saturating_add c k < w + x = is (w + x) (with_comma e) in
          let more : style.width < min (c + (k + w + x)) (2 ^ 64 - 1) = omega arith in
          let no : nat_le (min (c + (k + w + x)) (2 ^ 64 - 1)) style.width ≡ false = lt-leb _ style.width more in
          rw e (sym no)
  fits_found (Some v) h is = go width refl
    where
      go : (o : Option ℕ) → width ≡ o → true ≡ fits
      go None e = let both = sym (is.0) ∙ with_comma e in cc
      go (Some w) e =
          let x = comma_column comma in
          let both = sym (is.0) ∙ with_comma e in
          let same : v ≡ w + x = cc in
          let within : v ≤ style.width - saturating_add c k = is.1 in
          let less : min (c + (k + w + x)) (2 ^ 64 - 1) ≤ style.width = omega arith in
          let yes : nat_le (min (c + (k + w + x)) (2 ^ 64 - 1)) style.width ≡ true = le-leb _ style.width less in
          rw e (sym yes)

-- a list does not fit whose bracket does not
pub past_bracket : (style : Style) (c : ℕ) (s : List ℕ) (ss : List (List ℕ)) → style.width < greatest_width
    → style.width < saturating_add c (piece_columns style.compact s ss) → false ≡ list_fits style c s ss
past_bracket style c s ss narrow past = go (width_to_close style.compact 1 ss)
  where
    further : (k w x : ℕ) → style.width < saturating_add c k → style.width < saturating_add c (k + w + x)
    further k w x h = omega (arith, h)

    go : (o : Option ℕ) → false ≡ nat_le (list_end c (piece_columns style.compact s ss) o (comma_after 1 ss)) style.width
    go None = sym (lt-leb (2 ^ 64 - 1) style.width narrow)
    go (Some w) =
        sym (lt-leb _ style.width (further (piece_columns style.compact s ss) w (comma_column (comma_after 1 ss)) past))

-- one that is as wide as is counted never does
pub wide_bracket : (style : Style) (c : ℕ) (s : List ℕ) (ss : List (List ℕ)) → style.width < greatest_width
    → greatest_width ≤ piece_columns style.compact s ss → false ≡ list_fits style c s ss
wide_bracket style c s ss narrow wide =
    past_bracket style c s ss narrow (past (piece_columns style.compact s ss) wide)
  where
    past : (k : ℕ) → greatest_width ≤ k → style.width < saturating_add c k
    past k h = omega (arith, h, narrow)
