-- A list outside of those on one line: it is laid out on one line where that fits, and else its members have lines of their own.
use Rattle.std.proofs.Common.{◌≡◌, refl, sym, ◌∙◌, ap, ℕ, ◌+◌, ◌≤◌, Bool, true, false, ◌&&◌, List, [], ◌∷◌, ◌++◌, arith}
use Rattle.std.specs.Prelude.{if◌then◌else◌}
use Rattle.prettyless_model.specs.Column.{saturating_add}
use Rattle.json_formatter.specs.ByValue.{fits_width}
use Rattle.json_formatter.specs.Documents.{closes, is_json_sign, opens, stops}
use Rattle.json_formatter.specs.Values.{bracket}
use Rattle.json_formatter.specs.Flat.{piece_columns}
use Rattle.json_formatter.specs.Gaps.{all_fill, flat_joint, list_fits, open_at}
use Rattle.json_formatter.specs.declared.gaps.Joint.TheVariants as joint
use Rattle.json_formatter.specs.declared.gaps.State.{State}
use Rattle.json_formatter.specs.declared.style.Style.{Style}
use Rattle.json_formatter.proofs.GapsAhead.{IsReadAhead}
use Rattle.json_formatter.proofs.GapsFlat.{LaysOnLine, most, on_line}
use Rattle.json_formatter.proofs.GapsFrom.{laid_from}
use Rattle.json_formatter.proofs.GapsSteps.{Lays, comma_before, lays_after, outside, rested}

-- a bracket that opens a list, and is kept broken or not
pub record IsBracket (a : ℕ) (keeps : Bool) : Type 0 where
  pub opens : opens (bracket a keeps) ≡ true
  pub closes : closes (bracket a keeps) ≡ false
  pub comma : is_json_sign 44 (bracket a keeps) ≡ false
  pub colon : is_json_sign 58 (bracket a keeps) ≡ false

pub square : (keeps : Bool) → IsBracket 91 keeps
square keeps = record { opens = refl; closes = refl; comma = refl; colon = refl }

pub curly : (keeps : Bool) → IsBracket 123 keeps
curly keeps = record { opens = refl; closes = refl; comma = refl; colon = refl }

-- the rest of a list that has something in it, after its bracket, the list on a flat line of so many columns, and what comes after it
pub record IsList (style : Style) (d c a : ℕ) (keeps fills : Bool) (rest : List (List ℕ)) (whole : List ℕ) (total : ℕ)
    (ss : List (List ℕ)) : Type 0 where
  -- the columns of the bracket, and those after it
  pub first : ℕ
  pub later : ℕ
  pub columns : piece_columns style.compact (bracket a keeps) (rest ++ ss) ≡ first
  pub ahead : IsReadAhead style rest later
  pub sum : first + later ≡ total
  pub begins : stops closes (rest ++ ss) ≡ false
  pub filled : (is_json_sign 91 (bracket a keeps) && all_fill style.fill (rest ++ ss)) ≡ fills
  -- the flat line after the bracket
  pub tail : List ℕ
  pub line : whole ≡ a ∷ tail
  pub on_line : LaysOnLine style d c (flat_joint (bracket a keeps)) rest tail ss
  pub deep : d + 1 ≤ most

bracket_next : (style : Style) (d c a : ℕ) (keeps : Bool) (ss : List (List ℕ)) → IsBracket a keeps
    → laid_from style (rested d c) (bracket a keeps ∷ ss) ≡ a ∷ laid_from style (open_at style (rested d c) c (bracket a keeps) ss) ss
bracket_next style d c a keeps ss b = rw (b.closes, b.comma, b.colon, b.opens) refl

one_deeper : (d : ℕ) → d + 1 ≤ most → saturating_add d 1 ≡ d + 1
one_deeper d l = omega (arith, l)

module _ {style : Style} {d c : ℕ} {fills : Bool} (a : ℕ) (keeps : Bool) (rest : List (List ℕ)) (line : List ℕ) (total : ℕ)
    (ss : List (List ℕ)) (b : IsBracket a keeps) (h : IsList style d c a keeps fills rest line total ss) where
  -- the list, with its bracket
  abbrev whole : List (List ℕ)
  whole = bracket a keeps ∷ rest

  fits_same : list_fits style c (bracket a keeps) (rest ++ ss) ≡ fits_width style c (comma_before ss) total
  fits_same = rw (h.columns, h.ahead.width ss, h.ahead.comma ss, ← h.sum) refl

  -- after its bracket
  abbrev after_bracket : Bool → State
  after_bracket fit = if fit then on_line d c 1 (flat_joint (bracket a keeps)) else outside (d + 1) c fills joint.Line

  opened : (fit : Bool) → fits_width style c (comma_before ss) total ≡ fit
      → open_at style (rested d c) c (bracket a keeps) (rest ++ ss) ≡ after_bracket fit
  opened true e = let f = fits_same ∙ e in rw (f, h.begins) refl
  opened false e = let f = fits_same ∙ e in rw (f, h.begins, h.filled, one_deeper d h.deep) refl

  -- it is its flat line where that fits, and else these lines after its bracket
  pub list_lays : (lines : List ℕ) → Lays style (outside (d + 1) c fills joint.Line) (rest ++ ss) lines d ss
      → Lays style (rested d c) (whole ++ ss) (if fits_width style c (comma_before ss) total then line else a ∷ lines) d ss
  list_lays lines inside = by (fits_width style c (comma_before ss) total) refl
    where
      begun : (fit : Bool) → fits_width style c (comma_before ss) total ≡ fit
          → laid_from style (rested d c) (whole ++ ss)
          ≡ a ∷ laid_from style (after_bracket fit) (rest ++ ss)
      begun fit e = bracket_next style d c a keeps (rest ++ ss) b ∙ ap (λ (st : State). a ∷ laid_from style st (rest ++ ss)) (opened fit e)

      by : (fit : Bool) → fits_width style c (comma_before ss) total ≡ fit
          → Lays style (rested d c) (whole ++ ss) (if fit then line else a ∷ lines) d ss
      by true e =
          record {
            column = c;
            is =
                begun true e
                ∙ ap (λ (bs : List ℕ). a ∷ bs) h.on_line
                ∙ ap (λ (bs : List ℕ). bs ++ laid_from style (rested d c) ss) (sym h.line);
          }
      by false e = lays_after (a ∷ []) lines (begun false e) inside
