-- Numbers that fill lines are laid out as their array is.
use Rattle.std.proofs.Common.{◌≡◌, refl, sym, ◌∙◌, ap, ℕ, ◌+◌, Bool, true, false, ◌&&◌, nat_le, List, [], ◌∷◌, ◌++◌, length, append_assoc}
use Rattle.std.proofs.Common.{append-nil, arith}
use Rattle.std.specs.Prelude.{if◌then◌else◌}
use Rattle.prettyless_model.specs.Column.{saturating_add}
use Rattle.prettyless_model.specs.Metrics.{text_width}
use Rattle.json_formatter.specs.ByValue.{end_column, filled_after, filled_lines, fits_width, flat_item, item_comma, item_end, items_fill}
use Rattle.json_formatter.specs.ByValue.{new_line}
use Rattle.json_formatter.specs.Documents.{is_json_sign, may_fill, next_is}
use Rattle.json_formatter.specs.Flat.{flat_line, flat_width}
use Rattle.json_formatter.specs.Gaps.{indent_at}
use Rattle.json_formatter.specs.Values.{PiecedValue as Value, alone, array, object, PiecedItems as Items, no_items, item}
use Rattle.json_formatter.specs.Values.{pieced_items as spelled_items, more_pieced_items as more_items}
use Rattle.json_formatter.specs.Values.{AreFormedPiecedItems as AreFormedItems}
use Rattle.json_formatter.specs.declared.gaps.Joint.TheVariants as joint
use Rattle.json_formatter.specs.declared.gaps.Joint.{Joint}
use Rattle.json_formatter.specs.declared.gaps.State.{State}
use Rattle.json_formatter.specs.declared.style.Style.{Style}
use Rattle.json_formatter.proofs.GapsFrom.{laid_from}
use Rattle.json_formatter.proofs.GapsSteps.{Lays, close_next, closing_line, fill_first, items_comma, lays_after, lays_same, line_first}
use Rattle.json_formatter.proofs.GapsSteps.{outside, word_fits, word_next}
use Rattle.json_formatter.proofs.GapsWords.{IsWord, word_begins, word_formed}

both_hold : (a b : Bool) → (a && b) ≡ true → (a ≡ true) × (b ≡ true)
both_hold true b e = (refl, e)
both_hold false b e = absurd (cc)

-- ---- a word

word_line : (s : List ℕ) → flat_line (s ∷ []) ≡ s
word_line s = append-nil s

word_width : (s : List ℕ) → flat_width (s ∷ []) ≡ text_width s
word_width s = omega arith

sum_twice : (c w k : ℕ) → saturating_add (saturating_add c w) k ≡ saturating_add c (w + k)
sum_twice c w k = omega arith

-- the column where it ends, with k columns after it
word_end : (s : List ℕ) (c k : ℕ) → saturating_add (saturating_add c (text_width s)) k ≡ end_column c (flat_width (s ∷ [])) k
word_end s c k = sum_twice c (text_width s) k ∙ ap (λ (n : ℕ). saturating_add c (n + k)) (sym (word_width s))

-- it fits the line after a space, with its comma
fits_same : (style : Style) (d : ℕ) (s : List ℕ) (c : ℕ) (vs : Items) (ss : List (List ℕ))
    → word_fits style d c true s (next_is (is_json_sign 44) (more_items vs ++ ss))
    ≡ fits_width style (saturating_add c 1) (length (item_comma vs)) (flat_width (s ∷ []))
fits_same style d s c vs ss =
    let x = saturating_add (saturating_add c 1) (text_width s) in
    ap (λ (k : ℕ). nat_le (saturating_add x k) style.width) (items_comma vs ss)
    ∙ ap (λ (n : ℕ). nat_le n style.width) (word_end s (saturating_add c 1) (length (item_comma vs)))

-- ---- numbers

-- in so many lists, of which the last one fills its lines
abbrev filling : ℕ → ℕ → Joint → State
filling d c j = outside (d + 1) c true j

module _ (style : Style) (d : ℕ) (ss : List (List ℕ)) where
  -- the indent of the numbers
  abbrev further : ℕ
  further = indent_at style (d + 1)

  -- what closes the list
  abbrev close : List ℕ
  close = closing_line style d 93

  -- numbers after one that ends at some column, and what closes the list
  abbrev MoreLay : Items → Type 0
  MoreLay vs =
      (c : ℕ) → Lays style (filling d c joint.Nothing) (more_items vs ++ ss)
      (item_comma vs ++ (filled_after style further (saturating_add c (length (item_comma vs))) vs ++ close)) d ss

  -- a number from column c on, and those after it
  abbrev from_column : ℕ → List ℕ → Items → List ℕ
  from_column c s vs = flat_item style (alone s) vs ++ filled_after style further (item_end style c (alone s) vs) vs

  number_lays : (c : ℕ) (s : List ℕ) (vs : Items) → IsWord s → MoreLay vs
      → Lays style (filling d c joint.Nothing) (s ∷ (more_items vs ++ ss)) (from_column c s vs ++ close) d ss
  number_lays c s vs w more =
      let x = saturating_add c (text_width s) in
      let comma = item_comma vs in
      let later = filled_after style further (saturating_add x (length comma)) vs in
      let same : (s ++ comma) ++ later ≡ from_column c s vs =
      ap (λ (n : ℕ). (s ++ comma) ++ filled_after style further n vs) (word_end s c (length comma))
      ∙ ap (λ (l : List ℕ). (l ++ comma) ++ filled_after style further (item_end style c (alone s) vs) vs) (sym (word_line s)) in
      lays_same (s ++ (comma ++ (later ++ close))) (from_column c s vs ++ close)
      (sym (append_assoc (s ++ comma) later close ∙ append_assoc s comma (later ++ close)) ∙ ap (λ (l : List ℕ). l ++ close) same)
      (lays_after s (comma ++ (later ++ close)) (word_next style (d + 1) c true s (more_items vs ++ ss) w) (more x))

  -- the same in a new line
  line_lays : (st : State) (s : List ℕ) (vs : Items) → IsWord s → MoreLay vs
      → laid_from style st (s ∷ (more_items vs ++ ss))
      ≡ new_line further ++ laid_from style (filling d further joint.Nothing) (s ∷ (more_items vs ++ ss))
      → Lays style st (s ∷ (more_items vs ++ ss)) ((new_line further ++ from_column further s vs) ++ close) d ss
  line_lays st s vs w more e =
      lays_same (new_line further ++ (from_column further s vs ++ close)) _
      (sym (append_assoc (new_line further) (from_column further s vs) close))
      (lays_after (new_line further) (from_column further s vs ++ close) e (number_lays further s vs w more))

  -- a number after a comma
  next_number_lays : (c : ℕ) (s : List ℕ) (vs : Items) → IsWord s → MoreLay vs
      → Lays style (filling d c joint.Fill) (s ∷ (more_items vs ++ ss)) (filled_after style further c (item (alone s) vs) ++ close) d ss
  next_number_lays c s vs w more = by (fits_width style (saturating_add c 1) (length (item_comma vs)) (flat_width (s ∷ []))) refl
    where
      by : (fit : Bool) → fits_width style (saturating_add c 1) (length (item_comma vs)) (flat_width (s ∷ [])) ≡ fit
          → Lays style (filling d c joint.Fill) (s ∷ (more_items vs ++ ss))
          ((if fit then 32 ∷ from_column (saturating_add c 1) s vs else new_line further ++ from_column further s vs) ++ close) d ss
      by true e =
          lays_after (32 ∷ []) (from_column (saturating_add c 1) s vs ++ close)
          (fill_first style (d + 1) c true true s (more_items vs ++ ss) w (fits_same style (d + 1) s c vs ss ∙ e))
          (number_lays (saturating_add c 1) s vs w more)
      by false e =
          line_lays (filling d c joint.Fill) s vs w more
          (fill_first style (d + 1) c true false s (more_items vs ++ ss) w (fits_same style (d + 1) s c vs ss ∙ e))

  more_lay : (vs : Items) → AreFormedItems vs → items_fill style.fill vs ≡ true → MoreLay vs
  more_lay no_items h e c = close_next style d c true 93 ss refl refl refl refl
  more_lay (item (alone s) vs) h e c =
      lays_after (44 ∷ []) (filled_after style further (saturating_add c 1) (item (alone s) vs) ++ close) refl
      (next_number_lays (saturating_add c 1) s vs (word_formed s h.0)
      (more_lay vs h.1 (both_hold (may_fill style.fill s) (items_fill style.fill vs) e).1))
  more_lay (item (array keeps ws) vs) h e c = absurd (cc)
  more_lay (item (object keeps ms) vs) h e c = absurd (cc)

  -- numbers in lines that are filled, and what closes the list
  pub numbers_lay : (c : ℕ) (v : Value) (vs : Items) → AreFormedItems (item v vs) → items_fill style.fill (item v vs) ≡ true
      → Lays style (filling d c joint.Line) (spelled_items (item v vs) ++ ss) (filled_lines style further (item v vs) ++ close) d ss
  numbers_lay c (alone s) vs h e =
      let w = word_formed s h.0 in
      let after = more_items vs ++ ss in
      line_lays (filling d c joint.Line) s vs w (more_lay vs h.1 (both_hold (may_fill style.fill s) (items_fill style.fill vs) e).1)
      (line_first style (d + 1) c true (s ∷ after) (word_begins s after w))
  numbers_lay c (array keeps ws) vs h e = absurd (cc)
  numbers_lay c (object keeps ms) vs h e = absurd (cc)
