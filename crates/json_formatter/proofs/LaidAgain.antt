-- Pieces whose line ends are those of a layout are laid out again as they were.
use Rattle.std.proofs.Common.{◌≡◌, refl, sym, ◌∙◌, ap, subst, ℕ, ◌+◌, ◌-◌, ◌^◌, ◌<◌, ◌≤◌, nat_le, ◌==◌, Bool, true, false, not}
use Rattle.std.proofs.Common.{◌&&◌, ◌||◌, List, [], ◌∷◌, ◌++◌, length, Option, Some, None, inl, inr, ◌⊎◌, leb-true, arith}
use Rattle.std.specs.Prelude.{if◌then◌else◌}
use Rattle.std.specs.Char.{is_ascii_digit}
use Rattle.std.proofs.lemmas.Bool.{cases_Bool, cases_lt, eqb-true, le-leb, lt-leb, true≢false}
use Rattle.json.specs.Word.{head}
use Rattle.json_lexemes.specs.SpacedLexemes.{Spaced, after_gap, line_feeds}
use Rattle.prettyless_model.specs.Column.{saturating_add}
use Rattle.prettyless_model.specs.Metrics.{text_width}
use Rattle.prettyless_model.specs.Spaces.{spaces}
use Rattle.json_formatter.specs.Documents.{keeps_broken, closes, greatest_width, is_json_sign, lexeme_of, may_fill, next_is, opens, stops}
use Rattle.json_formatter.specs.Flat.{is_mark, piece_columns, piece_width, wider, width_to_close}
use Rattle.json_formatter.specs.Gaps.{all_fill, comma_after, comma_column, flat_after, flat_gap, flat_joint, gap_before, gap_bytes, gap_end}
use Rattle.json_formatter.specs.Gaps.{indent_at, list_end, list_fits, mark_after, close_after, open_after, open_at, spaced_from}
use Rattle.json_formatter.specs.Gaps.{state_after}
use Rattle.json_formatter.specs.Gaps.{value_gap}
use Rattle.json_formatter.specs.Pieces.{begins_line, piece, pieces_of}
use Rattle.json_formatter.specs.Values.{line_end_if}
use Rattle.json_formatter.specs.declared.gaps.Gap.{Gap}
use Rattle.json_formatter.specs.declared.gaps.Gap.TheVariants as gap
use Rattle.json_formatter.specs.declared.gaps.Joint.{Joint}
use Rattle.json_formatter.specs.declared.gaps.Joint.TheVariants as joint
use Rattle.json_formatter.specs.declared.gaps.State.{State}
use Rattle.json_formatter.specs.declared.style.Fill.{Fill}
use Rattle.json_formatter.specs.declared.style.Fill.TheVariants as fill
use Rattle.json_formatter.specs.declared.style.Style.{Style}
use Rattle.json_formatter.proofs.Pieces.{AreOrdered}
use Rattle.json_formatter.proofs.ValueTrees.{plain_lexeme}
use Rattle.json_formatter.proofs.WindowWidths.{opens_wide, past_wider}

-- ---- one piece

-- what opens a list closes none, and is no mark
opens_only : (s : List ℕ) → opens s ≡ true → (closes s ≡ false) × (is_json_sign 44 s ≡ false) × (is_json_sign 58 s ≡ false)
opens_only s o = by (cases_Bool (head s == 123))
  where
    at : (h : ℕ) → head s ≡ h → ((h == 125) || (h == 93)) ≡ false → (h == 44) ≡ false → (h == 58) ≡ false
        → (closes s ≡ false) × (is_json_sign 44 s ≡ false) × (is_json_sign 58 s ≡ false)
    at h e a b c =
        (ap (λ (x : ℕ). (x == 125) || (x == 93)) e ∙ a, ap (λ (x : ℕ). x == 44) e ∙ b, ap (λ (x : ℕ). x == 58) e ∙ c)

    by : ((head s == 123) ≡ true) ⊎ ((head s == 123) ≡ false)
        → (closes s ≡ false) × (is_json_sign 44 s ≡ false) × (is_json_sign 58 s ≡ false)
    by (inl e) = at 123 (eqb-true (head s) 123 e) refl refl refl
    by (inr e) =
        let square : (head s == 91) ≡ true = (λ i. sym e i || (head s == 91)) ∙ o in
        at 91 (eqb-true (head s) 91 square) refl refl refl

-- a bracket without a line end
sole_opening : (s : List ℕ) → opens s ≡ true → keeps_broken s ≡ false → s ≡ head s ∷ []
sole_opening [] o b = absurd (cc)
sole_opening (x ∷ []) o b = refl
sole_opening (x ∷ y ∷ ys) o b =
    let long : nat_le 2 (length (x ∷ y ∷ ys)) ≡ true = le-leb 2 (length (x ∷ y ∷ ys)) (omega arith) in
    absurd (true≢false (sym (λ i. o i && long i) ∙ b))

-- its lexeme
lexeme_head : (s : List ℕ) → head (lexeme_of s) ≡ head s
lexeme_head s = by (opens s)
  where
    by : (b : Bool) → head (if b then head s ∷ [] else s) ≡ head s
    by true = refl
    by false = refl

lexeme_opening : (s : List ℕ) → opens s ≡ true → lexeme_of s ≡ head s ∷ []
lexeme_opening s o = rw o refl

-- the piece that it is in a layout, before these
module _ (s : List ℕ) (ps : List Spaced) where
  abbrev made : List ℕ
  made = piece false (lexeme_of s) ps

  made_opening : opens s ≡ true → made ≡ head s ∷ line_end_if (begins_line ps)
  made_opening o =
      ap (λ (t : List ℕ). piece false t ps) (lexeme_opening s o)
      ∙ (λ i. if o i then head s ∷ line_end_if (begins_line ps) else head s ∷ [])

  made_plain : opens s ≡ false → made ≡ s
  made_plain o =
      ap (λ (t : List ℕ). piece false t ps) (plain_lexeme s o)
      ∙ (λ i. if o i then s ++ line_end_if (begins_line ps) else s)

  made_sole : opens s ≡ true → keeps_broken s ≡ false → begins_line ps ≡ false → made ≡ s
  made_sole o b none =
      made_opening o ∙ ap (λ (x : Bool). head s ∷ line_end_if x) none ∙ sym (sole_opening s o b)

  made_head : head made ≡ head s
  made_head = by (cases_Bool (opens s))
    where
      by : (opens s ≡ true) ⊎ (opens s ≡ false) → head made ≡ head s
      by (inl o) = ap head (made_opening o)
      by (inr o) = ap head (made_plain o)

  made_lexeme : lexeme_of made ≡ lexeme_of s
  made_lexeme = by (cases_Bool (opens s))
    where
      by : (opens s ≡ true) ⊎ (opens s ≡ false) → lexeme_of made ≡ lexeme_of s
      by (inl o) =
          ap lexeme_of (made_opening o)
          ∙ (λ i. if o i then head s ∷ [] else head s ∷ line_end_if (begins_line ps))
          ∙ sym (lexeme_opening s o)
      by (inr o) = ap lexeme_of (made_plain o)

-- ---- what begins as it does

flat_gap_same : (style : Style) (j : Joint) (s t : List ℕ) → head s ≡ head t → flat_gap style j s ≡ flat_gap style j t
flat_gap_same style joint.Space s t e = refl
flat_gap_same style joint.Brace s t e =
    ap (λ (h : ℕ). if not ((h == 125) || (h == 93)) && not style.compact then gap.Space else gap.Nothing) e
flat_gap_same style joint.Nothing s t e = ap (λ (h : ℕ). if (h == 125) && not style.compact then gap.Space else gap.Nothing) e
flat_gap_same style joint.Line s t e = ap (λ (h : ℕ). if (h == 125) && not style.compact then gap.Space else gap.Nothing) e
flat_gap_same style joint.Fill s t e = ap (λ (h : ℕ). if (h == 125) && not style.compact then gap.Space else gap.Nothing) e

flat_after_same : (st : State) (s t : List ℕ) → head s ≡ head t → flat_after st s ≡ flat_after st t
flat_after_same st s t e =
    ap (λ (h : ℕ). record st {
      flat = (if (h == 123) || (h == 91) then saturating_add st.flat 1 else (if (h == 125) || (h == 93) then st.flat - 1 else st.flat));
      joint = (if (h == 44) || (h == 58) then joint.Space else (if h == 123 then joint.Brace else joint.Nothing));
    }) e

value_gap_same : (style : Style) (st : State) (j : Joint) (s t : List ℕ) (a b : Bool) → lexeme_of s ≡ lexeme_of t → a ≡ b
    → value_gap style st j s a ≡ value_gap style st j t b
value_gap_same style st joint.Nothing s t a b e f = refl
value_gap_same style st joint.Brace s t a b e f = refl
value_gap_same style st joint.Space s t a b e f = refl
value_gap_same style st joint.Line s t a b e f = refl
value_gap_same style st joint.Fill s t a b e f = λ i.
    if nat_le (saturating_add (saturating_add (saturating_add st.column 1) (text_width (e i))) (comma_column (f i))) style.width
    then gap.Space
    else gap.Line (indent_at style st.depth)

may_fill_same : (f : Fill) (s t : List ℕ) → head s ≡ head t → may_fill f s ≡ may_fill f t
may_fill_same fill.Numbers s t e = ap (λ (h : ℕ). (h == 45) || is_ascii_digit h) e
may_fill_same fill.All s t e = ap (λ (h : ℕ). not ((h == 123) || (h == 91))) e
may_fill_same fill.Nothing s t e = refl

-- a space has no line end
space_feeds : (b : Bool) → line_feeds (gap_bytes (if b then gap.Space else gap.Nothing)) ≡ 0
space_feeds true = refl
space_feeds false = refl

-- ---- pieces

module _ (style : Style) (bound : style.width < greatest_width) where
  -- the pieces of what is laid out from here
  abbrev again : State → List (List ℕ) → List (List ℕ)
  again st ss = pieces_of false (spaced_from style st ss)

  -- what is laid out after a piece
  abbrev after : State → List ℕ → List (List ℕ) → List Spaced
  after st s ss = spaced_from style (state_after style st s ss) ss

  first_same : (st : State) (s : List ℕ) (ss : List (List ℕ)) → head (made s (after st s ss)) ≡ head s
  first_same st s ss = made_head s (after st s ss)

  stops_again : (st : State) (ss : List (List ℕ)) → stops closes (again st ss) ≡ stops closes ss
  stops_again st [] = refl
  stops_again st (s ∷ ss) = ap (λ (h : ℕ). (h == 125) || (h == 93)) (first_same st s ss)

  comma_again : (st : State) (ss : List (List ℕ)) → next_is (is_json_sign 44) (again st ss) ≡ next_is (is_json_sign 44) ss
  comma_again st [] = refl
  comma_again st (s ∷ ss) = ap (λ (h : ℕ). h == 44) (first_same st s ss)

  fill_again : (st : State) (ss : List (List ℕ)) → all_fill style.fill (again st ss) ≡ all_fill style.fill ss
  fill_again st [] = refl
  fill_again st (s ∷ ss) =
      let first = first_same st s ss in
      let may = may_fill_same style.fill (made s (after st s ss)) s first in
      let later = fill_again (state_after style st s ss) ss in
      λ i. ((first i == 125) || (first i == 93)) || ((may i || (first i == 44)) && later i)

  comma_after_again : (n : ℕ) (st : State) (ss : List (List ℕ)) → comma_after n (again st ss) ≡ comma_after n ss
  comma_after_again n st [] = refl
  comma_after_again n st (s ∷ ss) =
      let first = first_same st s ss in
      let next = state_after style st s ss in
      let comma = comma_again next ss in
      let deeper = comma_after_again (n + 1) next ss in
      let same = comma_after_again n next ss in
      let less = comma_after_again (n - 1) next ss in
      λ i.
      if (first i == 123) || (first i == 91) then deeper i
      else (if (first i == 125) || (first i == 93) then (if nat_le n 1 then comma i else less i) else same i)

  columns_again : (compact : Bool) (s : List ℕ) (st : State) (ss : List (List ℕ))
      → piece_columns compact s (again st ss) ≡ piece_columns compact s ss
  columns_again compact s st ss =
      let same = stops_again st ss in
      λ i.
      piece_width s + (if is_mark s then 1 else (if is_json_sign 123 s && (not (same i) && not compact) then 2 else 0))

  -- ---- on one line

  gap_feeds : (j : Joint) (s : List ℕ) → line_feeds (gap_bytes (flat_gap style j s)) ≡ 0
  gap_feeds joint.Space s = refl
  gap_feeds joint.Brace s = space_feeds (not (closes s) && not style.compact)
  gap_feeds joint.Nothing s = space_feeds (is_json_sign 125 s && not style.compact)
  gap_feeds joint.Line s = space_feeds (is_json_sign 125 s && not style.compact)
  gap_feeds joint.Fill s = space_feeds (is_json_sign 125 s && not style.compact)

  -- no line begins there
  no_line : (st : State) (ss : List (List ℕ)) → nat_le 1 st.flat ≡ true → begins_line (spaced_from style st ss) ≡ false
  no_line st [] l = refl
  no_line st (s ∷ ss) l =
      let is : gap_before style st s ss ≡ flat_gap style st.joint s = rw l refl in
      let feeds : line_feeds (gap_bytes (gap_before style st s ss)) ≡ 0 =
      ap (λ (g : Gap). line_feeds (gap_bytes g)) is ∙ gap_feeds st.joint s in
      ap (λ (n : ℕ). nat_le 1 n && not (closes (lexeme_of s))) feeds

  open_next : (st : State) (s : List ℕ) (ss : List (List ℕ)) → nat_le 1 st.flat ≡ true
      → (state_after style st s ss).flat ≡ open_after st.flat s
  open_next st s ss l = rw l refl

  -- the width that closes a list is found again
  abbrev Found : Bool → ℕ → ℕ → State → List (List ℕ) → Type 0
  Found compact n w st ss =
      st.flat ≡ n → 1 ≤ n → n + w ≤ greatest_width → width_to_close compact n ss ≡ Some w → width_to_close compact n (again st ss) ≡ Some w

  -- a bracket that is narrow enough has no line end
  narrow : (compact : Bool) (s : List ℕ) (ss : List (List ℕ)) → piece_columns compact s ss < greatest_width → keeps_broken s ≡ false
  narrow compact s ss h = by (cases_Bool (keeps_broken s))
    where
      too_wide : (k : ℕ) → greatest_width + k < greatest_width → ⊥
      too_wide k l = omega (arith, l)

      by : (keeps_broken s ≡ true) ⊎ (keeps_broken s ≡ false) → keeps_broken s ≡ false
      by (inl b) =
          let blanks = if is_mark s then 1 else (if is_json_sign 123 s && (not (stops closes ss) && not compact) then 2 else 0) in
          absurd (too_wide blanks
          (subst (λ (x : Bool). (if x then greatest_width else text_width s) + blanks < greatest_width) b h))
      by (inr b) = b

  -- one more piece
  found_more : (compact : Bool) (s : List ℕ) (ss : List (List ℕ)) (st : State) (n m w : ℕ) → made s (spaced_from style st ss) ≡ s
      → ((rest : List (List ℕ))
      → width_to_close compact n (s ∷ rest) ≡ wider (piece_columns compact s rest) (width_to_close compact m rest))
      → (v : ℕ) → piece_columns compact s ss + v ≡ w → width_to_close compact m (again st ss) ≡ Some v
      → width_to_close compact n (made s (spaced_from style st ss) ∷ again st ss) ≡ Some w
  found_more compact s ss st n m w same step v sum later =
      ap (λ (t : List ℕ). width_to_close compact n (t ∷ again st ss)) same
      ∙ step (again st ss)
      ∙ (λ i. wider (columns_again compact s st ss i) (later i))
      ∙ ap Some sum

  found : (compact : Bool) (n w : ℕ) (st : State) (ss : List (List ℕ)) → Found compact n w st ss
  found compact n w st [] f l h e = absurd (cc)
  found compact n w st (s ∷ ss) f l h e = by (λ m v. found compact m v (state_after style st s ss) ss) (cases_Bool (opens s))
    where
      next : State
      next = state_after style st s ss

      on_line : nat_le 1 st.flat ≡ true
      on_line = ap (λ (k : ℕ). nat_le 1 k) f ∙ le-leb 1 n l

      flat_is : next.flat ≡ open_after n s
      flat_is = open_next st s ss on_line ∙ ap (λ (k : ℕ). open_after k s) f

      by : ((m v : ℕ) → Found compact m v next ss) → (opens s ≡ true) ⊎ (opens s ≡ false)
          → width_to_close compact n (again st (s ∷ ss)) ≡ Some w
      by again_later (inl o) =
          let step : (rest : List (List ℕ))
          → width_to_close compact n (s ∷ rest) ≡ wider (piece_columns compact s rest) (width_to_close compact (n + 1) rest) =
          λ rest. rw o refl in
          let past = past_wider (piece_columns compact s ss) w (width_to_close compact (n + 1) ss) (sym (step ss) ∙ e) in
          let sum : piece_columns compact s ss + past.0 ≡ w = past.2 in
          let wide : 1 ≤ piece_columns compact s ss = opens_wide compact s ss o in
          let more : next.flat ≡ n + 1 =
          flat_is ∙ (λ i. if o i then saturating_add n 1 else (if closes s then n - 1 else n)) ∙ counted n w (piece_columns compact s ss) past.0 l h wide sum in
          let inside : nat_le 1 next.flat ≡ true = ap (λ (k : ℕ). nat_le 1 k) more ∙ le-leb 1 (n + 1) (omega arith) in
          let sole = made_sole s (spaced_from style next ss) o (narrow compact s ss (below n w (piece_columns compact s ss) past.0 l h sum)) (no_line next ss inside) in
          found_more compact s ss next n (n + 1) w sole step past.0 sum
          (again_later (n + 1) past.0 more (omega arith) (deeper n w (piece_columns compact s ss) past.0 h wide sum) past.1)
        where
          counted : (n w k v : ℕ) → 1 ≤ n → n + w ≤ greatest_width → 1 ≤ k → k + v ≡ w → saturating_add n 1 ≡ n + 1
          counted n w k v a b c d = omega (arith, a, b, c, d)

          below : (n w k v : ℕ) → 1 ≤ n → n + w ≤ greatest_width → k + v ≡ w → k < greatest_width
          below n w k v a b d = omega (arith, a, b, d)

          deeper : (n w k v : ℕ) → n + w ≤ greatest_width → 1 ≤ k → k + v ≡ w → (n + 1) + v ≤ greatest_width
          deeper n w k v b c d = omega (arith, b, c, d)
      by again_later (inr o) = closing (cases_Bool (closes s))
        where
          plain : made s (spaced_from style next ss) ≡ s
          plain = made_plain s (spaced_from style next ss) o

          smaller : (n w k v : ℕ) → n + w ≤ greatest_width → k + v ≡ w → n + v ≤ greatest_width
          smaller n w k v b d = omega (arith, b, d)

          fewer : (n w k v : ℕ) → n + w ≤ greatest_width → k + v ≡ w → (n - 1) + v ≤ greatest_width
          fewer n w k v b d = omega (arith, b, d)

          closing : (closes s ≡ true) ⊎ (closes s ≡ false) → width_to_close compact n (again st (s ∷ ss)) ≡ Some w
          closing (inr c) =
              let step : (rest : List (List ℕ))
              → width_to_close compact n (s ∷ rest) ≡ wider (piece_columns compact s rest) (width_to_close compact n rest) =
              λ rest. rw (o, c) refl in
              let past = past_wider (piece_columns compact s ss) w (width_to_close compact n ss) (sym (step ss) ∙ e) in
              let same : next.flat ≡ n = flat_is ∙ (λ i. if o i then saturating_add n 1 else (if c i then n - 1 else n)) in
              found_more compact s ss next n n w plain step past.0 past.2
              (again_later n past.0 same l (smaller n w (piece_columns compact s ss) past.0 h past.2) past.1)
          closing (inl c) = last (cases_Bool (nat_le n 1))
            where
              last : (nat_le n 1 ≡ true) ⊎ (nat_le n 1 ≡ false) → width_to_close compact n (again st (s ∷ ss)) ≡ Some w
              last (inl one) =
                  let step : (rest : List (List ℕ)) → width_to_close compact n (s ∷ rest) ≡ Some (piece_columns compact s rest) =
                  λ rest. rw (o, c, one) refl in
                  ap (λ (t : List ℕ). width_to_close compact n (t ∷ again next ss)) plain
                  ∙ step (again next ss)
                  ∙ ap Some (columns_again compact s next ss)
                  ∙ sym (step ss) ∙ e
              last (inr some) =
                  let step : (rest : List (List ℕ))
                  → width_to_close compact n (s ∷ rest) ≡ wider (piece_columns compact s rest) (width_to_close compact (n - 1) rest) =
                  λ rest. rw (o, c, some) refl in
                  let past = past_wider (piece_columns compact s ss) w (width_to_close compact (n - 1) ss) (sym (step ss) ∙ e) in
                  let less : next.flat ≡ n - 1 = flat_is ∙ (λ i. if o i then saturating_add n 1 else (if c i then n - 1 else n)) in
                  found_more compact s ss next n (n - 1) w plain step past.0 past.2
                  (again_later (n - 1) past.0 less (two some) (fewer n w (piece_columns compact s ss) past.0 h past.2) past.1)
                where
                  two : nat_le n 1 ≡ false → 1 ≤ n - 1
                  two e = go (cases_lt 1 n)
                    where
                      go : (1 < n) ⊎ (n ≤ 1) → 1 ≤ n - 1
                      go (inl more) = omega (arith, more)
                      go (inr less) = absurd (true≢false (sym (le-leb n 1 less) ∙ e))

  -- ---- a list

  -- none fits whose bracket has a line end
  none_fits : (c : ℕ) (s : List ℕ) (ss : List (List ℕ)) → keeps_broken s ≡ true → list_fits style c s ss ≡ false
  none_fits c s ss b = by (width_to_close style.compact 1 ss)
    where
      blanks : ℕ
      blanks = if is_mark s then 1 else (if is_json_sign 123 s && (not (stops closes ss) && not style.compact) then 2 else 0)

      by : (o : Option ℕ) → nat_le (list_end c (piece_columns style.compact s ss) o (comma_after 1 ss)) style.width ≡ false
      by None = lt-leb (2 ^ 64 - 1) style.width bound
      by (Some w) =
          (λ i. nat_le (saturating_add c (((if b i then greatest_width else text_width s) + blanks) + w + comma_column (comma_after 1 ss)))
          style.width)
          ∙ lt-leb _ style.width (past blanks (comma_column (comma_after 1 ss)) bound)
        where
          past : (k x : ℕ) → style.width < greatest_width → style.width < saturating_add c ((greatest_width + k) + w + x)
          past k x l = omega (arith, l)

  -- the state after its bracket, where it is on one line or not
  abbrev chosen_state : State → ℕ → List ℕ → List (List ℕ) → Bool → State
  chosen_state st c s ss on_line =
      if on_line then record st { flat = 1; column = c; joint = flat_joint s }
      else record st {
        depth = saturating_add st.depth 1;
        column = c;
        fills = is_json_sign 91 s && all_fill style.fill ss;
        joint = joint.Line;
      }

  module _ (st : State) (c : ℕ) (s : List ℕ) (ss : List (List ℕ)) (o : opens s ≡ true) (some : stops closes ss ≡ false) where
    abbrev then_state : State
    then_state = open_at style st c s ss

    abbrev bracket : List ℕ
    bracket = made s (spaced_from style then_state ss)

    abbrev inside : List (List ℕ)
    inside = again then_state ss

    -- where it fits
    fits_again : list_fits style c s ss ≡ true → list_fits style c bracket inside ≡ true
    fits_again f = go (width_to_close style.compact 1 ss) refl
      where
        k : ℕ
        k = piece_columns style.compact s ss

        x : ℕ
        x = comma_column (comma_after 1 ss)

        flat_one : then_state.flat ≡ 1
        flat_one = ap (λ (b : Bool). (chosen_state st c s ss b).flat) (λ i. some i || f i)

        on_line : nat_le 1 then_state.flat ≡ true
        on_line = ap (λ (n : ℕ). nat_le 1 n) flat_one

        room : (k w x : ℕ) → saturating_add c (k + w + x) ≤ style.width → style.width < greatest_width → k + w + x < greatest_width
        room k w x h l = omega (arith, h, l)

        enough : (k w x : ℕ) → 1 ≤ k → k + w + x < greatest_width → 1 + w ≤ greatest_width
        enough k w x a b = omega (arith, a, b)

        below : (k w x : ℕ) → k + w + x < greatest_width → k < greatest_width
        below k w x b = omega (arith, b)

        go : (q : Option ℕ) → width_to_close style.compact 1 ss ≡ q → list_fits style c bracket inside ≡ true
        go None e =
            let fit : nat_le (2 ^ 64 - 1) style.width ≡ true =
            (λ i. nat_le (list_end c k (sym e i) (comma_after 1 ss)) style.width) ∙ f in
            absurd (true≢false (sym fit ∙ lt-leb (2 ^ 64 - 1) style.width bound))
        go (Some w) e =
            let fit : nat_le (saturating_add c (k + w + x)) style.width ≡ true =
            (λ i. nat_le (list_end c k (sym e i) (comma_after 1 ss)) style.width) ∙ f in
            let few : k + w + x < greatest_width = room k w x (leb-true (saturating_add c (k + w + x)) style.width fit) bound in
            let wide : 1 ≤ k = opens_wide style.compact s ss o in
            let sole : bracket ≡ s =
            made_sole s (spaced_from style then_state ss) o (narrow style.compact s ss (below k w x few)) (no_line then_state ss on_line) in
            let closed : width_to_close style.compact 1 inside ≡ Some w =
            found style.compact 1 w then_state ss flat_one (omega arith) (enough k w x wide few) e in
            let columns = columns_again style.compact s then_state ss in
            let comma = comma_after_again 1 then_state ss in
            ap (λ (t : List ℕ). list_fits style c t inside) sole
            ∙ (λ i. nat_le (list_end c (columns i) (closed i) (comma i)) style.width)
            ∙ fit

    -- where it does not, and something is in it that is no mark
    breaks_again : list_fits style c s ss ≡ false → nat_le 1 st.flat ≡ false → next_is is_mark ss ≡ false → keeps_broken bracket ≡ true
    breaks_again f flat mark =
        ap keeps_broken
        (made_opening s (spaced_from style then_state ss) o ∙ ap (λ (b : Bool). head s ∷ line_end_if b) (begins ss some mark))
        ∙ (λ i. o i && true)
      where
        line : State
        line = record st {
          depth = saturating_add st.depth 1;
          column = c;
          fills = is_json_sign 91 s && all_fill style.fill ss;
          joint = joint.Line;
        }

        state_is : then_state ≡ line
        state_is = ap (chosen_state st c s ss) (λ i. some i || f i)

        first : (t : List ℕ) (ts : List (List ℕ)) → closes t ≡ false → is_mark t ≡ false
            → begins_line (spaced_from style line (t ∷ ts)) ≡ true
        first t ts closed mark =
            let gap_is : gap_before style line t ts ≡ gap.Line (indent_at style line.depth) = rw (flat, mark, closed) refl in
            let feeds : nat_le 1 (line_feeds (gap_bytes (gap_before style line t ts))) ≡ true =
            ap (λ (g : Gap). nat_le 1 (line_feeds (gap_bytes g))) gap_is
            ∙ le-leb 1 (1 + line_feeds (spaces (indent_at style line.depth))) (omega arith) in
            let begun : not (closes (lexeme_of t)) ≡ true =
            ap (λ (h : ℕ). not ((h == 125) || (h == 93))) (lexeme_head t) ∙ ap not closed in
            λ i. feeds i && begun i

        begins : (ts : List (List ℕ)) → stops closes ts ≡ false → next_is is_mark ts ≡ false
            → begins_line (spaced_from style then_state ts) ≡ true
        begins [] e g = absurd (cc)
        begins (t ∷ ts) e g = ap (λ (u : State). begins_line (spaced_from style u (t ∷ ts))) state_is ∙ first t ts e g

    fits_same : nat_le 1 st.flat ≡ false → next_is is_mark ss ≡ false → list_fits style c bracket inside ≡ list_fits style c s ss
    fits_same flat mark = by (cases_Bool (list_fits style c s ss))
      where
        by : (list_fits style c s ss ≡ true) ⊎ (list_fits style c s ss ≡ false) → list_fits style c bracket inside ≡ list_fits style c s ss
        by (inl f) = fits_again f ∙ sym f
        by (inr f) = none_fits c bracket inside (breaks_again f flat mark) ∙ sym f

  -- the state after its bracket
  opened_again : (st : State) (c : ℕ) (s : List ℕ) (ss : List (List ℕ)) → opens s ≡ true → nat_le 1 st.flat ≡ false
      → next_is is_mark ss ≡ false
      → open_at style st c (made s (spaced_from style (open_at style st c s ss) ss)) (again (open_at style st c s ss) ss)
      ≡ open_at style st c s ss
  opened_again st c s ss o flat mark = by (cases_Bool (stops closes ss))
    where
      its_state : State
      its_state = open_at style st c s ss

      its_bracket : List ℕ
      its_bracket = made s (spaced_from style its_state ss)

      first : head its_bracket ≡ head s
      first = made_head s (spaced_from style its_state ss)

      stop : stops closes (again its_state ss) ≡ stops closes ss
      stop = stops_again its_state ss

      filled : all_fill style.fill (again its_state ss) ≡ all_fill style.fill ss
      filled = fill_again its_state ss

      joined : flat_joint its_bracket ≡ flat_joint s
      joined = ap (λ (h : ℕ). if (h == 44) || (h == 58) then joint.Space else (if h == 123 then joint.Brace else joint.Nothing)) first

      by : (stops closes ss ≡ true) ⊎ (stops closes ss ≡ false)
          → open_at style st c its_bracket (again its_state ss) ≡ open_at style st c s ss
      by (inl none) =
          let flat_again = ap (chosen_state st c its_bracket (again its_state ss))
          (λ i. (stop ∙ none) i || list_fits style c its_bracket (again its_state ss)) in
          let flat_first = ap (chosen_state st c s ss) (λ i. none i || list_fits style c s ss) in
          flat_again ∙ ap (λ (j : Joint). record st { flat = 1; column = c; joint = j }) joined ∙ sym flat_first
      by (inr some) =
          let fit = fits_same st c s ss o some flat mark in
          λ i.
          if stop i || fit i
          then record st { flat = 1; column = c; joint = joined i }
          else record st {
            depth = saturating_add st.depth 1;
            column = c;
            fills = (first i == 91) && filled i;
            joint = joint.Line;
          }

  -- ---- a piece

  -- the state after a piece that opens no list, by whether a comma comes next
  abbrev plain_after : State → List ℕ → Bool → State
  plain_after st s comma =
      if nat_le 1 st.flat then flat_after st s
      else (if is_json_sign 44 s then mark_after st (if st.fills then joint.Fill else joint.Line)
      else (if is_json_sign 58 s then mark_after st joint.Space
      else (if closes s then close_after st
      else record st {
        column = (if not st.fills && comma
            then gap_end st.column (value_gap style st st.joint s comma)
            else saturating_add (gap_end st.column (value_gap style st st.joint s comma)) (text_width (lexeme_of s)));
        joint = joint.Nothing;
      })))

  plain_is : (st : State) (s : List ℕ) (ss : List (List ℕ)) → opens s ≡ false
      → state_after style st s ss ≡ plain_after st s (next_is (is_json_sign 44) ss)
  plain_is st s ss o = rw o refl

  opening_is : (st : State) (s : List ℕ) (ss : List (List ℕ)) → opens s ≡ true → nat_le 1 st.flat ≡ false
      → state_after style st s ss
      ≡ open_at style st (gap_end st.column (value_gap style st st.joint s (next_is (is_json_sign 44) ss))) s ss
  opening_is st s ss o flat = let only = opens_only s o in rw (flat, only.1, only.2, only.0, o) refl

  state_again : (st : State) (s : List ℕ) (ss : List (List ℕ)) → (opens s ≡ true → next_is is_mark ss ≡ false)
      → state_after style st (made s (after st s ss)) (again (state_after style st s ss) ss) ≡ state_after style st s ss
  state_again st s ss mark = by (cases_Bool (opens s)) (cases_Bool (nat_le 1 st.flat))
    where
      next : State
      next = state_after style st s ss

      again_s : List ℕ
      again_s = made s (after st s ss)

      first : head again_s ≡ head s
      first = made_head s (after st s ss)

      by : (opens s ≡ true) ⊎ (opens s ≡ false) → (nat_le 1 st.flat ≡ true) ⊎ (nat_le 1 st.flat ≡ false)
          → state_after style st again_s (again next ss) ≡ next
      by (inr o) flat =
          ap (λ (t : List ℕ). state_after style st t (again next ss)) (made_plain s (after st s ss) o)
          ∙ plain_is st s (again next ss) o
          ∙ ap (plain_after st s) (comma_again next ss)
          ∙ sym (plain_is st s ss o)
      by (inl o) (inl flat) =
          let one : state_after style st again_s (again next ss) ≡ flat_after st again_s = rw flat refl in
          let two : next ≡ flat_after st s = rw flat refl in
          one ∙ flat_after_same st again_s s first ∙ sym two
      by (inl o) (inr flat) =
          let opening : opens again_s ≡ true = ap (λ (h : ℕ). (h == 123) || (h == 91)) first ∙ o in
          let gap_same = value_gap_same style st st.joint again_s s _ _ (made_lexeme s (after st s ss)) (comma_again next ss) in
          let c = gap_end st.column (value_gap style st st.joint s (next_is (is_json_sign 44) ss)) in
          opening_is st again_s (again next ss) opening flat
          ∙ ap (λ (g : Gap). open_at style st (gap_end st.column g) again_s (again next ss)) gap_same
          ∙ subst (λ (u : State). open_at style st c (made s (spaced_from style u ss)) (again u ss) ≡ u) (sym (opening_is st s ss o flat))
          (opened_again st c s ss o flat (mark o))

  gap_again : (st : State) (s : List ℕ) (ss : List (List ℕ))
      → gap_before style st (made s (after st s ss)) (again (state_after style st s ss) ss) ≡ gap_before style st s ss
  gap_again st s ss =
      let first = made_head s (after st s ss) in
      let flat = flat_gap_same style st.joint (made s (after st s ss)) s first in
      let value = value_gap_same style st st.joint (made s (after st s ss)) s _ _ (made_lexeme s (after st s ss))
      (comma_again (state_after style st s ss) ss) in
      λ i.
      if nat_le 1 st.flat then flat i
      else (if (first i == 44) || (first i == 58) then gap.Nothing
      else (if (first i == 125) || (first i == 93) then gap.Line (indent_at style (st.depth - 1)) else value i))

  -- pieces of a layout are laid out as it is
  pub laid_again : (ss : List (List ℕ)) → AreOrdered ss → (st : State) → spaced_from style st (again st ss) ≡ spaced_from style st ss
  laid_again [] ordered st = refl
  laid_again (s ∷ ss) ordered st =
      let next = state_after style st s ss in
      let lexeme = made_lexeme s (after st s ss) in
      let gap_same = gap_again st s ss in
      let state = state_again st s ss ordered.0 in
      (λ i. after_gap (gap_bytes (gap_same i)) (lexeme i) ∷ spaced_from style (state i) (again next ss))
      ∙ ap (λ (ps : List Spaced). after_gap (gap_bytes (gap_before style st s ss)) (lexeme_of s) ∷ ps) (laid_again ss ordered.1 next)
