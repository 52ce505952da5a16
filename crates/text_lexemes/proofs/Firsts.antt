-- The first lexeme from a place of the text on, and the blanks before it.
use Rattle.std.proofs.Common.{◌≡◌, ℕ, suc, ◌+◌, ◌-◌, ◌<◌, ◌≤◌, true, false, List, [], ◌∷◌, ◌++◌, length, take, drop, get_or}
use Rattle.std.proofs.Common.{inl, inr, ◌⊎◌, sym, ap, ◌∙◌, subst, arith, length-drop, append-nil, append_assoc}
use Rattle.std.proofs.lemmas.Bool.{cases_lt}
use Rattle.std.proofs.lemmas.List.{drop_more, drop_all, drop-drop, length-take-le}
use Rattle.std.proofs.lemmas.Str.{IsCharBoundary-after_ascii, IsCharBoundary-before_ascii, IsCharBoundary-end}
use Rattle.std.specs.Str.{IsUtf8, IsCharBoundary}
use Rattle.text_lexemes.specs.Languages.{Language, between, within, alone, begins, lengthened, cut}
use Rattle.text_lexemes.specs.SpacedTexts.{lexeme_after, blanks, spaced_as, spaced_in}
use Rattle.text_lexemes.specs.FirstLexemes.{IsFirstLexeme}
use Rattle.text_lexemes.proofs.Cuts.{cut_nil, cut_blank, cut_begun}
use Rattle.text_lexemes.proofs.JoinedTexts.{blanks_cons, blanks_none}
use Rattle.text_lexemes.proofs.Places.{part, part_more}

-- ---- where a text may be cut

-- a text may be cut where it ends, before an ASCII byte and after one
pub boundary_at : (d : List ℕ) (from end : ℕ) → IsUtf8 d → end ≤ length d
    → (end < length d → (get_or d end 0 < 128) ⊎ ((from < end) × (get_or d (end - 1) 0 < 128))) → IsCharBoundary d end
boundary_at d from end utf8 inside ended = go (cases_lt end (length d))
  where
    by_byte : end < length d → (get_or d end 0 < 128) ⊎ ((from < end) × (get_or d (end - 1) 0 < 128)) → IsCharBoundary d end
    by_byte more (inl here) = IsCharBoundary-before_ascii d end more here
    by_byte more (inr before) =
        let k : end - 1 + 1 ≡ end = omega arith in
        subst (IsCharBoundary d) k (IsCharBoundary-after_ascii d (end - 1) utf8 (omega arith) before.1)

    go : (end < length d) ⊎ (length d ≤ end) → IsCharBoundary d end
    go (inl more) = by_byte more (ended more)
    go (inr past) = let k : length d ≡ end = omega arith in subst (IsCharBoundary d) k (IsCharBoundary-end d)

-- a text may be cut after ASCII bytes, where it may be cut before them
pub boundary_past : (d : List ℕ) (from place : ℕ) → IsUtf8 d → IsCharBoundary d from → from ≤ place → place ≤ length d
    → (from < place → get_or d (place - 1) 0 < 128) → IsCharBoundary d place
boundary_past d from place utf8 before le inside after = go (cases_lt from place)
  where
    go : (from < place) ⊎ (place ≤ from) → IsCharBoundary d place
    go (inl more) =
        let k : place - 1 + 1 ≡ place = omega arith in
        subst (IsCharBoundary d) k (IsCharBoundary-after_ascii d (place - 1) utf8 (omega arith) (after more))
    go (inr none) = let k : from ≡ place = omega arith in subst (IsCharBoundary d) k before

-- ---- a slice of the text

module _ (d : List ℕ) (place : ℕ) (lt : place < length d) (end : ℕ) (after : place + 1 ≤ end) (inside : end ≤ length d) where
  abbrev pub slice : List ℕ
  slice = take (end - place) (drop place d)

  slice_end : place + length slice ≡ end
  slice_end = omega (arith, length-take-le (end - place) (drop place d) (omega (arith, length-drop place d)))

  abbrev pub tail : List ℕ
  tail = take (end - (place + 1)) (drop (place + 1) d)

  -- the slice begins with the byte at the place
  pub slice_is : slice ≡ get_or d place 0 ∷ tail
  slice_is =
      let k : end - place ≡ suc (end - (place + 1)) = omega arith in
      ap (λ n. take n (drop place d)) k ∙ ap (take (suc (end - (place + 1)))) (drop_more d place 0 lt)

module _ {Inner : Type 0} (L : Language Inner) (d : List ℕ) (place : ℕ) (lt : place < length d) where
  -- a byte that is a lexeme alone
  pub first_alone : (x : ℕ) → IsUtf8 d → get_or d place 0 ≡ x → L.is_blank x ≡ false → L.first x ≡ alone → x < 128
      → IsFirstLexeme L d place (x ∷ [])
  first_alone x utf8 here blank is ascii =
      record {
        some = omega arith;
        within = omega arith;
        boundary = IsCharBoundary-after_ascii d place utf8 lt (subst (λ y. y < 128) (sym here) ascii);
        cuts = ap (cut L between) (drop_more d place 0 lt ∙ ap (λ y. y ∷ drop (place + 1) d) here)
            ∙ cut_begun L x (drop (place + 1) d) alone blank is;
      }

  -- the first byte begins the slice, and what is after it goes on with the rest
  pub first_slice : (end : ℕ) (after : place + 1 ≤ end) (inside : end ≤ length d) (i : Inner) → L.is_blank (get_or d place 0) ≡ false
      → L.first (get_or d place 0) ≡ begins i
      → cut L (within i) (drop (place + 1) d) ≡ tail d place lt end after inside ∷ cut L between (drop end d)
      → IsCharBoundary d end → IsFirstLexeme L d place (slice d place lt end after inside)
  first_slice end after inside i blank begun rest boundary =
      let ends = slice_end d place lt end after inside in
      let is = slice_is d place lt end after inside in
      record {
        some = omega (arith, ends);
        within = omega (arith, ends);
        boundary = subst (IsCharBoundary d) (sym ends) boundary;
        cuts = ap (cut L between) (drop_more d place 0 lt) ∙ cut_begun L (get_or d place 0) (drop (place + 1) d) (begins i) blank begun
            ∙ ap (lengthened (get_or d place 0)) rest ∙ (λ j. sym is j ∷ cut L between (drop (sym ends j) d));
      }

  -- a blank is in no lexeme
  pub past_blank : L.is_blank (get_or d place 0) ≡ true → cut L between (drop (place + 1) d) ≡ cut L between (drop place d)
  past_blank e = sym (ap (cut L between) (drop_more d place 0 lt) ∙ cut_blank L (get_or d place 0) (drop (place + 1) d) e)

module _ {Inner : Type 0} (L : Language Inner) (d : List ℕ) where
  -- at the end of the text no lexeme is left
  pub cut_past : (place : ℕ) → length d ≤ place → cut L between (drop place d) ≡ []
  cut_past place past = ap (cut L between) (drop_all place d past) ∙ cut_nil L

  -- ---- the blanks before a lexeme

  module _ (from place : ℕ) (le : from ≤ place) where
    pub one_blank : place < length d → L.is_blank (get_or d place 0) ≡ true
        → blanks L (drop from d) ≡ take (place - from) (drop from d) ++ blanks L (drop place d)
        → blanks L (drop from d) ≡ take (place + 1 - from) (drop from d) ++ blanks L (drop (place + 1) d)
    one_blank lt e h =
        let rest = blanks L (drop (place + 1) d) in
        let before = part d from place le in
        h ∙ ap (λ l. before ++ blanks L l) (drop_more d place 0 lt)
        ∙ ap (λ l. before ++ l) (blanks_cons L (get_or d place 0) (drop (place + 1) d) e)
        ∙ sym (append_assoc before (get_or d place 0 ∷ []) rest) ∙ ap (λ l. l ++ rest) (sym (part_more d from place le lt))

    pub stops_blanks : place < length d → L.is_blank (get_or d place 0) ≡ false
        → blanks L (drop from d) ≡ take (place - from) (drop from d) ++ blanks L (drop place d)
        → blanks L (drop from d) ≡ take (place - from) (drop from d)
    stops_blanks lt e h =
        let before = part d from place le in
        h ∙ ap (λ l. before ++ blanks L l) (drop_more d place 0 lt)
        ∙ ap (λ l. before ++ l) (blanks_none L (get_or d place 0) (drop (place + 1) d) e) ∙ append-nil before

    pub ends_blanks : length d ≤ place → blanks L (drop from d) ≡ take (place - from) (drop from d) ++ blanks L (drop place d)
        → blanks L (drop from d) ≡ take (place - from) (drop from d)
    ends_blanks past h =
        let before = part d from place le in
        h ∙ ap (λ l. before ++ blanks L l) (drop_all place d past) ∙ append-nil before

    -- the next lexeme with its gap, where these blanks stand before it
    pub next_spaced : (s : List ℕ) → place ≤ length d → blanks L (drop from d) ≡ take (place - from) (drop from d)
        → cut L between (drop place d) ≡ cut L between (drop from d) → IsFirstLexeme L d place s
        → spaced_in L (drop from d) ≡ lexeme_after (take (place - from) (drop from d)) s ∷ spaced_in L (drop (place + length s) d)
    next_spaced s inside gap same first =
        let before = part d from place le in
        let rest = cut L between (drop (place + length s) d) in
        let long : from + (length before + length s) ≡ place + length s =
        omega (arith, length-take-le (place - from) (drop from d) (omega (arith, length-drop from d))) in
        ap (spaced_as L (drop from d)) (sym same ∙ first.cuts)
        ∙ ap (λ g. lexeme_after g s ∷ spaced_as L (drop (length g + length s) (drop from d)) rest) gap
        ∙ ap (λ l. lexeme_after before s ∷ spaced_as L l rest) (drop-drop (length before + length s) from d ∙ ap (λ n. drop n d) long)

-- the end, where no lexeme is left
pub last_spaced : {Inner : Type 0} (L : Language Inner) (bytes : List ℕ) → cut L between bytes ≡ []
    → spaced_in L bytes ≡ lexeme_after bytes [] ∷ []
last_spaced L bytes none = ap (spaced_as L bytes) none
