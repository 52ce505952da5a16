-- The first lexeme from a place of the text on.
use Rattle.std.proofs.Common.{◌≡◌, ℕ, suc, ◌+◌, ◌-◌, ◌<◌, ◌≤◌, ◌≢◌, Bool, true, false, ◌==◌, cond, List, [], ◌∷◌, length, take, drop}
use Rattle.std.proofs.Common.{get_or, inl, inr, ◌⊎◌, refl, sym, ap, ◌∙◌, subst, arith, length-drop}
use Rattle.std.proofs.lemmas.Bool.{cases_lt, ne_eqb, or_from}
use Rattle.std.proofs.lemmas.List.{drop_more, drop_all, length-take-le}
use Rattle.std.proofs.lemmas.Str.{IsCharBoundary-after_ascii, IsCharBoundary-before_ascii, IsCharBoundary-end}
use Rattle.std.specs.Str.{IsUtf8, IsCharBoundary}
use Rattle.json.specs.Word.{head, is_operator, is_space}
use Rattle.json.specs.Lex.{quote, backslash, operator, space, other, class, Mode, between, in_word, in_string}
use Rattle.text_lexemes.specs.Languages.{lengthened}
use Rattle.json_lexemes.specs.Lexemes.{cut, cut_byte}
use Rattle.json_lexemes.specs.SpacedLexemes.{first_spaces}
use Rattle.json_lexemes.specs.View.{IsFirst}
use Rattle.json_lexemes.proofs.Classes.{class-operator, class-space, each_operator, each_space}
use Rattle.json_lexemes.proofs.Sound.{cut-space}

pub no_operator : (x : ℕ) → x ≢ 123 → x ≢ 125 → x ≢ 91 → x ≢ 93 → x ≢ 58 → x ≢ 44 → is_operator x ≡ false
no_operator x a b c d e f =
    or_from _ _ (or_from _ _ (or_from _ _ (or_from _ _ (or_from _ _ (ne_eqb x 123 a) (ne_eqb x 125 b)) (ne_eqb x 91 c)) (ne_eqb x 93 d))
    (ne_eqb x 58 e)) (ne_eqb x 44 f)

begins_word : (b : Bool) (x : ℕ) (k : Mode → List (List ℕ)) → cut_byte between (cond b backslash other) x k ≡ lengthened x (k in_word)
begins_word true x k = refl
begins_word false x k = refl

cut-begun : (x : ℕ) (r : List ℕ) → x ≢ 34 → is_operator x ≡ false → is_space x ≡ false → cut between (x ∷ r) ≡ lengthened x (cut in_word r)
unfolding cut
cut-begun x r q o s =
    (λ i. cut_byte between (cond (ne_eqb x 34 q i) quote (cond (x == 92) backslash (cond (o i) operator (cond (s i) space other)))) x
    (λ m. cut m r))
    ∙ begins_word (x == 92) x (λ m. cut m r)

module _ (d : List ℕ) (place : ℕ) (lt : place < length d) where
  -- ---- a sign

  pub first_sign : (x : ℕ) → IsUtf8 d → get_or d place 0 ≡ x → is_operator x ≡ true → IsFirst d place (x ∷ [])
  unfolding cut
  first_sign x utf8 here h =
      record {
        some = omega arith;
        within = omega arith;
        boundary = IsCharBoundary-after_ascii d place utf8 lt (subst (λ y. y < 128) (sym here) (ascii x h));
        cuts = ap (cut between) (drop_more d place 0 lt ∙ ap (λ y. y ∷ drop (place + 1) d) here)
            ∙ ap (λ c. cut_byte between c x (λ m. cut m (drop (place + 1) d))) (class-operator x h);
      }
    where
      ascii : (y : ℕ) → is_operator y ≡ true → y < 128
      ascii = each_operator (λ y. y < 128) (omega arith) (omega arith) (omega arith) (omega arith) (omega arith) (omega arith)

  -- ---- a slice

  module _ (end : ℕ) (after : place + 1 ≤ end) (within : end ≤ length d) where
    abbrev slice : List ℕ
    slice = take (end - place) (drop place d)

    slice_end : place + length slice ≡ end
    slice_end = omega (arith, length-take-le (end - place) (drop place d) (omega (arith, length-drop place d)))

    abbrev tail : List ℕ
    tail = take (end - (place + 1)) (drop (place + 1) d)

    slice_is : slice ≡ get_or d place 0 ∷ tail
    slice_is =
        let k : end - place ≡ suc (end - (place + 1)) = omega arith in
        ap (λ n. take n (drop place d)) k ∙ ap (take (suc (end - (place + 1)))) (drop_more d place 0 lt)

    -- the first byte begins the slice, and what is after it goes on with the rest
    first_slice : (m : Mode) → cut between (get_or d place 0 ∷ drop (place + 1) d)
        ≡ lengthened (get_or d place 0) (cut m (drop (place + 1) d))
        → cut m (drop (place + 1) d) ≡ tail ∷ cut between (drop end d) → IsCharBoundary d end → IsFirst d place slice
    first_slice m begun rest boundary =
        record {
          some = omega (arith, slice_end);
          within = omega (arith, slice_end);
          boundary = subst (IsCharBoundary d) (sym slice_end) boundary;
          cuts = ap (cut between) (drop_more d place 0 lt) ∙ begun ∙ ap (lengthened (get_or d place 0)) rest
              ∙ (λ i. sym slice_is i ∷ cut between (drop (sym slice_end i) d));
        }

    pub first_string : get_or d place 0 ≡ 34 → cut in_string (drop (place + 1) d) ≡ tail ∷ cut between (drop end d) →
        IsCharBoundary d end → IsFirst d place slice
    unfolding cut
    first_string q rest boundary =
        first_slice in_string (ap (λ c. cut_byte between c (get_or d place 0) (λ m. cut m (drop (place + 1) d))) (ap class q)) rest boundary

    pub first_word : get_or d place 0 ≢ 34 → is_operator (get_or d place 0) ≡ false → is_space (get_or d place 0) ≡ false →
        cut in_word (drop (place + 1) d) ≡ tail ∷ cut between (drop end d)
        → IsCharBoundary d end → IsFirst d place slice
    first_word q o s rest boundary = first_slice in_word (cut-begun (get_or d place 0) (drop (place + 1) d) q o s) rest boundary

    -- the slice begins with that byte
    pub slice_head : head slice ≡ get_or d place 0
    slice_head = ap head slice_is

-- a text may be cut where it ends, and after an ASCII byte
pub boundary_after : (d : List ℕ) (from end : ℕ) → IsUtf8 d → end ≤ length d →
    (end < length d → (from < end) × (get_or d (end - 1) 0 < 128)) → IsCharBoundary d end
boundary_after d from end utf8 within closed = go (cases_lt end (length d))
  where
    go : (end < length d) ⊎ (length d ≤ end) → IsCharBoundary d end
    go (inl more) =
        let c = closed more in
        let k : end - 1 + 1 ≡ end = omega arith in
        subst (IsCharBoundary d) k (IsCharBoundary-after_ascii d (end - 1) utf8 (omega arith) c.1)
    go (inr past) = let k : length d ≡ end = omega arith in subst (IsCharBoundary d) k (IsCharBoundary-end d)

-- and before one
pub boundary_before : (d : List ℕ) (end : ℕ) → end ≤ length d → (end < length d → get_or d end 0 < 128) → IsCharBoundary d end
boundary_before d end within small = go (cases_lt end (length d))
  where
    go : (end < length d) ⊎ (length d ≤ end) → IsCharBoundary d end
    go (inl more) = IsCharBoundary-before_ascii d end more (small more)
    go (inr past) = let k : length d ≡ end = omega arith in subst (IsCharBoundary d) k (IsCharBoundary-end d)

-- ---- spaces

pub past_space : (d : List ℕ) (place : ℕ) → place < length d → is_space (get_or d place 0) ≡ true →
    cut between (drop (place + 1) d) ≡ cut between (drop place d)
past_space d place lt e =
    sym (ap (cut between) (drop_more d place 0 lt) ∙ cut-space (get_or d place 0) (drop (place + 1) d) (class-space (get_or d place 0) e))

-- the spaces that come first, where one does
pub spaces_more : (d : List ℕ) (place : ℕ) → place < length d → is_space (get_or d place 0) ≡ true →
    place + length (first_spaces (drop place d)) ≡ place + 1 + length (first_spaces (drop (place + 1) d))
spaces_more d place lt e =
    let first : first_spaces (drop place d) ≡ get_or d place 0 ∷ first_spaces (drop (place + 1) d) =
    ap first_spaces (drop_more d place 0 lt) ∙ rw e refl in
    omega (arith, ap length first)

pub space_ascii : (x : ℕ) → is_space x ≡ true → x < 128
space_ascii = each_space (λ y. y < 128) (omega arith) (omega arith) (omega arith) (omega arith)

-- a text may be cut after spaces, where it may be cut before them
pub boundary_past : (d : List ℕ) (from place : ℕ) → IsUtf8 d → IsCharBoundary d from → from ≤ place → place ≤ length d →
    (from < place → get_or d (place - 1) 0 < 128) → IsCharBoundary d place
boundary_past d from place utf8 before le within after = go (cases_lt from place)
  where
    go : (from < place) ⊎ (place ≤ from) → IsCharBoundary d place
    go (inl more) =
        let k : place - 1 + 1 ≡ place = omega arith in
        subst (IsCharBoundary d) k (IsCharBoundary-after_ascii d (place - 1) utf8 (omega arith) (after more))
    go (inr none) = let k : from ≡ place = omega arith in subst (IsCharBoundary d) k before

-- at the end of the text no lexeme is left
pub cut-past : (d : List ℕ) (place : ℕ) → length d ≤ place → cut between (drop place d) ≡ []
unfolding cut
cut-past d place past = ap (cut between) (drop_all place d past)
