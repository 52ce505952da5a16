-- The cut of a text, byte by byte, and what may follow a lexeme.
use Rattle.std.proofs.Common.{◌≡◌, ℕ, true, false, cond, List, [], ◌∷◌, ◌++◌, refl, sym, ap, ◌∙◌, subst}
use Rattle.std.specs.Prelude.{⊤}
use Rattle.text_lexemes.specs.Languages.{First, alone, begins, Turn, goes_on, ends, stops, LexerMode, between, within, Language}
use Rattle.text_lexemes.specs.Languages.{lengthened, cut_first, cut_turn, cut_between, cut}
use Rattle.text_lexemes.specs.SpacedTexts.{OnTurn, OnFirst, IsGap, StopsBefore, EndsWithin, MayFollow}

-- ---- a byte in front of a lexeme

abbrev pub IsSome : List (List ℕ) → Type 0
IsSome [] = ⊥
IsSome (s ∷ ss) = ⊤

pub some_more : (x : ℕ) (ss : List (List ℕ)) → IsSome (lengthened x ss)
some_more x [] = tt
some_more x (s ∷ ss) = tt

-- what one byte is in front of, where the first lexeme is known
pub shortened : (x : ℕ) (s : List ℕ) (ss rest : List (List ℕ)) → IsSome ss → lengthened x ss ≡ (x ∷ s) ∷ rest → ss ≡ s ∷ rest
shortened x s [] rest h e = absurd h
shortened x s (t ∷ ts) rest h e = cc

never_empty : (x : ℕ) (ss rest : List (List ℕ)) → lengthened x ss ≡ [] ∷ rest → ⊥
never_empty x [] rest e = cc
never_empty x (s ∷ ss) rest e = cc

module _ {Inner : Type 0} (L : Language Inner) where
  -- ---- the cut

  pub cut_nil : cut L between [] ≡ []
  unfolding cut
  cut_nil = refl

  pub cut_inside_nil : (i : Inner) → cut L (within i) [] ≡ [] ∷ []
  unfolding cut
  cut_inside_nil i = refl

  -- a blank between two lexemes
  pub cut_blank : (x : ℕ) (xs : List ℕ) → L.is_blank x ≡ true → cut L between (x ∷ xs) ≡ cut L between xs
  unfolding cut
  cut_blank x xs e = ap (λ b. cond b (cut L between xs) (cut_first (L.first x) x (λ m. cut L m xs))) e

  -- any other byte there
  pub cut_begun : (x : ℕ) (xs : List ℕ) (f : First Inner) → L.is_blank x ≡ false → L.first x ≡ f
      → cut L between (x ∷ xs) ≡ cut_first f x (λ m. cut L m xs)
  unfolding cut
  cut_begun x xs f b e =
      ap (λ b. cond b (cut L between xs) (cut_first (L.first x) x (λ m. cut L m xs))) b
      ∙ ap (λ f. cut_first f x (λ m. cut L m xs)) e

  -- a byte in a lexeme
  pub cut_turned : (i : Inner) (x : ℕ) (xs : List ℕ) (t : Turn Inner) → L.turn i x xs ≡ t
      → cut L (within i) (x ∷ xs) ≡ cut_turn t (cut L between (x ∷ xs)) x (λ m. cut L m xs)
  unfolding cut
  cut_turned i x xs t e = ap (λ t. cut_turn t (cut_between L x (λ m. cut L m xs)) x (λ m. cut L m xs)) e

  some_turn : (t : Turn Inner) (ss : List (List ℕ)) (x : ℕ) (k : LexerMode Inner → List (List ℕ)) → IsSome (cut_turn t ss x k)
  some_turn (goes_on n) ss x k = some_more x (k (within n))
  some_turn ends ss x k = tt
  some_turn stops ss x k = tt

  pub some_cut : (i : Inner) (xs : List ℕ) → IsSome (cut L (within i) xs)
  some_cut i [] = subst IsSome (sym (cut_inside_nil i)) tt
  some_cut i (x ∷ xs) =
      subst IsSome (sym (cut_turned i x xs (L.turn i x xs) refl)) (some_turn (L.turn i x xs) (cut L between (x ∷ xs)) x (λ m. cut L m xs))

  -- ---- what is left of a lexeme

  stopped : (i : Inner) (rest : List ℕ) → StopsBefore L i rest → cut L (within i) rest ≡ [] ∷ cut L between rest
  stopped i [] h = cut_inside_nil i ∙ ap (λ ss. [] ∷ ss) (sym cut_nil)
  stopped i (x ∷ xs) h = cut_turned i x xs stops h

  pub cut_part : (s : List ℕ) (i : Inner) (rest : List ℕ) → EndsWithin L i s rest
      → cut L (within i) (s ++ rest) ≡ s ∷ cut L between rest
  cut_part [] i rest h = stopped i rest h
  cut_part (x ∷ s) i rest h = by_turn (λ n. cut_part s n rest) (L.turn i x (s ++ rest)) refl h
    where
      by_turn : ((n : Inner) → EndsWithin L n s rest → cut L (within n) (s ++ rest) ≡ s ∷ cut L between rest) → (t : Turn Inner)
          → L.turn i x (s ++ rest) ≡ t → OnTurn t s (λ n. EndsWithin L n s rest)
          → cut L (within i) (x ∷ (s ++ rest)) ≡ (x ∷ s) ∷ cut L between rest
      by_turn more (goes_on n) e h = cut_turned i x (s ++ rest) (goes_on n) e ∙ ap (lengthened x) (more n h)
      by_turn more ends e h =
          cut_turned i x (s ++ rest) ends e
          ∙ subst (λ t. (x ∷ []) ∷ cut L between (t ++ rest) ≡ (x ∷ t) ∷ cut L between rest) (sym h) refl
      by_turn more stops e h = absurd h

  stops_there : (i : Inner) (rest : List ℕ) (ss : List (List ℕ)) → cut L (within i) rest ≡ [] ∷ ss → StopsBefore L i rest
  stops_there i [] ss h = tt
  stops_there i (x ∷ xs) ss h = by_turn (L.turn i x xs) refl
    where
      by_turn : (t : Turn Inner) → L.turn i x xs ≡ t → t ≡ stops
      by_turn (goes_on n) e = absurd (never_empty x (cut L (within n) xs) ss (sym (cut_turned i x xs (goes_on n) e) ∙ h))
      by_turn ends e = let clash : (x ∷ []) ∷ cut L between xs ≡ [] ∷ ss = sym (cut_turned i x xs ends e) ∙ h in absurd cc
      by_turn stops e = refl

  pub part_cut : (s : List ℕ) (i : Inner) (rest : List ℕ) (ss : List (List ℕ)) → cut L (within i) (s ++ rest) ≡ s ∷ ss
      → EndsWithin L i s rest
  part_cut [] i rest ss h = stops_there i rest ss h
  part_cut (x ∷ s) i rest ss h = by_turn (λ n. part_cut s n rest ss) (L.turn i x (s ++ rest)) refl
    where
      by_turn : ((n : Inner) → cut L (within n) (s ++ rest) ≡ s ∷ ss → EndsWithin L n s rest) → (t : Turn Inner)
          → L.turn i x (s ++ rest) ≡ t → OnTurn t s (λ n. EndsWithin L n s rest)
      by_turn more (goes_on n) e =
          more n
          (shortened x s (cut L (within n) (s ++ rest)) ss (some_cut n (s ++ rest)) (sym (cut_turned i x (s ++ rest) (goes_on n) e) ∙ h))
      by_turn more ends e =
          let same : (x ∷ []) ∷ cut L between (s ++ rest) ≡ (x ∷ s) ∷ ss = sym (cut_turned i x (s ++ rest) ends e) ∙ h in cc
      by_turn more stops e =
          let clash : [] ∷ cut L between (x ∷ (s ++ rest)) ≡ (x ∷ s) ∷ ss = sym (cut_turned i x (s ++ rest) stops e) ∙ h in absurd cc

  -- ---- a whole lexeme

  pub cut_lexeme : (s rest : List ℕ) → MayFollow L s rest → cut L between (s ++ rest) ≡ s ∷ cut L between rest
  cut_lexeme [] rest h = absurd h
  cut_lexeme (x ∷ s) rest h = by_first (L.first x) refl h.1
    where
      by_first : (f : First Inner) → L.first x ≡ f → OnFirst f s (λ i. EndsWithin L i s rest)
          → cut L between (x ∷ (s ++ rest)) ≡ (x ∷ s) ∷ cut L between rest
      by_first alone e f =
          cut_begun x (s ++ rest) alone h.0 e
          ∙ subst (λ t. (x ∷ []) ∷ cut L between (t ++ rest) ≡ (x ∷ t) ∷ cut L between rest) (sym f) refl
      by_first (begins i) e f = cut_begun x (s ++ rest) (begins i) h.0 e ∙ ap (lengthened x) (cut_part s i rest f)

  pub cut_gap : (g r : List ℕ) → IsGap L g → cut L between (g ++ r) ≡ cut L between r
  cut_gap [] r h = refl
  cut_gap (x ∷ g) r h = cut_blank x (g ++ r) h.0 ∙ cut_gap g r h.1
