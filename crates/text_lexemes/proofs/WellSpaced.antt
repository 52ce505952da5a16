-- A text is its lexemes, with gaps around them, and after each stands what may follow it.
use Rattle.std.proofs.Common.{◌≡◌, ℕ, Bool, true, false, List, [], ◌∷◌, ◌++◌, length, All, refl, sym, ap, ◌∙◌, subst, append-nil}
use Rattle.std.proofs.Common.{arith}
use Rattle.std.specs.Prelude.{◌≢◌}
use Rattle.std.specs.List.{AllByRecursion}
use Rattle.std.proofs.lemmas.List.Elements.{All-from_recursion}
use Rattle.text_lexemes.specs.Languages.{First, alone, begins, Turn, goes_on, ends, stops, LexerMode, between, within, Language}
use Rattle.text_lexemes.specs.Languages.{lengthened, cut_first, cut_turn, cut, IsLexeme}
use Rattle.text_lexemes.specs.SpacedTexts.{OnTurn, OnFirst, IsSpacedText, EndsWithin, MayFollow, IsWellSpaced, IsLocal}
use Rattle.text_lexemes.proofs.Cuts.{shortened, some_cut, cut_nil, cut_inside_nil, cut_blank, cut_begun, cut_turned}
use Rattle.text_lexemes.proofs.Cuts.{cut_lexeme, cut_gap, part_cut}

module _ {Inner : Type 0} (L : Language Inner) where
  -- the text goes on with what is left of a lexeme, and then with the others
  abbrev GoesOn : Inner → List ℕ → List (List ℕ) → Type 0
  GoesOn i xs [] = ⊥
  GoesOn i xs (s ∷ ss) = (rest : List ℕ) × (xs ≡ s ++ rest) × EndsWithin L i s rest × IsWellSpaced L rest ss

  abbrev IsCut : LexerMode Inner → List ℕ → List (List ℕ) → Type 0
  IsCut between xs ss = IsWellSpaced L xs ss
  IsCut (within i) xs ss = GoesOn i xs ss

  -- ---- one byte

  blank_first : (x : ℕ) (xs : List ℕ) (ss : List (List ℕ)) → L.is_blank x ≡ true → IsWellSpaced L xs ss → IsWellSpaced L (x ∷ xs) ss
  blank_first x xs [] e h = (e, h)
  blank_first x xs (s ∷ ss) e (g, rest, gap, is, follows, h) = (x ∷ g, rest, (e, gap), ap (λ l. x ∷ l) is, follows, h)

  byte_begins : (x : ℕ) (i : Inner) (xs : List ℕ) (ss : List (List ℕ)) → L.is_blank x ≡ false → L.first x ≡ begins i → GoesOn i xs ss
      → IsWellSpaced L (x ∷ xs) (lengthened x ss)
  byte_begins x i xs [] b e h = absurd h
  byte_begins x i xs (s ∷ ss) b e (rest, is, part, spaced) =
      ([], rest, tt, ap (λ l. x ∷ l) is, (b, subst (λ f. OnFirst f s (λ n. EndsWithin L n s rest)) (sym e) part), spaced)

  byte_more : (i n : Inner) (x : ℕ) (xs : List ℕ) (ss : List (List ℕ)) → L.turn i x xs ≡ goes_on n → GoesOn n xs ss
      → GoesOn i (x ∷ xs) (lengthened x ss)
  byte_more i n x xs [] e h = absurd h
  byte_more i n x xs (s ∷ ss) e (rest, is, part, spaced) = (
    rest,
    ap (λ l. x ∷ l) is,
    subst (λ t. OnTurn t s (λ n. EndsWithin L n s rest)) (sym (ap (L.turn i x) (sym is) ∙ e)) part,
    spaced,
  )

  module _ (x : ℕ) (xs : List ℕ) (h : (m : LexerMode Inner) → IsCut m xs (cut L m xs)) where
    one_begun : L.is_blank x ≡ false → (f : First Inner) → L.first x ≡ f → IsWellSpaced L (x ∷ xs) (cut_first f x (λ m. cut L m xs))
    one_begun b alone e =
        ([], xs, tt, refl, (b, subst (λ f. OnFirst f [] (λ n. EndsWithin L n [] xs)) (sym e) refl), h between)
    one_begun b (begins i) e = byte_begins x i xs (cut L (within i) xs) b e (h (within i))

    one_between : (b : Bool) → L.is_blank x ≡ b → IsWellSpaced L (x ∷ xs) (cut L between (x ∷ xs))
    one_between true e = subst (IsWellSpaced L (x ∷ xs)) (sym (cut_blank L x xs e)) (blank_first x xs (cut L between xs) e (h between))
    one_between false e =
        subst (IsWellSpaced L (x ∷ xs)) (sym (cut_begun L x xs (L.first x) e refl)) (one_begun e (L.first x) refl)

    one_turn : (i : Inner) (t : Turn Inner) → L.turn i x xs ≡ t
        → GoesOn i (x ∷ xs) (cut_turn t (cut L between (x ∷ xs)) x (λ m. cut L m xs))
    one_turn i (goes_on n) e = byte_more i n x xs (cut L (within n) xs) e (h (within n))
    one_turn i ends e = (xs, refl, subst (λ t. OnTurn t [] (λ n. EndsWithin L n [] xs)) (sym e) refl, h between)
    one_turn i stops e = (x ∷ xs, refl, e, one_between (L.is_blank x) refl)

  IsCut-cut : (xs : List ℕ) (m : LexerMode Inner) → IsCut m xs (cut L m xs)
  IsCut-cut [] between = subst (IsWellSpaced L []) (sym (cut_nil L)) tt
  IsCut-cut [] (within i) = subst (GoesOn i []) (sym (cut_inside_nil L i)) ([], refl, tt, tt)
  IsCut-cut (x ∷ xs) between = one_between x xs (IsCut-cut xs) (L.is_blank x) refl
  IsCut-cut (x ∷ xs) (within i) =
      subst (GoesOn i (x ∷ xs)) (sym (cut_turned L i x xs (L.turn i x xs) refl)) (one_turn x xs (IsCut-cut xs) i (L.turn i x xs) refl)

  -- ---- the whole text

  pub well_spaced : (text : List ℕ) → IsWellSpaced L text (cut L between text)
  well_spaced text = IsCut-cut text between

  pub forget : (ss : List (List ℕ)) (text : List ℕ) → IsWellSpaced L text ss → IsSpacedText L text ss
  forget [] text h = h
  forget (s ∷ ss) text (g, rest, gap, is, follows, h) = (g, rest, gap, is, forget ss rest h)

  pub spaced : (text : List ℕ) → IsSpacedText L text (cut L between text)
  spaced text = forget (cut L between text) text (well_spaced text)

  pub same_lexemes : (text : List ℕ) (ss : List (List ℕ)) → IsWellSpaced L text ss → cut L between text ≡ ss
  same_lexemes text [] gap = ap (cut L between) (sym (append-nil text)) ∙ cut_gap L text [] gap ∙ cut_nil L
  same_lexemes text (s ∷ ss) (g, rest, gap, is, follows, h) =
      ap (cut L between) is ∙ cut_gap L g (s ++ rest) gap ∙ cut_lexeme L s rest follows ∙ ap (λ l. s ∷ l) (same_lexemes rest ss h)

  -- ---- what may follow a lexeme

  -- no lexeme begins with a blank
  begins_so : (x : ℕ) (s text : List ℕ) (ss : List (List ℕ)) → IsWellSpaced L text ((x ∷ s) ∷ ss) → L.is_blank x ≡ false
  begins_so x s text ss (g, rest, gap, is, follows, h) = follows.0

  grown : (s : List ℕ) (ss : List (List ℕ)) → ss ≡ s ∷ ss → ⊥
  grown s ss e = let longer : length ss ≡ length (s ∷ ss) = ap length e in omega arith

  none_empty : (text : List ℕ) (ss : List (List ℕ)) → IsWellSpaced L text ([] ∷ ss) → ⊥
  none_empty text ss (g, rest, gap, is, follows, h) = follows

  pub follows_there : (s rest : List ℕ) → cut L between (s ++ rest) ≡ s ∷ cut L between rest → MayFollow L s rest
  follows_there [] rest e = absurd (grown [] (cut L between rest) e)
  follows_there (x ∷ s) rest e =
      let text = x ∷ (s ++ rest) in
      let blank : L.is_blank x ≡ false =
      begins_so x s text (cut L between rest) (subst (IsWellSpaced L text) e (well_spaced text)) in
      (blank, by_first blank (L.first x) refl)
    where
      by_first : L.is_blank x ≡ false → (f : First Inner) → L.first x ≡ f → OnFirst f s (λ i. EndsWithin L i s rest)
      by_first b alone f =
          let same : (x ∷ []) ∷ cut L between (s ++ rest) ≡ (x ∷ s) ∷ cut L between rest =
          sym (cut_begun L x (s ++ rest) alone b f) ∙ e in
          cc
      by_first b (begins i) f =
          part_cut L s i rest (cut L between rest)
          (shortened x s (cut L (within i) (s ++ rest)) (cut L between rest) (some_cut L i (s ++ rest))
          (sym (cut_begun L x (s ++ rest) (begins i) b f) ∙ e))

  -- ---- lexemes alone

  -- a byte that is one of a lexeme before later bytes is so too before none
  pub local_by_turns : ((i : Inner) (x : ℕ) (s rest : List ℕ) (t : Turn Inner) → L.turn i x (s ++ rest) ≡ t → (t ≡ stops → ⊥)
      → L.turn i x (s ++ []) ≡ t)
      → IsLocal L
  local_by_turns same i [] rest h = tt
  local_by_turns same i (x ∷ s) rest h = by_turn (λ n. local_by_turns same n s rest) (L.turn i x (s ++ rest)) refl h
    where
      by_turn : ((n : Inner) → EndsWithin L n s rest → EndsWithin L n s []) → (t : Turn Inner) → L.turn i x (s ++ rest) ≡ t
          → OnTurn t s (λ n. EndsWithin L n s rest) → EndsWithin L i (x ∷ s) []
      by_turn more (goes_on n) e h =
          subst (λ t. OnTurn t s (λ n. EndsWithin L n s [])) (sym (same i x s rest (goes_on n) e (λ f. cc))) (more n h)
      by_turn more ends e h =
          subst (λ t. OnTurn t s (λ n. EndsWithin L n s [])) (sym (same i x s rest ends e (λ f. cc))) h
      by_turn more stops e h = absurd h

  pub alone_too : IsLocal L → (s rest : List ℕ) → MayFollow L s rest → MayFollow L s []
  alone_too local [] rest h = h
  alone_too local (x ∷ s) rest h = (h.0, by_first (L.first x) h.1)
    where
      by_first : (f : First Inner) → OnFirst f s (λ i. EndsWithin L i s rest) → OnFirst f s (λ i. EndsWithin L i s [])
      by_first alone e = e
      by_first (begins i) e = local i s rest e

  -- a text that nothing follows
  pub lexeme_alone : (s : List ℕ) → MayFollow L s [] → IsLexeme L s
  lexeme_alone s h = ap (cut L between) (sym (append-nil s)) ∙ cut_lexeme L s [] h ∙ ap (λ ss. s ∷ ss) (cut_nil L)

  pub ends_alone : (s : List ℕ) → IsLexeme L s → MayFollow L s []
  ends_alone s h = follows_there s [] (ap (cut L between) (append-nil s) ∙ h ∙ ap (λ ss. s ∷ ss) (sym (cut_nil L)))

  each_alone : IsLocal L → (ss : List (List ℕ)) (text : List ℕ) → IsWellSpaced L text ss → AllByRecursion (IsLexeme L) ss
  each_alone local [] text h = tt
  each_alone local (s ∷ ss) text (g, rest, gap, is, follows, h) =
      (lexeme_alone s (alone_too local s rest follows), each_alone local ss rest h)

  pub lexemes_alone : IsLocal L → (text : List ℕ) → All (IsLexeme L) (cut L between text)
  lexemes_alone local text =
      All-from_recursion (IsLexeme L) (cut L between text) (each_alone local (cut L between text) text (well_spaced text))

  not_empty : (s rest : List ℕ) → MayFollow L s rest → s ≢ []
  not_empty s rest h e = subst (λ t. MayFollow L t rest) e h

  each_some : (ss : List (List ℕ)) (text : List ℕ) → IsWellSpaced L text ss → AllByRecursion (λ s. s ≢ []) ss
  each_some [] text h = tt
  each_some (s ∷ ss) text (g, rest, gap, is, follows, h) = (not_empty s rest follows, each_some ss rest h)

  pub lexemes_some : (text : List ℕ) → All (λ s. s ≢ []) (cut L between text)
  lexemes_some text = All-from_recursion (λ s. s ≢ []) (cut L between text) (each_some (cut L between text) text (well_spaced text))
