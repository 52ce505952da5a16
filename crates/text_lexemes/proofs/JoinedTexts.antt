-- The lexemes of a text with their gaps are the text, put together.
use Rattle.std.proofs.Common.{◌≡◌, ℕ, ◌+◌, true, false, cond, List, [], ◌∷◌, ◌++◌, length, drop, map, All, refl, sym, ap, ◌∙◌, subst}
use Rattle.std.proofs.Common.{append-nil}
use Rattle.std.specs.List.{AllByRecursion}
use Rattle.std.proofs.Math.Seq.{drop-append_seam, drop-append-add}
use Rattle.std.proofs.lemmas.List.Elements.{All-from_recursion}
use Rattle.text_lexemes.specs.Languages.{between, Language, cut}
use Rattle.text_lexemes.specs.SpacedTexts.{SpacedLexeme, lexeme_after, joined_text, IsGap, blanks, spaced_as, spaced_in}
use Rattle.text_lexemes.specs.SpacedTexts.{MayFollow, IsWellSpaced}
use Rattle.text_lexemes.proofs.WellSpaced.{well_spaced}

module _ {Inner : Type 0} (L : Language Inner) where
  pub blanks_cons : (x : ℕ) (xs : List ℕ) → L.is_blank x ≡ true → blanks L (x ∷ xs) ≡ x ∷ blanks L xs
  blanks_cons x xs e = ap (λ b. cond b (x ∷ blanks L xs) []) e

  pub blanks_none : (x : ℕ) (xs : List ℕ) → L.is_blank x ≡ false → blanks L (x ∷ xs) ≡ []
  blanks_none x xs e = ap (λ b. cond b (x ∷ blanks L xs) []) e

  -- a lexeme begins with no blank
  no_blanks : (s rest tail : List ℕ) → MayFollow L s rest → blanks L (s ++ tail) ≡ []
  no_blanks [] rest tail h = absurd h
  no_blanks (x ∷ s) rest tail h = blanks_none x (s ++ tail) h.0

  blanks_gap : (g r : List ℕ) → IsGap L g → blanks L r ≡ [] → blanks L (g ++ r) ≡ g
  blanks_gap [] r gap none = none
  blanks_gap (x ∷ g) r gap none = blanks_cons x (g ++ r) gap.0 ∙ ap (λ l. x ∷ l) (blanks_gap g r gap.1 none)

  drop_fronts : (g s rest : List ℕ) → drop (length g + length s) (g ++ (s ++ rest)) ≡ rest
  drop_fronts g s rest = drop-append-add g (s ++ rest) (length s) ∙ drop-append_seam s rest

  -- the first lexeme with its gap, and the others
  pub first_spaced : (g s after rest : List ℕ) (ss : List (List ℕ)) → IsGap L g → MayFollow L s after
      → spaced_as L (g ++ (s ++ rest)) (s ∷ ss) ≡ lexeme_after g s ∷ spaced_as L rest ss
  first_spaced g s after rest ss gap follows =
      ap (λ b. lexeme_after b s ∷ spaced_as L (drop (length b + length s) (g ++ (s ++ rest))) ss)
      (blanks_gap g (s ++ rest) gap (no_blanks s after rest follows))
      ∙ ap (λ l. lexeme_after g s ∷ spaced_as L l ss) (drop_fronts g s rest)

  abbrev AreGaps : List SpacedLexeme → Type 0
  AreGaps ps = AllByRecursion (λ p. IsGap L p.gap) ps

  joined_as : (ss : List (List ℕ)) (bytes : List ℕ) → IsWellSpaced L bytes ss
      → (joined_text (spaced_as L bytes ss) ≡ bytes) × AreGaps (spaced_as L bytes ss)
  joined_as [] bytes gap = (append-nil bytes, (gap, tt))
  joined_as (s ∷ ss) bytes (g, rest, gap, is, follows, h) =
      let first = first_spaced g s rest rest ss gap follows in
      let others = joined_as ss rest h in
      subst (λ b. (joined_text (spaced_as L b (s ∷ ss)) ≡ b) × AreGaps (spaced_as L b (s ∷ ss))) (sym is)
      (ap joined_text first ∙ ap (λ l. g ++ (s ++ l)) others.0, subst AreGaps (sym first) (gap, others.1))

  pub texts_joined : (text : List ℕ) → joined_text (spaced_in L text) ≡ text
  texts_joined text = (joined_as (cut L between text) text (well_spaced L text)).0

  pub gaps_blank : (text : List ℕ) → All (λ p. IsGap L p.gap) (spaced_in L text)
  gaps_blank text =
      All-from_recursion (λ p. IsGap L p.gap) (spaced_in L text) (joined_as (cut L between text) text (well_spaced L text)).1

  lexemes_as : (ss : List (List ℕ)) (bytes : List ℕ) → map (λ (p : SpacedLexeme). p.lexeme) (spaced_as L bytes ss) ≡ ss ++ [] ∷ []
  lexemes_as [] bytes = refl
  lexemes_as (s ∷ ss) bytes = ap (λ l. s ∷ l) (lexemes_as ss (drop (length (blanks L bytes) + length s) bytes))

  pub lexemes_spaced : (text : List ℕ) → map (λ (p : SpacedLexeme). p.lexeme) (spaced_in L text) ≡ cut L between text ++ [] ∷ []
  lexemes_spaced text = lexemes_as (cut L between text) text
