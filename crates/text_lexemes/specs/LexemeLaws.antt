-- What holds of the lexemes of a text, in each language.
use Rattle.std.specs.Prelude.{◌≡◌, ◌≢◌, ◌↔◌, ℕ, List, [], ◌∷◌, ◌++◌, map, All}
use Rattle.text_lexemes.specs.Languages.{Language, lexemes_in, IsLexeme}
use Rattle.text_lexemes.specs.SpacedTexts.{IsGap, spaced_in, joined_text, IsSpacedText, MayFollow, IsWellSpaced}

module _ {Inner : Type 0} (L : Language Inner) where
  -- a text is its lexemes with gaps around them
  abbrev pub TextsAreSpaced : Type 0
  TextsAreSpaced = (text : List ℕ) → IsSpacedText L text (lexemes_in L text)

  -- after each lexeme of a text stands what may follow it
  abbrev pub LexemesMayFollow : Type 0
  LexemesMayFollow = (text : List ℕ) → IsWellSpaced L text (lexemes_in L text)

  -- no lexeme is empty
  abbrev pub LexemesAreSome : Type 0
  LexemesAreSome = (text : List ℕ) → All (λ s. s ≢ []) (lexemes_in L text)

  -- each lexeme of a text, as a text of its own, is that lexeme alone
  abbrev pub LexemesStandAlone : Type 0
  LexemesStandAlone = (text : List ℕ) → All (IsLexeme L) (lexemes_in L text)

  -- texts with gaps around them, and after each what may follow it, are the lexemes
  abbrev pub FollowersAreLexemes : Type 0
  FollowersAreLexemes = (text : List ℕ) (ss : List (List ℕ)) → IsWellSpaced L text ss → lexemes_in L text ≡ ss

  -- what may follow a text is what leaves it the first lexeme, before the lexemes of what follows
  abbrev pub FollowersLeaveFirst : Type 0
  FollowersLeaveFirst = (s rest : List ℕ) → MayFollow L s rest ↔ (lexemes_in L (s ++ rest) ≡ s ∷ lexemes_in L rest)

  -- the gaps and lexemes of a text in their order, put together, are the text
  abbrev pub GapsAndLexemesAreTexts : Type 0
  GapsAndLexemesAreTexts = (text : List ℕ) → joined_text (spaced_in L text) ≡ text

  -- each gap is blanks alone
  abbrev pub GapsAreBlanks : Type 0
  GapsAreBlanks = (text : List ℕ) → All (λ p. IsGap L p.gap) (spaced_in L text)

  -- after the gaps stand the lexemes of the text, and then the end
  abbrev pub LexemesStandAfterGaps : Type 0
  LexemesStandAfterGaps = (text : List ℕ) → map (λ p. p.lexeme) (spaced_in L text) ≡ lexemes_in L text ++ [] ∷ []
