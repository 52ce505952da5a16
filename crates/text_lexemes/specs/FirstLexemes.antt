-- What a lexer finds at a place of a text.
use Rattle.std.specs.Prelude.{◌≡◌, ℕ, ◌+◌, ◌<◌, ◌≤◌, List, ◌∷◌, length, drop}
use Rattle.std.specs.Str.{IsCharBoundary}
use Rattle.text_lexemes.specs.Languages.{Language, lexemes_in}

-- the first lexeme from a place of the text on, after which the others come
pub record IsFirstLexeme {Inner : Type 0} (L : Language Inner) (text : List ℕ) (place : ℕ) (lexeme : List ℕ) : Type 0 where
  pub some : 0 < length lexeme
  pub within : place + length lexeme ≤ length text
  pub boundary : IsCharBoundary text (place + length lexeme)
  pub cuts : lexemes_in L (drop place text) ≡ lexeme ∷ lexemes_in L (drop (place + length lexeme) text)
