-- The model of the lexemes with one that is read ahead.
use Rattle.std.specs.Prelude.{◌≡◌, ℕ, List, [], ◌∷◌, Option, Some, None}
use Rattle.toml_lexemes.specs.View.{toml_text_of, HasTomlKind}
use Rattle.toml_lexemes.specs.declared.lexeme.Lexeme.{Lexeme}
use Rattle.toml_lexemes.specs.Sound.{AreSound}

-- the lexemes that are left: the one that was read, and those after it
abbrev pub toml_lexemes_left : Option Lexeme → List (List ℕ) → List (List ℕ)
toml_lexemes_left None later = later
toml_lexemes_left (Some lexeme) later = toml_text_of lexeme ∷ later

-- where none was read, none is left; the one that was read begins as its kind does
abbrev pub IsRead : Option Lexeme → List (List ℕ) → Type 0
IsRead None later = later ≡ []
IsRead (Some lexeme) later = HasTomlKind lexeme

-- and a layout can show those that are left
pub record IsTomlAhead (next : Option Lexeme) (later : List (List ℕ)) : Type 0 where
  pub read : IsRead next later
  pub sound : AreSound (toml_lexemes_left next later)
