-- The lexemes of a TOML text, each with the gap before it.
use Rattle.std.specs.Prelude.{ℕ, List}
use Rattle.text_lexemes.specs.SpacedTexts as spaced
use Rattle.toml_lexemes.specs.Lexemes.{toml}

-- a lexeme after its gap; at the end of the text the last gap, and an empty lexeme
abbrev pub SpacedToml : Type 0
SpacedToml = spaced.SpacedLexeme

-- the lexeme after the gap
abbrev pub after_toml_gap : List ℕ → List ℕ → SpacedToml
after_toml_gap g s = spaced.lexeme_after g s

-- the blanks that the bytes begin with
abbrev pub blanks : List ℕ → List ℕ
blanks bytes = spaced.blanks toml bytes

-- the lexemes that these bytes are, each after the blanks before it, and then the end
abbrev pub toml_spaced_as : List ℕ → List (List ℕ) → List SpacedToml
toml_spaced_as bytes ss = spaced.spaced_as toml bytes ss

-- the lexemes of a text, each after its gap, and then the end
abbrev pub toml_spaced_lexemes : List ℕ → List SpacedToml
toml_spaced_lexemes bytes = spaced.spaced_in toml bytes

-- the bytes of gaps and lexemes
abbrev pub toml_put_together : List SpacedToml → List ℕ
toml_put_together ps = spaced.joined_text ps
