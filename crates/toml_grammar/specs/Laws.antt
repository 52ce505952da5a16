-- What holds of the lexemes of a TOML text.
use Rattle.std.specs.Prelude.{◌≡◌, ◌≢◌, ℕ, List, ◌∷◌, All, true, false}
use Rattle.toml_lexemes.specs.Bytes.{carriage_return, hash, is_quote, head}
use Rattle.toml_lexemes.specs.Lexemes.{toml_lexemes_of}
use Rattle.toml_lexemes.specs.Spaced.{MayFollow}
use Rattle.toml_grammar.specs.Grammar.{is_toml}

-- a lexeme that is a string is closed: any byte that is no quote may come directly after it
abbrev pub IsClosedIfString : List ℕ → Type 0
IsClosedIfString s = is_quote (head s) ≡ true → (x : ℕ) (xs : List ℕ) → is_quote x ≡ false → MayFollow s (x ∷ xs)

-- a lexeme that is a comment holds no CR
abbrev pub IsClearIfComment : List ℕ → Type 0
IsClearIfComment s = head s ≡ hash → All (λ x. x ≢ carriage_return) s

-- the strings of a TOML text are closed
abbrev pub StringsOfTomlAreClosed : Type 0
StringsOfTomlAreClosed = (text : List ℕ) → is_toml text ≡ true → All IsClosedIfString (toml_lexemes_of text)

-- the comments of a TOML text hold no CR
abbrev pub CommentsOfTomlAreClear : Type 0
CommentsOfTomlAreClear = (text : List ℕ) → is_toml text ≡ true → All IsClearIfComment (toml_lexemes_of text)
