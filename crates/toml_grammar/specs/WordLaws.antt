-- What holds of the strings and the comments of TOML.
use Rattle.std.specs.Prelude.{◌≡◌, ◌≢◌, ℕ, true, false, List, ◌∷◌, All}
use Rattle.toml_lexemes.specs.Bytes.{carriage_return, is_quote}
use Rattle.toml_lexemes.specs.Spaced.{MayFollow, EndsWithReturn}
use Rattle.toml_grammar.specs.Strings.{is_key_string, is_string}
use Rattle.toml_grammar.specs.Comments.{is_comment}

-- a string is closed: any byte that is no quote may come directly after it
abbrev pub StringsAreClosed : Type 0
StringsAreClosed = (s : List ℕ) → is_string s ≡ true → (x : ℕ) (xs : List ℕ) → is_quote x ≡ false → MayFollow s (x ∷ xs)

-- a string that may stand in a key is a string
abbrev pub KeyStringsAreStrings : Type 0
KeyStringsAreStrings = (s : List ℕ) → is_key_string s ≡ true → is_string s ≡ true

-- a comment holds no CR
abbrev pub CommentsHoldNoReturn : Type 0
CommentsHoldNoReturn = (s : List ℕ) → is_comment s ≡ true → All (λ x. x ≢ carriage_return) s

-- a comment does not end with CR
abbrev pub CommentsEndWithNoReturn : Type 0
CommentsEndWithNoReturn = (s : List ℕ) → is_comment s ≡ true → EndsWithReturn s → ⊥
