-- How deep brackets are, while lexemes are taken.
use Rattle.std.specs.Prelude.{◌≡◌, ℕ, ◌+◌, List}
use Rattle.toml_grammar.specs.Nesting.{max_brackets, nest_too_deep}

-- The lexemes that were taken from the front of these are not too deep, where so many more brackets than are open before them
-- may be open; and they close as many brackets as they open, unless they are all.
abbrev pub TakesWithin : ℕ → List (List ℕ) → List (List ℕ) → Type 0
TakesWithin depth old new = (n : ℕ) → n + depth ≡ max_brackets → nest_too_deep n old ≡ nest_too_deep n new
