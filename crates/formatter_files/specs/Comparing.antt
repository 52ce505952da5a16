-- What a writer knows that compares what is written with a text.
use Rattle.std.specs.Prelude.{ℕ, List, ◌∷◌, ◌++◌, length, take}

-- The text, after its length, and then what was written. What it holds stays the beginning of what it holds later, so whoever made it
-- knows after the writes of others that it compares with the same text.
abbrev pub compared_account : List ℕ → ℕ → List ℕ
compared_account text count = length text ∷ (text ++ take count text)
