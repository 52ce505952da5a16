-- The tokens of expressions but for numbers.
use Rattle.std.specs.Prelude.{ℕ, List, [], ◌∷◌}

-- "("
abbrev pub opening_token : List ℕ
opening_token = 40 ∷ []

-- ")"
abbrev pub closing_token : List ℕ
closing_token = 41 ∷ []

-- "*"
abbrev pub times : List ℕ
times = 42 ∷ []

-- "+"
abbrev pub plus_token : List ℕ
plus_token = 43 ∷ []

-- "-"
abbrev pub minus : List ℕ
minus = 45 ∷ []
