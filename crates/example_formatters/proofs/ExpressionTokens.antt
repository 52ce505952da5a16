-- The tokens of an expression, as its document has them.
use Rattle.std.proofs.Common.{ℕ, List, [], ◌∷◌, ◌++◌}
use Rattle.std.specs.Fmt.{decimal}
use Rattle.example_formatters.specs.Expression.{Expression, number, negation, sum, product}
use Rattle.example_formatters.specs.Tokens.{opening_token, closing_token, minus, plus_token, times}

-- an operation in parentheses, from what is left and right of its operator
abbrev pub in_parentheses : List (List ℕ) → List ℕ → List (List ℕ) → List (List ℕ)
in_parentheses left operator right = opening_token ∷ (left ++ (operator ∷ (right ++ closing_token ∷ [])))

-- the tokens of an expression, in order
abbrev pub tokens_of : Expression → List (List ℕ)
tokens_of (number n) = decimal n ∷ []
tokens_of (negation e) = minus ∷ tokens_of e
tokens_of (sum l r) = in_parentheses (tokens_of l) plus_token (tokens_of r)
tokens_of (product l r) = in_parentheses (tokens_of l) times (tokens_of r)
