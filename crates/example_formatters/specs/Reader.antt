-- How an expression is read: from left to right, by what the next token is.
use Rattle.std.specs.Prelude.{ℕ, zero, suc, Bool, false, List, [], ◌∷◌, length, Option, Some, None, if◌then◌else◌}
use Rattle.std.specs.Str.{all_ascii_digits, bytes_eq}
use Rattle.std.specs.Str.Parse.{digits_value}
use Rattle.example_formatters.specs.Expression.{Expression, number, negation, sum, product}
use Rattle.example_formatters.specs.Tokens.{opening_token, closing_token, plus_token, times, minus}
use Rattle.example_formatters.specs.Lexer.{tokens_in}

-- an expression and the tokens after it, or none
abbrev pub ReadExpression : Type 0
ReadExpression = Option (Expression × List (List ℕ))

-- goes on with the expression that was read, and the tokens after it
abbrev pub and_then_read : ReadExpression → (Expression → List (List ℕ) → ReadExpression) → ReadExpression
and_then_read None go = None
and_then_read (Some found) go = go found.0 found.1

-- one digit or more
abbrev pub is_numeral : List ℕ → Bool
is_numeral [] = false
is_numeral (b ∷ bs) = all_ascii_digits (b ∷ bs)

-- the end of an operation
abbrev pub read_closing : Expression → List (List ℕ) → ReadExpression
read_closing e [] = None
read_closing e (token ∷ tokens) = if bytes_eq token closing_token then Some (e, tokens) else None

-- an operator and what is right of it, where `next` reads an expression
abbrev pub read_right : (List (List ℕ) → ReadExpression) → Expression → List (List ℕ) → ReadExpression
read_right next left [] = None
read_right next left (token ∷ tokens) =
    if bytes_eq token plus_token then and_then_read (next tokens) (λ right. read_closing (sum left right))
    else if bytes_eq token times then and_then_read (next tokens) (λ right. read_closing (product left right))
    else None

-- an expression, where `next` reads one that is in it
abbrev pub read_first : (List (List ℕ) → ReadExpression) → List (List ℕ) → ReadExpression
read_first next [] = None
read_first next (token ∷ tokens) =
    if is_numeral token then Some (number (digits_value 10 token), tokens)
    else if bytes_eq token minus then and_then_read (next tokens) (λ e rest. Some (negation e, rest))
    else if bytes_eq token opening_token then and_then_read (next tokens) (read_right next)
    else None

-- A number of levels makes this a recursion: one is spent where an expression is in another.
abbrev pub read_expression : ℕ → List (List ℕ) → ReadExpression
read_expression zero tokens = None
read_expression (suc n) tokens = read_first (read_expression n) tokens

-- an expression with no token after it
abbrev pub alone : Expression → List (List ℕ) → Option Expression
alone e [] = Some e
alone e (token ∷ tokens) = None

-- the expression that was read, if no token is after it
abbrev pub whole_expression : ReadExpression → Option Expression
whole_expression None = None
whole_expression (Some found) = alone found.0 found.1

-- the expression that tokens are, if they are one; no more levels are needed than there are tokens
abbrev pub expression_at : List (List ℕ) → Option Expression
expression_at tokens = whole_expression (read_expression (length tokens) tokens)

-- the expression that bytes write, if they write one
abbrev pub expression_in : List ℕ → Option Expression
expression_in bytes = expression_at (tokens_in bytes)
