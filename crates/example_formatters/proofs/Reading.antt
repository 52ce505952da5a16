-- The tokens of an expression are read as the expression.
use Rattle.std.proofs.Common.{◌≡◌, sym, ap, ◌∙◌, ℕ, zero, suc, ◌<◌, ◌≤◌, ◌^◌, true, length, List, [], ◌∷◌, ◌++◌, length-append, append-nil}
use Rattle.std.proofs.Common.{Some, arith}
use Rattle.std.specs.Fmt.{decimal}
use Rattle.std.specs.Str.{all_ascii_digits}
use Rattle.std.specs.Str.Parse.{AllDigits}
use Rattle.std.proofs.lemmas.Fmt.{decimal_is_IsNumeral}
use Rattle.std.proofs.lemmas.Str.Parse.{numerals_by_value, tells_all_ascii_digits}
use Rattle.example_formatters.specs.Expression.{Expression, HasSmallNumbers, number, negation, sum, product}
use Rattle.example_formatters.specs.Reader.{ReadExpression, and_then_read, is_numeral, read_expression, read_right, read_closing}
use Rattle.example_formatters.specs.Reader.{whole_expression, expression_at}
use Rattle.example_formatters.specs.Tokens.{closing_token, plus_token, times}
use Rattle.example_formatters.proofs.ExpressionTokens.{in_parentheses, tokens_of}
use Rattle.example_formatters.proofs.Lexed.{followed}

digits_are : (s : List ℕ) → AllDigits 10 s → 0 < length s → is_numeral s ≡ true
digits_are [] digits some = absurd (omega arith)
digits_are (b ∷ bs) digits some = (numerals_by_value (λ ds. all_ascii_digits ds ≡ true) tells_all_ascii_digits).from (b ∷ bs) digits

number_read : (n m : ℕ) (rest : List (List ℕ)) → n < 2 ^ 32 → read_expression (suc m) (decimal n ∷ rest) ≡ Some (number n, rest)
number_read n m rest small =
    let numeral = decimal_is_IsNumeral n (omega arith) in
    rw (digits_are (decimal n) numeral.0.1 numeral.0.0) (ap (λ (v : ℕ). Some (number v, rest)) numeral.1)

-- an operation is no shorter than its operands
room : (left right : List (List ℕ)) (operator : List ℕ) (n : ℕ) → length (in_parentheses left operator right) ≤ suc n → (length left ≤ n)
    × (length right ≤ n)
room left right operator n h = let bound = simp length-append at h in (omega arith, omega arith)

-- the tokens of an expression, with others after them, are read as the expression
pub reads : (e : Expression) (n : ℕ) (rest : List (List ℕ)) → HasSmallNumbers e → length (tokens_of e) ≤ n
    → read_expression n (tokens_of e ++ rest) ≡ Some (e, rest)
reads (number m) zero rest small enough = absurd (omega arith)
reads (number m) (suc n) rest small enough = number_read m n rest small
reads (negation e) zero rest small enough = absurd (omega arith)
reads (negation e) (suc n) rest small enough =
    ap (λ (r : ReadExpression). and_then_read r (λ e rest. Some (negation e, rest))) (reads e n rest small (omega arith))
reads (sum l r) zero rest small enough = absurd (omega arith)
reads (sum l r) (suc n) rest small enough =
    let fits = room (tokens_of l) (tokens_of r) plus_token n enough in
    ap (read_expression (suc n)) (followed (tokens_of l) (tokens_of r) rest plus_token)
    ∙ ap (λ (x : ReadExpression). and_then_read x (read_right (read_expression n)))
    (reads l n (plus_token ∷ (tokens_of r ++ (closing_token ∷ rest))) small.0 fits.0)
    ∙ ap (λ (x : ReadExpression). and_then_read x (λ right. read_closing (sum l right))) (reads r n (closing_token ∷ rest) small.1 fits.1)
reads (product l r) zero rest small enough = absurd (omega arith)
reads (product l r) (suc n) rest small enough =
    let fits = room (tokens_of l) (tokens_of r) times n enough in
    ap (read_expression (suc n)) (followed (tokens_of l) (tokens_of r) rest times)
    ∙ ap (λ (x : ReadExpression). and_then_read x (read_right (read_expression n)))
    (reads l n (times ∷ (tokens_of r ++ (closing_token ∷ rest))) small.0 fits.0)
    ∙ ap (λ (x : ReadExpression). and_then_read x (λ right. read_closing (product l right)))
    (reads r n (closing_token ∷ rest) small.1 fits.1)

-- and none is left after them
pub read_alone : (e : Expression) → HasSmallNumbers e → expression_at (tokens_of e) ≡ Some e
read_alone e small =
    let tokens = tokens_of e in
    let found : read_expression (length tokens) (tokens ++ []) ≡ Some (e, []) = reads e (length tokens) [] small (omega arith) in
    ap whole_expression (ap (read_expression (length tokens)) (sym (append-nil tokens)) ∙ found)
