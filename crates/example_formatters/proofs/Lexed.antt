-- Bytes that are the tokens of an expression with gaps around them are cut into these tokens.
use Rattle.std.proofs.Common.{◌≡◌, refl, sym, ap, subst, ◌∙◌, ℕ, ◌<◌, Bool, true, false, length, List, [], ◌∷◌, ◌++◌, append_assoc}
use Rattle.std.proofs.Common.{append-nil, ◌⊎◌, inl, inr, arith}
use Rattle.std.specs.Prelude.{⊤}
use Rattle.std.specs.Char.{digit_value, is_ascii_digit}
use Rattle.std.specs.Str.Parse.{AllDigits, IsNumeral}
use Rattle.std.proofs.lemmas.Bool.Decides.{nat_tests}
use Rattle.std.proofs.lemmas.Fmt.{decimal_is_IsNumeral}
use Rattle.std.proofs.lemmas.Str.Parse.{digit_from_value}
use Rattle.prettyless.specs.Spelling.{is_blank_byte}
use Rattle.prettyless.specs.Shows.{IsBlank, IsSpaced}
use Rattle.example_formatters.specs.Expression.{Expression, HasSmallNumbers, number, negation, sum, product}
use Rattle.example_formatters.specs.Lexer.{begins_with_digit, with_digit, tokens_in}
use Rattle.example_formatters.specs.Tokens.{opening_token, closing_token, plus_token, times}
use Rattle.example_formatters.proofs.ExpressionTokens.{in_parentheses, tokens_of}

blank_is_no_digit : (b : ℕ) → is_blank_byte b ≡ true → is_ascii_digit b ≡ false
blank_is_no_digit b e = grind (arith, nat_tests)

digit_is : (b : ℕ) → digit_value b < 10 → (is_blank_byte b ≡ false) × (is_ascii_digit b ≡ true)
digit_is b lt = let range = digit_from_value b lt in (grind (arith, nat_tests), grind (arith, nat_tests))

-- a gap begins with a blank
gap_parts : (b : ℕ) (g : List ℕ) (t : Bool) → is_blank_byte b ≡ t → IsBlank (b ∷ g) → (is_blank_byte b ≡ true) × IsBlank g
gap_parts b g true e h = (e, rw e at h)
gap_parts b g false e h = absurd (let none = rw e at h in cc)

-- nothing is cut off a gap
gap_lexed : (g rest : List ℕ) → IsBlank g → tokens_in (g ++ rest) ≡ tokens_in rest
gap_lexed [] rest h = refl
gap_lexed (b ∷ g) rest h = let parts = gap_parts b g (is_blank_byte b) refl h in rw parts.0 (gap_lexed g rest parts.1)

-- digits are one token where no digit comes next
digits_lexed : (s rest : List ℕ) → AllDigits 10 s → 0 < length s → begins_with_digit rest ≡ false
    → tokens_in (s ++ rest) ≡ s ∷ tokens_in rest
digits_lexed [] rest digits some ends = absurd (omega arith)
digits_lexed (b ∷ []) rest digits some ends =
    let digit = digit_is b digits.0 in
    rw (digit.0, digit.1, ends) refl
digits_lexed (b ∷ c ∷ s) rest digits some ends =
    let digit = digit_is b digits.0 in
    let next = digit_is c digits.1.0 in
    let more : tokens_in ((c ∷ s) ++ rest) ≡ (c ∷ s) ∷ tokens_in rest = digits_lexed (c ∷ s) rest digits.1 (omega arith) ends in
    rw (digit.0, digit.1) (ap (λ (t : Bool). with_digit b t (tokens_in ((c ∷ s) ++ rest))) next.1
    ∙ ap (λ (ts : List (List ℕ)). with_digit b true ts) more)

-- a token of one byte, which is neither a blank nor a digit
abbrev IsSymbol : List ℕ → Type 0
IsSymbol s = (c : ℕ) × (s ≡ c ∷ []) × (is_blank_byte c ≡ false) × (is_ascii_digit c ≡ false)

-- no numeral comes next
abbrev EndsNumeral : List (List ℕ) → Type 0
EndsNumeral [] = ⊤
EndsNumeral (s ∷ ss) = IsSymbol s

-- symbols and numerals, no two of which are side by side
abbrev AreTokens : List (List ℕ) → Type 0
AreTokens [] = ⊤
AreTokens (s ∷ ss) = (IsSymbol s ⊎ (IsNumeral 10 s × EndsNumeral ss)) × AreTokens ss

-- after a gap comes no digit, where what follows begins with none
no_digit_after : (g rest : List ℕ) → IsBlank g → begins_with_digit rest ≡ false → begins_with_digit (g ++ rest) ≡ false
no_digit_after [] rest h e = e
no_digit_after (b ∷ g) rest h e = blank_is_no_digit b (gap_parts b g (is_blank_byte b) refl h).0

no_digit : (ss : List (List ℕ)) (bytes : List ℕ) → EndsNumeral ss → IsSpaced bytes ss → begins_with_digit bytes ≡ false
no_digit [] bytes ends h = ap begins_with_digit (sym (append-nil bytes)) ∙ no_digit_after bytes [] h refl
no_digit (s ∷ ss) bytes ends h =
    let begins : begins_with_digit (s ++ h.1) ≡ false = ap (λ (x : List ℕ). begins_with_digit (x ++ h.1)) ends.1 ∙ ends.3 in
    ap begins_with_digit h.3 ∙ no_digit_after h.0 (s ++ h.1) h.2 begins

symbol_lexed : (s rest : List ℕ) → IsSymbol s → tokens_in (s ++ rest) ≡ s ∷ tokens_in rest
symbol_lexed s rest h =
    let single : tokens_in (h.0 ∷ rest) ≡ (h.0 ∷ []) ∷ tokens_in rest = rw (h.2, h.3) refl in
    subst (λ (x : List ℕ). tokens_in (x ++ rest) ≡ x ∷ tokens_in rest) (sym h.1) single

token_lexed : (s : List ℕ) (ss : List (List ℕ)) (rest : List ℕ) → IsSymbol s ⊎ (IsNumeral 10 s × EndsNumeral ss) → IsSpaced rest ss
    → tokens_in (s ++ rest) ≡ s ∷ tokens_in rest
token_lexed s ss rest (inl symbol) h = symbol_lexed s rest symbol
token_lexed s ss rest (inr numeral) h = digits_lexed s rest numeral.0.1 numeral.0.0 (no_digit ss rest numeral.1 h)

-- tokens with gaps around them
spaced_lexed : (ss : List (List ℕ)) (bytes : List ℕ) → AreTokens ss → IsSpaced bytes ss → tokens_in bytes ≡ ss
spaced_lexed [] bytes are h = ap tokens_in (sym (append-nil bytes)) ∙ gap_lexed bytes [] h
spaced_lexed (s ∷ ss) bytes are h =
    ap tokens_in h.3
    ∙ gap_lexed h.0 (s ++ h.1) h.2
    ∙ token_lexed s ss h.1 are.0 h.4
    ∙ ap (λ (ts : List (List ℕ)). s ∷ ts) (spaced_lexed ss h.1 are.1 h.4)

-- what follows an operation, after its parenthesis
pub followed : (left right rest : List (List ℕ)) (operator : List ℕ) → in_parentheses left operator right ++ rest ≡ opening_token
    ∷ (left ++ (operator ∷ (right ++ (closing_token ∷ rest))))
followed left right rest operator = simp append_assoc

opening_is : IsSymbol opening_token
opening_is = (40, refl, refl, refl)

closing_is : IsSymbol closing_token
closing_is = (41, refl, refl, refl)

operation_is : (left right rest : List (List ℕ)) (operator : List ℕ) → AreTokens (left ++ (operator ∷ (right ++ (closing_token ∷ rest))))
    → AreTokens (in_parentheses left operator right ++ rest)
operation_is left right rest operator inside = subst AreTokens (sym (followed left right rest operator)) (inl opening_is, inside)

-- the tokens of an expression before others
tokens_are : (e : Expression) (rest : List (List ℕ)) → HasSmallNumbers e → EndsNumeral rest → AreTokens rest
    → AreTokens (tokens_of e ++ rest)
tokens_are (number n) rest small ends are = (inr ((decimal_is_IsNumeral n (omega arith)).0, ends), are)
tokens_are (negation e) rest small ends are = (inl (45, refl, refl, refl), tokens_are e rest small ends are)
tokens_are (sum l r) rest small ends are =
    let right = tokens_are r (closing_token ∷ rest) small.1 closing_is (inl closing_is, are) in
    operation_is (tokens_of l) (tokens_of r) rest plus_token
    (tokens_are l (plus_token ∷ (tokens_of r ++ (closing_token ∷ rest))) small.0 (43, refl, refl, refl) (inl (43, refl, refl, refl), right))
tokens_are (product l r) rest small ends are =
    let right = tokens_are r (closing_token ∷ rest) small.1 closing_is (inl closing_is, are) in
    operation_is (tokens_of l) (tokens_of r) rest times
    (tokens_are l (times ∷ (tokens_of r ++ (closing_token ∷ rest))) small.0 (42, refl, refl, refl) (inl (42, refl, refl, refl), right))

-- the tokens of an expression with gaps around them are cut into these tokens
pub expression_lexed : (e : Expression) (bytes : List ℕ) → HasSmallNumbers e → IsSpaced bytes (tokens_of e) → tokens_in bytes ≡ tokens_of e
expression_lexed e bytes small h =
    spaced_lexed (tokens_of e) bytes (subst AreTokens (append-nil (tokens_of e)) (tokens_are e [] small tt tt)) h
