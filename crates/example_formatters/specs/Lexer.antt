-- The tokens that bytes are cut into: a run of digits is one token, and so is each other byte that is no space, CR or LF.
use Rattle.std.specs.Prelude.{ℕ, Bool, true, false, List, [], ◌∷◌, if◌then◌else◌}
use Rattle.std.specs.Char.{is_ascii_digit}
use Rattle.prettyless.specs.Spelling.{is_blank_byte}

-- bytes begin with a digit
abbrev pub begins_with_digit : List ℕ → Bool
begins_with_digit [] = false
begins_with_digit (b ∷ bs) = is_ascii_digit b

-- a byte put in front of the first token
abbrev pub in_first : ℕ → List (List ℕ) → List (List ℕ)
in_first b [] = (b ∷ []) ∷ []
in_first b (token ∷ tokens) = (b ∷ token) ∷ tokens

-- a digit in front of tokens: a part of the first where that goes on with a digit, and else a token of its own
abbrev pub with_digit : ℕ → Bool → List (List ℕ) → List (List ℕ)
with_digit b true tokens = in_first b tokens
with_digit b false tokens = (b ∷ []) ∷ tokens

-- the tokens in bytes
abbrev pub tokens_in : List ℕ → List (List ℕ)
tokens_in [] = []
tokens_in (b ∷ bs) =
    if is_blank_byte b then tokens_in bs
    else if is_ascii_digit b then with_digit b (begins_with_digit bs) (tokens_in bs)
    else (b ∷ []) ∷ tokens_in bs
