-- Which lexemes the texts and line ends of a layout are.
use Rattle.std.specs.Prelude.{ℕ, Bool, not, cond, ◌==◌, List, [], ◌∷◌, ◌++◌, Option, Some, None}
use Rattle.toml_lexemes.specs.Bytes as byte
use Rattle.toml_lexemes.specs.Bytes.{ends_word, head}
use Rattle.prettyless_laws.specs.Bits.{Bit, end_of_line, text_of}

-- a text in front of others: an empty one and a space are no lexeme
abbrev pub lexeme_then : List ℕ → List (List ℕ) → List (List ℕ)
lexeme_then [] ss = ss
lexeme_then (x ∷ []) ss = cond (x == byte.blank_space) ss ((x ∷ []) ∷ ss)
lexeme_then (x ∷ y ∷ s) ss = (x ∷ y ∷ s) ∷ ss

-- the texts and the line ends of a spelling in front of others, before words side by side are joined
abbrev pub lexemes_then : List Bit → List (List ℕ) → List (List ℕ)
lexemes_then [] ss = ss
lexemes_then (text_of s ∷ bits) ss = lexeme_then s (lexemes_then bits ss)
lexemes_then (end_of_line ∷ bits) ss = (byte.line_feed ∷ []) ∷ lexemes_then bits ss

-- ---- words side by side

-- a text that is a word
abbrev pub is_word : List ℕ → Bool
is_word s = not (ends_word (head s))

-- a word after another, where one is directly before it
abbrev pub with_word : Option (List ℕ) → List ℕ → List ℕ
with_word None s = s
with_word (Some w) s = w ++ s

-- lexemes after a word, where one is before them
abbrev pub word_then : Option (List ℕ) → List (List ℕ) → List (List ℕ)
word_then None ss = ss
word_then (Some w) ss = w ∷ ss

-- the lexemes of a spelling, where a word is directly before it or not: words side by side are one
abbrev pub joined_from : Option (List ℕ) → List Bit → List (List ℕ)
joined_from p [] = word_then p []
joined_from p (end_of_line ∷ bits) = word_then p ((byte.line_feed ∷ []) ∷ joined_from None bits)
joined_from p (text_of s ∷ bits) =
    cond (is_word s) (joined_from (Some (with_word p s)) bits) (word_then p (lexeme_then s (joined_from None bits)))
