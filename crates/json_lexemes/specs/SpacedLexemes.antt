-- The lexemes of a text, each with the gap before it.
use Rattle.std.specs.Prelude.{ℕ, ◌+◌, Bool, ◌==◌, nat_le, List, [], ◌∷◌, ◌++◌, length, drop, cond, ⊤}
use Rattle.json.specs.Ascii.{line_feed}
use Rattle.json.specs.Word.{is_space}
use Rattle.json_lexemes.specs.Lexemes.{lexemes}
use Rattle.json_lexemes.specs.Spaced.{IsGap}

-- a lexeme after its gap
pub record Spaced : Type 0 where
  pub gap : List ℕ
  pub lexeme : List ℕ

abbrev pub after_gap : List ℕ → List ℕ → Spaced
after_gap g s = record { gap = g; lexeme = s }

-- the spaces that bytes begin with
abbrev pub first_spaces : List ℕ → List ℕ
first_spaces [] = []
first_spaces (x ∷ xs) = cond (is_space x) (x ∷ first_spaces xs) []

-- the bytes after those spaces and a lexeme
abbrev pub after_lexeme : List ℕ → List ℕ → List ℕ
after_lexeme bytes s = drop (length (first_spaces bytes) + length s) bytes

-- the lexemes that these bytes are, each after the spaces before it
abbrev pub spaced_as : List ℕ → List (List ℕ) → List Spaced
spaced_as bytes [] = []
spaced_as bytes (s ∷ ss) = after_gap (first_spaces bytes) s ∷ spaced_as (after_lexeme bytes s) ss

-- the lexemes of a text, each after its gap
abbrev pub spaced_lexemes : List ℕ → List Spaced
spaced_lexemes text = spaced_as text (lexemes text)

-- the lexemes without their gaps
abbrev pub lexemes_of : List Spaced → List (List ℕ)
lexemes_of [] = []
lexemes_of (p ∷ ps) = p.lexeme ∷ lexemes_of ps

-- the bytes of gaps and lexemes
abbrev pub put_together : List Spaced → List ℕ
put_together [] = []
put_together (p ∷ ps) = p.gap ++ (p.lexeme ++ put_together ps)

-- each gap is one
abbrev pub AreGaps : List Spaced → Type 0
AreGaps [] = ⊤
AreGaps (p ∷ ps) = IsGap p.gap × AreGaps ps

-- how many line feeds stand in bytes
abbrev pub line_feeds : List ℕ → ℕ
line_feeds [] = 0
line_feeds (x ∷ xs) = cond (x == line_feed) (1 + line_feeds xs) (line_feeds xs)

-- a gap with a blank line: it has two line feeds at least
abbrev pub has_blank_line : List ℕ → Bool
has_blank_line gap = nat_le 2 (line_feeds gap)
