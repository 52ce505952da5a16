-- Texts with gaps around them.
use Rattle.std.specs.Prelude.{◌≡◌, ◌==◌, ◌&&◌, ◌||◌, ℕ, Bool, false, List, [], ◌∷◌, ◌++◌, ⊤}
use Rattle.text_lexemes.specs.Languages.{First, alone, begins, Turn, goes_on, ends, stops, LexerMode, between, within}
use Rattle.text_lexemes.specs.SpacedTexts.{IsGap, IsSpacedText}
use Rattle.toml_lexemes.specs.Bytes.{carriage_return, line_feed}
use Rattle.toml_lexemes.specs.Lexemes.{Inner, in_comment, first, turn, begins_line_feed, toml}

-- a gap: blanks alone, which are the space, the tab and CR
abbrev pub IsTomlGap : List ℕ → Type 0
IsTomlGap bytes = IsGap toml bytes

-- bytes that are these texts in their order, with gaps before, between and after them, any of which may be empty
abbrev pub IsSpacedToml : List ℕ → List (List ℕ) → Type 0
IsSpacedToml bytes ss = IsSpacedText toml bytes ss

-- ---- what may follow a lexeme

-- the mode after a byte between two lexemes
abbrev pub mode_first : First Inner → LexerMode Inner
mode_first alone = between
mode_first (begins i) = within i

-- the mode after a byte in a lexeme
abbrev pub mode_turn : Turn Inner → LexerMode Inner
mode_turn (goes_on i) = within i
mode_turn ends = between
mode_turn stops = between

-- the mode after these bytes
abbrev pub mode_after : LexerMode Inner → List ℕ → LexerMode Inner
mode_after m [] = m
mode_after between (x ∷ xs) = mode_after (mode_first (first x)) xs
mode_after (within i) (x ∷ xs) = mode_after (mode_turn (turn i x (begins_line_feed xs))) xs

-- A lexeme that leaves a mode ends before these bytes: one that is ended does before any; else they are none, or their
-- first byte stops it. So a word ends before a blank, a line end, a sign, a quote or a comment; a comment before a line end;
-- a string of one line that is not closed before a line feed; two quotes, and a string of several lines that is closed,
-- before any byte but their quote; and a string of several lines that is not closed only at the end of the text.
abbrev pub EndsBefore : LexerMode Inner → List ℕ → Type 0
EndsBefore m [] = ⊤
EndsBefore between (x ∷ xs) = ⊤
EndsBefore (within i) (x ∷ xs) = turn i x (begins_line_feed xs) ≡ stops

-- whether the last byte is CR
abbrev pub EndsWithReturn : List ℕ → Type 0
EndsWithReturn [] = ⊥
EndsWithReturn (x ∷ []) = x ≡ carriage_return
EndsWithReturn (x ∷ (y ∷ ys)) = EndsWithReturn (y ∷ ys)

-- The bytes may come directly after the lexeme. A comment that ends with CR does not stand before a line feed, which would
-- make the CR a part of the line end.
pub record MayFollow (lexeme bytes : List ℕ) : Type 0 where
  pub ended : EndsBefore (mode_after between lexeme) bytes
  pub apart : mode_after between lexeme ≡ within in_comment → EndsWithReturn lexeme → begins_line_feed bytes ≡ false

-- spaced, and each text has after it what may follow it
abbrev pub IsWellSpaced : List ℕ → List (List ℕ) → Type 0
IsWellSpaced bytes [] = IsTomlGap bytes
IsWellSpaced bytes (s ∷ ss) =
    (g : List ℕ) × (rest : List ℕ) × IsTomlGap g × (bytes ≡ g ++ (s ++ rest)) × MayFollow s rest × IsWellSpaced rest ss

-- whether a line end comes first: LF, or CR directly before LF
abbrev pub begins_line_end : List ℕ → Bool
begins_line_end [] = false
begins_line_end (x ∷ xs) = (x == line_feed) || ((x == carriage_return) && begins_line_feed xs)
