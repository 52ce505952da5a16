-- The lexemes of a TOML text by their sorts, each with the gap before it.
use Rattle.std.specs.Prelude.{ℕ, Bool, true, false, cond, not, ◌&&◌, ◌||◌, ◌==◌, List, [], ◌∷◌}
use Rattle.toml_lexemes.specs.Bytes as byte
use Rattle.toml_lexemes.specs.SpacedLexemes.{SpacedToml, after_toml_gap}

-- a sign, a line end, a comment, a string, a word, or the end of the text
pub data TomlLexeme : Type 0 where
  open_array : TomlLexeme
  close_array : TomlLexeme
  open_table : TomlLexeme
  close_table : TomlLexeme
  comma : TomlLexeme
  equals : TomlLexeme
  line_end : TomlLexeme
  comment : List ℕ → TomlLexeme
  string : List ℕ → TomlLexeme
  word : List ℕ → TomlLexeme
  text_end : TomlLexeme

-- a lexeme after its gap
pub record TypedAfterGap : Type 0 where
  pub gap : List ℕ
  pub lexeme : TomlLexeme

-- the lexeme after the gap
abbrev pub typed_after_gap : List ℕ → TomlLexeme → TypedAfterGap
typed_after_gap g l = record { gap = g; lexeme = l }

-- the lexeme that begins with the byte x and has the bytes s
abbrev pub typed_by : ℕ → List ℕ → TomlLexeme
typed_by x s =
    cond (x == byte.open_bracket) open_array
    (cond (x == byte.close_bracket) close_array
    (cond (x == byte.open_brace) open_table
    (cond (x == byte.close_brace) close_table
    (cond (x == byte.comma) comma
    (cond (x == byte.equals) equals
    (cond (x == byte.line_feed) line_end
    (cond (x == byte.hash) (comment s)
    (cond (byte.is_quote x) (string s) (word s)))))))))

-- the lexeme with these bytes
abbrev pub typed : List ℕ → TomlLexeme
typed [] = text_end
typed (x ∷ xs) = typed_by x (x ∷ xs)

-- the bytes of a lexeme
abbrev pub lexeme_bytes : TomlLexeme → List ℕ
lexeme_bytes open_array = byte.open_bracket ∷ []
lexeme_bytes close_array = byte.close_bracket ∷ []
lexeme_bytes open_table = byte.open_brace ∷ []
lexeme_bytes close_table = byte.close_brace ∷ []
lexeme_bytes comma = byte.comma ∷ []
lexeme_bytes equals = byte.equals ∷ []
lexeme_bytes line_end = byte.line_feed ∷ []
lexeme_bytes (comment s) = s
lexeme_bytes (string s) = s
lexeme_bytes (word s) = s
lexeme_bytes text_end = []

-- a lexeme of a text by its sort
abbrev pub typed_spaced : SpacedToml → TypedAfterGap
typed_spaced p = typed_after_gap p.gap (typed p.lexeme)

-- a lexeme by its bytes
abbrev pub spaced_bytes : TypedAfterGap → SpacedToml
spaced_bytes p = after_toml_gap p.gap (lexeme_bytes p.lexeme)

-- whether the lexeme is a line end
abbrev pub is_line_end_lexeme : TomlLexeme → Bool
is_line_end_lexeme line_end = true
is_line_end_lexeme _ = false

-- no CR is in the gap, but before a line end its last blank may be one
abbrev pub is_clear_gap : List ℕ → Bool → Bool
is_clear_gap [] before_line_end = true
is_clear_gap (x ∷ []) before_line_end = before_line_end || not (x == byte.carriage_return)
is_clear_gap (x ∷ (y ∷ ys)) before_line_end = not (x == byte.carriage_return) && is_clear_gap (y ∷ ys) before_line_end

-- one blank
abbrev pub one_blank : List ℕ
one_blank = byte.blank_space ∷ []
