-- What a lexeme is, by its first byte.
use Rattle.std.specs.Prelude.{ℕ, List, [], ◌∷◌, cond, ◌==◌}
use Rattle.toml_lexemes.specs.Bytes as byte

-- the sorts of lexemes: a sign, a line end, a comment, a string or a word; or the end of the text, where there is none
pub data Sort : Type 0 where
  open_array : Sort
  close_array : Sort
  open_table : Sort
  close_table : Sort
  comma : Sort
  equals : Sort
  line_end : Sort
  comment : Sort
  string : Sort
  word : Sort
  text_end : Sort

-- the sort of a lexeme that begins with this byte
abbrev pub sort_by : ℕ → Sort
sort_by x =
    cond (x == byte.open_bracket) open_array
    (cond (x == byte.close_bracket) close_array
    (cond (x == byte.open_brace) open_table
    (cond (x == byte.close_brace) close_table
    (cond (x == byte.comma) comma
    (cond (x == byte.equals) equals
    (cond (x == byte.line_feed) line_end
    (cond (x == byte.hash) comment
    (cond (byte.is_quote x) string word))))))))

-- the sort of a lexeme
abbrev pub sort_of : List ℕ → Sort
sort_of [] = text_end
sort_of (x ∷ xs) = sort_by x
