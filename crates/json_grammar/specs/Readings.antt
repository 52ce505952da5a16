-- Which lexemes may stand after which in a JSON text, by the brackets that are open.
use Rattle.std.specs.Prelude.{ℕ, ◌-◌, ◌==◌, nat_lt, Bool, cond, ◌&&◌, List, [], ◌∷◌, ◌++◌, length, take, slice_get, Option}
use Rattle.std.specs.Prelude.{Some, None, is_some, option_and_then}
use Rattle.json.specs.Ascii as ascii
use Rattle.json.specs.Json.{document}
use Rattle.json.specs.Word.{head}
use Rattle.json_validity.specs.Document.{max_depth}
use Rattle.json_grammar.specs.Next.{after_value, after_comma, after_colon, expects_value, is_key, closes_array, closes_object}
use Rattle.json_grammar.specs.declared.expected.Expected.{Expected}
use Rattle.json_grammar.specs.declared.expected.Expected.TheVariants as want
use Rattle.json_grammar.specs.declared.next.Bracket.{Bracket}
use Rattle.json_grammar.specs.declared.next.Bracket.TheVariants as bracket

-- ---- lexemes

-- the sorts of lexemes
pub data JsonSort : Type 0 where
  open_array : JsonSort
  close_array : JsonSort
  open_object : JsonSort
  close_object : JsonSort
  comma : JsonSort
  colon : JsonSort
  string : JsonSort
  word : JsonSort

-- the sort of a lexeme that begins with this byte
abbrev pub json_sort_by : ℕ → JsonSort
json_sort_by x =
    cond (x == ascii.open_bracket) open_array
    (cond (x == ascii.close_bracket) close_array
    (cond (x == ascii.open_brace) open_object
    (cond (x == ascii.close_brace) close_object
    (cond (x == ascii.comma) comma
    (cond (x == ascii.colon) colon
    (cond (x == ascii.quote) string word))))))

-- the sort of a lexeme
abbrev pub json_sort_of : List ℕ → JsonSort
json_sort_of s = json_sort_by (head s)

-- a string or a word is JSON: it is a text of JSON alone
abbrev pub is_leaf : List ℕ → Bool
is_leaf s = is_some (document s)

-- ---- readings

-- what has been read: the brackets that are open, the outermost first, and what may come next
pub record JsonReading : Type 0 where
  pub open_brackets : List Bracket
  pub next : Expected

-- before the first lexeme
abbrev pub first_json_reading : JsonReading
first_json_reading = record { open_brackets = []; next = want.Value }

-- the innermost bracket that is open
abbrev pub innermost_bracket : List Bracket → Option Bracket
innermost_bracket bs = slice_get bs (length bs - 1)

-- within these brackets, before this
abbrev pub before : List Bracket → Expected → JsonReading
before bs n = record { open_brackets = bs; next = n }

-- after a value within these brackets
abbrev pub after_value_in : List Bracket → JsonReading
after_value_in bs = before bs (after_value (innermost_bracket bs))

-- a bracket opens where a value may come and fewer are open than may be
abbrev pub opened : JsonReading → Bracket → Expected → Option JsonReading
opened r b n =
    cond (expects_value r.next && nat_lt (length r.open_brackets) max_depth) (Some (before (r.open_brackets ++ b ∷ []) n)) None

-- the innermost bracket closes where that fits
abbrev pub closed_bracket : JsonReading → Bool → Option JsonReading
closed_bracket r fits = cond fits (Some (after_value_in (take (length r.open_brackets - 1) r.open_brackets))) None

-- a comma or a colon, after which this may come
abbrev pub passed : JsonReading → Option Expected → Option JsonReading
passed r None = None
passed r (Some n) = Some (before r.open_brackets n)

-- a value that is no list
abbrev pub valued : JsonReading → List ℕ → Option JsonReading
valued r s = cond (expects_value r.next && is_leaf s) (Some (after_value_in r.open_brackets)) None

-- a string is a key where one may come, or a value
abbrev pub keyed : JsonReading → List ℕ → Option JsonReading
keyed r s = cond (is_key r.next) (cond (is_leaf s) (Some (before r.open_brackets want.Colon)) None) (valued r s)

-- the reading after a lexeme of this sort
abbrev pub sort_step : JsonSort → JsonReading → List ℕ → Option JsonReading
sort_step open_array r s = opened r bracket.Array want.ValueOrBracket
sort_step close_array r s = closed_bracket r (closes_array r.next)
sort_step open_object r s = opened r bracket.Object want.KeyOrBrace
sort_step close_object r s = closed_bracket r (closes_object r.next)
sort_step comma r s = passed r (after_comma r.next)
sort_step colon r s = passed r (after_colon r.next)
sort_step string r s = keyed r s
sort_step word r s = valued r s

-- the reading after one lexeme more, if it may stand there
abbrev pub json_step : JsonReading → List ℕ → Option JsonReading
json_step r s = sort_step (json_sort_of s) r s

-- the reading after these lexemes, if each may stand where it does
abbrev pub json_reading_after : JsonReading → List (List ℕ) → Option JsonReading
json_reading_after r [] = Some r
json_reading_after r (s ∷ ss) = option_and_then (λ t. json_reading_after t ss) (json_step r s)
