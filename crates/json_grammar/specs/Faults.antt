-- Where a text stops being JSON, and what was expected there.
use Rattle.std.specs.Prelude.{◌≡◌, ◌≢◌, ◌⊎◌, ℕ, ◌+◌, ◌≤◌, ◌==◌, Bool, true, false, cond, ◌&&◌, ◌||◌, List, [], ◌∷◌, ◌++◌, length, take}
use Rattle.std.specs.Prelude.{Some, None}
use Rattle.std.specs.Char.{is_ascii_alphanumeric}
use Rattle.std.specs.List.{prefix_len}
use Rattle.std.specs.Str.{IsValidUpTo}
use Rattle.text_lexemes.specs.Places.{IsPlace}
use Rattle.text_lexemes.specs.declared.place.Place.{Place}
use Rattle.json.specs.Ascii as ascii
use Rattle.json_lexemes.specs.SpacedLexemes.{Spaced, lexemes_of, put_together, spaced_lexemes}
use Rattle.json_grammar.specs.Next.{after_value, expects_value, is_key}
use Rattle.json_grammar.specs.Readings.{JsonReading, first_json_reading, innermost_bracket, is_leaf, json_step}
use Rattle.json_grammar.specs.Readings.{json_reading_after, JsonSort, json_sort_of}
use Rattle.json_grammar.specs.Readings.{open_array, close_array, open_object, close_object, comma, colon, string, word}
use Rattle.json_grammar.specs.Strings.{IsStringFault}
use Rattle.json_grammar.specs.declared.expected.Expected.{Expected}
use Rattle.json_grammar.specs.declared.expected.Expected.TheVariants as want

-- a letter, a digit, or what else numbers have
abbrev pub is_plain : ℕ → Bool
is_plain x = is_ascii_alphanumeric x || (x == ascii.plus) || (x == ascii.minus) || (x == ascii.dot) || (x == 95)

-- the beginning of a word that is such bytes
abbrev pub plain_front : List ℕ → List ℕ
plain_front s = take (prefix_len is_plain s) s

-- the word begins with a value, where one may come, and goes on
abbrev pub begins_value : JsonReading → List ℕ → Bool
begins_value r s = expects_value r.next && is_leaf (plain_front s)

-- what was expected in place of a bracket that opens
abbrev pub expected_for_bracket : JsonReading → Expected
expected_for_bracket r = cond (expects_value r.next) want.LessNesting r.next

-- a string may come, as a value or as a key
abbrev pub expects_string : Expected → Bool
expects_string n = expects_value n || is_key n

-- What was expected where a lexeme of this sort may not stand, at its beginning.
abbrev pub IsExpectedBy : JsonSort → JsonReading → Expected → Type 0
IsExpectedBy open_array r e = e ≡ expected_for_bracket r
IsExpectedBy close_array r e = e ≡ r.next
IsExpectedBy open_object r e = e ≡ expected_for_bracket r
IsExpectedBy close_object r e = e ≡ r.next
IsExpectedBy comma r e = e ≡ r.next
IsExpectedBy colon r e = e ≡ r.next
IsExpectedBy string r e = e ≡ r.next
IsExpectedBy word r e = e ≡ r.next

-- ---- how far into a lexeme the text is JSON, and what was expected there

-- where a string stops being one of JSON, if one may come, else at its beginning
pub record IsFaultInString (r : JsonReading) (s : List ℕ) (d : ℕ) (e : Expected) : Type 0 where
  pub inside : expects_string r.next ≡ true → IsStringFault s d e
  pub other : expects_string r.next ≡ false → (d ≡ 0) × (e ≡ r.next)

-- after the value that a word begins with, if it does
abbrev pub IsFaultInWord : JsonReading → List ℕ → ℕ → Expected → Type 0
IsFaultInWord r s d e =
    (d ≡ cond (begins_value r s) (length (plain_front s)) 0)
    × (e ≡ cond (begins_value r s) (after_value (innermost_bracket r.open_brackets)) r.next)

-- so far into a lexeme of this sort
abbrev pub IsFaultBy : JsonSort → JsonReading → List ℕ → ℕ → Expected → Type 0
IsFaultBy open_array r s d e = (d ≡ 0) × (e ≡ expected_for_bracket r)
IsFaultBy close_array r s d e = (d ≡ 0) × (e ≡ r.next)
IsFaultBy open_object r s d e = (d ≡ 0) × (e ≡ expected_for_bracket r)
IsFaultBy close_object r s d e = (d ≡ 0) × (e ≡ r.next)
IsFaultBy comma r s d e = (d ≡ 0) × (e ≡ r.next)
IsFaultBy colon r s d e = (d ≡ 0) × (e ≡ r.next)
IsFaultBy string r s d e = IsFaultInString r s d e
IsFaultBy word r s d e = IsFaultInWord r s d e

-- the text stops so far into what begins at a place
abbrev pub IsStopFrom : ℕ → ℕ → (ℕ → Type 0) → Type 0
IsStopFrom from offset IsWithin = (within : ℕ) × (offset ≡ from + within) × IsWithin within

-- ---- texts

-- the lexemes before these may stand where they do, and lead to the reading
pub record ReachesJson (text : List ℕ) (rest : List Spaced) (reading : JsonReading) : Type 0 where
  pub front : List Spaced
  pub cut : spaced_lexemes text ≡ front ++ rest
  pub reads : json_reading_after first_json_reading (lexemes_of front) ≡ Some reading

-- A lexeme may not stand where it does. The text stops being JSON there, or so many bytes into it.
pub record StopsAtLexeme (text : List ℕ) (offset : ℕ) (expected : Expected) : Type 0 where
  pub found : Spaced
  pub later : List Spaced
  pub reading : JsonReading
  pub reached : ReachesJson text (found ∷ later) reading
  pub stops : json_step reading found.lexeme ≡ None
  pub within : ℕ
  pub fault : IsFaultBy (json_sort_of found.lexeme) reading found.lexeme within expected
  pub place : offset ≡ length (put_together reached.front) + length found.gap + within

-- All lexemes may stand where they do, and the text ends too soon.
pub record StopsAtEnd (text : List ℕ) (offset : ℕ) (expected : Expected) : Type 0 where
  pub reading : JsonReading
  pub reached : ReachesJson text [] reading
  pub unfinished : reading.next ≢ want.End
  pub expects : expected ≡ reading.next
  pub place : offset ≡ length text

-- the text stops being JSON after so many bytes, where this was expected
abbrev pub StopsBeingJson : List ℕ → ℕ → Expected → Type 0
StopsBeingJson text offset expected = StopsAtLexeme text offset expected ⊎ StopsAtEnd text offset expected

-- The place and what was expected there are those of a text that stops being JSON.
pub record NamesJsonStop (text : List ℕ) (place : Place) (expected : Expected) : Type 0 where
  pub offset : ℕ
  pub stop : StopsBeingJson text offset expected
  pub at : IsPlace (take offset text) place

-- The place is that of the first byte that is not UTF-8.
pub record IsEndOfUtf8 (bytes : List ℕ) (place : Place) : Type 0 where
  pub offset : ℕ
  pub longest : IsValidUpTo bytes offset
  pub at : IsPlace (take offset bytes) place

-- the bracket that opens an array, or an object
abbrev pub IsOpening : List ℕ → Type 0
IsOpening s = (s ≡ ascii.open_bracket ∷ []) ⊎ (s ≡ ascii.open_brace ∷ [])

-- A bracket opens a list at this place, where so many are open at least.
pub record OpensWithin (most : ℕ) (text : List ℕ) (place : Place) : Type 0 where
  pub found : Spaced
  pub later : List Spaced
  pub reading : JsonReading
  pub reached : ReachesJson text (found ∷ later) reading
  pub opens : IsOpening found.lexeme
  pub deep : most ≤ length reading.open_brackets
  pub at : IsPlace (take (length (put_together reached.front) + length found.gap) text) place
