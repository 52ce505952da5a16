-- Where a string stops being one of JSON, and what was expected there.
use Rattle.std.specs.Prelude.{◌≡◌, ◌⊎◌, ◌↔◌, ℕ, ◌+◌, ◌<◌, ◌≤◌, ◌==◌, nat_lt, Bool, true, false, cond, ◌&&◌, ◌||◌, List, []}
use Rattle.std.specs.Prelude.{◌∷◌, ◌++◌, length, take, drop, slice_index_or, Option, None, is_some}
use Rattle.std.specs.Bool.{MatchBool}
use Rattle.json.specs.Ascii as ascii
use Rattle.json.specs.Text.{Within, plain, code_unit, content, prepend}
use Rattle.json.specs.Word.{head}
use Rattle.json_grammar.specs.Readings.{is_leaf}
use Rattle.json_grammar.specs.declared.expected.Expected.{Expected}
use Rattle.json_grammar.specs.declared.expected.Expected.TheVariants as want

-- ---- the place

-- its first n bytes, closed with a quote, are a string of JSON
abbrev pub is_closed_at : List ℕ → ℕ → Bool
is_closed_at s n = is_leaf (take n s ++ ascii.quote ∷ [])

-- these are so many, and no more are
pub record IsLongestClosed (s : List ℕ) (n : ℕ) : Type 0 where
  pub within : n ≤ length s
  pub closed : is_closed_at s n ≡ true
  pub longest : (k : ℕ) → n < k → k ≤ length s → is_closed_at s k ≡ false

-- its bytes, some more and a quote are a string of JSON
abbrev pub BeginsString : List ℕ → Type 0
BeginsString s = (more : List ℕ) × (is_leaf ((s ++ more) ++ ascii.quote ∷ []) ≡ true)

-- ---- what was expected

-- the code unit of an escape by number, whose digits these bytes begin with
abbrev pub first_unit : List ℕ → Option ℕ
first_unit [] = None
first_unit (a ∷ []) = None
first_unit (a ∷ b ∷ []) = None
first_unit (a ∷ b ∷ c ∷ []) = None
first_unit (a ∷ b ∷ c ∷ d ∷ rest) = code_unit a b c d

-- In place of an escape, by what follows the backslash. An escape by number is refused as half of a pair.
abbrev pub expected_for_escape : List ℕ → Expected
expected_for_escape [] = want.Escape
expected_for_escape (x ∷ rest) = cond ((x == ascii.lower_u) && is_some (first_unit rest)) want.Pair want.Escape

-- In place of what a string has next: at its end and at the end of a line the quote. Any other byte below a space is escaped.
abbrev pub expected_in_string : List ℕ → Expected
expected_in_string [] = want.Quote
expected_in_string (x ∷ rest) =
    cond (x == ascii.backslash) (expected_for_escape rest)
    (cond ((x == ascii.line_feed) || (x == ascii.carriage_return)) want.Quote (cond (nat_lt x ascii.space) want.Control want.Quote))

-- ---- the stop

-- The string stops being one of JSON after so many bytes: where it begins one, after all, and a quote was expected; else after
-- the most that a quote closes.
pub record IsStringFault (s : List ℕ) (d : ℕ) (e : Expected) : Type 0 where
  pub allowed : ℕ
  pub longest : IsLongestClosed s allowed
  pub goes_on : Bool
  pub begins : (goes_on ≡ true) ↔ BeginsString s
  pub place : d ≡ cond goes_on (length s) allowed
  pub expects : e ≡ cond goes_on want.Quote (expected_in_string (drop allowed s))

-- ---- parts of a string, for the code

-- the first n of these bytes stand for others there, whatever follows them
pub record Reads (w : Within) (bytes : List ℕ) (n : ℕ) : Type 0 where
  pub within : n ≤ length bytes
  pub says : List ℕ
  pub reads : (rest : List ℕ) → content w (take n bytes ++ rest) ≡ prepend says (content plain rest)

-- with whatever of these bytes a string goes on there, a quote after them closes none
abbrev pub NeverCloses : Within → List ℕ → Type 0
NeverCloses w bytes = (front rest : List ℕ) → bytes ≡ front ++ rest → content w (front ++ ascii.quote ∷ []) ≡ None

-- a part of a string, which has some byte
pub record IsStringPart (bytes : List ℕ) (n : ℕ) : Type 0 where
  pub some : 0 < n
  pub reads : Reads plain bytes n

-- a quote ends the string here, or none closes it once it goes on with the first of these bytes
abbrev pub HasNoPart : List ℕ → Type 0
HasNoPart bytes =
    (head bytes ≡ ascii.quote)
    ⊎ ((x : ℕ) (front rest : List ℕ) → bytes ≡ x ∷ (front ++ rest) → content plain (x ∷ (front ++ ascii.quote ∷ [])) ≡ None)

-- the first n bytes of a string are its quote and parts of it, and no further part comes
pub record HasParts (s : List ℕ) (n : ℕ) : Type 0 where
  pub content : List ℕ
  pub count : ℕ
  pub is : s ≡ ascii.quote ∷ content
  pub len : n ≡ 1 + count
  pub reads : Reads plain content count
  pub last : HasNoPart (drop count content)

-- ---- the end of a text within a string, for the code

-- the code unit of four digits, of which these are the first: the first and the second are these where they are missing, others 0
abbrev pub padded_unit : List ℕ → ℕ → ℕ → Option ℕ
padded_unit s first second =
    code_unit (slice_index_or s 0 first) (slice_index_or s 1 second) (slice_index_or s 2 ascii.zero) (slice_index_or s 3 ascii.zero)

-- some more bytes make of these what stands for others there
abbrev pub GoesOn : Within → List ℕ → Type 0
GoesOn w bytes = (more : List ℕ) × Reads w (bytes ++ more) (length (bytes ++ more))

-- Whether they do. Where they do not, and a quote closes no string with these bytes, it closes none whatever comes after them.
abbrev pub TellsOfMore : Within → List ℕ → Bool → Type 0
TellsOfMore w bytes goes_on = MatchBool goes_on (GoesOn w bytes) (NeverCloses w bytes → (more : List ℕ) → NeverCloses w (bytes ++ more))

-- Whether a string goes on after these bytes, with which no part of it begins. Where it does not, none begins whatever comes after.
abbrev pub TellsOfString : List ℕ → Bool → Type 0
TellsOfString bytes goes_on =
    MatchBool goes_on (GoesOn plain bytes)
    (HasNoPart bytes → (0 < length bytes) × ((more : List ℕ) → HasNoPart (bytes ++ more)))
