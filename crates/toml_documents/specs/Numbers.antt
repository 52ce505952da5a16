-- Which arrays hold numbers alone.
use Rattle.std.specs.Prelude.{ℕ, Bool, true, false, not, cond, ◌&&◌, ◌||◌, ◌==◌, List, [], ◌∷◌, slice_index}
use Rattle.std.specs.Char.{is_ascii_digit}
use Rattle.toml_grammar.specs.Sorts as sort
use Rattle.toml_grammar.specs.Sorts.{Sort, sort_of}
use Rattle.toml_documents.specs.Kinds.{kind_in}
use Rattle.toml_documents.specs.declared.kind.Kind.{Kind}
use Rattle.toml_documents.specs.declared.kind.Kind.TheVariants.{Statement, Header, Table, Array, Numbers}

-- a digit, a sign, or the first letter of `inf` and `nan`
abbrev pub begins_number : ℕ → Bool
begins_number x = is_ascii_digit x || ((x == 43) || (x == 45) || (x == 105) || (x == 110))

-- a time has a colon after two bytes, and a date a dash after four of which the last is a digit
abbrev pub is_dated : List ℕ → Bool
is_dated s = (slice_index s 2 == 58) || (is_ascii_digit (slice_index s 3) && (slice_index s 4 == 45))

-- of the words that are values, a number
abbrev pub is_number_word : List ℕ → Bool
is_number_word s = begins_number (slice_index s 0) && not (is_dated s)

-- a lexeme of this sort in an array, of which the others are numbers or not
abbrev pub is_among_numbers : Sort → List ℕ → Bool → Bool
is_among_numbers sort.close_array s others = true
is_among_numbers sort.comma s others = others
is_among_numbers sort.line_end s others = others
is_among_numbers sort.word s others = is_number_word s && others
is_among_numbers k s others = false

-- numbers alone, with their commas and line ends, stand in front of the bracket that closes the array
abbrev pub only_number_words : List (List ℕ) → Bool
only_number_words [] = false
only_number_words (s ∷ ss) = is_among_numbers (sort_of s) s (only_number_words ss)

-- what is opened in front of these lexemes
abbrev pub kind_before : Kind → List (List ℕ) → Kind
kind_before Statement ss = Statement
kind_before Header ss = Header
kind_before Table ss = Table
kind_before Array ss = cond (only_number_words ss) Numbers Array
kind_before Numbers ss = Numbers

-- what a bracket of this sort opens where it stands in this, first or not, in front of these lexemes
abbrev pub opened_kind : Kind → Bool → Sort → List (List ℕ) → Kind
opened_kind around first s ss = kind_before (kind_in around first s) ss
