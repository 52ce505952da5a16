-- The strings of TOML 1.0.
use Rattle.std.specs.Prelude.{ℕ, ◌+◌, ◌-◌, ◌*◌, Bool, true, false, cond, ◌&&◌, ◌||◌, ◌==◌, nat_lt, nat_le, List}
use Rattle.std.specs.List.{fold}
use Rattle.std.specs.Char.{is_digit, digit_value}
use Rattle.toml_lexemes.specs.Bytes.{tab, line_feed, carriage_return, blank_space, quote, apostrophe, backslash}
use Rattle.toml_grammar.specs.declared.string.Quoting.{Quoting}
use Rattle.toml_grammar.specs.declared.string.Quoting.TheVariants.{Basic, Literal}
use Rattle.toml_grammar.specs.declared.string.StringPlace.{StringPlace}
use Rattle.toml_grammar.specs.declared.string.StringPlace.TheVariants.{Start, Opened, Doubled, InLine, EndedLine, InLines, Returned}
use Rattle.toml_grammar.specs.declared.string.StringPlace.TheVariants.{Closing}
use Rattle.toml_grammar.specs.declared.string.StringPlace.TheVariants.{ClosingMore, Closed, ClosedMore, EndedLines, Escaped, Folded, Hex}
use Rattle.toml_grammar.specs.declared.string.StringPlace.TheVariants.{Wrong}
use Rattle.toml_grammar.specs.Bytes.{is_non_eol}

-- the quote that a string is written with
abbrev pub mark_of : Quoting → ℕ
mark_of Basic = quote
mark_of Literal = apostrophe

-- the byte begins an escape: a backslash in a basic string
abbrev pub begins_escape : Quoting → ℕ → Bool
begins_escape Basic x = x == backslash
begins_escape Literal x = false

-- in the text of a string, of one line or of several
abbrev pub in_text : Quoting → Bool → StringPlace
in_text k false = InLine k
in_text k true = InLines k

-- basic-char, literal-char or the quote that ends a string of one line
abbrev pub line_place : Quoting → ℕ → StringPlace
line_place k x =
    cond (x == mark_of k) EndedLine (cond (begins_escape k x) (Escaped false) (cond (is_non_eol x) (InLine k) Wrong))

-- mlb-content, mll-content or a quote, in a string of several lines: a newline is LF, or CR directly before LF
abbrev pub lines_place : Quoting → ℕ → StringPlace
lines_place k x =
    cond (x == mark_of k) (Closing k)
    (cond (begins_escape k x) (Escaped true)
    (cond (is_non_eol x || (x == line_feed)) (InLines k)
    (cond (x == carriage_return) (Returned k) Wrong)))

-- escape-seq-char of one letter: b t n f r " \
abbrev pub is_escape_letter : ℕ → Bool
is_escape_letter x =
    (x == 98) || (x == 116) || (x == 110) || (x == 102) || (x == 114) || (x == quote) || (x == backslash)

-- mlb-escaped-nl, after its backslash: blanks, and then a newline
abbrev pub folded_place : ℕ → StringPlace
folded_place x =
    cond ((x == blank_space) || (x == tab)) Folded
    (cond (x == line_feed) (InLines Basic)
    (cond (x == carriage_return) (Returned Basic) Wrong))

-- what follows a backslash; u and U begin a character in 4 or 8 hex digits
abbrev pub escaped_place : Bool → ℕ → StringPlace
escaped_place lines x =
    cond (is_escape_letter x) (in_text Basic lines)
    (cond (x == 117) (Hex lines 4 0)
    (cond (x == 85) (Hex lines 8 0)
    (cond lines (folded_place x) Wrong)))

-- a Unicode scalar value: a code up to 0x10FFFF that is no surrogate
abbrev pub is_scalar : ℕ → Bool
is_scalar c = nat_lt c 0xD800 || (nat_le 0xE000 c && nat_le c 0x10_FFFF)

-- a hex digit has come, and the digits so far write this; before it so many were due
abbrev pub after_hex : Bool → ℕ → ℕ → StringPlace
after_hex lines due value = cond (nat_lt 1 due) (Hex lines (due - 1) value) (cond (is_scalar value) (in_text Basic lines) Wrong)

-- where hex digits are due; a value past all scalar values stays past them
abbrev pub hex_place : Bool → ℕ → ℕ → ℕ → StringPlace
hex_place lines due value x =
    cond (is_digit x 16 && nat_le value 0x10_FFFF) (after_hex lines due (16 * value + digit_value x)) Wrong

-- the place after one byte more
abbrev pub string_next : StringPlace → ℕ → StringPlace
string_next Start x = cond (x == quote) (Opened Basic) (cond (x == apostrophe) (Opened Literal) Wrong)
string_next (Opened k) x = cond (x == mark_of k) (Doubled k) (line_place k x)
string_next (Doubled k) x = cond (x == mark_of k) (InLines k) Wrong
string_next (InLine k) x = line_place k x
string_next EndedLine x = Wrong
string_next (InLines k) x = lines_place k x
string_next (Returned k) x = cond (x == line_feed) (InLines k) Wrong
string_next (Closing k) x = cond (x == mark_of k) (ClosingMore k) (lines_place k x)
string_next (ClosingMore k) x = cond (x == mark_of k) (Closed k) (lines_place k x)
string_next (Closed k) x = cond (x == mark_of k) (ClosedMore k) Wrong
string_next (ClosedMore k) x = cond (x == mark_of k) EndedLines Wrong
string_next EndedLines x = Wrong
string_next (Escaped lines) x = escaped_place lines x
string_next Folded x = folded_place x
string_next (Hex lines due value) x = hex_place lines due value x
string_next Wrong x = Wrong

-- the place after these bytes
abbrev pub string_place : List ℕ → StringPlace
string_place s = fold string_next Start s

-- a string of one line may end here
abbrev pub ends_line_string : StringPlace → Bool
ends_line_string (Doubled k) = true
ends_line_string EndedLine = true
ends_line_string _ = false

-- a string of several lines may end here: up to two quotes stand before the three that close it
abbrev pub ends_lines_string : StringPlace → Bool
ends_lines_string (Closed k) = true
ends_lines_string (ClosedMore k) = true
ends_lines_string EndedLines = true
ends_lines_string _ = false

-- basic-string or literal-string, with its quotes
unfoldable pub is_key_string : List ℕ → Bool
is_key_string s = ends_line_string (string_place s)

-- string, of any of the four kinds, with its quotes
unfoldable pub is_string : List ℕ → Bool
is_string s = is_key_string s || ends_lines_string (string_place s)
