-- How far into the lexeme of a fault a text is TOML, what was expected there, and what stands there.
use Rattle.std.specs.Prelude.{ℕ, ◌-◌, ◌==◌, ◌&&◌, Bool, true, false, List, length, Option, Some, None, slice_index}
use Rattle.std.specs.Borrow.{Bor}
use Rattle.std.specs.List.{prefix_len}
use Rattle.toml_lexemes.specs.declared.lexeme.Lexeme.{Lexeme}
use Rattle.toml_lexemes.specs.declared.lexeme.Lexeme.TheVariants as lexeme
use Rattle.toml_grammar.specs.Bytes.{is_non_eol}
use Rattle.toml_grammar.specs.WordStops.{string_stop}
use Rattle.toml_grammar.specs.declared.word_stop.StringDue.{StringDue}
use Rattle.toml_grammar.specs.declared.word_stop.StringDue.TheVariants as due
use Rattle.toml_grammar.specs.declared.expected.Expected.{Expected}
use Rattle.toml_grammar.specs.declared.expected.Expected.TheVariants as want
use Rattle.toml_grammar.specs.declared.fault.Fault.{Fault}
use Rattle.toml_grammar.specs.declared.stop.Found.{Found}
use Rattle.toml_grammar.specs.declared.stop.Found.TheVariants as found
use Rattle.toml_grammar.specs.declared.stop.Stop.{Stop}

-- what stands where a lexeme, or none, was found
abbrev pub found_of : Option Lexeme → Found
found_of (Some x) = found.Lexeme x
found_of None = found.End

-- ---- in a string

abbrev pub expected_for_due : StringDue → Expected
expected_for_due due.Quote = want.Quote
expected_for_due due.Quotes = want.Quotes
expected_for_due due.Escape = want.Escape
expected_for_due due.Digit = want.Digit
expected_for_due due.Scalar = want.Scalar
expected_for_due due.LineEnd = want.LineEnd
expected_for_due due.LineFeed = want.LineFeed
expected_for_due due.Plain = want.Plain

-- the end of the text, or that of a line
abbrev pub found_end : Bool → Found
found_end true = found.End
found_end false = found.Lexeme lexeme.LineEnd

-- what stands there, at the end of the text or before it
abbrev pub found_in_string : StringDue → Bool → ℕ → Found
found_in_string due.Quote at_end x = found_end at_end
found_in_string due.Quotes at_end x = found_end at_end
found_in_string due.Escape at_end x = found.Escape x
found_in_string d at_end x = found.Letter x

-- an escape begins with the backslash before the byte
abbrev pub before_escape : StringDue → ℕ → ℕ
before_escape due.Escape n = n - 1
before_escape d n = n

-- a string, which is the last lexeme of the text or not
abbrev pub in_string : List ℕ → Bool → Stop
in_string s is_last =
    let stop = string_stop s in
    record {
      within = before_escape stop.due stop.count;
      expected = expected_for_due stop.due;
      found = found_in_string stop.due (is_last && (stop.count == length s)) (slice_index s stop.count);
    }

-- in a key, where no string of several lines may stand
abbrev pub in_key_by : Bor (List ℕ) → Stop → Expected → Stop
in_key_by s stop want.Quotes = record { within = 0; expected = want.OneLine; found = found.Lexeme (lexeme.String s) }
in_key_by s stop e = stop

abbrev pub in_key_string : Bor (List ℕ) → Bool → Stop
in_key_string s is_last = let stop = in_string s.now is_last in in_key_by s stop stop.expected

-- ---- in a comment

-- at its first control character
abbrev pub in_comment : List ℕ → Stop
in_comment s =
    let within = prefix_len is_non_eol s in
    record { within = within; expected = want.Plain; found = found.Letter (slice_index s within) }

-- ---- at a fault

-- at the beginning of a lexeme: a blank is before it, where nothing may be between two brackets
abbrev pub found_where : Expected → Option Lexeme → Found
found_where want.Bracket (Some lexeme.CloseArray) = found.Blank
found_where e x = found_of x

abbrev pub at_beginning : Expected → Option Lexeme → Stop
at_beginning e x = record { within = 0; expected = e; found = found_where e x }

-- where it is by what was expected and what was found
abbrev pub stop_by : Expected → Option Lexeme → Bool → Stop
stop_by want.String (Some (lexeme.String s)) is_last = in_string s.now is_last
stop_by want.KeyString (Some (lexeme.String s)) is_last = in_key_string s is_last
stop_by want.Comment (Some (lexeme.Comment s)) is_last = in_comment s.now
stop_by e x is_last = at_beginning e x

-- where a text stops at a fault, whose lexeme is the last one of the text or not
abbrev pub stop_of : Fault → Bool → Stop
stop_of fault is_last = stop_by fault.expected fault.found is_last
