-- Where a string or a comment stops being one of TOML 1.0.
use Rattle.std.specs.Prelude.{ℕ, ◌+◌, ◌==◌, Bool, true, false, cond, List, [], ◌∷◌}
use Rattle.std.specs.Char.{is_ascii_hexdigit}
use Rattle.toml_lexemes.specs.Bytes.{carriage_return}
use Rattle.toml_grammar.specs.Strings.{string_next}
use Rattle.toml_grammar.specs.declared.word_stop.StringDue.{StringDue}
use Rattle.toml_grammar.specs.declared.word_stop.StringDue.TheVariants as due
use Rattle.toml_grammar.specs.declared.word_stop.StringStop.{StringStop}
use Rattle.toml_grammar.specs.declared.string.StringPlace.{StringPlace}
use Rattle.toml_grammar.specs.declared.string.StringPlace.TheVariants.{Start, Opened, InLine, Returned, Escaped, Folded, Hex, Wrong}

-- the bytes are no beginning of a string
abbrev pub is_wrong : StringPlace → Bool
is_wrong Wrong = true
is_wrong p = false

-- what was to come in place of the byte x, by the place before it; a CR ends the line of a string of one line
abbrev pub due_at : StringPlace → ℕ → StringDue
due_at (Escaped lines) x = due.Escape
due_at Folded x = due.LineEnd
due_at (Returned k) x = due.LineFeed
due_at (Hex lines n value) x = cond (is_ascii_hexdigit x) due.Scalar due.Digit
due_at p x = cond (x == carriage_return) due.Quote due.Plain

-- what was to come where no byte is left
abbrev pub due_after : StringPlace → StringDue
due_after (Opened k) = due.Quote
due_after (InLine k) = due.Quote
due_after (Escaped lines) = cond lines due.Quotes due.Quote
due_after (Hex lines n value) = cond lines due.Quotes due.Quote
due_after p = due.Quotes

-- where the bytes of a string that are left stop being those of one, of which n are before them
abbrev pub stop_from : ℕ → StringPlace → List ℕ → StringStop
stop_from n p [] = record { count = n; due = due_after p }
stop_from n p (x ∷ xs) =
    cond (is_wrong (string_next p x)) (record { count = n; due = due_at p x }) (stop_from (n + 1) (string_next p x) xs)

-- the first byte of a string that makes it no beginning of one, or its end
abbrev pub string_stop : List ℕ → StringStop
string_stop s = stop_from 0 Start s
