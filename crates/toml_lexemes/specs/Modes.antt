-- What a clause sees of a mode.
use Rattle.std.specs.Prelude.{Bool, true, false}
use Rattle.text_lexemes.specs.Languages as language
use Rattle.toml_lexemes.specs.Lexemes as spec
use Rattle.toml_lexemes.specs.declared.mode.StringKind.{StringKind}
use Rattle.toml_lexemes.specs.declared.mode.StringKind.TheVariants.{Basic, Literal}
use Rattle.toml_lexemes.specs.declared.mode.LexerMode.{LexerMode}
use Rattle.toml_lexemes.specs.declared.mode.LexerMode.TheVariants.{InWord, InComment, Opened, Doubled, InLine, InLineEscape, InLines}
use Rattle.toml_lexemes.specs.declared.mode.LexerMode.TheVariants.{InLinesEscape, Closing, ClosingMore, Closed, ClosedMore}
use Rattle.toml_lexemes.specs.declared.mode.ByteTurn.{ByteTurn}
use Rattle.toml_lexemes.specs.declared.mode.ByteTurn.TheVariants.{GoesOn, Ends, Stops}

-- the kind of string that the code means
abbrev pub kind_of : StringKind → spec.StringKind
kind_of Basic = spec.basic
kind_of Literal = spec.literal

-- the place in a lexeme that the code's mode means
abbrev pub inner_of : LexerMode → spec.Inner
inner_of InWord = spec.in_word
inner_of InComment = spec.in_comment
inner_of (Opened k) = spec.opened (kind_of k)
inner_of (Doubled k) = spec.doubled (kind_of k)
inner_of (InLine k) = spec.in_line (kind_of k)
inner_of InLineEscape = spec.in_line_escape
inner_of (InLines k) = spec.in_lines (kind_of k)
inner_of InLinesEscape = spec.in_lines_escape
inner_of (Closing k) = spec.closing (kind_of k)
inner_of (ClosingMore k) = spec.closing_more (kind_of k)
inner_of (Closed k) = spec.closed (kind_of k)
inner_of (ClosedMore k) = spec.closed_more (kind_of k)

-- the turn that the code means
abbrev pub turn_of : ByteTurn → language.Turn spec.Inner
turn_of (GoesOn m) = language.goes_on (inner_of m)
turn_of Ends = language.ends
turn_of Stops = language.stops

-- a mode in which the lexeme may end before any byte: the byte before it is a quote
abbrev pub is_after_quote : spec.Inner → Bool
is_after_quote spec.in_word = false
is_after_quote spec.in_comment = false
is_after_quote (spec.opened k) = false
is_after_quote (spec.doubled k) = true
is_after_quote (spec.in_line k) = false
is_after_quote spec.in_line_escape = false
is_after_quote (spec.in_lines k) = false
is_after_quote spec.in_lines_escape = false
is_after_quote (spec.closing k) = false
is_after_quote (spec.closing_more k) = false
is_after_quote (spec.closed k) = true
is_after_quote (spec.closed_more k) = true
