-- How messages name what was expected.
use Rattle.std.specs.Prelude.{ℕ, List, codes}
use Rattle.toml_grammar.specs.declared.expected.Expected.{Expected}
use Rattle.toml_grammar.specs.declared.expected.Expected.TheVariants.{Line, Key, DotOrEquals, DotOrBracket, DotOrBrackets, Bracket, Value}
use Rattle.toml_grammar.specs.declared.expected.Expected.TheVariants.{ValueOrBracket, KeyOrBrace, CommaOrBracket, CommaOrBrace, LineEnd}
use Rattle.toml_grammar.specs.declared.expected.Expected.TheVariants.{LineFeed, String, KeyString, Comment, OneLine, Quote, Quotes}
use Rattle.toml_grammar.specs.declared.expected.Expected.TheVariants.{Escape, Digit, Scalar, Plain}

-- the name
abbrev pub expected_name : Expected → List ℕ
expected_name Line = codes "a key, a table header or a line end"
expected_name Key = codes "a key"
expected_name DotOrEquals = codes "`.` or `=`"
expected_name DotOrBracket = codes "`.` or `]`"
expected_name DotOrBrackets = codes "`.` or `]]`"
expected_name Bracket = codes "`]` directly after `]`"
expected_name Value = codes "a value"
expected_name ValueOrBracket = codes "a value or `]`"
expected_name KeyOrBrace = codes "a key or `}`"
expected_name CommaOrBracket = codes "`,` or `]`"
expected_name CommaOrBrace = codes "`,` or `}`"
expected_name LineEnd = codes "the end of the line"
expected_name LineFeed = codes "a line feed after the carriage return"
expected_name String = codes "a closed string with valid escapes and no control characters"
expected_name KeyString = codes "a closed string of one line with valid escapes and no control characters"
expected_name Comment = codes "a comment without control characters"
expected_name OneLine = codes "a string of one line"
expected_name Quote = codes "a closing quote"
expected_name Quotes = codes "three closing quotes"
expected_name Escape = codes "a valid escape"
expected_name Digit = codes "a hex digit"
expected_name Scalar = codes "a digit that makes a Unicode character"
expected_name Plain = codes "no control character"
