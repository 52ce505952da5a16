-- How messages name what was expected.
use Rattle.std.specs.Prelude.{ℕ, List, codes}
use Rattle.json_grammar.specs.declared.expected.Expected.{Expected}
use Rattle.json_grammar.specs.declared.expected.Expected.TheVariants.{Utf8, Value, ValueOrBracket, Key, KeyOrBrace, Colon}
use Rattle.json_grammar.specs.declared.expected.Expected.TheVariants.{CommaOrBracket, CommaOrBrace, End, Quote, Escape, Pair, Control}
use Rattle.json_grammar.specs.declared.expected.Expected.TheVariants.{LessNesting}

-- the name
abbrev pub name_of : Expected → List ℕ
name_of Utf8 = codes "UTF-8"
name_of Value = codes "a value"
name_of ValueOrBracket = codes "a value or `]`"
name_of Key = codes "a key"
name_of KeyOrBrace = codes "a key or `}`"
name_of Colon = codes "`:`"
name_of CommaOrBracket = codes "`,` or `]`"
name_of CommaOrBrace = codes "`,` or `}`"
name_of End = codes "the end of the text"
name_of Quote = codes "a closing quote"
name_of Escape = codes "a valid escape"
name_of Pair = codes "both halves of a surrogate pair"
name_of Control = codes "an escape for a control character"
name_of LessNesting = codes "at most 100,000 levels of nesting"
