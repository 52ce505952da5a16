-- What may come next in a JSON text.
use Rattle.std.specs.Prelude.{Bool, true, false, Option, Some, None}
use Rattle.json_grammar.specs.declared.expected.Expected.{Expected}
use Rattle.json_grammar.specs.declared.expected.Expected.TheVariants.{Value, ValueOrBracket, Key, KeyOrBrace, Colon, CommaOrBracket}
use Rattle.json_grammar.specs.declared.expected.Expected.TheVariants.{CommaOrBrace, End}
use Rattle.json_grammar.specs.declared.next.Bracket.{Bracket}
use Rattle.json_grammar.specs.declared.next.Bracket.TheVariants.{Array, Object}

-- what may follow a value, by the innermost bracket that is open
abbrev pub after_value : Option Bracket → Expected
after_value (Some Array) = CommaOrBracket
after_value (Some Object) = CommaOrBrace
after_value None = End

-- a value may come
abbrev pub expects_value : Expected → Bool
expects_value Value = true
expects_value ValueOrBracket = true
expects_value _ = false

-- a key may come
abbrev pub is_key : Expected → Bool
is_key Key = true
is_key KeyOrBrace = true
is_key _ = false

-- the bracket of an array may come
abbrev pub closes_array : Expected → Bool
closes_array ValueOrBracket = true
closes_array CommaOrBracket = true
closes_array _ = false

-- the brace of an object may come
abbrev pub closes_object : Expected → Bool
closes_object KeyOrBrace = true
closes_object CommaOrBrace = true
closes_object _ = false

-- what may follow a comma
abbrev pub after_comma : Expected → Option Expected
after_comma CommaOrBracket = Some Value
after_comma CommaOrBrace = Some Key
after_comma _ = None

-- what may follow a colon
abbrev pub after_colon : Expected → Option Expected
after_colon Colon = Some Value
after_colon _ = None
