-- JSON, as one of the languages whose lexers read a text from the left.
use Rattle.json.specs.Lex.{Class, quote, backslash, operator, space, other, class}
use Rattle.json.specs.Lex as json
use Rattle.json.specs.Word.{is_space}
use Rattle.text_lexemes.specs.Languages.{First, alone, begins, Turn, goes_on, ends, stops, LexerMode, between, within, Language}

-- where in a lexeme a byte stands
pub data InJson : Type 0 where
  in_word : InJson
  in_string : InJson
  in_escape : InJson

-- what a byte of this class, which is no space, is between two lexemes
abbrev pub first_json : Class → First InJson
first_json quote = begins in_string
first_json operator = alone
first_json c = begins in_word

-- what a byte of this class is in a lexeme
abbrev pub turn_json : InJson → Class → Turn InJson
turn_json in_word operator = stops
turn_json in_word space = stops
turn_json in_word c = goes_on in_word
turn_json in_string quote = ends
turn_json in_string backslash = goes_on in_escape
turn_json in_string c = goes_on in_string
turn_json in_escape c = goes_on in_string

abbrev pub json_language : Language InJson
json_language = record { is_blank = is_space; first = λ x. first_json (class x); turn = λ i x rest. turn_json i (class x) }

-- the same mode
abbrev pub json_mode : json.Mode → LexerMode InJson
json_mode json.between = between
json_mode json.in_word = within in_word
json_mode json.in_string = within in_string
json_mode json.in_escape = within in_escape
