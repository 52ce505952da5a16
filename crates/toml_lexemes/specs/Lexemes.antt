-- The lexemes of a TOML text: its signs and line ends, its comments, its strings with their quotes, and its words.
use Rattle.std.specs.Prelude.{ℕ, List, [], ◌∷◌, Bool, false, cond, ◌&&◌, ◌||◌, ◌==◌}
use Rattle.text_lexemes.specs.Languages.{First, alone, begins, Turn, goes_on, ends, stops, LexerMode}
use Rattle.text_lexemes.specs.Languages.{Language, cut, lexemes_in}
use Rattle.toml_lexemes.specs.Bytes.{line_feed, carriage_return, quote, hash, apostrophe, backslash, is_sign, is_blank, ends_word}

-- the kinds of string: in a basic one a backslash escapes the byte after it
pub data StringKind : Type 0 where
  basic : StringKind
  literal : StringKind

-- the quote that a string of this kind is written with
abbrev pub quote_mark : StringKind → ℕ
quote_mark basic = quote
quote_mark literal = apostrophe

-- whether the byte escapes the next one in a string of this kind
abbrev pub escapes : StringKind → ℕ → Bool
escapes basic x = x == backslash
escapes literal x = false

-- where in a lexeme a byte stands
pub data Inner : Type 0 where
  in_word : Inner
  in_comment : Inner
  -- after the first quote of a string
  opened : StringKind → Inner
  -- after two quotes, which are an empty string or the beginning of a string of several lines
  doubled : StringKind → Inner
  -- in a string of one line, and after its backslash
  in_line : StringKind → Inner
  in_line_escape : Inner
  -- in a string of several lines, and after its backslash
  in_lines : StringKind → Inner
  in_lines_escape : Inner
  -- in a string of several lines, after one quote and after two
  closing : StringKind → Inner
  closing_more : StringKind → Inner
  -- after the three quotes that close a string of several lines, and after one more
  closed : StringKind → Inner
  closed_more : StringKind → Inner

-- what the byte x, which is no blank, is between two lexemes
abbrev pub first : ℕ → First Inner
first x =
    cond (is_sign x || (x == line_feed)) alone
    (cond (x == hash) (begins in_comment)
    (cond (x == quote) (begins (opened basic))
    (cond (x == apostrophe) (begins (opened literal)) (begins in_word))))

-- what the byte x is in a string of one line
abbrev pub line_turn : StringKind → ℕ → Turn Inner
line_turn k x =
    cond (x == line_feed) stops
    (cond (x == quote_mark k) ends
    (cond (escapes k x) (goes_on in_line_escape) (goes_on (in_line k))))

-- what the byte x is in a string of several lines
abbrev pub lines_turn : StringKind → ℕ → Turn Inner
lines_turn k x = cond (x == quote_mark k) (goes_on (closing k)) (cond (escapes k x) (goes_on in_lines_escape) (goes_on (in_lines k)))

-- what the byte x is in a lexeme; `before` says whether it stands directly before a line feed
abbrev pub turn : Inner → ℕ → Bool → Turn Inner
turn in_word x before = cond (ends_word x) stops (goes_on in_word)
turn in_comment x before = cond ((x == line_feed) || ((x == carriage_return) && before)) stops (goes_on in_comment)
turn (opened k) x before = cond (x == quote_mark k) (goes_on (doubled k)) (line_turn k x)
turn (doubled k) x before = cond (x == quote_mark k) (goes_on (in_lines k)) stops
turn (in_line k) x before = line_turn k x
turn in_line_escape x before = cond (x == line_feed) stops (goes_on (in_line basic))
turn (in_lines k) x before = lines_turn k x
turn in_lines_escape x before = goes_on (in_lines basic)
turn (closing k) x before = cond (x == quote_mark k) (goes_on (closing_more k)) (lines_turn k x)
turn (closing_more k) x before = cond (x == quote_mark k) (goes_on (closed k)) (lines_turn k x)
turn (closed k) x before = cond (x == quote_mark k) (goes_on (closed_more k)) stops
turn (closed_more k) x before = cond (x == quote_mark k) ends stops

-- whether a line feed comes first
abbrev pub begins_line_feed : List ℕ → Bool
begins_line_feed [] = false
begins_line_feed (x ∷ xs) = x == line_feed

-- TOML, as its lexers read it
abbrev pub toml : Language Inner
toml = record { is_blank = is_blank; first = first; turn = λ i x rest. turn i x (begins_line_feed rest) }

-- what is left of the lexeme that is being read, where one is, and then the lexemes after it
abbrev pub cut_toml : LexerMode Inner → List ℕ → List (List ℕ)
cut_toml m bytes = cut toml m bytes

-- the lexemes of a text, in their order
abbrev pub toml_lexemes_of : List ℕ → List (List ℕ)
toml_lexemes_of text = lexemes_in toml text
