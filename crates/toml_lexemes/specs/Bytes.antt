-- The bytes that TOML gives a meaning.
use Rattle.std.specs.Prelude.{ℕ, List, Bool, ◌||◌, ◌==◌, ◌-◌, length, get_or}

abbrev pub tab : ℕ
tab = 9

abbrev pub line_feed : ℕ
line_feed = 10

abbrev pub carriage_return : ℕ
carriage_return = 13

abbrev pub blank_space : ℕ
blank_space = 32

abbrev pub quote : ℕ
quote = 34

abbrev pub hash : ℕ
hash = 35

abbrev pub apostrophe : ℕ
apostrophe = 39

abbrev pub comma : ℕ
comma = 44

abbrev pub dot : ℕ
dot = 46

abbrev pub equals : ℕ
equals = 61

abbrev pub open_bracket : ℕ
open_bracket = 91

abbrev pub backslash : ℕ
backslash = 92

abbrev pub close_bracket : ℕ
close_bracket = 93

abbrev pub open_brace : ℕ
open_brace = 123

abbrev pub close_brace : ℕ
close_brace = 125

-- a sign: `[`, `]`, `{`, `}`, `,` or `=`
abbrev pub is_sign : ℕ → Bool
is_sign c =
    (c == open_bracket) || (c == close_bracket) || (c == open_brace) || (c == close_brace) || (c == comma) || (c == equals)

-- a blank: a space, a tab or CR
abbrev pub is_blank : ℕ → Bool
is_blank c = (c == blank_space) || (c == tab) || (c == carriage_return)

-- a quote of either kind
abbrev pub is_quote : ℕ → Bool
is_quote c = (c == quote) || (c == apostrophe)

-- what ends a word: a sign, a blank, a line end, a quote or the beginning of a comment
abbrev pub ends_word : ℕ → Bool
ends_word c = is_sign c || is_blank c || is_quote c || (c == line_feed) || (c == hash)

-- the first byte, or a space where there is none
abbrev pub head : List ℕ → ℕ
head t = get_or t 0 blank_space

-- the last byte is a dot
abbrev pub ends_with_dot : List ℕ → Bool
ends_with_dot t = get_or t (length t - 1) blank_space == dot
