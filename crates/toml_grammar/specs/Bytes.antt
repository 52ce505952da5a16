-- The bytes of the words of TOML 1.0.
use Rattle.std.specs.Prelude.{ℕ, Bool, not, ◌&&◌, ◌||◌, ◌==◌, nat_le, List, slice_index}
use Rattle.std.specs.Char.{is_ascii_alphanumeric}
use Rattle.toml_lexemes.specs.Bytes.{tab}

abbrev pub plus : ℕ
plus = 43

abbrev pub dash : ℕ
dash = 45

abbrev pub zero_digit : ℕ
zero_digit = 48

abbrev pub underscore : ℕ
underscore = 95

abbrev pub delete : ℕ
delete = 127

-- the first byte, or 0 where there is none
abbrev pub first_byte : List ℕ → ℕ
first_byte s = slice_index s 0

-- unquoted-key: A-Z a-z 0-9 - _
abbrev pub is_bare : ℕ → Bool
is_bare x = is_ascii_alphanumeric x || (x == dash) || (x == underscore)

-- plus or minus
abbrev pub is_plus_or_minus : ℕ → Bool
is_plus_or_minus x = (x == plus) || (x == dash)

-- non-eol: the tab, or no control character; a byte from 128 on is a part of a character past ASCII
abbrev pub is_non_eol : ℕ → Bool
is_non_eol x = (x == tab) || (nat_le 32 x && not (x == delete))
