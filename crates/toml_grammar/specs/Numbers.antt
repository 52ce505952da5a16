-- The numbers of TOML 1.0, of any size.
use Rattle.std.specs.Prelude.{ℕ, Bool, true, false, not, ◌&&◌, ◌||◌, ◌==◌, nat_lt, if◌then◌else◌, List, [], ◌∷◌, length, take, drop}
use Rattle.std.specs.Prelude.{slice_index, codes}
use Rattle.std.specs.List.{position_or_len}
use Rattle.std.specs.Char.{is_digit}
use Rattle.std.specs.Str.{bytes_eq}
use Rattle.toml_lexemes.specs.Bytes.{dot}
use Rattle.toml_grammar.specs.Bytes.{zero_digit, underscore, first_byte, is_plus_or_minus}

-- what is_digits says of the bytes after others; `after` is whether a digit stands directly before
abbrev pub digits_from : ℕ → Bool → List ℕ → Bool
digits_from radix after [] = after
digits_from radix after (x ∷ xs) =
    if x == underscore then after && digits_from radix false xs else is_digit x radix && digits_from radix true xs

-- one or more digits, between any two of which one underscore may stand, as in zero-prefixable-int = DIGIT *( DIGIT / underscore DIGIT )
abbrev pub is_digits : ℕ → List ℕ → Bool
is_digits radix s = digits_from radix false s

-- without the sign at the front, where one stands
unfoldable pub unsigned : List ℕ → List ℕ
unsigned s = if is_plus_or_minus (first_byte s) then drop 1 s else s

-- unsigned-dec-int: digits, of which the first is no 0 unless it is alone
unfoldable pub is_whole : List ℕ → Bool
is_whole s = is_digits 10 s && ((length s == 1) || not (first_byte s == zero_digit))

-- [ frac ], from its point on: nothing, or the point and digits
unfoldable pub is_fraction : List ℕ → Bool
is_fraction s = (length s == 0) || is_digits 10 (drop 1 s)

-- [ exp ], from its letter on: nothing, or the letter and digits that may have a sign
unfoldable pub is_exponent : List ℕ → Bool
is_exponent s = (length s == 0) || is_digits 10 (unsigned (drop 1 s))

abbrev pub is_dot : ℕ → Bool
is_dot x = x == dot

-- the letter of an exponent: e or E
abbrev pub is_exponent_letter : ℕ → Bool
is_exponent_letter x = (x == 101) || (x == 69)

-- unsigned-dec-int [ frac ], the part of a number before its exponent
unfoldable pub is_mantissa : List ℕ → Bool
is_mantissa s = is_whole (take (position_or_len is_dot s) s) && is_fraction (drop (position_or_len is_dot s) s)

-- dec-int or float without its sign, but inf and nan
unfoldable pub is_decimal : List ℕ → Bool
is_decimal s =
    is_mantissa (take (position_or_len is_exponent_letter s) s) && is_exponent (drop (position_or_len is_exponent_letter s) s)

-- inf or nan
unfoldable pub is_special : List ℕ → Bool
is_special s = bytes_eq s (codes "inf") || bytes_eq s (codes "nan")

-- the radix that the letter of a prefix names: x, o or b; else 0
abbrev pub radix_of : ℕ → ℕ
radix_of x = if x == 120 then 16 else if x == 111 then 8 else if x == 98 then 2 else 0

-- hex-int, oct-int or bin-int: a 0, a letter and digits, with no sign
unfoldable pub is_prefixed : List ℕ → Bool
is_prefixed s =
    ((first_byte s == zero_digit) && nat_lt 0 (radix_of (slice_index s 1))) && is_digits (radix_of (slice_index s 1)) (drop 2 s)

-- integer or float
unfoldable pub is_toml_number : List ℕ → Bool
is_toml_number s = (is_decimal (unsigned s) || is_special (unsigned s)) || is_prefixed s
