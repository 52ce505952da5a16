-- The dates and times of TOML 1.0.
use Rattle.std.specs.Prelude.{ℕ, ◌+◌, ◌-◌, ◌*◌, ◌%◌, Bool, not, ◌&&◌, ◌||◌, ◌==◌, nat_lt, nat_le, if◌then◌else◌, List, length, take, drop}
use Rattle.std.specs.Prelude.{slice_index, codes}
use Rattle.std.specs.List.{prefix_len, list_all, zip}
use Rattle.std.specs.Char.{is_ascii_digit}
use Rattle.toml_lexemes.specs.Bytes.{dot}
use Rattle.toml_grammar.specs.Bytes.{zero_digit, first_byte, is_plus_or_minus}

-- a byte is what a form has at its place: any digit for 0, and else that byte
abbrev pub fits_form : ℕ → ℕ → Bool
fits_form f x = if f == zero_digit then is_ascii_digit x else x == f

-- the bytes have this form
unfoldable pub has_form : List ℕ → List ℕ → Bool
has_form form s = (length s == length form) && list_all (λ p. fits_form p.0 p.1) (zip form s)

-- the number that the two digits at a place write
abbrev pub two_digits : List ℕ → ℕ → ℕ
two_digits s i = 10 * (slice_index s i - 48) + (slice_index s (i + 1) - 48)

-- a year of 366 days
abbrev pub is_leap_year : ℕ → Bool
is_leap_year y = ((y % 4 == 0) && not (y % 100 == 0)) || (y % 400 == 0)

-- how many days the month of a year has
abbrev pub days_in : ℕ → ℕ → ℕ
days_in year month =
    if month == 2 then (if is_leap_year year then 29 else 28)
    else if (((month == 4) || (month == 6)) || (month == 9)) || (month == 11) then 30
    else 31

-- the year and the month have the day
abbrev pub has_day : ℕ → ℕ → ℕ → Bool
has_day year month day = ((nat_le 1 month && nat_le month 12) && nat_le 1 day) && nat_le day (days_in year month)

-- local-date = full-date, a day that is: date-fullyear "-" date-month "-" date-mday
unfoldable pub is_date : List ℕ → Bool
is_date s = has_form (codes "0000-00-00") s && has_day (100 * two_digits s 0 + two_digits s 2) (two_digits s 5) (two_digits s 8)

-- the hours and minutes of a day, at the front
unfoldable pub has_hours : List ℕ → Bool
has_hours s = nat_le (two_digits s 0) 23 && nat_le (two_digits s 3) 59

-- time-hour ":" time-minute ":" time-second, where a second is at most 59: there is none for a leap second
unfoldable pub is_clock : List ℕ → Bool
is_clock s = (has_form (codes "00:00:00") s && has_hours s) && nat_le (two_digits s 6) 59

-- after time-secfrac = "." 1*DIGIT, where it stands at the front
unfoldable pub after_fraction : List ℕ → List ℕ
after_fraction s =
    let digits = drop 1 s in
    let count = prefix_len is_ascii_digit digits in
    if (first_byte s == dot) && nat_lt 0 count then drop count digits else s

-- time-numoffset = ( "+" / "-" ) time-hour ":" time-minute
unfoldable pub is_numeric_offset : List ℕ → Bool
is_numeric_offset s = (is_plus_or_minus (first_byte s) && has_form (codes "00:00") (drop 1 s)) && has_hours (drop 1 s)

-- time-offset: Z, z or a numeric one
unfoldable pub is_offset : List ℕ → Bool
is_offset s = ((length s == 1) && ((first_byte s == 90) || (first_byte s == 122))) || is_numeric_offset s

-- what follows the seconds of a time and their fraction
abbrev pub after_seconds : List ℕ → List ℕ
after_seconds s = after_fraction (drop 8 s)

-- local-time = partial-time
unfoldable pub is_local_time : List ℕ → Bool
is_local_time s = is_clock (take 8 s) && (length (after_seconds s) == 0)

-- partial-time or full-time: with an offset or without
unfoldable pub is_time : List ℕ → Bool
is_time s = is_clock (take 8 s) && ((length (after_seconds s) == 0) || is_offset (after_seconds s))

-- offset-date-time or local-date-time with the delimiter T or t
unfoldable pub is_date_time : List ℕ → Bool
is_date_time s = (is_date (take 10 s) && ((slice_index s 10 == 84) || (slice_index s 10 == 116))) && is_time (drop 11 s)
