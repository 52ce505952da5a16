-- The words that are values.
use Rattle.std.specs.Prelude.{ℕ, Bool, ◌||◌, List, codes}
use Rattle.std.specs.Str.{bytes_eq}
use Rattle.toml_grammar.specs.Numbers.{is_toml_number}
use Rattle.toml_grammar.specs.Dates.{is_date, is_local_time, is_date_time}

-- boolean
unfoldable pub is_boolean : List ℕ → Bool
is_boolean s = bytes_eq s (codes "true") || bytes_eq s (codes "false")

-- boolean, integer, float or date-time, where a date and its time are one word
unfoldable pub is_value : List ℕ → Bool
is_value s = (((is_boolean s || is_toml_number s) || is_date s) || is_local_time s) || is_date_time s
