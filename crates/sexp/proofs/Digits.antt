-- The digits of a number, read from the left.
use Rattle.std.proofs.Common.{◌≡◌, ℕ, ◌+◌, ◌-◌, ◌*◌, ◌<◌, ◌≤◌, true, false, List, length, get_or, take, arith}
use Rattle.std.specs.Char.{digit_value, is_ascii_digit}
use Rattle.std.specs.Int.{IsInRange}
use Rattle.std.specs.Str.Parse.{AllDigits, digits_value}
use Rattle.std.proofs.lemmas.Bool.Decides.{nat_tests}
use Rattle.std.proofs.lemmas.Int.Digits.{digits_value_more, digits_more}
use Rattle.std.proofs.lemmas.Str.Parse.{digit_at, digits_value-take-le}

-- a digit has the value of its place after "0"
digit_is : (c : ℕ) → is_ascii_digit c ≡ true → (48 ≤ c) × (c ≤ 57) × (digit_value c ≡ c - 48)
digit_is c e = (grind (arith, nat_tests), grind (arith, nat_tests), grind (arith, nat_tests))

no_digit : (c : ℕ) → is_ascii_digit c ≡ false → IsInRange 48 57 c → ⊥
no_digit c e h = grind (arith, nat_tests)

-- where a byte is no digit, not all are
pub not_all_digits : (text : List ℕ) (i : ℕ) → i < length text → is_ascii_digit (get_or text i 0) ≡ false → AllDigits 10 text → ⊥
not_all_digits text i lt e digits = no_digit (get_or text i 0) e (digit_at text i digits lt)

-- one digit more
pub digits_go_on : (text : List ℕ) (i : ℕ) → i < length text → is_ascii_digit (get_or text i 0) ≡ true → AllDigits 10 (take i text)
    → AllDigits 10 (take (i + 1) text)
digits_go_on text i lt e digits = digits_more 10 text i lt digits (omega (arith, digit_is (get_or text i 0) e))

-- and its value
pub value_goes_on : (text : List ℕ) (i : ℕ) → i < length text → is_ascii_digit (get_or text i 0) ≡ true
    → digits_value 10 (take (i + 1) text) ≡ digits_value 10 (take i text) * 10 + (get_or text i 0 - 48)
value_goes_on text i lt e = rw (← (digit_is (get_or text i 0) e).2) (digits_value_more 10 text i lt)

-- the digits so far write no more than all do
pub value_grows : (text : List ℕ) (i : ℕ) → digits_value 10 (take i text) ≤ digits_value 10 text
value_grows text i = digits_value-take-le 10 text i (omega arith)
