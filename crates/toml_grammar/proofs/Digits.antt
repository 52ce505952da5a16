-- Digits from a place on.
use Rattle.std.proofs.Common.{◌≡◌, ℕ, ◌+◌, ◌<◌, Bool, true, false, ◌==◌, ◌&&◌, if◌then◌else◌, List, length, drop, get_or}
use Rattle.std.proofs.lemmas.List.{at_drop_more}
use Rattle.std.specs.Char.{is_digit}
use Rattle.toml_grammar.specs.Bytes.{underscore}
use Rattle.toml_grammar.specs.Numbers.{digits_from}

-- what the byte at a place does
pub digits_from_at : (radix : ℕ) (after : Bool) (s : List ℕ) (i : ℕ) → i < length s → digits_from radix after (drop i s)
    ≡ (if get_or s i 0 == underscore then after && digits_from radix false (drop (i + 1) s)
    else is_digit (get_or s i 0) radix && digits_from radix true (drop (i + 1) s))
digits_from_at radix after s i h = at_drop_more (digits_from radix after) s i 0 h
