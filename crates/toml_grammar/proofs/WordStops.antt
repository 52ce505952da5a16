-- Where a string stops, from a place on.
use Rattle.std.proofs.Common.{◌≡◌, ℕ, ◌+◌, ◌<◌, cond, List, length, drop, get_or}
use Rattle.std.proofs.lemmas.List.{at_drop_more}
use Rattle.toml_grammar.specs.WordStops.{due_at, is_wrong, stop_from}
use Rattle.toml_grammar.specs.Strings.{string_next}
use Rattle.toml_grammar.specs.declared.string.StringPlace.{StringPlace}

-- what the byte at a place does
pub stop_from_at : (n : ℕ) (p : StringPlace) (s : List ℕ) (i : ℕ) → i < length s → stop_from n p (drop i s)
    ≡ cond (is_wrong (string_next p (get_or s i 0))) (record { count = n; due = due_at p (get_or s i 0) })
    (stop_from (n + 1) (string_next p (get_or s i 0)) (drop (i + 1) s))
stop_from_at n p s i h = at_drop_more (stop_from n p) s i 0 h
