-- The breaks of a text, and the parts between them.
use Rattle.std.specs.Prelude.{◌≡◌, ℕ, ◌<◌, ◌≤◌, Bool, true, false, List, [], length, slice_index, Option, Some, None}
use Rattle.std.specs.List.{list_any}
use Rattle.prettyless_model.specs.Metrics.{is_break, parts}

-- LF or CR is in the text
abbrev pub holds_break : List ℕ → Bool
holds_break s = list_any is_break s

-- the first part ends at n: no break is before it, and one is there, or the text ends
pub record EndsFirstPart (s : List ℕ) (n : ℕ) : Type 0 where
  pub within : n ≤ length s
  pub before : (k : ℕ) → k < n → is_break (slice_index s k) ≡ false
  pub found : n < length s → is_break (slice_index s n) ≡ true

-- the parts of what is left of a text
abbrev pub parts_left : Option (List ℕ) → List (List ℕ)
parts_left None = []
parts_left (Some s) = parts s
