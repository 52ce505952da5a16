-- Bytes of a word and of a string.
use Rattle.std.specs.Prelude.{◌≡◌, ◌≢◌, ℕ, ◌<◌, ◌≤◌, ◌||◌, false, List, slice_index}
use Rattle.json.specs.Ascii as ascii
use Rattle.json.specs.Word.{is_operator, is_space}

-- no byte between these places ends a word
abbrev pub WordGoesOn : List ℕ → ℕ → ℕ → Type 0
WordGoesOn bytes from to =
    (i : ℕ) → from ≤ i → i < to → (is_operator (slice_index bytes i) || is_space (slice_index bytes i)) ≡ false

-- no byte between these places closes a string or begins an escape
abbrev pub StringGoesOn : List ℕ → ℕ → ℕ → Type 0
StringGoesOn bytes from to =
    (i : ℕ) → from ≤ i → i < to → (slice_index bytes i ≢ ascii.quote) × (slice_index bytes i ≢ ascii.backslash)
