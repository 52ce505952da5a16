-- Places in a text, as people count.
use Rattle.std.specs.Prelude.{◌≡◌, ℕ, ◌+◌, Bool, nat_lt, nat_le, ◌||◌, ◌&&◌, not, ◌==◌, List, [], ◌∷◌, ◌++◌, ◌⊎◌, ◌≤◌, length, take}
use Rattle.std.specs.Prelude.{count_by}
use Rattle.text_lexemes.specs.declared.place.Place.{Place}

-- a character begins with this byte: it continues none
abbrev pub begins_character : ℕ → Bool
begins_character b = nat_lt b 0x80 || nat_le 0xC0 b

-- a line feed
abbrev pub is_line_feed : ℕ → Bool
is_line_feed b = b == 0x0A

-- a byte that a column counts
abbrev pub is_counted : ℕ → Bool
is_counted b = not (is_line_feed b) && begins_character b

-- the bytes are some lines, and the beginning of another
abbrev pub IsCut : List ℕ → List ℕ → List ℕ → Type 0
IsCut bytes lines rest =
    (bytes ≡ lines ++ rest) × (count_by is_line_feed rest ≡ 0) × ((lines ≡ []) ⊎ ((front : List ℕ) × (lines ≡ front ++ 0x0A ∷ [])))

-- The place after these bytes: after so many lines, and so many characters of the one that was begun.
pub record IsPlace (bytes : List ℕ) (place : Place) : Type 0 where
  pub lines : List ℕ
  pub rest : List ℕ
  pub cut : IsCut bytes lines rest
  pub line : place.line ≡ count_by is_line_feed lines + 1
  pub column : place.column ≡ count_by is_counted rest + 1

-- the place of one of the bytes, or the one after them
abbrev pub IsPlaceWithin : List ℕ → Place → Type 0
IsPlaceWithin bytes place = (offset : ℕ) × (offset ≤ length bytes) × IsPlace (take offset bytes) place
