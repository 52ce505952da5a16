-- An area of bytes, and what is put into it from its start.
use Rattle.std.specs.Prelude.{◌≡◌, ◌-◌, ◌^◌, ◌==◌, ℕ, ◌<◌, ◌≤◌, min, List, ◌++◌, length, take, drop, if◌then◌else◌}

-- the beginning of the bytes that the area has room for
abbrev pub fitting : List ℕ → List ℕ → List ℕ
fitting bytes area = take (length area) bytes

-- the area's bytes past the end of these
abbrev pub untouched : List ℕ → List ℕ → List ℕ
untouched bytes area = drop (length bytes) area

-- the area with the bytes in place of its own, from its start, as far as there is room
abbrev pub overlay : List ℕ → List ℕ → List ℕ
overlay bytes area = fitting bytes area ++ untouched bytes area

-- The area held `old`, and holds `new`: the bytes from its start, as far as there is room, and past them what it held.
-- All of the bytes are counted, also those that it has no room for.
pub record Puts (bytes old new : List ℕ) (count : ℕ) : Type 0 where
  pub in_place : new ≡ overlay bytes old
  pub counted : count ≡ length bytes

-- All of the bytes were put, and they are no more than the limit.
pub record PutsAll (limit : ℕ) (bytes old new : List ℕ) (count : ℕ) : Type 0 where
  pub puts : Puts bytes old new count
  pub within : length bytes ≤ limit

-- The bytes are more than the limit, and those as far as it were put.
pub record PutsToLimit (limit : ℕ) (bytes old new : List ℕ) (count : ℕ) : Type 0 where
  pub puts : Puts (take limit bytes) old new count
  pub past : limit < length bytes

-- No byte past the limit was put, and none there is counted: from there on the area holds what it held.
pub record KeepsLimit (limit : ℕ) (old new : List ℕ) (count : ℕ) : Type 0 where
  pub past : drop limit new ≡ drop limit old
  pub counted : count ≤ limit

-- ---- what a caller is told

-- the greatest length of a layout: 0 is none, and then that of all areas
abbrev pub limit_of : ℕ → ℕ
limit_of limit = if limit == 0 then 2 ^ 64 - 1 else limit

-- The area held `old` and holds `new`: these bytes from its start, as far as there is room, and past them what it held.
-- So many of them are there.
pub record Holds (bytes old new : List ℕ) (written : ℕ) : Type 0 where
  pub in_place : new ≡ overlay bytes old
  pub count : written ≡ min (length bytes) (length old)

-- the area is as it was, and nothing is said to be in it
abbrev pub IsUntouched : List ℕ → List ℕ → ℕ → Type 0
IsUntouched old new written = (new ≡ old) × (written ≡ 0)
