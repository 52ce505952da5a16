-- What an area's sink has, as one list of numbers.
use Rattle.std.specs.Prelude.{ℕ, List, ◌∷◌, ◌++◌, length}

-- The limit, the area's length and the bytes that it held at first; and then the bytes that it was given. A sink's list
-- only grows at its end, so whoever writes to an area keeps the first three.
abbrev pub account : ℕ → List ℕ → List ℕ → List ℕ
account limit before given = limit ∷ length before ∷ (before ++ given)
