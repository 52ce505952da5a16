-- A value and the bytes that were given after it, as one list of numbers.
use Rattle.std.specs.Prelude.{ℕ, List, [], ◌∷◌, ◌++◌}
use Rattle.std.specs.Coded.{Coded}
use base.Stored.{Gv, gnil, gnum, gcons}

-- A value's code as a list of numbers. No such list is the beginning of another.
abbrev pub code_numbers : Gv → List ℕ
code_numbers gnil = 0 ∷ []
code_numbers (gnum n) = 1 ∷ n ∷ []
code_numbers (gcons a b) = 2 ∷ (code_numbers a ++ code_numbers b)

-- The value that was there first, and then the bytes that were given. A sink's list only grows at its end, so whoever writes to
-- the sink keeps the value.
unfoldable pub ledger : {A : Type 0} → Coded A → A → List ℕ → List ℕ
ledger c first given = code_numbers (c.code first) ++ given
