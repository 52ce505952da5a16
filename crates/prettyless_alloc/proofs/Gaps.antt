-- Texts of spaces: how many there are.
use Rattle.std.proofs.Common.{ℕ, suc, zero, ◌<◌, ◌/◌, arith}
use Rattle.prettyless_trees.specs.Built.{IsNotNil, hundreds}

-- what is something holds a hundred
pub hundreds_of_some : (n : ℕ) → IsNotNil (hundreds n) → 0 < n
hundreds_of_some zero h = absurd h
hundreds_of_some (suc n) h = omega arith

-- after a hundred there is more than one
pub more_than_hundred : (n k : ℕ) → 0 < k → k < n / 100 → 100 < n
more_than_hundred n k some before = omega arith
