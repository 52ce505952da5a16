-- Documents that are counted at once.
use Rattle.std.proofs.Common.{◌≡◌, ◌≤◌, ℕ, Bool, true, false, if◌then◌else◌, arith}

-- what is counted of a document at once is all of it or nothing
pub counted_at_most : (b : Bool) (n r : ℕ) → r ≡ (if b then n else 0) → r ≤ n
counted_at_most true n r e = omega (arith, e)
counted_at_most false n r e = omega (arith, e)

pub counted_all : (b : Bool) (n r : ℕ) → r ≡ (if b then n else 0) → (r ≡ 0 → ⊥) → r ≡ n
counted_all true n r e some = e
counted_all false n r e some = absurd (some e)
