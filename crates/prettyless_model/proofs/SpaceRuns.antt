-- Where spaces may be cut, and what their first ones are.
use Rattle.std.proofs.Common.{◌≡◌, ℕ, ◌≤◌, length, get_or, take, arith, ap, ◌∙◌}
use Rattle.std.proofs.Math.Nat.{sub-zero}
use Rattle.std.proofs.lemmas.List.{get_or-replicate, take-replicate, length-replicate}
use Rattle.std.specs.List.{slice_range}
use Rattle.std.specs.Str.{IsCharBoundary}
use Rattle.prettyless_model.specs.Spaces.{spaces}

-- spaces may be cut anywhere
pub spaces_cut : (n i : ℕ) → i ≤ n → IsCharBoundary (spaces n) i
spaces_cut n i le =
    let e : length (spaces n) ≡ n = length-replicate {A = ℕ} n 32 in
    (omega arith, λ l a. let s : get_or (spaces n) i 0 ≡ 32 = get_or-replicate {A = ℕ} n i 32 0 (omega arith) in absurd (omega arith))

-- the first of some spaces are spaces
pub first_spaces : (n i : ℕ) → i ≤ n → slice_range (spaces n) 0 i ≡ spaces i
first_spaces n i le = ap (λ (k : ℕ). take k (spaces n)) (sub-zero i) ∙ take-replicate {X = ℕ} i n 32 le
