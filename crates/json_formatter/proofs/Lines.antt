-- A line end and the spaces after it.
use Rattle.std.proofs.Common.{◌≡◌, ℕ, suc, ◌+◌, ◌≤◌, List, ◌∷◌, ◌++◌, length, length-append, get_or, take, arith, ap, ◌∙◌, subst}
use Rattle.std.proofs.Math.Nat.{sub-zero}
use Rattle.std.proofs.Math.Seq.{take-append-add}
use Rattle.std.proofs.lemmas.List.{get_or-append-add, get_or-replicate, length-replicate, take-replicate}
use Rattle.std.proofs.lemmas.Str.{IsCharBoundary-from_rest}
use Rattle.std.specs.List.{slice_range}
use Rattle.std.specs.Str.{IsCharBoundary}
use Rattle.std.specs.String.Boundary.{IsSplitPoint}
use Rattle.prettyless_model.proofs.SpaceRuns.{spaces_cut}
use Rattle.prettyless_model.specs.Spaces.{spaces}

-- they may be cut anywhere after the line end
pub line_cut : (n i : ℕ) → i ≤ n → IsCharBoundary (10 ∷ spaces n) (i + 1)
line_cut n i le =
    let k : 1 + i ≡ i + 1 = omega arith in
    subst (IsCharBoundary (10 ∷ spaces n)) k (IsCharBoundary-from_rest (10 ∷ spaces n) 1 i (omega arith) (spaces_cut n i le))

-- the first of them are a line end and spaces
first_bytes : (n i : ℕ) → i ≤ n → take (i + 1) (10 ∷ spaces n) ≡ 10 ∷ spaces i
first_bytes n i le =
    let k : i + 1 ≡ suc i = omega arith in
    ap (λ (k : ℕ). take k (10 ∷ spaces n)) k ∙ ap (λ (l : List ℕ). 10 ∷ l) (take-replicate {X = ℕ} i n 32 le)

pub first_line : (n i : ℕ) → i ≤ n → slice_range (10 ∷ spaces n) 0 (i + 1) ≡ 10 ∷ spaces i
first_line n i le = ap (λ (k : ℕ). take k (10 ∷ spaces n)) (sub-zero (i + 1)) ∙ first_bytes n i le

-- ---- after other bytes

-- only the first of them are kept
pub line_kept : (held : List ℕ) (n i : ℕ) → i ≤ n
    → take (length held + (i + 1)) (held ++ (10 ∷ spaces n)) ≡ held ++ (10 ∷ spaces i)
line_kept held n i le =
    take-append-add held (10 ∷ spaces n) (i + 1) ∙ ap (λ (l : List ℕ). held ++ l) (first_bytes n i le)

-- they may be cut there
pub line_split : (held : List ℕ) (n i : ℕ) → i ≤ n → IsSplitPoint (held ++ (10 ∷ spaces n)) (length held + (i + 1))
line_split held n i le =
    let line = 10 ∷ spaces n in
    let at = length held + (i + 1) in
    let count : length (spaces n) ≡ n = length-replicate {A = ℕ} n 32 in
    let all : length (held ++ line) ≡ length held + length line = length-append held line in (
      omega (arith, count, all),
      λ some lt high.
          let k : i + 1 ≡ suc i = omega arith in
          let space : get_or (held ++ line) at 0 ≡ 32 =
          get_or-append-add held line (i + 1) 0
          ∙ ap (λ (k : ℕ). get_or line k 0) k
          ∙ get_or-replicate {A = ℕ} n i 32 0 (omega (arith, count, all)) in
          absurd (omega (arith, space, high)),
    )
