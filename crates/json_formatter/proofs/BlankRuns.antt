-- Runs of one blank.
use Rattle.std.proofs.Common.{◌≡◌, refl, sym, ◌∙◌, ap, ℕ, ◌+◌, ◌-◌, ◌≤◌, List, ◌++◌, length, get_or, take, arith}
use Rattle.std.specs.Prelude.{replicate}
use Rattle.std.proofs.Math.Nat.{sub-zero}
use Rattle.std.proofs.lemmas.List.{get_or-replicate, length-replicate, replicate-append-replicate, take-replicate}
use Rattle.std.specs.List.{slice_range}
use Rattle.std.specs.Str.{IsCharBoundary}
use Rattle.json_formatter.specs.Spelling.{tabs}

module _ (x : ℕ) where
  -- a run in two
  two_runs : (n i k : ℕ) → n ≡ i + k → replicate i x ++ replicate k x ≡ replicate n x
  two_runs n i k e = replicate-append-replicate {A = ℕ} i k x ∙ ap (λ (m : ℕ). replicate m x) (sym e)

  -- a piece more
  pub run_more : (piece : List ℕ) (n i k : ℕ) → n ≡ i + k → piece ≡ replicate k x → replicate i x ++ piece ≡ replicate n x
  run_more piece n i k sum e = ap (λ (l : List ℕ). replicate i x ++ l) e ∙ two_runs n i k sum

  -- and those that are left
  pub run_left : (piece : List ℕ) (n i k : ℕ) → i + k ≤ n → piece ≡ replicate k x
      → (replicate i x ++ piece) ++ replicate (n - (i + k)) x ≡ replicate n x
  run_left piece n i k le e =
      ap (λ (l : List ℕ). l ++ replicate (n - (i + k)) x) (run_more piece (i + k) i k refl e)
      ∙ two_runs n (i + k) (n - (i + k)) (omega arith)

-- ---- tabs

-- they may be cut anywhere
pub tabs_cut : (n i : ℕ) → i ≤ n → IsCharBoundary (tabs n) i
tabs_cut n i le =
    let e : length (tabs n) ≡ n = length-replicate {A = ℕ} n 9 in
    (omega arith, λ l a. let s : get_or (tabs n) i 0 ≡ 9 = get_or-replicate {A = ℕ} n i 9 0 (omega arith) in absurd (omega arith))

-- the first of them are tabs
pub first_tabs : (n i : ℕ) → i ≤ n → slice_range (tabs n) 0 i ≡ tabs i
first_tabs n i le = ap (λ (k : ℕ). take k (tabs n)) (sub-zero i) ∙ take-replicate {X = ℕ} i n 9 le
