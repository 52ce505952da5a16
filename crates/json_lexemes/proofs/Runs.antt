-- Bytes in which a word goes on.
use Rattle.std.proofs.Common.{◌≡◌, ℕ, zero, suc, ◌+◌, ◌-◌, ◌<◌, ◌≤◌, false, List, [], ◌∷◌, ◌++◌, length, take, drop, get_or, inl}
use Rattle.std.proofs.Common.{inr, ◌⊎◌, sym, ap, ◌∙◌, subst, arith, length-drop}
use Rattle.std.proofs.lemmas.Bool.{cases_lt}
use Rattle.std.proofs.lemmas.List.{take_more, get_or-drop}
use Rattle.json_lexemes.specs.Words.{WordGoesOn}
use Rattle.json_lexemes.proofs.Ended.{ends}
use Rattle.json_lexemes.proofs.Places.{IsRun-push}
use Rattle.json_lexemes.proofs.Words.{IsRun}

-- one byte more
pub goes_on_more : (d : List ℕ) (from place : ℕ) → WordGoesOn d from place → ends (get_or d place 0) ≡ false → WordGoesOn d from (place + 1)
goes_on_more d from place h e i a b = go (cases_lt i place)
  where
    go : (i < place) ⊎ (place ≤ i) → ends (get_or d i 0) ≡ false
    go (inl lt) = h i a lt
    go (inr ge) = let same : place ≡ i = omega arith in subst (λ k. ends (get_or d k 0) ≡ false) same e

-- they are a run
run_of_count : (d : List ℕ) (from k : ℕ) → from + k ≤ length d → WordGoesOn d from (from + k) → IsRun (take k (drop from d))
run_of_count d from zero le h = tt
run_of_count d from (suc k) le h =
    let lt : k < length (drop from d) = omega (arith, length-drop from d) in
    let on : suc k ≡ k + 1 = omega arith in
    let parts = ap (λ n. take n (drop from d)) on ∙ take_more (drop from d) k 0 lt
    ∙ ap (λ x. take k (drop from d) ++ x ∷ []) (get_or-drop from d k 0) in
    subst IsRun (sym parts)
    (IsRun-push (take k (drop from d)) (get_or d (from + k) 0) (run_of_count d from k (omega arith) (λ i a b. h i a (omega arith)))
    (h (from + k) (omega arith) (omega arith)))

pub run_between : (d : List ℕ) (from to : ℕ) → from ≤ to → to ≤ length d → WordGoesOn d from to → IsRun (take (to - from) (drop from d))
run_between d from to le within h = run_of_count d from (to - from) (omega arith) (λ i a b. h i a (omega arith))

-- one part after the other
pub goes_on_both : (d : List ℕ) (from near far : ℕ) → WordGoesOn d from near → WordGoesOn d near far → WordGoesOn d from far
goes_on_both d from near far h k i a b = go (cases_lt i near)
  where
    go : (i < near) ⊎ (near ≤ i) → ends (get_or d i 0) ≡ false
    go (inl lt) = h i a lt
    go (inr ge) = k i ge b
