-- Gaps: what a run of spaces splits into.
use Rattle.std.proofs.Common.{◌≡◌, refl, ℕ, ◌+◌, ◌-◌, ◌≤◌, List, ◌++◌, arith, ap, sym, ◌∙◌, append_assoc, append-nil, subst}
use Rattle.std.proofs.lemmas.List.{replicate-append-replicate}
use Rattle.prettyless_sink.specs.Sink.{AppendsBeginning}
use Rattle.prettyless_model.specs.Spaces.{spaces}
use Rattle.prettyless_sink.proofs.Beginnings.{beginning_of_more, beginning_after}

-- spaces in two runs
pub two_gaps : (n i k : ℕ) → n ≡ i + k → spaces n ≡ spaces i ++ spaces k
two_gaps n i k e = ap spaces e ∙ sym (replicate-append-replicate {A = ℕ} i k 32)

-- a whole piece after some spaces
pub piece_after_gap : (old mid new piece : List ℕ) (n i k : ℕ) → n ≡ i + k → piece ≡ spaces k → mid ≡ old ++ spaces i → new ≡ mid ++ piece
    → new ≡ old ++ spaces n
piece_after_gap old mid new piece n i k sum e before after =
    after ∙ ap (λ (x : List ℕ). mid ++ x) e ∙ ap (λ (x : List ℕ). x ++ spaces k) before ∙ append_assoc old (spaces i) (spaces k)
    ∙ ap (λ (x : List ℕ). old ++ x) (sym (two_gaps n i k sum))

-- a beginning of a piece after some spaces is a beginning of all of them
pub beginning_of_gap : (old mid new piece : List ℕ) (n i k : ℕ) → i + k ≤ n → piece ≡ spaces k → mid ≡ old ++ spaces i
    → AppendsBeginning mid new piece → AppendsBeginning old new (spaces n)
beginning_of_gap old mid new piece n i k le e before p =
    let all : (spaces i ++ piece) ++ spaces (n - (i + k)) ≡ spaces n =
    ap (λ (x : List ℕ). (spaces i ++ x) ++ spaces (n - (i + k))) e
    ∙ ap (λ (x : List ℕ). x ++ spaces (n - (i + k))) (sym (two_gaps (i + k) i k refl))
    ∙ sym (two_gaps n (i + k) (n - (i + k)) (omega arith)) in
    subst (λ (x : List ℕ). AppendsBeginning old new x) all
    (beginning_of_more old new (spaces i ++ piece) (spaces (n - (i + k))) (beginning_after old mid new (spaces i) piece before p))

-- no gap is nothing
pub after_no_gap : (old : List ℕ) (n : ℕ) → n ≤ 0 → old ≡ old ++ spaces n
after_no_gap old n h = let e : n ≡ 0 = omega arith in rw e (sym (append-nil old))
