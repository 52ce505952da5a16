-- Ink after a summary that has ink.
use Rattle.std.proofs.Common.{◌≡◌, ℕ, ◌+◌, ◌≤◌, ◌==◌, Bool, true, false, ◌||◌, nat_le, refl, ap, sym, ◌∙◌, arith, le-leb, if◌then◌else◌}
use Rattle.std.proofs.lemmas.Bool.{false≢true, leb-true}
use Rattle.std.proofs.lemmas.Bool.Decides.{nat_tests}
use Rattle.prettyless_model.specs.Column.{commit, prospective, saturating_add}
use Rattle.prettyless_model.specs.Look.{Look, Answers, GoesOn, look_then}
use Rattle.prettyless_model.specs.declared.column.Column.{Column}
use Rattle.prettyless_summary.specs.Summary.{after_spaces, look_ink}

-- ink and then weak spaces after a column p, the padding as the line has it
sum_spaced : (p i t k : ℕ) → k ≡ saturating_add 0 t
    → saturating_add (saturating_add (saturating_add p i) 0) k ≡ saturating_add p (i + t)
sum_spaced p i t k e = omega (arith, e)

-- and ink again
sum_again : (p i t n total : ℕ) → total ≡ saturating_add (saturating_add i t) n
    → saturating_add (saturating_add p (i + t)) n ≡ saturating_add p total
sum_again p i t n total e = omega (arith, e)

-- where that is within a width, so is the first ink
sum_within : (p i t n total width : ℕ) → total ≡ saturating_add (saturating_add i t) n → saturating_add p total ≤ width
    → saturating_add p i ≤ width
sum_within p i t n total width e h = omega (arith, e, h)

none_of : (t : ℕ) → (t == 0) ≡ true → t ≡ 0
none_of t h = grind (arith, nat_tests)

spaced_if : (none : Bool) (i t : ℕ) (c : Column) → (none ≡ true → t ≡ 0)
    → prospective (if none then commit i c else record (commit i c) { padding = saturating_add 0 t })
    ≡ saturating_add (prospective c) (i + t)
spaced_if true i t c zero = let e = zero refl in sum_spaced (prospective c) i t 0 (omega (arith, e))
spaced_if false i t c zero = sum_spaced (prospective c) i t (saturating_add 0 t) refl

spaced : (i t : ℕ) (c : Column) → prospective (after_spaces t (commit i c)) ≡ saturating_add (prospective c) (i + t)
spaced i t c = spaced_if (t == 0) i t c (none_of t)

-- a column at a position right after ink
abbrev inked : ℕ → Column
inked k = record { position = k; indent = 0; padding = 0; fresh = false }

-- ink, weak spaces and ink are one ink
ink_again : (i t n total : ℕ) (c : Column) → total ≡ saturating_add (saturating_add i t) n
    → commit n (after_spaces t (commit i c)) ≡ commit total c
ink_again i t n total c e =
    ap (λ (k : ℕ). inked (saturating_add k n)) (spaced i t c) ∙ ap inked (sum_again (prospective c) i t n total e)

-- where the second ink fits, the first one does
ink_then : (a b : Bool) (mid end : Column) (suffix p : Bool) (next : Column → Bool → Look) → (b ≡ true → a ≡ true)
    → ((q : Bool) → next mid q ≡ (if b then GoesOn end q else Answers false))
    → look_then (if b then GoesOn end p else Answers false) (λ e q. GoesOn e (suffix || q))
    ≡ look_then (look_then (if a then GoesOn mid p else Answers false) (λ e q. GoesOn e (suffix || q))) next
ink_then true true mid end suffix p next fits same = sym (same (suffix || p))
ink_then true false mid end suffix p next fits same = sym (same (suffix || p))
ink_then false true mid end suffix p next fits same = absurd (false≢true (fits refl))
ink_then false false mid end suffix p next fits same = refl

-- a summary with both inks reads as one with the first ink and then the second ink
pub ink_joins : (width i t n total trail : ℕ) (suffix : Bool) (c : Column) (p : Bool) → total ≡ saturating_add (saturating_add i t) n
    → look_then (look_ink width true total trail c p) (λ e q. GoesOn e (suffix || q))
    ≡ look_then (look_then (look_ink width true i t c p) (λ e q. GoesOn e (suffix || q))) (look_ink width true n trail)
ink_joins width i t n total trail suffix c p e =
    let first : Column = commit i c in
    let both : Column = commit total c in
    ink_then (nat_le first.position width) (nat_le both.position width) (after_spaces t first) (after_spaces trail both) suffix p
    (look_ink width true n trail)
    (λ h. le-leb first.position width (sum_within (prospective c) i t n total width e (leb-true both.position width h)))
    (λ q. ap (λ (d : Column). if nat_le d.position width then GoesOn (after_spaces trail d) q else Answers false)
    (ink_again i t n total c e))
