use Rattle.std.proofs.Common.{◌≡◌, ℕ, ◌^◌, ◌<◌, Option, Some, None, Result, Ok, Err, arith}
use Rattle.std.specs.Result.{OkIff, result_ok}
use Rattle.sexp.proofs.Atoms.{is_front, is_no_front}
use Rattle.sexp.proofs.parse.atom.Goals as goal

-- a number that is taken over is the same, and small enough
taken_over : {E : Type 0} (r : Result ℕ E) (n m : ℕ) → OkIff r (n < 2 ^ 32) n → Some m ≡ result_ok r → (m ≡ n) × (n < 2 ^ 32)
taken_over (Ok x) n m h e = (cc, h.0)
taken_over (Err d) n m h e = absurd cc

-- and one that isn't is too large
not_taken_over : {E : Type 0} (r : Result ℕ E) (n : ℕ) → OkIff r (n < 2 ^ 32) n → ◌≡◌ {A = Option ℕ} None (result_ok r) → n < 2 ^ 32 → ⊥
not_taken_over (Ok x) n h e small = absurd cc
not_taken_over (Err d) n h e small = h small

pub returns-in_err-number-clause-none : goal.returns-in_err-number-clause-none
returns-in_err-number-clause-none c =
    let d = c.digits_len.ensures in
    rw c.from_residual.ensures (is_no_front c.args.bytes.now c.digits_len.result d.within d.digits d.end
    (λ h small. c.in_err-number.ensures (rw c.split_at.ensures.front (h, omega (arith, small)))))

pub returns-in_err-value-clause-none : goal.returns-in_err-value-clause-none
returns-in_err-value-clause-none c =
    let d = c.digits_len.ensures in
    let n = rw c.split_at.ensures.front at c.in_ok-number.ensures in
    rw c.from_residual-in_err-value.ensures (is_no_front c.args.bytes.now c.digits_len.result d.within d.digits d.end
    (λ h small. not_taken_over c.try_from.result c.in_ok-number.field-0 c.try_from.ensures c.in_err-value.ensures.value
    (omega (arith, n.1))))

pub returns-clause-some : goal.returns-clause-some
returns-clause-some c =
    let d = c.digits_len.ensures in
    let n = rw c.split_at.ensures.front at c.in_ok-number.ensures in
    let t = taken_over c.try_from.result c.in_ok-number.field-0 c.in_ok-value.value c.try_from.ensures c.in_ok-value.ensures.value in
    let front = is_front c.args.bytes.now c.digits_len.result d.within d.digits d.end n.0.0 (omega (arith, n.1, t.1)) in
    rw (t.0, n.1, c.split_at.ensures.back) front
