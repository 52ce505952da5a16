-- The first line of a text ends where its first line feed is.
use Rattle.std.proofs.Common.{◌≡◌, ℕ, zero, suc, ◌-◌, ◌<◌, ◌==◌, Bool, true, false, inl, inr, refl, sym, ap, arith, List, [], ◌∷◌, length}
use Rattle.std.specs.Prelude.{slice_index}
use Rattle.std.proofs.lemmas.Bool.{cases_Bool}
use Rattle.memchr.specs.Find.{is_byte, Nowhere, Passes}
use Rattle.json.specs.Ascii as ascii
use Rattle.json_formatter.specs.Spelling.{begins_crlf}

-- the byte at a place is a line feed
abbrev Ends : List ℕ → ℕ → Type 0
Ends bs = Passes (is_byte ascii.line_feed) bs

no_end_first : (b : ℕ) (bs : List ℕ) → ¬ Ends (b ∷ bs) 0 → (b == ascii.line_feed) ≡ false
no_end_first b bs h = elim (cases_Bool (b == ascii.line_feed)) [
  | inl e ↦ absurd (h e)
  | inr e ↦ e
]

-- a text without one has one line
pub one_line : (after : Bool) (bs : List ℕ) → Nowhere (Ends bs) 0 (length bs) → begins_crlf after bs ≡ false
one_line after [] h = refl
one_line after (b ∷ bs) h =
    let e = no_end_first b bs (h 0 (omega arith) (omega arith)) in
    rw e (one_line (b == ascii.carriage_return) bs (λ k low high. h (suc k) (omega (arith, low)) (omega (arith, high))))

-- what stands before a place is a carriage return, or this says whether it is
abbrev returns_before : Bool → List ℕ → ℕ → Bool
returns_before after bs zero = after
returns_before after bs (suc k) = slice_index bs k == ascii.carriage_return

pub line_ends : (after : Bool) (bs : List ℕ) (k : ℕ) → k < length bs → Nowhere (Ends bs) 0 k → Ends bs k
    → begins_crlf after bs ≡ returns_before after bs k
line_ends after [] k h before at = absurd (omega (arith, h))
line_ends after (b ∷ bs) zero h before at = let e : (b == ascii.line_feed) ≡ true = at in rw e refl
line_ends after (b ∷ bs) (suc zero) h before at =
    let e = no_end_first b bs (before 0 (omega arith) (omega arith)) in
    rw e (line_ends (b == ascii.carriage_return) bs zero (omega (arith, h)) (λ j low high. absurd (omega (arith, high))) at)
line_ends after (b ∷ bs) (suc (suc k)) h before at =
    let e = no_end_first b bs (before 0 (omega arith) (omega arith)) in
    rw e
    (line_ends (b == ascii.carriage_return) bs (suc k) (omega (arith, h))
    (λ j low high. before (suc j) (omega (arith, low)) (omega (arith, high))) at)

-- where something stands before a place, it is the byte there
pub returns_at : (after : Bool) (bs : List ℕ) (k : ℕ) → 0 < k
    → returns_before after bs k ≡ (slice_index bs (k - 1) == ascii.carriage_return)
returns_at after bs zero h = absurd (omega (arith, h))
returns_at after bs (suc k) h =
    let e : suc k - 1 ≡ k = omega arith in
    ap (λ (n : ℕ). slice_index bs n == ascii.carriage_return) (sym e)
