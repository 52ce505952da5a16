-- Bytes without line ends.
use Rattle.std.proofs.Common.{◌≡◌, ℕ, Bool, true, false, ◌==◌, ◌||◌, not, List, [], ◌∷◌, ◌++◌, sym, ap, ◌∙◌}
use Rattle.std.specs.Prelude.{⊤}
use Rattle.std.proofs.lemmas.Bool.{false≢true, ne_eqb}

-- a byte of a line end: LF or CR
abbrev pub is_line_end : ℕ → Bool
is_line_end x = (x == 10) || (x == 13)

-- none of these bytes is one
abbrev pub IsInline : List ℕ → Type 0
IsInline [] = ⊤
IsInline (x ∷ xs) = (is_line_end x ≡ false) × IsInline xs

pub inline_both : (xs ys : List ℕ) → IsInline xs → IsInline ys → IsInline (xs ++ ys)
inline_both [] ys h k = k
inline_both (x ∷ xs) ys h k = (h.0, inline_both xs ys h.1 k)

-- a byte that passes a test which neither of them passes
pub inline_by : (p : ℕ → Bool) (x : ℕ) → p x ≡ true → p 10 ≡ false → p 13 ≡ false → is_line_end x ≡ false
inline_by p x h lf cr =
    let a : (x == 10) ≡ false = ne_eqb x 10 (λ e. false≢true (sym lf ∙ ap p (sym e) ∙ h)) in
    let b : (x == 13) ≡ false = ne_eqb x 13 (λ e. false≢true (sym cr ∙ ap p (sym e) ∙ h)) in
    λ i. a i || b i

-- a byte that fails one which both pass
pub inline_not : (p : ℕ → Bool) (x : ℕ) → p x ≡ false → p 10 ≡ true → p 13 ≡ true → is_line_end x ≡ false
inline_not p x h lf cr = inline_by (λ y. not (p y)) x (ap not h) (ap not lf) (ap not cr)
