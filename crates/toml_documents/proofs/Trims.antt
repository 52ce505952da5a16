-- The blanks at the end of a comment.
use Rattle.std.proofs.Common.{◌≡◌, sym, ◌∙◌, ap, ℕ, ◌+◌, ◌-◌, ◌<◌, ◌≤◌, Bool, true, false, cond, List, [], ◌∷◌, ◌++◌, length, take, get_or}
use Rattle.std.proofs.Common.{◌||◌, ◌==◌, inl, inr, arith}
use Rattle.std.proofs.lemmas.Bool.{eqb-true, or_cases}
use Rattle.std.proofs.lemmas.List.{take_more}
use Rattle.toml_lexemes.specs.Bytes.{is_blank}
use Rattle.toml_lexemes.specs.Statements.{trimmed, before_trimmed}
use Rattle.toml_lexemes.proofs.Trimmed.{trimmed_before_gap}

-- a byte that is no blank ends it
full : (s : List ℕ) (x : ℕ) → is_blank x ≡ false → trimmed (s ++ x ∷ []) ≡ s ++ x ∷ []
full [] x e = ap (λ (b : Bool). cond b [] (x ∷ [])) e
full (y ∷ []) x e = ap (before_trimmed y) (full [] x e)
full (y ∷ (z ∷ zs)) x e = ap (before_trimmed y) (full (z ∷ zs) x e)

last_byte : (d : List ℕ) (n : ℕ) → 0 < n → n ≤ length d → take n d ≡ take (n - 1) d ++ get_or d (n - 1) 0 ∷ []
last_byte d n some within =
    let one : n - 1 + 1 ≡ n = omega arith in
    ap (λ (k : ℕ). take k d) (sym one) ∙ take_more d (n - 1) 0 (omega arith)

pub blank_less : (d : List ℕ) (n : ℕ) → 0 < n → n ≤ length d → is_blank (get_or d (n - 1) 0) ≡ true
    → trimmed (take (n - 1) d) ≡ trimmed (take n d)
blank_less d n some within e =
    sym (ap trimmed (last_byte d n some within) ∙ trimmed_before_gap (take (n - 1) d) (get_or d (n - 1) 0 ∷ []) (e, tt))

pub blank_none : (d : List ℕ) (n : ℕ) → 0 < n → n ≤ length d → is_blank (get_or d (n - 1) 0) ≡ false → trimmed (take n d) ≡ take n d
blank_none d n some within e =
    ap trimmed (last_byte d n some within) ∙ full (take (n - 1) d) (get_or d (n - 1) 0) e ∙ sym (last_byte d n some within)

small : (x c : ℕ) → c < 128 → (x == c) ≡ true → x < 128
small x c h e = omega (arith, eqb-true x c e)

either : (P : Type 0) (p q : Bool) → (p ≡ true → P) → (q ≡ true → P) → (p || q) ≡ true → P
either P p q f g h = elim (or_cases p q h) [ inl e ↦ f e | inr e ↦ g e ]

pub blank_ascii : (x : ℕ) → is_blank x ≡ true → x < 128
blank_ascii x = either _ _ _ (either _ _ _ (small x 32 (omega arith)) (small x 9 (omega arith))) (small x 13 (omega arith))
