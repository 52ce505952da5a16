-- Bytes without the blanks at their end.
use Rattle.std.proofs.Common.{◌≡◌, ℕ, Bool, true, false, cond, List, [], ◌∷◌, ◌++◌, refl, ap, ◌∙◌, subst}
use Rattle.toml_lexemes.specs.Bytes.{is_blank}
use Rattle.toml_lexemes.specs.Spaced.{IsTomlGap, EndsWithReturn}
use Rattle.toml_lexemes.specs.Statements.{before_trimmed, trimmed}

-- of blanks alone nothing is left
pub trimmed_gap : (g : List ℕ) → IsTomlGap g → trimmed g ≡ []
trimmed_gap [] h = refl
trimmed_gap (x ∷ g) h = ap (before_trimmed x) (trimmed_gap g h.1) ∙ ap (λ b. cond b [] (x ∷ [])) h.0

-- blanks at the end change nothing
pub trimmed_before_gap : (s g : List ℕ) → IsTomlGap g → trimmed (s ++ g) ≡ trimmed s
trimmed_before_gap [] g h = trimmed_gap g h
trimmed_before_gap (x ∷ s) g h = ap (before_trimmed x) (trimmed_before_gap s g h)

module _ (x : ℕ) where
  one_trimmed : (b : Bool) → is_blank x ≡ b → trimmed (cond b [] (x ∷ [])) ≡ cond b [] (x ∷ [])
  one_trimmed true e = refl
  one_trimmed false e = ap (λ b. cond b [] (x ∷ [])) e

  more_trimmed : (s : List ℕ) → trimmed s ≡ s → trimmed (before_trimmed x s) ≡ before_trimmed x s
  more_trimmed [] e = one_trimmed (is_blank x) refl
  more_trimmed (y ∷ ys) e = ap (before_trimmed x) e

  not_more : (b : Bool) (y : ℕ) (ys : List ℕ) → cond b [] (x ∷ []) ≡ x ∷ y ∷ ys → ⊥
  not_more true y ys e = cc
  not_more false y ys e = cc

  trimmed_tail : (t : List ℕ) (y : ℕ) (ys : List ℕ) → before_trimmed x t ≡ x ∷ y ∷ ys → t ≡ y ∷ ys
  trimmed_tail [] y ys e = absurd (not_more (is_blank x) y ys e)
  trimmed_tail (z ∷ zs) y ys e = cc

-- what is trimmed stays as it is
pub trimmed_twice : (s : List ℕ) → trimmed (trimmed s) ≡ trimmed s
trimmed_twice [] = refl
trimmed_twice (x ∷ s) = more_trimmed x (trimmed s) (trimmed_twice s)

-- and does not end with CR
pub no_return : (s : List ℕ) → trimmed s ≡ s → EndsWithReturn s → ⊥
no_return [] e is = is
no_return (x ∷ []) e is = let clash : trimmed (13 ∷ []) ≡ 13 ∷ [] = subst (λ (y : ℕ). trimmed (y ∷ []) ≡ y ∷ []) is e in cc
no_return (x ∷ (y ∷ ys)) e is = no_return (y ∷ ys) (trimmed_tail x (trimmed (y ∷ ys)) y ys e) is
