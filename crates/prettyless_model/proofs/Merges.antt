-- Merges: two words interleaved.
use Rattle.std.proofs.Common.{◌≡◌, ℕ, List, [], ◌∷◌, ◌++◌, refl, ap, sym, ◌∙◌, inl, inr}
use Rattle.prettyless_model.specs.Content.{IsMerge}

pub merge_of_first : (v : List ℕ) → IsMerge v v []
merge_of_first [] = (refl, refl)
merge_of_first (b ∷ bs) = inl (bs, refl, merge_of_first bs)

pub merge_of_second : (u : List ℕ) → IsMerge u [] u
merge_of_second [] = (refl, refl)
merge_of_second (b ∷ bs) = inr (bs, refl, merge_of_second bs)

-- where the second word is empty, the bytes are the first
pub merge_with_none : (b v u : List ℕ) → u ≡ [] → IsMerge b v u → b ≡ v
merge_with_none [] v u e m = sym m.0
merge_with_none (b ∷ bs) v u e (inl m) = ap (λ (x : List ℕ). b ∷ x) (merge_with_none bs m.0 u e m.2) ∙ sym m.1
merge_with_none (b ∷ bs) v u e (inr m) = absurd (cc)

pub merge-append : (a b v1 u1 v2 u2 : List ℕ) → IsMerge a v1 u1 → IsMerge b v2 u2 → IsMerge (a ++ b) (v1 ++ v2) (u1 ++ u2)
merge-append [] b v1 u1 v2 u2 m h = rw (m.0, m.1) h
merge-append (x ∷ xs) b v1 u1 v2 u2 (inl m) h =
    inl (m.0 ++ v2, ap (λ (y : List ℕ). y ++ v2) m.1, merge-append xs b m.0 u1 v2 u2 m.2 h)
merge-append (x ∷ xs) b v1 u1 v2 u2 (inr m) h =
    inr (m.0 ++ u2, ap (λ (y : List ℕ). y ++ u2) m.1, merge-append xs b v1 m.0 v2 u2 m.2 h)
