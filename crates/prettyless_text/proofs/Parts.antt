-- The parts of a text, by where its first part ends.
use Rattle.std.proofs.Common.{◌≡◌, ℕ, suc, zero, ◌+◌, ◌<◌, ◌≤◌, ◌∙◌, ap, add-one, true, false, not, List, [], ◌∷◌, length, take, drop}
use Rattle.std.proofs.Common.{nat_lt, cond, sym, refl, arith}
use Rattle.std.proofs.Math.Nat.{sub-zero}
use Rattle.std.specs.List.{onto_first, slice_range}
use Rattle.std.proofs.lemmas.Bool.{lt-ltb}
use Rattle.prettyless_model.specs.Metrics.{is_break, parts, is_empty, first_of_parts, later_parts}
use Rattle.prettyless_trees.specs.Breaks.{EndsFirstPart}

EndsFirstPart-tail : (b : ℕ) (s : List ℕ) (n : ℕ) → EndsFirstPart (b ∷ s) (suc n) → EndsFirstPart s n
EndsFirstPart-tail b s n h = record {
  within = omega (arith, h.within);
  before = λ k l. h.before (suc k) (omega arith);
  found = λ l. h.found (omega arith);
}

-- a byte that is no break belongs to the first part
parts-plain : (b : ℕ) (s : List ℕ) → is_break b ≡ false → parts (b ∷ s) ≡ onto_first b (parts s)
parts-plain b s h = ap (λ t. cond t ([] ∷ parts s) (onto_first b (parts s))) h

parts-cut : (b : ℕ) (s : List ℕ) → is_break b ≡ true → parts (b ∷ s) ≡ [] ∷ parts s
parts-cut b s h = ap (λ t. cond t ([] ∷ parts s) (onto_first b (parts s))) h

-- the parts after a break at n
abbrev parts_after : List ℕ → ℕ → List (List ℕ)
parts_after [] n = []
parts_after (b ∷ s) zero = parts s
parts_after (b ∷ s) (suc n) = parts_after s n

parts-first : (s : List ℕ) (n : ℕ) → EndsFirstPart s n → parts s ≡ take n s ∷ parts_after s n
parts-first [] zero h = refl
parts-first [] (suc n) h = refl
parts-first (b ∷ s) zero h = parts-cut b s (h.found (omega arith))
parts-first (b ∷ s) (suc n) h =
    parts-plain b s (h.before 0 (omega arith)) ∙ ap (onto_first b) (parts-first s n (EndsFirstPart-tail b s n h))

parts_after-inside : (s : List ℕ) (n : ℕ) → n < length s → parts_after s n ≡ parts (drop (suc n) s)
parts_after-inside [] n l = absurd (omega arith)
parts_after-inside (b ∷ s) zero l = refl
parts_after-inside (b ∷ s) (suc n) l = parts_after-inside s n (omega arith)

parts_after-end : (s : List ℕ) (n : ℕ) → length s ≤ n → parts_after s n ≡ []
parts_after-end [] n l = refl
parts_after-end (b ∷ s) zero l = absurd (omega arith)
parts_after-end (b ∷ s) (suc n) l = parts_after-end s n (omega arith)

is_empty-take : (s : List ℕ) (n : ℕ) → n ≤ length s → nat_lt 0 n ≡ not (is_empty (take n s))
is_empty-take s zero l = refl
is_empty-take [] (suc n) l = absurd (omega arith)
is_empty-take (b ∷ s) (suc n) l = lt-ltb 0 (suc n) (omega arith)

first-is : (s : List ℕ) (n : ℕ) → EndsFirstPart s n → first_of_parts (parts s) ≡ take n s
first-is s n h = ap first_of_parts (parts-first s n h)

-- the same as the code cuts it out
pub first-front : (s : List ℕ) (n : ℕ) → EndsFirstPart s n → slice_range s 0 n ≡ first_of_parts (parts s)
first-front s n h = ap (λ k. take k s) (sub-zero n) ∙ sym (first-is s n h)

pub first-nonempty : (s : List ℕ) (n : ℕ) → EndsFirstPart s n → nat_lt 0 n ≡ not (is_empty (first_of_parts (parts s)))
first-nonempty s n h = is_empty-take s n h.within ∙ ap (λ t. not (is_empty t)) (sym (first-is s n h))

pub later-inside : (s : List ℕ) (n : ℕ) → EndsFirstPart s n → n < length s → later_parts (parts s) ≡ parts (drop (n + 1) s)
later-inside s n h l =
    ap later_parts (parts-first s n h) ∙ parts_after-inside s n l ∙ ap (λ k. parts (drop k s)) (sym (add-one n))

pub later-end : (s : List ℕ) (n : ℕ) → EndsFirstPart s n → length s ≤ n → later_parts (parts s) ≡ []
later-end s n h l = ap later_parts (parts-first s n h) ∙ parts_after-end s n l

-- a break is ASCII
pub break-ascii : (b : ℕ) → is_break b ≡ true → b < 128
break-ascii b h = grind arith
