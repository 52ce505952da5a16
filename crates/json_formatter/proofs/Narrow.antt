-- Bytes below 128, tested four at a time.
use Rattle.std.proofs.Common.{◌≡◌, ℕ, ◌+◌, ◌*◌, ◌%◌, ◌^◌, ◌<◌, ◌≤◌, Bool, true, false, ◌&&◌, ◌==◌, cond, nat_le, nat_lt, List, [], ◌∷◌}
use Rattle.std.proofs.Common.{map, length, take, drop, get_or, replicate, inl, inr, ◌⊎◌, refl, sym, ap, ◌∙◌, arith}
use Rattle.std.proofs.lemmas.Bool.{cases_lt, eq-eqb, le-leb, le-ltb, lt-leb, lt-ltb, ne_eqb}
use Rattle.std.proofs.lemmas.List.{length-map, take_all}
use Rattle.std.proofs.lemmas.List.Folds.{list_all-append, list_all_at, list_all_more}
use Rattle.std.proofs.lemmas.Simd.{length-chunk, map-map, mask_l-mod, zip2_splat_left}
use Rattle.std.proofs.Math.Seq.{take-add}
use Rattle.std.specs.Simd.Lanes.{chunk, mask_l, top, zip2}
use Rattle.prettyless_model.specs.Metrics.{is_ascii}

abbrev at_most : ℕ → ℕ → ℕ
at_most a b = cond (nat_le a b) 255 0

-- ---- four bytes

abbrev high : ℕ → Bool
high x = top 7 (at_most 128 x)

double_zero : (m : ℕ) → (0 + 2 * m == 0) ≡ (m == 0)
double_zero m = go (cases_lt 0 m)
  where
    go : (0 < m) ⊎ (m ≤ 0) → (0 + 2 * m == 0) ≡ (m == 0)
    go (inl some) = ne_eqb (0 + 2 * m) 0 (λ e. omega arith) ∙ sym (ne_eqb m 0 (λ e. omega arith))
    go (inr none) = eq-eqb (0 + 2 * m) 0 (omega arith) ∙ sym (eq-eqb m 0 (omega arith))

none_high : (v : List ℕ) → (mask_l (map high v) == 0) ≡ is_ascii v
none_high [] = refl
none_high (x ∷ v) = go (none_high v) (cases_lt x 128)
  where
    go : (mask_l (map high v) == 0) ≡ is_ascii v → (x < 128) ⊎ (128 ≤ x) → (mask_l (map high (x ∷ v)) == 0) ≡ is_ascii (x ∷ v)
    go below (inl low) = rw (lt-ltb x 128 low) (rw (lt-leb 128 x low) (double_zero (mask_l (map high v)) ∙ below))
    go below (inr over) = rw (le-ltb x 128 over) (rw (le-leb 128 x over) (ne_eqb (1 + 2 * mask_l (map high v)) 0 (λ e. omega arith)))

pub four_tested : (d : List ℕ) (from : ℕ) → from + 4 ≤ length d →
    (mask_l (map (top 7) (zip2 at_most (replicate 4 128) (chunk from 4 d))) % 2 ^ 64 == 0) ≡ is_ascii (chunk from 4 d)
four_tested d from room =
    let v = chunk from 4 d in
    let long = length-chunk from 4 d room in
    ap (λ l. mask_l l % 2 ^ 64 == 0) (ap (map (top 7)) (zip2_splat_left at_most 128 4 v long) ∙ map-map (top 7) (at_most 128) v)
    ∙ ap (λ n. n == 0) (mask_l-mod (map high v) 64 (omega (arith, length-map v high)))
    ∙ none_high v

-- ---- the bytes up to a place

pub four_more : (d : List ℕ) (place : ℕ) → is_ascii (take place d) ≡ true → is_ascii (take 4 (drop place d)) ≡ true →
    is_ascii (take (place + 4) d) ≡ true
four_more d place h k =
    ap is_ascii (take-add place 4 d) ∙ list_all-append (λ b. nat_lt b 128) (take place d) (take 4 (drop place d))
    ∙ (λ i. h i && k i)

pub one_more : (d : List ℕ) (place : ℕ) → place < length d → is_ascii (take place d) ≡ true → get_or d place 0 < 128 →
    is_ascii (take (place + 1) d) ≡ true
one_more d place lt h low = list_all_more (λ b. nat_lt b 128) d place 0 lt ∙ (λ i. h i && lt-ltb (get_or d place 0) 128 low i)

pub one_over : (d : List ℕ) (place : ℕ) → place < length d → 128 ≤ get_or d place 0 → is_ascii d ≡ false
one_over d place lt over = list_all_at (λ b. nat_lt b 128) d place 0 lt (le-ltb (get_or d place 0) 128 over)

pub all_passed : (d : List ℕ) (place : ℕ) → length d ≤ place → is_ascii (take place d) ≡ true → is_ascii d ≡ true
all_passed d place past h = ap is_ascii (sym (take_all place d past)) ∙ h
