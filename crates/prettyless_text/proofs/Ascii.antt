-- `is_ascii` by its bytes.
use Rattle.std.proofs.Common.{◌≡◌, ℕ, suc, zero, ◌+◌, ◌<◌, ◌≤◌, ◌∙◌, ap, add-one, true, false, List, [], ◌∷◌, length, take, get_or, bit_or}
use Rattle.std.proofs.Common.{nat_lt, ◌&&◌, sym, refl, inl, inr, arith}
use Rattle.std.proofs.lemmas.Bool.{lt-ltb, le-ltb}
use Rattle.std.proofs.lemmas.Bool.Decides.{leb_tells}
use Rattle.std.proofs.lemmas.Nat.{le_or_l, le_or_r, or_lt}
use Rattle.prettyless_model.specs.Metrics.{is_ascii}

-- a number of ASCII bits has no more with those of another, where that is ASCII
or-below : (a b : ℕ) → b < 128 → nat_lt (bit_or a b) 128 ≡ nat_lt a 128
or-below a b h = elim (leb_tells (suc a) 128) [
  | inl l ↦ lt-ltb _ 128 (or_lt 7 a b (omega (arith, l.1)) h) ∙ sym l.0
  | inr g ↦ le-ltb _ 128 (omega (arith, g.1, le_or_l a b)) ∙ sym g.0
]

or-above : (a b : ℕ) → 128 ≤ b → nat_lt (bit_or a b) 128 ≡ false
or-above a b h = le-ltb _ 128 (omega (arith, h, le_or_r a b))

below-next : (s : List ℕ) (i : ℕ) → get_or s i 0 < 128 → is_ascii (take (suc i) s) ≡ is_ascii (take i s)
below-next [] zero h = refl
below-next [] (suc i) h = refl
below-next (b ∷ s) zero h = rw (lt-ltb b 128 h) refl
below-next (b ∷ s) (suc i) h = rw (below-next s i h) refl

above-next : (s : List ℕ) (i : ℕ) → i < length s → 128 ≤ get_or s i 0 → is_ascii (take (suc i) s) ≡ false
above-next [] i l h = absurd (omega arith)
above-next (b ∷ s) zero l h = rw (le-ltb b 128 h) refl
above-next (b ∷ s) (suc i) l h =
    elim (nat_lt b 128) as (λ t. t && is_ascii (take (suc i) s) ≡ false)
    [ true ↦ above-next s i (omega arith) h | false ↦ refl ]

-- one byte more, which is ASCII
pub is_ascii-take_below : (s : List ℕ) (i : ℕ) → get_or s i 0 < 128 → is_ascii (take (i + 1) s) ≡ is_ascii (take i s)
is_ascii-take_below s i h = ap (λ n. is_ascii (take n s)) (add-one i) ∙ below-next s i h

-- one byte more, which is not
pub is_ascii-take_above : (s : List ℕ) (i : ℕ) → i < length s → 128 ≤ get_or s i 0 → is_ascii (take (i + 1) s) ≡ false
is_ascii-take_above s i l h = ap (λ n. is_ascii (take n s)) (add-one i) ∙ above-next s i l h

-- what the bits of all bytes say, with those of one byte more
pub is_ascii-or : (all : ℕ) (s : List ℕ) (i : ℕ) → i < length s → nat_lt all 128 ≡ is_ascii (take i s)
    → nat_lt (bit_or all (get_or s i 0)) 128 ≡ is_ascii (take (i + 1) s)
is_ascii-or all s i l h = elim (leb_tells (suc (get_or s i 0)) 128) [
  | inl b ↦ or-below all _ (omega (arith, b.1)) ∙ h ∙ sym (is_ascii-take_below s i (omega (arith, b.1)))
  | inr b ↦ or-above all _ (omega (arith, b.1)) ∙ sym (is_ascii-take_above s i l (omega (arith, b.1)))
]
