-- Bytes that are tested side by side: how many come before the first that a test finds.
use Rattle.std.proofs.Common.{◌≡◌, ℕ, ◌+◌, ◌-◌, ◌%◌, ◌^◌, ◌<◌, ◌≤◌, Bool, true, false, not, cond, nat_eq, nat_lt, List, map, length, get_or, replicate}
use Rattle.std.proofs.Common.{bit_or, inl, inr, ◌⊎◌, refl, sym, ap, ◌∙◌, subst, arith}
use Rattle.std.proofs.lemmas.Bool.{cases_Bool, or_cases, true≢false}
use Rattle.std.proofs.lemmas.List.{length-map}
use Rattle.std.proofs.lemmas.Simd.{length-chunk, map-map, mask_l-mod, none_from_empty_mask, run_in_chunk_fails, run_in_chunk_le}
use Rattle.std.proofs.lemmas.Simd.{trailing_mask_l, zip2_of_maps, zip2_splat}
use Rattle.json.specs.Word.{is_operator, is_space}
use Rattle.json_lexemes.specs.Words.{StringGoesOn, WordGoesOn}
use Rattle.json_lexemes.proofs.Classes.{each_operator, each_space}
use Rattle.json_lexemes.proofs.Ended.{ends}
use Rattle.std.specs.Int.Count.{count_trailing_zeros}
use Rattle.std.specs.List.{prefix_len}
use Rattle.std.specs.Simd.Lanes.{chunk, mask_l, top, zip2}

-- which of the lanes that are computed one by one are set
abbrev pub is_set : (ℕ → ℕ) → ℕ → Bool
is_set f x = top 7 (f x)

-- the mask of 16 such lanes
pub mask_is : (f : ℕ → ℕ) (v z : List ℕ) → length v ≡ 16 → z ≡ map f v → mask_l (map (top 7) z) % 2 ^ 64 ≡ mask_l (map (is_set f) v)
mask_is f v z long e =
    ap (λ l. mask_l l % 2 ^ 64) (ap (map (top 7)) e ∙ map-map (top 7) f v)
    ∙ mask_l-mod (map (is_set f) v) 64 (omega (arith, length-map v (is_set f)))

-- ---- 16 bytes from a place on, of which a test finds some or none

module _ (p : ℕ → Bool) (d : List ℕ) (from : ℕ) (room : from + 16 ≤ length d) where
  abbrev found : ℕ
  found = mask_l (map p (chunk from 16 d))

  pub none_found : found ≡ 0 → (i : ℕ) → from ≤ i → i < from + 16 → p (get_or d i 0) ≡ false
  none_found none = none_from_empty_mask p d from 16 0 room none

  module _ (some : 0 < found) where
    counted : count_trailing_zeros 64 found ≡ prefix_len (λ x. not (p x)) (chunk from 16 d)
    counted = trailing_mask_l p 64 (chunk from 16 d) (omega (arith, length-chunk from 16 d room)) some

    pub before_first : (i : ℕ) → from ≤ i → i < from + count_trailing_zeros 64 found → p (get_or d i 0) ≡ false
    before_first = run_in_chunk_fails p d from 16 (count_trailing_zeros 64 found) 0 room counted

    pub first_within : from + count_trailing_zeros 64 found ≤ length d
    first_within = omega (arith, run_in_chunk_le p d from 16 (count_trailing_zeros 64 found) 0 room counted, room)

-- ---- strings

abbrev hit : ℕ → ℕ → ℕ
hit a b = cond (nat_eq a b) 255 0

-- a quote or a backslash
abbrev pub stops_string : ℕ → ℕ
stops_string x = bit_or (hit x 34) (hit x 92)

pub string_mask : (v : List ℕ) → length v ≡ 16 →
    mask_l (map (top 7) (zip2 bit_or (zip2 hit v (replicate 16 34)) (zip2 hit v (replicate 16 92)))) % 2 ^ 64
    ≡ mask_l (map (is_set stops_string) v)
string_mask v long =
    mask_is stops_string v _ long
    (zip2_of_maps bit_or (λ x. hit x 34) (λ x. hit x 92) v (zip2_splat hit v 16 34 long) (zip2_splat hit v 16 92 long))

pub string_passed : (d : List ℕ) (from to : ℕ) → ((i : ℕ) → from ≤ i → i < to → is_set stops_string (get_or d i 0) ≡ false) →
    StringGoesOn d from to
string_passed d from to h i a b = (
  λ q. true≢false (subst (λ x. is_set stops_string x ≡ false) q (h i a b)),
  λ q. true≢false (subst (λ x. is_set stops_string x ≡ false) q (h i a b)),
)

-- ---- words

abbrev below : ℕ → ℕ → ℕ
below a b = cond (nat_lt a b) 255 0

abbrev less : ℕ → ℕ → ℕ
less a b = (a + (256 - b)) % 256

-- neither between `-` and `9` nor a letter
abbrev pub stops_word : ℕ → ℕ
stops_word x = 255 - bit_or (below (less x 45) 13) (below (less (bit_or x 32) 97) 26)

pub word_mask : (v : List ℕ) → length v ≡ 16 →
    mask_l (map (top 7) (map (λ x. 255 - x) (zip2 bit_or (zip2 below (zip2 less v (replicate 16 45)) (replicate 16 13))
    (zip2 below (zip2 less (zip2 bit_or v (replicate 16 32)) (replicate 16 97)) (replicate 16 26))))) % 2 ^ 64
    ≡ mask_l (map (is_set stops_word) v)
word_mask v long =
    mask_is stops_word v _ long
    (ap (map (λ x. 255 - x)) (zip2_of_maps bit_or _ _ v digits letters) ∙ map-map (λ x. 255 - x) _ v)
  where
    splat : (f : ℕ → ℕ → ℕ) (g : ℕ → ℕ) (y : ℕ) {z : List ℕ} → z ≡ map g v → zip2 f z (replicate 16 y) ≡ map (λ x. f (g x) y) v
    splat f g y e =
        ap (λ z. zip2 f z (replicate 16 y)) e ∙ zip2_splat f (map g v) 16 y (length-map v g ∙ long) ∙ map-map (λ x. f x y) g v

    digits : zip2 below (zip2 less v (replicate 16 45)) (replicate 16 13) ≡ map (λ x. below (less x 45) 13) v
    digits = splat below (λ x. less x 45) 13 (zip2_splat less v 16 45 long)

    letters : zip2 below (zip2 less (zip2 bit_or v (replicate 16 32)) (replicate 16 97)) (replicate 16 26)
        ≡ map (λ x. below (less (bit_or x 32) 97) 26) v
    letters =
        splat below (λ x. less (bit_or x 32) 97) 26 (splat less (λ x. bit_or x 32) 97 (zip2_splat bit_or v 16 32 long))

none_ends : (x : ℕ) → is_set stops_word x ≡ false → ends x ≡ false
none_ends x h = go (cases_Bool (ends x))
  where
    no : (is_operator x ≡ true) ⊎ (is_space x ≡ true) → is_set stops_word x ≡ true
    no (inl e) = each_operator (λ y. is_set stops_word y ≡ true) refl refl refl refl refl refl x e
    no (inr e) = each_space (λ y. is_set stops_word y ≡ true) refl refl refl refl x e

    go : (ends x ≡ true) ⊎ (ends x ≡ false) → ends x ≡ false
    go (inl e) = absurd (true≢false (sym (no (or_cases _ _ e)) ∙ h))
    go (inr e) = e

pub word_passed : (d : List ℕ) (from to : ℕ) → ((i : ℕ) → from ≤ i → i < to → is_set stops_word (get_or d i 0) ≡ false) →
    WordGoesOn d from to
word_passed d from to h i a b = none_ends (get_or d i 0) (h i a b)
