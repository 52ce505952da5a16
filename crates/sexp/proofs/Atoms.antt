-- The number at the front of some bytes: the digits up to the first byte that is none.
use Rattle.std.proofs.Common.{◌≡◌, ℕ, ◌^◌, ◌<◌, ◌≤◌, true, List, [], ◌∷◌, ◌++◌, length, get_or, take, drop, refl, sym, ap, subst, ◌∙◌}
use Rattle.std.proofs.Common.{arith}
use Rattle.std.specs.Char.{digit_value, is_ascii_digit}
use Rattle.std.specs.Str.Parse.{AllDigits, IsNumeral, digits_value}
use Rattle.std.proofs.lemmas.Bool.Decides.{nat_tests}
use Rattle.std.specs.Int.{IsInRange}
use Rattle.std.proofs.lemmas.List.{length-take, get_or-take, take-append-drop}
use Rattle.std.proofs.lemmas.Str.Parse.{digit_from_value, numerals_by_value, tells_by_index}
use Rattle.sexp.specs.Fronts.{EndsNumber, IsNumberFront, HasNoNumberFront}

-- a byte with the value of a digit is no end of a number
digit_goes_on : (b : ℕ) (bs : List ℕ) → digit_value b < 10 → EndsNumber (b ∷ bs) → ⊥
digit_goes_on b bs lt ends = let range = digit_from_value b lt in grind (arith, nat_tests)

cons_parts : (a b : ℕ) (xs ys : List ℕ) → a ∷ xs ≡ b ∷ ys → (a ≡ b) × (xs ≡ ys)
cons_parts a b xs ys e = (cc, cc)

-- digits up to an end are cut off in one way
one_cut : (ds es rest other : List ℕ) → AllDigits 10 ds → AllDigits 10 es → EndsNumber rest → EndsNumber other → ds ++ rest ≡ es ++ other
    → (ds ≡ es) × (rest ≡ other)
one_cut [] [] rest other d e r o same = (refl, same)
one_cut [] (b ∷ es) rest other d e r o same = absurd (digit_goes_on b (es ++ other) e.0 (subst EndsNumber same r))
one_cut (a ∷ ds) [] rest other d e r o same = absurd (digit_goes_on a (ds ++ rest) d.0 (subst EndsNumber (sym same) o))
one_cut (a ∷ ds) (b ∷ es) rest other d e r o same =
    let parts = cons_parts a b (ds ++ rest) (es ++ other) same in
    let more = one_cut ds es rest other d.1 e.1 r o parts.1 in
    (subst (λ (c : ℕ). a ∷ ds ≡ c ∷ es) parts.0 (ap (λ (xs : List ℕ). a ∷ xs) more.0), more.1)

-- where the digits in front write a number up to 4294967295, it is the front
number_front : (ds rest : List ℕ) → IsNumeral 10 ds → EndsNumber rest → digits_value 10 ds < 2 ^ 32
    → IsNumberFront (ds ++ rest) (digits_value 10 ds) rest
number_front ds rest h r small = record {
  begins = (ds, refl, ((h, refl), small));
  only = λ m other b o.
      let cut = one_cut ds b.0 rest other h.1 b.2.0.0.1 r o b.1 in
      (b.2.0.1 ∙ ap (digits_value 10) (sym cut.0), sym cut.1);
}

-- and where they write none, no number is
no_number_front : (ds rest : List ℕ) → AllDigits 10 ds → EndsNumber rest → (IsNumeral 10 ds → digits_value 10 ds < 2 ^ 32 → ⊥)
    → HasNoNumberFront (ds ++ rest)
no_number_front ds rest d r none m other b o =
    let cut = one_cut ds b.0 rest other d b.2.0.0.1 r o b.1 in
    none (subst (IsNumeral 10) (sym cut.0) b.2.0.0) (rw cut.0 (omega (arith, b.2.0.1, b.2.1)))

-- ---- where the first n bytes are digits, and the next is none

module _ (bytes : List ℕ) (n : ℕ) (within : n ≤ length bytes) (digits : (k : ℕ) → k < n → is_ascii_digit (get_or bytes k 0) ≡ true)
    (ends : EndsNumber (drop n bytes)) where
  in_range : (i : ℕ) → i < length (take n bytes) → IsInRange 48 57 (get_or (take n bytes) i 0)
  in_range i lt =
      let below : i < n = omega (arith, length-take n bytes) in
      let digit = digits i below in
      rw get_or-take (grind (arith, nat_tests))

  all_digits : AllDigits 10 (take n bytes)
  all_digits = (numerals_by_value (λ ds. (i : ℕ) → i < length ds → IsInRange 48 57 (get_or ds i 0)) tells_by_index).to
      (take n bytes) in_range

  pub is_front : IsNumeral 10 (take n bytes) → digits_value 10 (take n bytes) < 2 ^ 32
      → IsNumberFront bytes (digits_value 10 (take n bytes)) (drop n bytes)
  is_front h small = subst (λ (x : List ℕ). IsNumberFront x (digits_value 10 (take n bytes)) (drop n bytes)) (take-append-drop n bytes)
      (number_front (take n bytes) (drop n bytes) h ends small)

  pub is_no_front : (IsNumeral 10 (take n bytes) → digits_value 10 (take n bytes) < 2 ^ 32 → ⊥) → HasNoNumberFront bytes
  is_no_front none = subst HasNoNumberFront (take-append-drop n bytes) (no_number_front (take n bytes) (drop n bytes) all_digits ends none)
