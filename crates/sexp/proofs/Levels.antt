-- A value at the front: a list where a parenthesis opens, and else a number.
use Rattle.std.proofs.Common.{◌≡◌, ℕ, ◌-◌, ◌<◌, ◌≤◌, true, List, ◌∷◌, sym, ap, subst, ◌∙◌, arith}
use Rattle.std.specs.Char.{is_ascii_digit}
use Rattle.std.proofs.lemmas.Bool.Decides.{nat_tests}
use Rattle.sexp.specs.Value.{SexpValue, Values, number, list, value_depth}
use Rattle.sexp.specs.Grammar.{opening}
use Rattle.sexp.specs.Fronts.{EndsNumber, BeginsValue, Closes, IsNumberFront, HasNoNumberFront, IsFront, HasNoFront, IsListFront}
use Rattle.sexp.specs.Fronts.{HasNoListFront, RefusesInput}
use Rattle.sexp.specs.declared.error.RunError.{RunError}
use Rattle.sexp.specs.declared.error.RunError.TheVariants.{NotAnSexp, Memory, Read, Write}
use Rattle.sexp.proofs.Fronts.{opens, opened, first_digit}

parts : (a b : ℕ) (xs ys : List ℕ) → a ∷ xs ≡ b ∷ ys → (a ≡ b) × (xs ≡ ys)
parts a b xs ys e = (cc, cc)

opening_is_no_digit : (b : ℕ) → opening ≡ b → is_ascii_digit b ≡ true → ⊥
opening_is_no_digit b e digit = grind (arith, nat_tests)

-- where a parenthesis opens, no number is
not_a_number : (n : ℕ) (inner rest : List ℕ) → BeginsValue (number n) (opening ∷ inner) rest → ⊥
not_a_number n inner rest h =
    let f = first_digit h.0 rest h.2.0.0 in
    opening_is_no_digit f.0 (parts opening f.0 inner f.1 (h.1 ∙ f.2)).0 f.3

-- ---- where a parenthesis opens

module _ (levels : ℕ) (inner : List ℕ) where
  opened_only : (vs : Values) (rest : List ℕ) → 0 < levels → IsListFront (levels - 1) inner vs rest → (w : SexpValue) (other : List ℕ)
      → BeginsValue w (opening ∷ inner) other → value_depth w ≤ levels → EndsNumber other → (w ≡ list vs) × (other ≡ rest)
  opened_only vs rest more front (number n) other b d e = absurd (not_a_number n inner other b)
  opened_only vs rest more front (list ws) other b d e =
      let o = opens ws (opening ∷ inner) other b in
      let same = front.only ws other (subst (λ (x : List ℕ). Closes ws x other) (sym (parts opening opening inner o.0 o.1).1) o.2)
      (omega arith) in
      (ap list same.0, same.1)

  pub list_front : (vs : Values) (rest : List ℕ) → 0 < levels → IsListFront (levels - 1) inner vs rest
      → IsFront levels (opening ∷ inner) (list vs) rest
  list_front vs rest more front = record {
    begins = opened vs inner rest front.closes;
    nesting = omega (arith, front.nesting);
    only = opened_only vs rest more front;
  }

  pub no_list_front : 0 < levels → HasNoListFront (levels - 1) inner → HasNoFront levels (opening ∷ inner)
  no_list_front more missing (number n) other b d e = not_a_number n inner other b
  no_list_front more missing (list ws) other b d e =
      let o = opens ws (opening ∷ inner) other b in
      missing ws other (subst (λ (x : List ℕ). Closes ws x other) (sym (parts opening opening inner o.0 o.1).1) o.2) (omega arith)

  pub no_level_left : levels ≡ 0 → HasNoFront levels (opening ∷ inner)
  no_level_left all (number n) other b d e = not_a_number n inner other b
  no_level_left all (list ws) other b d e = omega arith

-- ---- where none opens

module _ (levels : ℕ) (bytes : List ℕ) (no_opening : (inner : List ℕ) → bytes ≡ opening ∷ inner → ⊥) where
  number_only : (n : ℕ) (rest : List ℕ) → IsNumberFront bytes n rest → (w : SexpValue) (other : List ℕ) → BeginsValue w bytes other
      → value_depth w ≤ levels → EndsNumber other → (w ≡ number n) × (other ≡ rest)
  number_only n rest front (number m) other b d e = let same = front.only m other b e in (ap number same.0, same.1)
  number_only n rest front (list ws) other b d e = let o = opens ws bytes other b in absurd (no_opening o.0 o.1)

  pub atom_front : (n : ℕ) (rest : List ℕ) → IsNumberFront bytes n rest → IsFront levels bytes (number n) rest
  atom_front n rest front = record { begins = front.begins; nesting = omega arith; only = number_only n rest front }

  pub no_atom_front : HasNoNumberFront bytes → HasNoFront levels bytes
  no_atom_front missing (number m) other b d e = missing m other b e
  no_atom_front missing (list ws) other b d e = let o = opens ws bytes other b in no_opening o.0 o.1

-- ---- what a reader answers

-- an error that says one thing says what follows from it
pub refuses_more : (e : RunError) (P Q : Type 0) → (P → Q) → RefusesInput e P → RefusesInput e Q
refuses_more NotAnSexp P Q f h = f h
refuses_more (Memory e) P Q f h = tt
refuses_more (Read e) P Q f h = h
refuses_more (Write e) P Q f h = h
