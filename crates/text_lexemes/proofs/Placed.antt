-- The place after one byte more.
use Rattle.std.proofs.Common.{◌≡◌, refl, sym, ◌∙◌, ap, ℕ, ◌+◌, ◌≤◌, true, false, Bool, cond, List, [], ◌∷◌, ◌++◌, length, length-append}
use Rattle.std.proofs.Common.{inl, inr, arith}
use Rattle.std.specs.List.{count_by}
use Rattle.std.proofs.lemmas.List.{append-nil}
use Rattle.std.proofs.lemmas.List.Sums.{count_by-le-length, sum_by-append}
use Rattle.text_lexemes.specs.Places.{is_line_feed, is_counted, IsPlace}
use Rattle.text_lexemes.specs.declared.place.Place.{Place}

module _ (p : ℕ → Bool) (xs : List ℕ) (b : ℕ) where
  count_yes : p b ≡ true → count_by p (xs ++ b ∷ []) ≡ count_by p xs + 1
  count_yes e = sum_by-append (λ x. cond (p x) 1 0) xs (b ∷ []) ∙ rw e refl

  count_no : p b ≡ false → count_by p (xs ++ b ∷ []) ≡ count_by p xs
  count_no e = sum_by-append (λ x. cond (p x) 1 0) xs (b ∷ []) ∙ rw e (omega arith)

-- before any byte
pub at_start : IsPlace [] (record { line = 1; column = 1 })
at_start = record { lines = []; rest = []; cut = (refl, refl, inl refl); line = refl; column = refl }

-- after a line feed
pub after_line : (bytes : List ℕ) (place : Place) → IsPlace bytes place →
    IsPlace (bytes ++ 10 ∷ []) (record { line = place.line + 1; column = 1 })
after_line bytes place h = record {
  lines = bytes ++ 10 ∷ [];
  rest = [];
  cut = (sym (append-nil (bytes ++ 10 ∷ [])), refl, inr (bytes, refl));
  line =
      ap (λ (n : ℕ). n + 1)
      (h.line ∙ sym (count_yes is_line_feed bytes 10 refl ∙ ap (λ (n : ℕ). n + 1)
      (ap (count_by is_line_feed) h.cut.0 ∙ sum_by-append (λ x. cond (is_line_feed x) 1 0) h.lines h.rest ∙ rw h.cut.1 (omega arith))));
  column = refl;
}

-- a place is no further than the bytes
pub place_within : (bytes : List ℕ) (place : Place) → IsPlace bytes place →
    (place.line ≤ length bytes + 1) × (place.column ≤ length bytes + 1)
place_within bytes place h =
    let whole = ap length h.cut.0 ∙ length-append h.lines h.rest in (
      omega (arith, h.line, count_by-le-length is_line_feed h.lines, whole),
      omega
          (arith, h.column, count_by-le-length is_counted h.rest, whole),
    )
