-- What a writer that compares knows after a write, and whoever made it after the writes of others.
use Rattle.std.proofs.Common.{◌≡◌, ◌∙◌, ◌+◌, ◌-◌, ◌≤◌, sym, ap, ℕ, List, ◌∷◌, ◌++◌, length, take, drop, true, Bool, append_assoc}
use Rattle.std.proofs.Common.{append-nil, length-append, refl, subst, arith}
use Rattle.std.specs.Cmp.Lexicographic.{pointwise}
use Rattle.std.specs.Prelude.{nat_eq}
use Rattle.std.proofs.lemmas.Bool.Decides.{Decides-eqb}
use Rattle.std.proofs.lemmas.List.{append_cancel_left, length-take-le, take-append-drop, take_all, take_at, take_rest}
use Rattle.std.proofs.Math.Seq.{take-length}
use Rattle.std.proofs.lemmas.Slice.Eq.{starts_is}
use Rattle.formatter_files.specs.Comparing.{compared_account}

module _ (text bytes : List ℕ) (count : ℕ) (found : Bool) (is_found : found
    ≡ pointwise nat_eq bytes (take (length bytes) (take (length text - count) (drop count text)))) where
  -- what is still to be written of the text
  abbrev left : List ℕ
  left = take (length text - count) (drop count text)

  is_left : left ≡ drop count text
  is_left = take_rest text count

  -- where the bytes are found next in the text, they are written of it
  pub goes_on : count ≤ length text → found ≡ true → take (count + length bytes) text ≡ take count text ++ bytes
  goes_on within h =
      let front = take count text in
      let rest = drop (length bytes) left in
      let next : drop count text ≡ bytes ++ rest = sym is_left ∙ (starts_is Decides-eqb left bytes found is_found).0 h in
      let whole : text ≡ (front ++ bytes) ++ rest =
      sym (take-append-drop count text) ∙ (ap (λ (l : List ℕ). front ++ l) next ∙ sym (append_assoc front bytes rest)) in
      let long : length (front ++ bytes) ≡ count + length bytes =
      length-append front bytes ∙ ap (λ (n : ℕ). n + length bytes) (length-take-le count text within) in
      ap (take (count + length bytes)) whole ∙ take_at (front ++ bytes) rest (count + length bytes) long

  -- and the account grows by them
  pub account_grows : count ≤ length text → found ≡ true → compared_account text (count + length bytes) ≡ compared_account text count
      ++ take (length bytes) bytes
  account_grows within h =
      let more = goes_on within h ∙ ap (λ (l : List ℕ). take count text ++ l) (sym (take-length bytes)) in
      ap (λ (l : List ℕ). length text ∷ l) (ap (λ (l : List ℕ). text ++ l) more
      ∙ sym (append_assoc text (take count text) (take (length bytes) bytes)))

  -- where they are not found, the text does not go on with them
  pub differs : (found ≡ true → ⊥) → (rest : List ℕ) → drop count text ≡ bytes ++ rest → ⊥
  differs other rest next = other ((starts_is Decides-eqb left bytes found is_found).1 rest (is_left ∙ next))

-- the heads and the tails of equal lists
heads : (a b : ℕ) (s t : List ℕ) → a ∷ s ≡ b ∷ t → a ≡ b
heads a b s t e = cc

tails : (a b : ℕ) (s t : List ℕ) → a ∷ s ≡ b ∷ t → s ≡ t
tails a b s t e = cc

module _ (text other layout : List ℕ) (count : ℕ) (grew : compared_account other count ≡ compared_account text 0 ++ layout) where
  text_and_layout : other ++ take count other ≡ text ++ layout
  text_and_layout = tails _ _ _ _ grew ∙ ap (λ (l : List ℕ). l ++ layout) (append-nil text)

  -- the text is the same
  pub same_text : other ≡ text
  same_text =
      sym (take_at other (take count other) (length text) (heads _ _ _ _ grew))
      ∙ (ap (take (length text)) text_and_layout ∙ take_at text layout (length text) refl)

  -- the whole text was written, so it is the layout
  pub whole_layout : count ≡ length other → layout ≡ text
  whole_layout whole =
      let written : take count other ≡ other = take_all count other (omega (arith, whole)) in
      let same : text ++ take count other ≡ text ++ layout = subst (λ (l : List ℕ).
      l ++ take count other ≡ text ++ layout) same_text text_and_layout in
      sym (append_cancel_left text (take count other) layout same) ∙ (written ∙ same_text)
