-- A valid comment holds no CR.
use Rattle.std.proofs.Common.{◌≡◌, ◌≢◌, ℕ, zero, suc, true, ◌==◌, List, [], ◌∷◌, All, sym, ap, ◌∙◌, arith}
use Rattle.std.proofs.lemmas.Bool.{and_parts, true≢false}
use Rattle.std.specs.List.{list_all}
use Rattle.toml_lexemes.specs.Spaced.{EndsWithReturn}
use Rattle.toml_grammar.specs.Bytes.{first_byte, is_non_eol}
use Rattle.toml_grammar.specs.Comments.{is_comment}

-- CR is a control character
non_eol_no_return : (x : ℕ) → is_non_eol x ≡ true → x ≢ 13
non_eol_no_return x p e = true≢false (sym p ∙ ap is_non_eol e)

all_no_return : (s : List ℕ) → list_all is_non_eol s ≡ true → All (λ x. x ≢ 13) s
all_no_return [] p k d h = absurd (omega arith)
all_no_return (x ∷ xs) p zero d h = non_eol_no_return x (and_parts (is_non_eol x) (list_all is_non_eol xs) p).0
all_no_return (x ∷ xs) p (suc k) d h = all_no_return xs (and_parts (is_non_eol x) (list_all is_non_eol xs) p).1 k d (omega arith)

end_no_return : (s : List ℕ) → list_all is_non_eol s ≡ true → EndsWithReturn s → ⊥
end_no_return [] p e = e
end_no_return (x ∷ []) p e = non_eol_no_return x (and_parts (is_non_eol x) true p).0 e
end_no_return (x ∷ (y ∷ ys)) p e = end_no_return (y ∷ ys) (and_parts (is_non_eol x) (list_all is_non_eol (y ∷ ys)) p).1 e

pub comments_hold_no_return : (s : List ℕ) → is_comment s ≡ true → All (λ x. x ≢ 13) s
unfolding is_comment
comments_hold_no_return s e = all_no_return s (and_parts (first_byte s == 35) (list_all is_non_eol s) e).1

pub comments_end_with_no_return : (s : List ℕ) → is_comment s ≡ true → EndsWithReturn s → ⊥
unfolding is_comment
comments_end_with_no_return s e = end_no_return s (and_parts (first_byte s == 35) (list_all is_non_eol s) e).1
