-- What a word is does not depend on what is after it, where that is an operator, a space or the end.
use Rattle.std.proofs.Common.{◌≡◌, ℕ, ◌+◌, ◌-◌, Bool, true, false, cond, ◌&&◌, ◌||◌, ◌==◌, nat_eq, List, [], ◌∷◌, ◌++◌, length, take}
use Rattle.std.proofs.Common.{drop, Option, Some, None, option_and_then, inl, inr, ◌⊎◌, refl, sym, ap, ap₂, ◌∙◌, subst, arith}
use Rattle.std.proofs.lemmas.Bool.{true≢false, false≢true, ne_eqb, or_cases}
use Rattle.std.proofs.lemmas.List.{length-append, take-append-le, drop-append-le}
use Rattle.std.proofs.lemmas.List.Sums.{prefix_len-le-length}
use Rattle.std.specs.Prelude.{⊤}
use Rattle.std.specs.List.{prefix_len, starts_with}
use Rattle.std.specs.Char.{is_ascii_digit}
use Rattle.json.specs.Token.{Token, number, boolean, null, bad}
use Rattle.json.specs.Word.{is_operator, is_space, head, ends_word, after_digits, after_minus, after_sign, after_whole, after_fraction}
use Rattle.json.specs.Word.{after_exponent, after_number, number_before, literal, word}
use Rattle.json_lexemes.proofs.Classes.{each_space, each_operator}

abbrev pub ends : ℕ → Bool
ends x = is_operator x || is_space x

is_not : (x c : ℕ) → ends x ≡ true → ends c ≡ false → (x == c) ≡ false
is_not x c h k = ne_eqb x c (λ e. true≢false (sym h ∙ ap ends e ∙ k))

end_is_no_digit : (x : ℕ) → ends x ≡ true → is_ascii_digit x ≡ false
end_is_no_digit x h = go (or_cases _ _ h)
  where
    go : (is_operator x ≡ true) ⊎ (is_space x ≡ true) → is_ascii_digit x ≡ false
    go (inl e) = each_operator (λ y. is_ascii_digit y ≡ false) refl refl refl refl refl refl x e
    go (inr e) = each_space (λ y. is_ascii_digit y ≡ false) refl refl refl refl x e

module _ (rest : List ℕ) (ended : ends_word rest ≡ true) where
  -- o is what a part leaves of t, and p what it leaves of t with the rest
  abbrev Extends : Option (List ℕ) → Option (List ℕ) → Type 0
  Extends None p = p ≡ None
  Extends (Some r) p = p ≡ Some (r ++ rest)

  same_test : (c : ℕ) (t : List ℕ) → ends c ≡ false → (head (t ++ rest) == c) ≡ (head t == c)
  same_test c [] k = is_not (head rest) c ended k ∙ sym (is_not 32 c refl k)
  same_test c (x ∷ xs) k = refl

  one : (c : ℕ) (t : List ℕ) → ends c ≡ false → (head t == c) ≡ true → drop 1 (t ++ rest) ≡ drop 1 t ++ rest
  one c [] k e = absurd (false≢true (sym (is_not 32 c refl k) ∙ e))
  one c (x ∷ xs) k e = refl

  either : (a b : ℕ) (t : List ℕ) → ends a ≡ false → ends b ≡ false → ((head t == a) || (head t == b)) ≡ true →
      drop 1 (t ++ rest) ≡ drop 1 t ++ rest
  either a b t k l e = go (or_cases _ _ e)
    where
      go : ((head t == a) ≡ true) ⊎ ((head t == b) ≡ true) → drop 1 (t ++ rest) ≡ drop 1 t ++ rest
      go (inl f) = one a t k f
      go (inr f) = one b t l f

  -- both take the same side of a test
  by_test : (b c : Bool) (x y p q : Option (List ℕ)) → c ≡ b → (b ≡ true → Extends x p) → Extends y q → Extends (cond b x y) (cond c p q)
  by_test true true x y p q e f g = f refl
  by_test false false x y p q e f g = g
  by_test true false x y p q e f g = absurd (false≢true e)
  by_test false true x y p q e f g = absurd (true≢false e)

  optional : (t : List ℕ) (b c : Bool) → c ≡ b → (b ≡ true → drop 1 (t ++ rest) ≡ drop 1 t ++ rest) →
      cond c (drop 1 (t ++ rest)) (t ++ rest) ≡ cond b (drop 1 t) t ++ rest
  optional t true true e f = f refl
  optional t false false e f = refl
  optional t true false e f = absurd (false≢true e)
  optional t false true e f = absurd (true≢false e)

  no_digit : (r : List ℕ) → ends_word r ≡ true → prefix_len is_ascii_digit r ≡ 0
  no_digit [] h = refl
  no_digit (x ∷ xs) h = ap (λ b. cond b (1 + prefix_len is_ascii_digit xs) 0) (end_is_no_digit x h)

  same_run : (t : List ℕ) → prefix_len is_ascii_digit (t ++ rest) ≡ prefix_len is_ascii_digit t
  same_run [] = no_digit rest ended
  same_run (x ∷ xs) = ap (λ n. cond (is_ascii_digit x) (1 + n) 0) (same_run xs)

  digits : (t : List ℕ) → Extends (after_digits t) (after_digits (t ++ rest))
  digits t =
      let n = prefix_len is_ascii_digit t in
      by_test (n == 0) _ None _ None _ (ap (λ k. k == 0) (same_run t)) (λ e. refl)
      (ap Some (ap (λ k. drop k (t ++ rest)) (same_run t) ∙ drop-append-le n t rest (prefix_len-le-length is_ascii_digit t)))

  -- the same part after a byte or none
  at : (f : List ℕ → Option (List ℕ)) (t u : List ℕ) → u ≡ t ++ rest → Extends (f t) (f (t ++ rest)) → Extends (f t) (f u)
  at f t u e h = subst (λ v. Extends (f t) (f v)) (sym e) h

  whole : (t : List ℕ) → Extends (after_whole t) (after_whole (t ++ rest))
  whole t = by_test (head t == 48) _ (Some (drop 1 t)) _ _ _ (same_test 48 t refl) (λ e. ap Some (one 48 t refl e)) (digits t)

  fraction : (t : List ℕ) → Extends (after_fraction t) (after_fraction (t ++ rest))
  fraction t = by_test (head t == 46) _ _ (Some t) _ _ (same_test 46 t refl)
      (λ e. at after_digits (drop 1 t) _ (one 46 t refl e) (digits (drop 1 t))) refl

  sign : (t : List ℕ) → after_sign (t ++ rest) ≡ after_sign t ++ rest
  sign t = optional t _ _ (ap₂ (λ a b. a || b) (same_test 45 t refl) (same_test 43 t refl)) (either 45 43 t refl refl)

  signed : (t : List ℕ) → Extends (after_digits (after_sign t)) (after_digits (after_sign (t ++ rest)))
  signed t = at after_digits (after_sign t) _ (sign t) (digits (after_sign t))

  exponent : (t : List ℕ) → Extends (after_exponent t) (after_exponent (t ++ rest))
  exponent t =
      by_test ((head t == 101) || (head t == 69)) _ _ (Some t) _ _ (ap₂ (λ a b. a || b) (same_test 101 t refl) (same_test 69 t refl))
      (λ e. at (λ u. after_digits (after_sign u)) (drop 1 t) _ (either 101 69 t refl refl e) (signed (drop 1 t))) refl

  then : (f : List ℕ → Option (List ℕ)) → ((t : List ℕ) → Extends (f t) (f (t ++ rest))) → (o p : Option (List ℕ)) → Extends o p
      → Extends (option_and_then f o) (option_and_then f p)
  then f g None p h = ap (option_and_then f) h
  then f g (Some r) p h = subst (λ q. Extends (f r) (option_and_then f q)) (sym h) (g r)

  minus : (t : List ℕ) → after_minus (t ++ rest) ≡ after_minus t ++ rest
  minus t = optional t _ _ (same_test 45 t refl) (one 45 t refl)

  whole_number : (t : List ℕ) → Extends (after_number t) (after_number (t ++ rest))
  unfolding after_number
  whole_number t = then after_exponent exponent _ _ (then after_fraction fraction _ _
      (at after_whole (after_minus t) _ (minus t) (whole (after_minus t))))

  same_end : (t : List ℕ) → ends_word (t ++ rest) ≡ ends_word t
  same_end [] = ended
  same_end (x ∷ xs) = refl

  same_number : (t : List ℕ) (o p : Option (List ℕ)) → Extends o p → number_before (t ++ rest) p ≡ number_before t o
  same_number t None p h = ap (number_before (t ++ rest)) h
  same_number t (Some r) p h =
      let n : length (t ++ rest) - length (r ++ rest) ≡ length t - length r = omega (arith, length-append t rest, length-append r rest) in
      ap (number_before (t ++ rest)) h
      ∙ ap₂ (λ b s. cond b (number s) bad) (same_end r) (ap (λ k. take k (t ++ rest)) n
      ∙ take-append-le (length t - length r) t rest (omega arith))

  -- ---- literals

  abbrev AreLetters : List ℕ → Type 0
  AreLetters [] = ⊤
  AreLetters (c ∷ cs) = (ends c ≡ false) × AreLetters cs

  abbrev fits : List ℕ → List ℕ → Bool
  fits name t = starts_with nat_eq t name && ends_word (drop (length name) t)

  under : (a p e q f : Bool) → (p && e) ≡ (q && f) → ((a && p) && e) ≡ ((a && q) && f)
  under true p e q f h = h
  under false p e q f h = refl

  no_letter : (c : ℕ) (cs r : List ℕ) → ends c ≡ false → ends_word r ≡ true → fits (c ∷ cs) r ≡ false
  no_letter c cs [] k h = refl
  no_letter c cs (x ∷ xs) k h =
      ap (λ b. (b && starts_with nat_eq xs cs) && ends_word (drop (length cs) xs))
      (ne_eqb c x (λ e. true≢false (sym h ∙ ap ends (sym e) ∙ k)))

  same_fit : (name : List ℕ) → AreLetters name → (t : List ℕ) → fits name (t ++ rest) ≡ fits name t
  same_fit [] k [] = ended
  same_fit [] k (x ∷ xs) = refl
  same_fit (c ∷ cs) k [] = no_letter c cs rest k.0 ended
  same_fit (c ∷ cs) k (x ∷ xs) = under (nat_eq c x) _ _ _ _ (same_fit cs k.1 xs)

  same_literal : (name : List ℕ) (token : Token) (t : List ℕ) → AreLetters name → literal name token (t ++ rest) ≡ literal name token t
  same_literal name token t k = ap (λ b. cond b token bad) (same_fit name k t)

  pub word-ended : (t : List ℕ) → word (t ++ rest) ≡ word t
  unfolding word
  word-ended t = λ i.
      cond (same_test 116 t refl i) (same_literal (116 ∷ 114 ∷ 117 ∷ 101 ∷ []) (boolean true) t (refl, (refl, (refl, (refl, tt)))) i)
      (cond (same_test 102 t refl i) (same_literal (102 ∷ 97 ∷ 108 ∷ 115 ∷ 101 ∷ []) (boolean false) t
      (refl, (refl, (refl, (refl, (refl, tt))))) i)
      (cond (same_test 110 t refl i) (same_literal (110 ∷ 117 ∷ 108 ∷ 108 ∷ []) null t (refl, (refl, (refl, (refl, tt)))) i)
      (same_number t (after_number t) _ (whole_number t) i)))
