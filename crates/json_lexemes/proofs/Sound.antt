-- A walk over the lexemes of a text without a fault, from its end on.
use Rattle.std.proofs.Common.{◌≡◌, ℕ, zero, suc, ◌≤◌, true, List, [], ◌∷◌, ◌++◌, length, Option, Some, None}
use Rattle.std.proofs.Common.{refl, sym, ap, ◌∙◌, subst, arith, length-append}
use Rattle.json.specs.Token.{string}
use Rattle.json.specs.Text.{content, plain}
use Rattle.json.specs.Word.{is_operator, ends_word, word}
use Rattle.json.specs.Lex.{Lexeme, token, comma, colon, Class, quote, backslash, operator, space, other, class}
use Rattle.json.specs.Lex.{operator_lexeme, string_token, between, in_string, lex, lex_byte}
use Rattle.json_lexemes.specs.Lexemes.{cut, cut_byte}
use Rattle.json_lexemes.proofs.Classes.{IsOfClass, IsOfClass-class}
use Rattle.json_lexemes.proofs.Words.{IsRun, run_of, lex-word}
use Rattle.json_lexemes.proofs.Strings.{Whole, whole_string}
use Rattle.json_lexemes.proofs.Following.{IsSound}

-- ---- a space, and a sign

pub lex-space : (x : ℕ) (xs : List ℕ) → class x ≡ space → lex between (x ∷ xs) ≡ lex between xs
unfolding lex
lex-space x xs e = ap (λ c. lex_byte between c x xs (λ m. lex m xs)) e

pub cut-space : (x : ℕ) (xs : List ℕ) → class x ≡ space → cut between (x ∷ xs) ≡ cut between xs
unfolding cut
cut-space x xs e = ap (λ c. cut_byte between c x (λ m. cut m xs)) e

pub lex-sign : (x : ℕ) (xs : List ℕ) → class x ≡ operator → lex between (x ∷ xs) ≡ operator_lexeme x ∷ lex between xs
unfolding lex
lex-sign x xs e = ap (λ c. lex_byte between c x xs (λ m. lex m xs)) e

pub cut-sign : (x : ℕ) (xs : List ℕ) → class x ≡ operator → cut between (x ∷ xs) ≡ (x ∷ []) ∷ cut between xs
unfolding cut
cut-sign x xs e = ap (λ c. cut_byte between c x (λ m. cut m xs)) e

-- ---- the walk

-- P holds of the empty text, and of a text that begins with a space or a lexeme, where it holds of the rest
pub record Walk (P : List ℕ → Type 0) : Type 0 where
  pub at_end : P []
  pub at_space : (x : ℕ) (xs : List ℕ) → class x ≡ space → P xs → P (x ∷ xs)
  pub at_sign : (x : ℕ) (xs : List ℕ) → class x ≡ operator → is_operator x ≡ true → P xs → P (x ∷ xs)
  pub at_string : (s xs : List ℕ) (w : Whole s xs) → P w.rest → P (34 ∷ (w.front ++ w.rest))
  pub at_word : (x : ℕ) (w rest : List ℕ) → class x ≡ other → IsRun w → ends_word rest ≡ true
      → IsSound (token (word (x ∷ w)) ∷ lex between rest) → P rest → P ((x ∷ w) ++ rest)

module _ (P : List ℕ → Type 0) (walk : Walk P) where
  -- what holds of shorter texts
  abbrev Shorter : ℕ → Type 0
  Shorter n = (xs : List ℕ) → length xs ≤ n → IsSound (lex between xs) → P xs

  no_bad : (x : ℕ) (xs : List ℕ) (o : Option (List ℕ)) → class x ≡ quote → content plain xs ≡ o
      → IsSound (lex between (x ∷ xs)) → IsSound (token (string_token o) ∷ lex in_string xs)
  unfolding lex
  no_bad x xs o e is h =
      subst (λ p. IsSound (token (string_token p) ∷ lex in_string xs)) is
      (subst (λ c. IsSound (lex_byte between c x xs (λ m. lex m xs))) e h)

  by_quote : (n : ℕ) (xs : List ℕ) → Shorter n → length xs ≤ n → IsSound (lex between (34 ∷ xs)) → P (34 ∷ xs)
  by_quote n xs shorter le sound = go (content plain xs) refl
    where
      go : (o : Option (List ℕ)) → content plain xs ≡ o → P (34 ∷ xs)
      go None is = absurd (no_bad 34 xs None refl is sound).0
      go (Some s) is =
          let w = whole_string xs s is in
          let split = ap (λ l. 34 ∷ l) w.is in
          let after : IsSound (token (string s) ∷ lex between w.rest) = subst IsSound (ap (lex between) split ∙ w.lexed w.rest) sound in
          let short : length w.rest ≤ n = omega (arith, ap length w.is, length-append w.front w.rest) in
          subst P (sym split) (walk.at_string s xs w (shorter w.rest short after.1))

  by_word : (n x : ℕ) (xs : List ℕ) → Shorter n → length xs ≤ n → class x ≡ other → IsSound (lex between (x ∷ xs)) → P (x ∷ xs)
  by_word n x xs shorter le e sound =
      let w = run_of xs in
      let split = ap (λ l. x ∷ l) w.is in
      let after : IsSound (token (word (x ∷ w.front)) ∷ lex between w.rest) =
      subst IsSound (ap (lex between) split ∙ lex-word x w.front w.rest e w.run w.ended) sound in
      let short : length w.rest ≤ n = omega (arith, ap length w.is, length-append w.front w.rest) in
      subst P (sym split) (walk.at_word x w.front w.rest e w.run w.ended after (shorter w.rest short after.1))

  by_sign : (n x : ℕ) (xs : List ℕ) → Shorter n → length xs ≤ n → class x ≡ operator → IsSound (lex between (x ∷ xs)) → P (x ∷ xs)
  by_sign n x xs shorter le e sound =
      let after : IsSound (operator_lexeme x ∷ lex between xs) = subst IsSound (lex-sign x xs e) sound in
      walk.at_sign x xs e (subst (λ c. IsOfClass c x) e (IsOfClass-class x))
      (shorter xs le (sound_tail (operator_lexeme x) (lex between xs) after))
    where
      sound_tail : (l : Lexeme) (ls : List Lexeme) → IsSound (l ∷ ls) → IsSound ls
      sound_tail comma ls h = h
      sound_tail colon ls h = h
      sound_tail (token k) ls h = h.1

  by_backslash : (x : ℕ) (xs : List ℕ) → class x ≡ backslash → IsSound (lex between (x ∷ xs)) → ⊥
  unfolding lex
  by_backslash x xs e sound = (subst (λ c. IsSound (lex_byte between c x xs (λ m. lex m xs))) e sound).0

  by_class : (n x : ℕ) (xs : List ℕ) → Shorter n → length xs ≤ n → IsSound (lex between (x ∷ xs))
      → (c : Class) → class x ≡ c → IsOfClass c x → P (x ∷ xs)
  by_class n x xs shorter le sound quote e says =
      subst (λ y. P (y ∷ xs)) (sym says) (by_quote n xs shorter le (subst (λ y. IsSound (lex between (y ∷ xs))) says sound))
  by_class n x xs shorter le sound backslash e says = absurd (by_backslash x xs e sound)
  by_class n x xs shorter le sound operator e says = by_sign n x xs shorter le e sound
  by_class n x xs shorter le sound space e says = walk.at_space x xs e (shorter xs le (subst IsSound (lex-space x xs e) sound))
  by_class n x xs shorter le sound other e says = by_word n x xs shorter le e sound

  holds : (n : ℕ) → Shorter n
  holds n [] le sound = walk.at_end
  holds zero (x ∷ xs) le sound = absurd (omega arith)
  holds (suc n) (x ∷ xs) le sound = by_class n x xs (holds n) (omega arith) sound (class x) refl (IsOfClass-class x)

  pub walked : (text : List ℕ) → IsSound (lex between text) → P text
  walked text sound = holds (length text) text (omega arith) sound
