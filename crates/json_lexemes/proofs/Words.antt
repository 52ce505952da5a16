-- A word in the text: the lexer and the cut pass over it up to an operator, a space or the end.
use Rattle.std.proofs.Common.{◌≡◌, ℕ, Bool, true, false, ◌⊎◌, inl, inr, List, [], ◌∷◌, ◌++◌, Option, Some, None, cond, ◌==◌, refl, sym}
use Rattle.std.proofs.Common.{ap, ap₂, ◌∙◌}
use Rattle.std.proofs.lemmas.Bool.{or_parts, cases_Bool, or_cases, true≢false}
use Rattle.std.specs.Prelude.{⊤}
use Rattle.json.specs.Token.{Token, begin_object, end_object, begin_array, end_array, key, string, number, boolean, null, bad}
use Rattle.json.specs.Word.{is_operator, is_space, head, ends_word, after_number, number_before, word}
use Rattle.json.specs.Lex.{Lexeme, token, Mode, between, in_word, Class, quote, backslash, operator, space, other, class, lex, lex_byte}
use Rattle.json.proofs.Printed.Numbers.{in_word-ended}
use Rattle.text_lexemes.specs.Languages.{lengthened}
use Rattle.json_lexemes.specs.Lexemes.{cut, cut_byte}
use Rattle.json_lexemes.proofs.Classes.{IsOfClass, IsOfClass-class, class-operator, class-space}
use Rattle.json_lexemes.proofs.Ended.{ends, word-ended}

-- none of the bytes ends a word
abbrev pub IsRun : List ℕ → Type 0
IsRun [] = ⊤
IsRun (x ∷ xs) = (ends x ≡ false) × IsRun xs

-- where a word ends
pub record Run (xs : List ℕ) : Type 0 where
  pub front : List ℕ
  pub rest : List ℕ
  pub is : xs ≡ front ++ rest
  pub run : IsRun front
  pub ended : ends_word rest ≡ true

pub run_of : (xs : List ℕ) → Run xs
run_of [] = record { front = []; rest = []; is = refl; run = tt; ended = refl }
run_of (x ∷ xs) = go (cases_Bool (ends x)) (run_of xs)
  where
    go : (ends x ≡ true) ⊎ (ends x ≡ false) → Run xs → Run (x ∷ xs)
    go (inl e) r = record { front = []; rest = x ∷ xs; is = refl; run = tt; ended = e }
    go (inr e) r = record { front = x ∷ r.front; rest = r.rest; is = ap (λ l. x ∷ l) r.is; run = (e, r.run); ended = r.ended }

-- a byte in a word
stays : (c : Class) (x : ℕ) (xs : List ℕ) (k : Mode → List Lexeme) (l : Mode → List (List ℕ)) → IsOfClass c x → ends x ≡ false
    → (lex_byte in_word c x xs k ≡ k in_word) × (cut_byte in_word c x l ≡ lengthened x (l in_word))
stays quote x xs k l s e = (refl, refl)
stays backslash x xs k l s e = (refl, refl)
stays operator x xs k l s e = absurd (true≢false (sym s ∙ (or_parts _ _ e).0))
stays space x xs k l s e = absurd (true≢false (sym s ∙ (or_parts _ _ e).1))
stays other x xs k l s e = (refl, refl)

lex-run : (w r : List ℕ) → IsRun w → lex in_word (w ++ r) ≡ lex in_word r
unfolding lex
lex-run [] r h = refl
lex-run (x ∷ w) r h = (stays (class x) x (w ++ r) (λ m. lex m (w ++ r)) (λ m. cut m r) (IsOfClass-class x) h.0).0 ∙ lex-run w r h.1

cut-ended : (r : List ℕ) → ends_word r ≡ true → cut in_word r ≡ [] ∷ cut between r
unfolding cut
cut-ended [] h = refl
cut-ended (x ∷ xs) h = go (or_cases _ _ h)
  where
    go : (is_operator x ≡ true) ⊎ (is_space x ≡ true) → cut_byte in_word (class x) x (λ m. cut m xs) ≡ []
        ∷ cut_byte between (class x) x (λ m. cut m xs)
    go (inl e) = rw (class-operator x e)
    go (inr e) = rw (class-space x e)

pub cut-run : (w r : List ℕ) → IsRun w → ends_word r ≡ true → cut in_word (w ++ r) ≡ w ∷ cut between r
unfolding cut
cut-run [] r h ended = cut-ended r ended
cut-run (x ∷ w) r h ended =
    (stays (class x) x (w ++ r) (λ m. lex m (w ++ r)) (λ m. cut m (w ++ r)) (IsOfClass-class x) h.0).1
    ∙ ap (lengthened x) (cut-run w r h.1 ended)

-- the lexer at a word, before whatever ends it
pub lex-word : (x : ℕ) (w r : List ℕ) → class x ≡ other → IsRun w → ends_word r ≡ true →
    lex between ((x ∷ w) ++ r) ≡ token (word (x ∷ w)) ∷ lex between r
unfolding lex
lex-word x w r is run ended =
    ap (λ c. lex_byte between c x (w ++ r) (λ m. lex m (w ++ r))) is
    ∙ ap₂ (λ t l. token t ∷ l) (word-ended r ended (x ∷ w)) (lex-run w r run ∙ in_word-ended r ended)

pub cut-word : (x : ℕ) (w r : List ℕ) → class x ≡ other → IsRun w → ends_word r ≡ true →
    cut between ((x ∷ w) ++ r) ≡ (x ∷ w) ∷ cut between r
unfolding cut
cut-word x w r is run ended = ap (λ c. cut_byte between c x (λ m. cut m (w ++ r))) is ∙ ap (lengthened x) (cut-run w r run ended)

-- ---- a word is a number, a literal or bad

abbrev pub IsWord : Token → Type 0
IsWord begin_object = ⊥
IsWord end_object = ⊥
IsWord begin_array = ⊥
IsWord end_array = ⊥
IsWord (key s) = ⊥
IsWord (string s) = ⊥
IsWord (number s) = ⊤
IsWord (boolean v) = ⊤
IsWord null = ⊤
IsWord bad = ⊤

either : (b : Bool) (s t : Token) → IsWord s → IsWord t → IsWord (cond b s t)
either true s t p q = p
either false s t p q = q

number_word : (t : List ℕ) (o : Option (List ℕ)) → IsWord (number_before t o)
number_word t None = tt
number_word t (Some r) = either (ends_word r) _ bad tt tt

pub IsWord-word : (t : List ℕ) → IsWord (word t)
unfolding word
IsWord-word t =
    either (head t == 116) _ _ (either _ (boolean true) bad tt tt) (either (head t == 102) _ _ (either _ (boolean false) bad tt tt)
    (either (head t == 110) _ _ (either _ null bad tt tt) (number_word t (after_number t))))
