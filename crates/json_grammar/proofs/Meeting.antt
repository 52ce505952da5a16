-- The lexemes that a text is cut into, beside those that the toolchain reads in it.
use Rattle.std.proofs.Common.{◌≡◌, ◌≢◌, ℕ, zero, suc, ◌≤◌, true, false, List, [], ◌∷◌, ◌++◌, length, Option, Some}
use Rattle.std.proofs.Common.{None, is_some, ◌==◌, ◌||◌, cond}
use Rattle.std.proofs.Common.{option_and_then, refl, sym, ap, ◌∙◌, subst, arith, append-nil, append_assoc, length-append}
use Rattle.std.specs.Prelude.{⊤}
use Rattle.std.proofs.lemmas.Bool.{true≢false, ne_eqb, or_parts}
use Rattle.json.specs.Json.{if_last, value, max_depth}
use Rattle.json.specs.Text.{content, plain}
use Rattle.json.specs.Token.{Token, begin_object, end_object, begin_array, end_array, key, string, number, boolean, null, bad}
use Rattle.json.specs.Word.{is_operator, is_space, word}
use Rattle.json.specs.Lex.{Lexeme, token, comma, colon, Mode, between, in_word, in_string, in_escape, Class, quote, backslash, operator}
use Rattle.json.specs.Lex.{space, other, class, lex, lex_byte, operator_lexeme, string_token, punctuate, fresh}
use Rattle.json.proofs.Grammar.{value_is}
use Rattle.text_lexemes.specs.Languages.{lengthened}
use Rattle.json_lexemes.specs.Lexemes.{cut, cut_byte}
use Rattle.json_lexemes.proofs.Classes.{IsOfClass, IsOfClass-class, each_operator}
use Rattle.json_lexemes.proofs.Words.{IsRun, run_of, cut-word, lex-word, IsWord, IsWord-word}
use Rattle.json_lexemes.proofs.Strings.{whole_string}
use Rattle.json_lexemes.proofs.Sound.{lex-space, cut-space, lex-sign, cut-sign}
use Rattle.json_grammar.specs.Readings as sort
use Rattle.json_grammar.specs.Readings.{JsonSort, is_leaf, json_sort_of}

-- ---- what a lexeme is read as

abbrev pub IsWordToken : Token → Type 0
IsWordToken begin_object = ⊥
IsWordToken end_object = ⊥
IsWordToken begin_array = ⊥
IsWordToken end_array = ⊥
IsWordToken (key k) = ⊥
IsWordToken (string k) = ⊥
IsWordToken (number n) = ⊤
IsWordToken (boolean b) = ⊤
IsWordToken null = ⊤
IsWordToken bad = ⊥

abbrev pub IsStringToken : Token → Type 0
IsStringToken t = (k : List ℕ) × (t ≡ string k)

-- by its sort; a string or a word is read as one where it is JSON
abbrev pub Means : JsonSort → List ℕ → Lexeme → Type 0
Means sort.open_array s l = l ≡ token begin_array
Means sort.close_array s l = l ≡ token end_array
Means sort.open_object s l = l ≡ token begin_object
Means sort.close_object s l = l ≡ token end_object
Means sort.comma s l = l ≡ comma
Means sort.colon s l = l ≡ colon
Means sort.string s l = (t : Token) × (l ≡ token t) × (is_leaf s ≡ true → IsStringToken t)
Means sort.word s l = (t : Token) × (l ≡ token t) × (is_leaf s ≡ true → IsWordToken t)

abbrev pub Meet : List (List ℕ) → List Lexeme → Type 0
Meet [] [] = ⊤
Meet [] (l ∷ ls) = ⊥
Meet (s ∷ ss) [] = ⊥
Meet (s ∷ ss) (l ∷ ls) = Means (json_sort_of s) s l × Meet ss ls

-- a lexeme that begins with no sign and no quote is a word
pub word_byte : (x : ℕ) → x ≢ 34 → is_operator x ≡ false → sort.json_sort_by x ≡ sort.word
word_byte x q o =
    let a = or_parts ((x == 123) || (x == 125) || (x == 91) || (x == 93) || (x == 58)) (x == 44) o in
    let b = or_parts ((x == 123) || (x == 125) || (x == 91) || (x == 93)) (x == 58) a.0 in
    let c = or_parts ((x == 123) || (x == 125) || (x == 91)) (x == 93) b.0 in
    let d = or_parts ((x == 123) || (x == 125)) (x == 91) c.0 in
    let e = or_parts (x == 123) (x == 125) d.0 in
    λ i. cond (d.1 i) sort.open_array (cond (c.1 i) sort.close_array (cond (e.0 i) sort.open_object (cond (e.1 i) sort.close_object
    (cond (a.1 i) sort.comma (cond (b.1 i) sort.colon (cond (ne_eqb x 34 q i) sort.string sort.word))))))

-- ---- the rest of a lexeme is passed over

pub record Passes (m : Mode) (xs : List ℕ) : Type 0 where
  pub front : List ℕ
  pub rest : List ℕ
  pub is : xs ≡ front ++ rest
  pub cuts : cut m xs ≡ front ∷ cut between rest
  pub lexed : lex m xs ≡ lex between rest

abbrev pub PassesIn : Mode → List ℕ → Type 0
PassesIn between xs = ⊤
PassesIn in_word xs = Passes in_word xs
PassesIn in_string xs = Passes in_string xs
PassesIn in_escape xs = Passes in_escape xs

one_longer : (m n : Mode) (x : ℕ) (xs : List ℕ) → cut m (x ∷ xs) ≡ lengthened x (cut n xs) → lex m (x ∷ xs) ≡ lex n xs → Passes n xs
    → Passes m (x ∷ xs)
one_longer m n x xs cuts lexed h =
    record {
      front = x ∷ h.front;
      rest = h.rest;
      is = ap (λ (l : List ℕ). x ∷ l) h.is;
      cuts = cuts ∙ ap (lengthened x) h.cuts;
      lexed = lexed ∙ h.lexed;
    }

passes_byte : (m : Mode) (c : Class) (x : ℕ) (xs : List ℕ) → class x ≡ c → ((n : Mode) → PassesIn n xs) → PassesIn m (x ∷ xs)
unfolding cut lex
passes_byte between c x xs e h = tt
passes_byte in_word quote x xs e h =
    one_longer in_word in_word x xs (ap (λ c. cut_byte in_word c x (λ n. cut n xs)) e) (ap (λ c. lex_byte in_word c x xs (λ n. lex n xs)) e)
    (h in_word)
passes_byte in_word backslash x xs e h =
    one_longer in_word in_word x xs (ap (λ c. cut_byte in_word c x (λ n. cut n xs)) e) (ap (λ c. lex_byte in_word c x xs (λ n. lex n xs)) e)
    (h in_word)
passes_byte in_word operator x xs e h =
    record {
      front = [];
      rest = x ∷ xs;
      is = refl;
      cuts = ap (λ c. cut_byte in_word c x (λ n. cut n xs)) e ∙ ap (λ (l : List (List ℕ)). [] ∷ l) (sym (cut-sign x xs e));
      lexed = ap (λ c. lex_byte in_word c x xs (λ n. lex n xs)) e ∙ sym (lex-sign x xs e);
    }
passes_byte in_word space x xs e h =
    record {
      front = [];
      rest = x ∷ xs;
      is = refl;
      cuts = ap (λ c. cut_byte in_word c x (λ n. cut n xs)) e ∙ ap (λ (l : List (List ℕ)). [] ∷ l) (sym (cut-space x xs e));
      lexed = ap (λ c. lex_byte in_word c x xs (λ n. lex n xs)) e ∙ sym (lex-space x xs e);
    }
passes_byte in_word other x xs e h =
    one_longer in_word in_word x xs (ap (λ c. cut_byte in_word c x (λ n. cut n xs)) e) (ap (λ c. lex_byte in_word c x xs (λ n. lex n xs)) e)
    (h in_word)
passes_byte in_string quote x xs e h =
    record {
      front = x ∷ [];
      rest = xs;
      is = refl;
      cuts = ap (λ c. cut_byte in_string c x (λ n. cut n xs)) e;
      lexed = ap (λ c. lex_byte in_string c x xs (λ n. lex n xs)) e;
    }
passes_byte in_string backslash x xs e h =
    one_longer in_string in_escape x xs (ap (λ c. cut_byte in_string c x (λ n. cut n xs)) e)
    (ap (λ c. lex_byte in_string c x xs (λ n. lex n xs)) e) (h in_escape)
passes_byte in_string operator x xs e h =
    one_longer in_string in_string x xs (ap (λ c. cut_byte in_string c x (λ n. cut n xs)) e)
    (ap (λ c. lex_byte in_string c x xs (λ n. lex n xs)) e) (h in_string)
passes_byte in_string space x xs e h =
    one_longer in_string in_string x xs (ap (λ c. cut_byte in_string c x (λ n. cut n xs)) e)
    (ap (λ c. lex_byte in_string c x xs (λ n. lex n xs)) e) (h in_string)
passes_byte in_string other x xs e h =
    one_longer in_string in_string x xs (ap (λ c. cut_byte in_string c x (λ n. cut n xs)) e)
    (ap (λ c. lex_byte in_string c x xs (λ n. lex n xs)) e) (h in_string)
passes_byte in_escape c x xs e h = one_longer in_escape in_string x xs refl refl (h in_string)

passes_end : (m : Mode) → cut m [] ≡ [] ∷ [] → Passes m []
unfolding cut lex
passes_end m e = record { front = []; rest = []; is = refl; cuts = e; lexed = refl }

pub passes : (xs : List ℕ) (m : Mode) → PassesIn m xs
unfolding cut
passes [] between = tt
passes [] in_word = passes_end in_word refl
passes [] in_string = passes_end in_string refl
passes [] in_escape = passes_end in_escape refl
passes (x ∷ xs) m = passes_byte m (class x) x xs refl (passes xs)

-- ---- leaves

-- what begins with a bad token is none
pub bad_leaf : (s : List ℕ) (ls : List Lexeme) → lex between s ≡ token bad ∷ ls → is_leaf s ≡ false
unfolding punctuate
bad_leaf s ls e =
    ap (λ (l : List Lexeme). is_some (option_and_then (λ p. if_last p.0 p.1) (value max_depth (punctuate fresh l)))) e
    ∙ ap (λ o. is_some (option_and_then (λ p. if_last p.0 p.1) o)) (value_is max_depth (bad ∷ []))

pub leaf_content : (f : List ℕ) → is_leaf (34 ∷ f) ≡ true → (k : List ℕ) × (content plain f ≡ Some k)
unfolding lex
leaf_content f leaf = by (content plain f) refl
  where
    by : (o : Option (List ℕ)) → content plain f ≡ o → (k : List ℕ) × (content plain f ≡ Some k)
    by None e =
        let first : lex between (34 ∷ f) ≡ token bad ∷ lex in_string f = ap (λ p. token (string_token p) ∷ lex in_string f) e in
        absurd (true≢false (sym leaf ∙ bad_leaf (34 ∷ f) (lex in_string f) first))
    by (Some k) e = (k, e)

-- a leaf is read as a string before anything else
string_read : (f rest : List ℕ) → is_leaf (34 ∷ f) ≡ true → IsStringToken (string_token (content plain (f ++ rest)))
unfolding lex
string_read f rest leaf =
    let c = leaf_content f leaf in
    let w = whole_string f c.0 c.1 in
    let more : w.front ++ (w.rest ++ rest) ≡ f ++ rest =
    sym (append_assoc w.front w.rest rest) ∙ ap (λ (l : List ℕ). l ++ rest) (sym w.is) in
    let read : lex between (34 ∷ (f ++ rest)) ≡ token (string c.0) ∷ lex between (w.rest ++ rest) =
    ap (λ (l : List ℕ). lex between (34 ∷ l)) (sym more) ∙ w.lexed (w.rest ++ rest) in
    (c.0, cc)

pub good_word : (k : Token) → IsWord k → k ≢ bad → IsWordToken k
good_word begin_object w good = w
good_word end_object w good = w
good_word begin_array w good = w
good_word end_array w good = w
good_word (key k) w good = w
good_word (string k) w good = w
good_word (number n) w good = tt
good_word (boolean b) w good = tt
good_word null w good = tt
good_word bad w good = absurd (good refl)

word_read : (x : ℕ) (w : List ℕ) → class x ≡ other → IsRun w → is_leaf (x ∷ w) ≡ true → IsWordToken (word (x ∷ w))
word_read x w e run leaf = good_word (word (x ∷ w)) (IsWord-word (x ∷ w)) good
  where
    good : word (x ∷ w) ≢ bad
    good is =
        let alone : lex between (x ∷ w) ≡ token (word (x ∷ w)) ∷ lex between [] =
        ap (lex between) (sym (append-nil (x ∷ w))) ∙ lex-word x w [] e run refl in
        let first : lex between (x ∷ w) ≡ token bad ∷ lex between [] = alone ∙ ap (λ k. token k ∷ lex between []) is in
        true≢false (sym leaf ∙ bad_leaf (x ∷ w) (lex between []) first)

-- ---- the whole text

abbrev IsMet : List ℕ → Type 0
IsMet xs = Meet (cut between xs) (lex between xs)

one_met : (s xs rest : List ℕ) (l : Lexeme) → cut between xs ≡ s ∷ cut between rest → lex between xs ≡ l ∷ lex between rest
    → Means (json_sort_of s) s l → IsMet rest → IsMet xs
one_met s xs rest l cuts lexed means h =
    subst (Meet (cut between xs)) (sym lexed) (subst (λ (ss : List (List ℕ)). Meet ss (l ∷ lex between rest)) (sym cuts) (means, h))

sign_means : (x : ℕ) → is_operator x ≡ true → Means (json_sort_of (x ∷ [])) (x ∷ []) (operator_lexeme x)
sign_means = each_operator (λ x. Means (json_sort_of (x ∷ [])) (x ∷ []) (operator_lexeme x)) refl refl refl refl refl refl

module _ (n : ℕ) (shorter : (xs : List ℕ) → length xs ≤ n → IsMet xs) (xs : List ℕ) (le : length xs ≤ n) where
  rest_met : (front rest : List ℕ) → xs ≡ front ++ rest → IsMet rest
  rest_met front rest is = shorter rest (omega (arith, ap length is, length-append front rest))

  at_quote : IsMet (34 ∷ xs)
  unfolding cut lex
  at_quote =
      let p = passes xs in_string in
      one_met (34 ∷ p.front) (34 ∷ xs) p.rest (token (string_token (content plain xs))) (ap (lengthened 34) p.cuts)
      (ap (λ (l : List Lexeme). token (string_token (content plain xs)) ∷ l) p.lexed) (
        string_token (content plain xs),
        refl,
        λ leaf. subst (λ (l : List ℕ). IsStringToken (string_token (content plain l))) (sym p.is) (string_read p.front p.rest leaf),
      )
      (rest_met p.front p.rest p.is)

  at_backslash : IsMet (92 ∷ xs)
  unfolding cut lex
  at_backslash =
      let p = passes xs in_word in
      one_met (92 ∷ p.front) (92 ∷ xs) p.rest (token bad) (ap (lengthened 92) p.cuts) (ap (λ (l : List Lexeme). token bad ∷ l) p.lexed)
      (bad, refl, λ leaf. absurd (true≢false (sym leaf ∙ bad_leaf (92 ∷ p.front) (lex in_word p.front) refl)))
      (rest_met p.front p.rest p.is)

  at_word : (x : ℕ) → class x ≡ other → IsMet (x ∷ xs)
  at_word x e =
      let w = run_of xs in
      let says : IsOfClass other x = subst (λ c. IsOfClass c x) e (IsOfClass-class x) in
      let no_quote : x ≢ 34 = λ is. other_quote (sym e ∙ ap class is) in
      let sorted : json_sort_of (x ∷ w.front) ≡ sort.word = word_byte x no_quote (or_parts (is_operator x) (is_space x) says).0 in
      let split : x ∷ xs ≡ (x ∷ w.front) ++ w.rest = ap (λ (l : List ℕ). x ∷ l) w.is in
      one_met (x ∷ w.front) (x ∷ xs) w.rest (token (word (x ∷ w.front)))
      (ap (cut between) split ∙ cut-word x w.front w.rest e w.run w.ended)
      (ap (lex between) split ∙ lex-word x w.front w.rest e w.run w.ended)
      (subst (λ o. Means o (x ∷ w.front) (token (word (x ∷ w.front)))) (sym sorted)
      (word (x ∷ w.front), refl, word_read x w.front e w.run)) (rest_met w.front w.rest w.is)
    where
      other_quote : other ≡ quote → ⊥
      other_quote is = cc

  by_class : (x : ℕ) (c : Class) → class x ≡ c → IsOfClass c x → IsMet (x ∷ xs)
  by_class x quote e says = subst (λ y. IsMet (y ∷ xs)) (sym says) at_quote
  by_class x backslash e says = subst (λ y. IsMet (y ∷ xs)) (sym says) at_backslash
  by_class x operator e says =
      one_met (x ∷ []) (x ∷ xs) xs (operator_lexeme x) (cut-sign x xs e) (lex-sign x xs e) (sign_means x says) (shorter xs le)
  by_class x space e says =
      subst (Meet (cut between (x ∷ xs))) (sym (lex-space x xs e))
      (subst (λ (ss : List (List ℕ)). Meet ss (lex between xs)) (sym (cut-space x xs e)) (shorter xs le))
  by_class x other e says = at_word x e

met_within : (n : ℕ) (xs : List ℕ) → length xs ≤ n → IsMet xs
unfolding cut lex
met_within n [] le = tt
met_within zero (x ∷ xs) le = absurd (omega arith)
met_within (suc n) (x ∷ xs) le = by_class n (met_within n) xs (omega arith) x (class x) refl (IsOfClass-class x)

pub met : (text : List ℕ) → Meet (cut between text) (lex between text)
met text = met_within (length text) text (omega arith)
