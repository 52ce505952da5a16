-- Where a quote closes a string, so that it is JSON.
use Rattle.std.proofs.Common.{◌≡◌, ℕ, suc, ◌+◌, ◌-◌, ◌≤◌, Bool, true, false, List, [], ◌∷◌, ◌++◌, length, take, drop, get_or}
use Rattle.std.proofs.Common.{Option, Some, None, option_and_then, is_some, refl, sym, ap, ap₂, ◌∙◌, arith, inl, inr}
use Rattle.std.proofs.Common.{append-nil, append_assoc, take-add}
use Rattle.std.proofs.lemmas.Bool.{true≢false}
use Rattle.std.proofs.lemmas.List.{length-append, length-drop, take-append-drop}
use Rattle.json.specs.Json.{if_last, value, max_depth}
use Rattle.json.specs.Text.{content, plain, prepend}
use Rattle.json.specs.Token.{Token, begin_object, end_object, begin_array, end_array, key, string, number, boolean, null, bad}
use Rattle.json.specs.Lex.{Lexeme, token, comma, colon, Class, quote, backslash, operator, space, other, class, between}
use Rattle.json.specs.Lex.{in_string, lex, lex_byte, string_token, Place, fresh, after_value, after_comma, if_allowed, place_token}
use Rattle.json.specs.Lex.{begins_colon, punctuate}
use Rattle.json.proofs.Grammar.{value_is}
use Rattle.json_lexemes.specs.Lexemes.{cut}
use Rattle.json_lexemes.proofs.Strings.{Whole, whole_string}
use Rattle.json_grammar.specs.Readings.{is_leaf}
use Rattle.json_grammar.specs.Strings.{HasNoPart, IsLongestClosed, Reads, is_closed_at}
use Rattle.json_grammar.proofs.Accepted.{string_leaf}
use Rattle.json_grammar.proofs.Meeting.{bad_leaf, leaf_content}

prepend-prepend : (a b : List ℕ) (o : Option (List ℕ)) → prepend a (prepend b o) ≡ prepend (a ++ b) o
prepend-prepend a b None = refl
prepend-prepend a b (Some s) = ap Some (sym (append_assoc a b s))

-- parts after parts
pub reads_more : (bytes : List ℕ) (n m : ℕ) → Reads plain bytes n → Reads plain (drop n bytes) m → Reads plain bytes (n + m)
reads_more bytes n m first second =
    record {
      within = omega (arith, first.within, second.within, length-drop n bytes);
      says = first.says ++ second.says;
      reads = λ r.
          ap (λ (l : List ℕ). content plain (l ++ r)) (take-add n m bytes)
          ∙ ap (content plain) (append_assoc (take n bytes) (take m (drop n bytes)) r)
          ∙ first.reads (take m (drop n bytes) ++ r) ∙ ap (prepend first.says) (second.reads r)
          ∙ prepend-prepend first.says second.says (content plain r);
    }

-- ---- more than a string

abbrev HasSome : List Token → Type 0
HasSome ts = (t : Token) × (us : List Token) × (ts ≡ t ∷ us)

allowed_some : (b : Bool) (t : Token) (k : Place → List Token) (next : Place) → HasSome (if_allowed b t k next)
allowed_some true t k next = (t, k next, refl)
allowed_some false t k next = (bad, [], refl)

placed_some : (p : Place) (t : Token) (b : Bool) (k : Place → List Token) → HasSome (place_token p t b k)
placed_some p begin_object b k = allowed_some _ _ _ _
placed_some p end_object b k = allowed_some _ _ _ _
placed_some p begin_array b k = allowed_some _ _ _ _
placed_some p end_array b k = allowed_some _ _ _ _
placed_some p (key s) b k = (bad, [], refl)
placed_some p (string s) true k = allowed_some _ _ _ _
placed_some p (string s) false k = allowed_some _ _ _ _
placed_some p (number s) b k = allowed_some _ _ _ _
placed_some p (boolean s) b k = allowed_some _ _ _ _
placed_some p null b k = allowed_some _ _ _ _
placed_some p bad b k = (bad, [], refl)

after_comma_some : (ls : List Lexeme) → HasSome (punctuate after_comma ls)
unfolding punctuate
after_comma_some [] = (bad, [], refl)
after_comma_some (token t ∷ ls) = placed_some after_comma t (begins_colon ls) (λ next. punctuate next ls)
after_comma_some (comma ∷ ls) = (bad, [], refl)
after_comma_some (colon ∷ ls) = (bad, [], refl)

abbrev is_read : List Token → Bool
is_read ts = is_some (option_and_then (λ p. if_last p.0 p.1) (value max_depth ts))

string_more : (k : List ℕ) (ts : List Token) → HasSome ts → is_read (string k ∷ ts) ≡ false
string_more k ts (t, us, is) =
    ap (λ (l : List Token). is_read (string k ∷ l)) is
    ∙ ap (λ o. is_some (option_and_then (λ p. if_last p.0 p.1) o)) (value_is max_depth (string k ∷ t ∷ us))

key_first : (k : List ℕ) (ts : List Token) → is_read (key k ∷ ts) ≡ false
key_first k ts = ap (λ o. is_some (option_and_then (λ p. if_last p.0 p.1) o)) (value_is max_depth (key k ∷ ts))

two_lexemes : (k : List ℕ) (l : Lexeme) (ls : List Lexeme) → is_read (punctuate fresh (token (string k) ∷ l ∷ ls)) ≡ false
unfolding punctuate
two_lexemes k (token t) ls = string_more k _ (placed_some after_value t (begins_colon ls) (λ next. punctuate next ls))
two_lexemes k comma ls = string_more k _ (after_comma_some ls)
two_lexemes k colon ls = key_first k _

abbrev HasLexeme : List ℕ → Type 0
HasLexeme xs = (l : Lexeme) × (ls : List Lexeme) × (lex between xs ≡ l ∷ ls)

lexeme_by : (x : ℕ) (xs : List ℕ) (c : Class) → class x ≡ c → HasLexeme xs → HasLexeme (x ∷ xs)
unfolding lex
lexeme_by x xs quote e rest = (_, _, ap (λ c. lex_byte between c x xs (λ m. lex m xs)) e)
lexeme_by x xs backslash e rest = (_, _, ap (λ c. lex_byte between c x xs (λ m. lex m xs)) e)
lexeme_by x xs operator e rest = (_, _, ap (λ c. lex_byte between c x xs (λ m. lex m xs)) e)
lexeme_by x xs space e rest = (rest.0, rest.1, ap (λ c. lex_byte between c x xs (λ m. lex m xs)) e ∙ rest.2)
lexeme_by x xs other e rest = (_, _, ap (λ c. lex_byte between c x xs (λ m. lex m xs)) e)

some_lexeme : (xs : List ℕ) → HasLexeme (xs ++ 34 ∷ [])
unfolding lex
some_lexeme [] = (token (string_token (content plain [])), [], refl)
some_lexeme (x ∷ xs) = lexeme_by x (xs ++ 34 ∷ []) (class x) refl (some_lexeme xs)

-- ---- after content of a string

-- of what a last byte ends, all that comes before others comes before that byte
before_last : (a : List ℕ) (x : ℕ) (xs f : List ℕ) (q : ℕ) → f ++ q ∷ [] ≡ a ++ (x ∷ xs) → (more : List ℕ) × (f ≡ a ++ more)
before_last [] x xs f q e = (f, refl)
before_last (y ∷ ys) x xs [] q e = absurd (omega (arith, ap length e, length-append ys (x ∷ xs)))
before_last (y ∷ ys) x xs (z ∷ zs) q e =
    let r = before_last ys x xs zs q (ap (drop 1) e) in
    (r.0, ap₂ (λ (b : ℕ) (l : List ℕ). b ∷ l) (ap (λ (l : List ℕ). get_or l 0 0) e) r.1)

bad_first : (xs : List ℕ) → content plain xs ≡ None → lex between (34 ∷ xs) ≡ token bad ∷ lex in_string xs
unfolding lex
bad_first xs none = ap (λ o. token (string_token o) ∷ lex in_string xs) none

no_lexeme : lex between [] ≡ []
unfolding lex
no_lexeme = refl

module _ (front says : List ℕ) (reads : (r : List ℕ) → content plain (front ++ r) ≡ prepend says (content plain r)) where
  closed : content plain (front ++ 34 ∷ []) ≡ Some says
  unfolding content
  closed = reads (34 ∷ []) ∙ ap Some (append-nil says)

  open_end : content plain front ≡ None
  unfolding content
  open_end = ap (content plain) (sym (append-nil front)) ∙ reads []

  abbrev whole : Whole says (front ++ 34 ∷ [])
  whole = whole_string (front ++ 34 ∷ []) says closed

  -- the quote ends the string
  nothing_more : whole.rest ≡ []
  nothing_more = by whole.rest refl
    where
      by : (l : List ℕ) → whole.rest ≡ l → whole.rest ≡ []
      by [] e = e
      by (x ∷ xs) e =
          let m = before_last whole.front x xs front 34 (whole.is ∙ ap (λ (l : List ℕ). whole.front ++ l) e) in
          let first : token bad ∷ lex in_string front ≡ token (string says) ∷ lex between m.0 =
          sym (bad_first front open_end) ∙ ap (λ (l : List ℕ). lex between (34 ∷ l)) m.1 ∙ whole.lexed m.0 in
          absurd (cc)

  with_quote : whole.front ≡ front ++ 34 ∷ []
  with_quote = sym (append-nil whole.front) ∙ ap (λ (l : List ℕ). whole.front ++ l) (sym nothing_more) ∙ sym whole.is

  before_rest : (r : List ℕ) → lex between (34 ∷ (front ++ 34 ∷ r)) ≡ token (string says) ∷ lex between r
  before_rest r =
      ap (λ (l : List ℕ). lex between (34 ∷ l)) (sym (append_assoc front (34 ∷ []) r) ∙ ap (λ (l : List ℕ). l ++ r) (sym with_quote))
      ∙ whole.lexed r

  pub closed_leaf : is_leaf (34 ∷ (front ++ 34 ∷ [])) ≡ true
  closed_leaf = string_leaf _ says (before_rest [] ∙ ap (λ (l : List Lexeme). token (string says) ∷ l) no_lexeme)

  -- a quote within
  no_leaf_quote : (xs : List ℕ) → is_leaf (34 ∷ (front ++ 34 ∷ (xs ++ 34 ∷ []))) ≡ false
  no_leaf_quote xs =
      let some = some_lexeme xs in
      ap (λ (l : List Lexeme). is_read (punctuate fresh l))
      (before_rest (xs ++ 34 ∷ []) ∙ ap (λ (l : List Lexeme). token (string says) ∷ l) some.2)
      ∙ two_lexemes says some.0 some.1

  no_leaf : (xs : List ℕ) → content plain xs ≡ None → is_leaf (34 ∷ (front ++ xs)) ≡ false
  no_leaf xs none = bad_leaf _ _ (bad_first (front ++ xs) (reads xs ∙ ap (prepend says) none))

-- ---- a string of JSON that a quote ends

-- what comes last has the last byte
last_of_all : (a : List ℕ) (x : ℕ) (xs f : List ℕ) (q : ℕ) → f ++ q ∷ [] ≡ a ++ (x ∷ xs) → (start : List ℕ) × (x ∷ xs ≡ start ++ q ∷ [])
last_of_all [] x xs f q e = (f, sym e)
last_of_all (y ∷ ys) x xs [] q e = absurd (omega (arith, ap length e, length-append ys (x ∷ xs)))
last_of_all (y ∷ ys) x xs (z ∷ zs) q e = last_of_all ys x xs zs q (ap (drop 1) e)

module _ (p : List ℕ) (leaf : is_leaf (34 ∷ (p ++ 34 ∷ [])) ≡ true) where
  abbrev said : (k : List ℕ) × (content plain (p ++ 34 ∷ []) ≡ Some k)
  said = leaf_content (p ++ 34 ∷ []) leaf

  abbrev string_in : Whole said.0 (p ++ 34 ∷ [])
  string_in = whole_string (p ++ 34 ∷ []) said.0 said.1

  no_rest : (l : List ℕ) → string_in.rest ≡ l → string_in.rest ≡ []
  no_rest [] e = e
  no_rest (x ∷ xs) e =
      let last = last_of_all string_in.front x xs p 34 (string_in.is ∙ ap (λ (l : List ℕ). string_in.front ++ l) e) in
      let some = some_lexeme last.0 in
      let lexed : lex between (34 ∷ (p ++ 34 ∷ [])) ≡ token (string said.0) ∷ some.0 ∷ some.1 =
      ap (λ (l : List ℕ). lex between (34 ∷ l)) string_in.is ∙ string_in.lexed string_in.rest
      ∙ ap (λ (l : List ℕ). token (string said.0) ∷ lex between l) (e ∙ last.1)
      ∙ ap (λ (l : List Lexeme). token (string said.0) ∷ l) some.2 in
      absurd (true≢false (sym leaf ∙ ap (λ (l : List Lexeme). is_read (punctuate fresh l)) lexed ∙ two_lexemes said.0 some.0 some.1))

  -- it is cut off there
  pub leaf_cut : (r : List ℕ) → cut between (34 ∷ (p ++ 34 ∷ r)) ≡ (34 ∷ (p ++ 34 ∷ [])) ∷ cut between r
  leaf_cut r =
      let same : string_in.front ≡ p ++ 34 ∷ [] =
      sym (append-nil string_in.front) ∙ ap (λ (l : List ℕ). string_in.front ++ l) (sym (no_rest string_in.rest refl)) ∙ sym string_in.is in
      ap (λ (l : List ℕ). cut between (34 ∷ l)) (sym (append_assoc p (34 ∷ []) r) ∙ ap (λ (l : List ℕ). l ++ r) (sym same))
      ∙ string_in.cuts r ∙ ap (λ (l : List ℕ). (34 ∷ l) ∷ cut between r) same

-- ---- all parts that come first

module _ (bytes : List ℕ) (n : ℕ) (first : Reads plain bytes n) (last : HasNoPart (drop n bytes)) where
  abbrev front : List ℕ
  front = take n bytes

  longer_by : (m : ℕ) (rest : List ℕ) → drop n bytes ≡ rest → n + suc m ≤ length bytes → HasNoPart rest
      → is_leaf (34 ∷ (front ++ (take (suc m) rest ++ 34 ∷ []))) ≡ false
  longer_by m [] is within none = absurd (omega (arith, ap length is, length-drop n bytes))
  longer_by m (y ∷ ys) is within (inl closes) =
      ap (λ z. is_leaf (34 ∷ (front ++ (z ∷ (take m ys ++ 34 ∷ []))))) closes ∙ no_leaf_quote front first.says first.reads (take m ys)
  longer_by m (y ∷ ys) is within (inr never) =
      no_leaf front first.says first.reads (y ∷ (take m ys ++ 34 ∷ []))
      (never y (take m ys) (drop m ys) (ap (λ (l : List ℕ). y ∷ l) (sym (take-append-drop m ys))))

  pub longest_closed : IsLongestClosed (34 ∷ bytes) (1 + n)
  longest_closed =
      let one : 1 + n ≡ suc n = omega arith in
      record {
        within = omega (arith, first.within);
        closed = ap (λ k. is_closed_at (34 ∷ bytes) k) one ∙ closed_leaf front first.says first.reads;
        longest = λ k low high.
            let m = k - n - 2 in
            let same : k ≡ suc (n + suc m) = omega arith in
            ap (λ j. is_closed_at (34 ∷ bytes) j) same
            ∙ ap (λ (l : List ℕ). is_leaf (34 ∷ (l ++ 34 ∷ []))) (take-add n (suc m) bytes)
            ∙ ap (λ (l : List ℕ). is_leaf (34 ∷ l)) (append_assoc front (take (suc m) (drop n bytes)) (34 ∷ []))
            ∙ longer_by m (drop n bytes) refl (omega arith) last;
      }
