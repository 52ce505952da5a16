-- The lexemes of a text that is JSON may stand where they do, up to the end of its value.
use Rattle.std.proofs.Common.{◌≡◌, ◌≢◌, ℕ, suc, ◌+◌, ◌-◌, ◌≤◌, ◌<◌, nat_lt, true, false, cond, ◌&&◌, List, [], ◌∷◌, ◌++◌, length, take}
use Rattle.std.proofs.Common.{Option, Some, None, option_and_then, is_some, refl, sym, ap, ◌∙◌, subst, arith, append-nil}
use Rattle.std.proofs.Common.{append_assoc, ◌==◌, ◌⊎◌, inl, inr}
use Rattle.std.specs.Prelude.{⊤}
use Rattle.std.proofs.lemmas.Bool.{cases_Bool, eqb-true, false≢true, lt-ltb, or_parts}
use Rattle.std.proofs.lemmas.List.{length-append}
use Rattle.std.proofs.Math.Seq.{take-append_seam}
use Rattle.json.specs.Json as json
use Rattle.json.specs.Json.{Json, if_last, value}
use Rattle.json.specs.Token.{Token, begin_object, end_object, begin_array, end_array, key, string, number, boolean, null, bad}
use Rattle.json.specs.Word.{is_operator, is_space, head, ends_word, word}
use Rattle.json.specs.Lex.{Lexeme, token, between, lex, punctuate, fresh}
use Rattle.json.proofs.Grammar.{value_is}
use Rattle.json_validity.specs.Document.{document, max_depth}
use Rattle.json_lexemes.specs.Lexemes.{cut, lexemes}
use Rattle.json_lexemes.proofs.Classes.{each_operator}
use Rattle.json_lexemes.proofs.Following.{Follows, IsSound-document}
use Rattle.json_lexemes.proofs.Sound.{Walk, walked, cut-space, cut-sign}
use Rattle.json_lexemes.proofs.Words.{IsWord-word, cut-word, lex-word}
use Rattle.json_grammar.specs.Grammar.{Value, alone, array, object, Items, no_items, item, Members, no_members, member}
use Rattle.json_grammar.specs.Grammar.{spelled, spelled_items, more_items, spelled_members, more_members}
use Rattle.json_grammar.specs.Grammar.{depth, items_depth, members_depth, IsFormed, AreFormedItems, AreFormedMembers}
use Rattle.json_grammar.specs.Next as next
use Rattle.json_grammar.specs.Next.{expects_value, is_key}
use Rattle.json_grammar.specs.Readings as sort
use Rattle.json_grammar.specs.Readings.{JsonReading, JsonSort, before, after_value_in, first_json_reading, is_leaf, json_step}
use Rattle.json_grammar.specs.Readings.{json_reading_after, json_sort_of, sort_step, valued}
use Rattle.json_grammar.specs.declared.expected.Expected.{Expected}
use Rattle.json_grammar.specs.declared.expected.Expected.TheVariants as want
use Rattle.json_grammar.specs.declared.next.Bracket.{Bracket}
use Rattle.json_grammar.specs.declared.next.Bracket.TheVariants.{Array, Object}
use Rattle.json_grammar.proofs.Completed.{last_of}
use Rattle.json_grammar.proofs.Grammar.{spell_document}
use Rattle.json_grammar.proofs.Meeting.{IsWordToken, good_word, word_byte}

-- ---- strings and words are JSON

-- a string or a word among lexemes is JSON
abbrev pub IsLeafIfAny : JsonSort → List ℕ → Type 0
IsLeafIfAny sort.string s = is_leaf s ≡ true
IsLeafIfAny sort.word s = is_leaf s ≡ true
IsLeafIfAny _ s = ⊤

abbrev pub AreLeaves : List (List ℕ) → Type 0
AreLeaves [] = ⊤
AreLeaves (s ∷ ss) = IsLeafIfAny (json_sort_of s) s × AreLeaves ss

leaf_if_any : (o : JsonSort) (s : List ℕ) → is_leaf s ≡ true → IsLeafIfAny o s
leaf_if_any sort.open_array s e = tt
leaf_if_any sort.close_array s e = tt
leaf_if_any sort.open_object s e = tt
leaf_if_any sort.close_object s e = tt
leaf_if_any sort.comma s e = tt
leaf_if_any sort.colon s e = tt
leaf_if_any sort.string s e = e
leaf_if_any sort.word s e = e

-- what is read as one token alone, which is a value
one_token : (s : List ℕ) (t : Token) (v : Json) → lex between s ≡ token t ∷ [] → punctuate fresh (token t ∷ []) ≡ t ∷ []
    → value json.max_depth (t ∷ []) ≡ Some (v, []) → is_leaf s ≡ true
one_token s t v read placed is =
    ap (λ (l : List Lexeme). is_some (option_and_then (λ p. if_last p.0 p.1) (value json.max_depth (punctuate fresh l)))) read
    ∙ ap (λ (l : List Token). is_some (option_and_then (λ p. if_last p.0 p.1) (value json.max_depth l))) placed
    ∙ ap (λ o. is_some (option_and_then (λ p. if_last p.0 p.1) o)) is

pub string_leaf : (s k : List ℕ) → lex between s ≡ token (string k) ∷ [] → is_leaf s ≡ true
unfolding punctuate
string_leaf s k read = one_token s (string k) (json.string k) read refl (value_is json.max_depth (string k ∷ []))

word_leaf : (s : List ℕ) (t : Token) → IsWordToken t → lex between s ≡ token t ∷ [] → is_leaf s ≡ true
unfolding punctuate
word_leaf s begin_object w read = absurd w
word_leaf s end_object w read = absurd w
word_leaf s begin_array w read = absurd w
word_leaf s end_array w read = absurd w
word_leaf s (key k) w read = absurd w
word_leaf s (string k) w read = absurd w
word_leaf s (number n) w read = one_token s (number n) (json.number n) read refl (value_is json.max_depth (number n ∷ []))
word_leaf s (boolean b) w read = one_token s (boolean b) (json.boolean b) read refl (value_is json.max_depth (boolean b ∷ []))
word_leaf s null w read = one_token s null json.null read refl (value_is json.max_depth (null ∷ []))
word_leaf s bad w read = absurd w

abbrev HasLeaves : List ℕ → Type 0
HasLeaves xs = AreLeaves (cut between xs)

leaves_more : (s xs rest : List ℕ) → cut between xs ≡ s ∷ cut between rest → IsLeafIfAny (json_sort_of s) s → HasLeaves rest → HasLeaves xs
leaves_more s xs rest cuts leaf h = subst AreLeaves (sym cuts) (leaf, h)

sign_leaf : (x : ℕ) → is_operator x ≡ true → IsLeafIfAny (json_sort_of (x ∷ [])) (x ∷ [])
sign_leaf = each_operator (λ x. IsLeafIfAny (json_sort_of (x ∷ [])) (x ∷ [])) tt tt tt tt tt tt

not_bad : (t : Token) (ls : List Lexeme) → Follows t ls → t ≢ bad
not_bad t ls f e = subst (λ k. Follows k ls) e f

no_text : lex between [] ≡ []
unfolding lex
no_text = refl

leaves_end : HasLeaves []
unfolding cut
leaves_end = tt

leaves_walk : Walk HasLeaves
leaves_walk =
    record {
      at_end = leaves_end;
      at_space = λ x xs e h. subst AreLeaves (sym (cut-space x xs e)) h;
      at_sign = λ x xs e o h. leaves_more (x ∷ []) (x ∷ xs) xs (cut-sign x xs e) (sign_leaf x o) h;
      at_string = λ s xs w h.
          let alone : lex between (34 ∷ w.front) ≡ token (string s) ∷ [] =
          ap (λ (l : List ℕ). lex between (34 ∷ l)) (sym (append-nil w.front)) ∙ w.lexed []
          ∙ ap (λ (l : List Lexeme). token (string s) ∷ l) no_text in
          leaves_more (34 ∷ w.front) _ w.rest (w.cuts w.rest) (string_leaf (34 ∷ w.front) s alone) h;
      at_word = λ x w rest e run ended sound h.
          let t = x ∷ w in
          let alone : lex between t ≡ token (word t) ∷ [] =
          ap (lex between) (sym (append-nil t)) ∙ lex-word x w [] e run refl ∙ ap (λ (l : List Lexeme). token (word t) ∷ l) no_text in
          let good = good_word (word t) (IsWord-word t) (not_bad (word t) (lex between rest) sound.0) in
          leaves_more t _ rest (cut-word x w rest e run ended) (leaf_if_any (json_sort_of t) t (word_leaf t (word t) good alone)) h;
    }

leaves_of : (text : List ℕ) (v : Json) → document text ≡ Some v → AreLeaves (lexemes text)
leaves_of text v e = walked HasLeaves leaves_walk text (IsSound-document text v e)

later_leaves : (ss rest : List (List ℕ)) → AreLeaves (ss ++ rest) → AreLeaves rest
later_leaves [] rest h = h
later_leaves (s ∷ ss) rest h = later_leaves ss rest h.1

-- ---- one lexeme

no_key : (n : Expected) → expects_value n ≡ true → is_key n ≡ false
no_key want.Value e = refl
no_key want.ValueOrBracket e = refl
no_key n e = absurd (false≢true e)

module _ (bs : List Bracket) (n : Expected) where
  value_taken : (s : List ℕ) → expects_value n ≡ true → is_leaf s ≡ true → valued (before bs n) s ≡ Some (after_value_in bs)
  value_taken s e leaf = λ i. cond (e i && leaf i) (Some (after_value_in bs)) None

  -- by its first byte
  alone_step : (s : List ℕ) → ends_word s ≡ false → IsLeafIfAny (json_sort_of s) s → expects_value n ≡ true
      → json_step (before bs n) s ≡ Some (after_value_in bs)
  alone_step s formed leaf e = by (cases_Bool (head s == 34))
    where
      by : ((head s == 34) ≡ true) ⊎ ((head s == 34) ≡ false) → json_step (before bs n) s ≡ Some (after_value_in bs)
      by (inl quoted) =
          let sorted : json_sort_of s ≡ sort.string = ap sort.json_sort_by (eqb-true (head s) 34 quoted) in
          ap (λ o. sort_step o (before bs n) s) sorted
          ∙ ap (λ b. cond b (cond (is_leaf s) (Some (before bs want.Colon)) None) (valued (before bs n) s)) (no_key n e)
          ∙ value_taken s e (subst (λ o. IsLeafIfAny o s) sorted leaf)
      by (inr not) =
          let no_quote : head s ≢ 34 = λ is. false≢true (sym not ∙ ap (λ x. x == 34) is) in
          let sorted : json_sort_of s ≡ sort.word =
          word_byte (head s) no_quote (or_parts (is_operator (head s)) (is_space (head s)) formed).0 in
          ap (λ o. sort_step o (before bs n) s) sorted ∙ value_taken s e (subst (λ o. IsLeafIfAny o s) sorted leaf)

  key_step : (s : List ℕ) → head s ≡ 34 → IsLeafIfAny (json_sort_of s) s → is_key n ≡ true → json_step (before bs n) s
      ≡ Some (before bs want.Colon)
  key_step s quoted leaf e =
      let sorted : json_sort_of s ≡ sort.string = ap sort.json_sort_by quoted in
      let is : is_leaf s ≡ true = subst (λ o. IsLeafIfAny o s) sorted leaf in
      ap (λ o. sort_step o (before bs n) s) sorted
      ∙ (λ i. cond (e i) (cond (is i) (Some (before bs want.Colon)) None) (valued (before bs n) s))

  open_step : (b : Bracket) (m : Expected) → expects_value n ≡ true → length bs < max_depth
      → cond (expects_value n && nat_lt (length bs) max_depth) (Some (before (bs ++ b ∷ []) m)) None ≡ Some (before (bs ++ b ∷ []) m)
  open_step b m e room =
      let lt = lt-ltb (length bs) max_depth room in
      λ i. cond (e i && lt i) (Some (before (bs ++ b ∷ []) m)) None

outer_push : (bs : List Bracket) (b : Bracket) → take (length (bs ++ b ∷ []) - 1) (bs ++ b ∷ []) ≡ bs
outer_push bs b =
    let count : length (bs ++ b ∷ []) - 1 ≡ length bs = omega (arith, length-append bs (b ∷ [])) in
    ap (λ (k : ℕ). take k (bs ++ b ∷ [])) count ∙ take-append_seam bs (b ∷ [])

-- after a bracket that closes, whichever may come before it
pub close_step : (bs : List Bracket) (b : Bracket)
    → Some (after_value_in (take (length (bs ++ b ∷ []) - 1) (bs ++ b ∷ []))) ≡ Some (after_value_in bs)
close_step bs b = ap (λ (l : List Bracket). Some (after_value_in l)) (outer_push bs b)

pub stepped : (r t : JsonReading) (s : List ℕ) (ss : List (List ℕ)) → json_step r s ≡ Some t
    → json_reading_after r (s ∷ ss) ≡ json_reading_after t ss
stepped r t s ss e = ap (option_and_then (λ (x : JsonReading). json_reading_after x ss)) e

-- what comes after a value in brackets
after_in : (bs : List Bracket) (b : Bracket) → after_value_in (bs ++ b ∷ []) ≡ before (bs ++ b ∷ []) (next.after_value (Some b))
after_in bs b = ap (λ (o : Option Bracket). before (bs ++ b ∷ []) (next.after_value o)) (last_of bs b)

-- ---- a value

-- from here on, these lexemes lead there
abbrev Leads : JsonReading → List (List ℕ) → JsonReading → Type 0
Leads r ss t = (rest : List (List ℕ)) → AreLeaves (ss ++ rest) → json_reading_after r (ss ++ rest) ≡ json_reading_after t rest

-- one after the other
both_lead : (r t u : JsonReading) (ss ts : List (List ℕ)) → Leads r ss t → Leads t ts u → Leads r (ss ++ ts) u
both_lead r t u ss ts f g rest leaves =
    let same = append_assoc ss ts rest in
    let h : AreLeaves (ss ++ (ts ++ rest)) = subst AreLeaves same leaves in
    ap (json_reading_after r) same ∙ f (ts ++ rest) h ∙ g rest (later_leaves ss (ts ++ rest) h)

first_leads : (r t u : JsonReading) (s : List ℕ) (ss : List (List ℕ)) → (IsLeafIfAny (json_sort_of s) s → json_step r s ≡ Some t)
    → Leads t ss u → Leads r (s ∷ ss) u
first_leads r t u s ss e f rest leaves = stepped r t s (ss ++ rest) (e leaves.0) ∙ f rest leaves.1

one_leads : (r t : JsonReading) (s : List ℕ) → (IsLeafIfAny (json_sort_of s) s → json_step r s ≡ Some t) → Leads r (s ∷ []) t
one_leads r t s e rest leaves = stepped r t s rest (e leaves.0)

-- an item, and the later ones
item_leads : (v : Value) (vs : Items) (bs : List Bracket) (n : Expected)
    → Leads (before (bs ++ Array ∷ []) n) (spelled v) (after_value_in (bs ++ Array ∷ []))
    → Leads (before (bs ++ Array ∷ []) want.CommaOrBracket) (more_items vs) (after_value_in bs)
    → Leads (before (bs ++ Array ∷ []) n) (spelled v ++ more_items vs) (after_value_in bs)
item_leads v vs bs n one more =
    let obs = bs ++ Array ∷ [] in
    both_lead (before obs n) (after_value_in obs) (after_value_in bs) (spelled v) (more_items vs) one
    (subst (λ (x : JsonReading). Leads x (more_items vs) (after_value_in bs)) (sym (after_in bs Array)) more)

-- a member, and the later ones
member_leads : (k : List ℕ) (v : Value) (ms : Members) (bs : List Bracket) (n : Expected) → is_key n ≡ true → head k ≡ 34
    → Leads (before (bs ++ Object ∷ []) want.Value) (spelled v) (after_value_in (bs ++ Object ∷ []))
    → Leads (before (bs ++ Object ∷ []) want.CommaOrBrace) (more_members ms) (after_value_in bs)
    → Leads (before (bs ++ Object ∷ []) n) (k ∷ (58 ∷ []) ∷ (spelled v ++ more_members ms)) (after_value_in bs)
member_leads k v ms bs n e quoted one more =
    let obs = bs ++ Object ∷ [] in
    first_leads (before obs n) (before obs want.Colon) (after_value_in bs) k ((58 ∷ []) ∷ (spelled v ++ more_members ms))
    (λ leaf. key_step obs n k quoted leaf e)
    (first_leads (before obs want.Colon) (before obs want.Value) (after_value_in bs) (58 ∷ []) (spelled v ++ more_members ms) (λ leaf. refl)
    (both_lead (before obs want.Value) (after_value_in obs) (after_value_in bs) (spelled v) (more_members ms) one
    (subst (λ (x : JsonReading). Leads x (more_members ms) (after_value_in bs)) (sym (after_in bs Object)) more)))

-- within one bracket more
pushed_within : (k : ℕ) (bs : List Bracket) (b : Bracket) → k + suc (length bs) ≤ max_depth → k + length (bs ++ b ∷ []) ≤ max_depth
pushed_within k bs b d = omega (arith, length-append bs (b ∷ []))

mutual
  run_value : (v : Value) (bs : List Bracket) (n : Expected) → expects_value n ≡ true → IsFormed v → depth v + length bs ≤ max_depth
      → Leads (before bs n) (spelled v) (after_value_in bs)
  run_value (alone s) bs n e f d = one_leads (before bs n) (after_value_in bs) s (λ leaf. alone_step bs n s f leaf e)
  run_value (array vs) bs n e f d =
      first_leads (before bs n) (before (bs ++ Array ∷ []) want.ValueOrBracket) (after_value_in bs) (91 ∷ []) (spelled_items vs)
      (λ leaf. open_step bs n Array want.ValueOrBracket e (omega arith)) (run_items vs bs f (omega arith))
  run_value (object ms) bs n e f d =
      first_leads (before bs n) (before (bs ++ Object ∷ []) want.KeyOrBrace) (after_value_in bs) (123 ∷ []) (spelled_members ms)
      (λ leaf. open_step bs n Object want.KeyOrBrace e (omega arith)) (run_members ms bs f (omega arith))

  run_items : (vs : Items) (bs : List Bracket) → AreFormedItems vs → items_depth vs + suc (length bs) ≤ max_depth
      → Leads (before (bs ++ Array ∷ []) want.ValueOrBracket) (spelled_items vs) (after_value_in bs)
  run_items no_items bs f d =
      one_leads (before (bs ++ Array ∷ []) want.ValueOrBracket) (after_value_in bs) (93 ∷ []) (λ leaf. close_step bs Array)
  run_items (item v vs) bs f d =
      item_leads v vs bs want.ValueOrBracket
      (run_value v (bs ++ Array ∷ []) want.ValueOrBracket refl f.0 (pushed_within (depth v) bs Array (omega arith)))
      (run_more_items vs bs f.1 (omega arith))

  run_more_items : (vs : Items) (bs : List Bracket) → AreFormedItems vs → items_depth vs + suc (length bs) ≤ max_depth
      → Leads (before (bs ++ Array ∷ []) want.CommaOrBracket) (more_items vs) (after_value_in bs)
  run_more_items no_items bs f d =
      one_leads (before (bs ++ Array ∷ []) want.CommaOrBracket) (after_value_in bs) (93 ∷ []) (λ leaf. close_step bs Array)
  run_more_items (item v vs) bs f d =
      first_leads (before (bs ++ Array ∷ []) want.CommaOrBracket) (before (bs ++ Array ∷ []) want.Value) (after_value_in bs) (44 ∷ [])
      (spelled v ++ more_items vs) (λ leaf. refl)
      (item_leads v vs bs want.Value
      (run_value v (bs ++ Array ∷ []) want.Value refl f.0 (pushed_within (depth v) bs Array (omega arith)))
      (run_more_items vs bs f.1 (omega arith)))

  run_members : (ms : Members) (bs : List Bracket) → AreFormedMembers ms → members_depth ms + suc (length bs) ≤ max_depth
      → Leads (before (bs ++ Object ∷ []) want.KeyOrBrace) (spelled_members ms) (after_value_in bs)
  run_members no_members bs f d =
      one_leads (before (bs ++ Object ∷ []) want.KeyOrBrace) (after_value_in bs) (125 ∷ []) (λ leaf. close_step bs Object)
  run_members (member k v ms) bs f d =
      member_leads k v ms bs want.KeyOrBrace refl f.0
      (run_value v (bs ++ Object ∷ []) want.Value refl f.1 (pushed_within (depth v) bs Object (omega arith)))
      (run_more_members ms bs f.2 (omega arith))

  run_more_members : (ms : Members) (bs : List Bracket) → AreFormedMembers ms → members_depth ms + suc (length bs) ≤ max_depth
      → Leads (before (bs ++ Object ∷ []) want.CommaOrBrace) (more_members ms) (after_value_in bs)
  run_more_members no_members bs f d =
      one_leads (before (bs ++ Object ∷ []) want.CommaOrBrace) (after_value_in bs) (125 ∷ []) (λ leaf. close_step bs Object)
  run_more_members (member k v ms) bs f d =
      first_leads (before (bs ++ Object ∷ []) want.CommaOrBrace) (before (bs ++ Object ∷ []) want.Key) (after_value_in bs) (44 ∷ [])
      (k ∷ (58 ∷ []) ∷ (spelled v ++ more_members ms)) (λ leaf. refl)
      (member_leads k v ms bs want.Key refl f.0
      (run_value v (bs ++ Object ∷ []) want.Value refl f.1 (pushed_within (depth v) bs Object (omega arith)))
      (run_more_members ms bs f.2 (omega arith)))

-- ---- the whole text

pub accepted : (text : List ℕ) (v : Json) → document text ≡ Some v
    → json_reading_after first_json_reading (lexemes text) ≡ Some (before [] want.End)
accepted text v e =
    let spell = spell_document text v e in
    let same : lexemes text ≡ spelled spell.value ++ [] = spell.spells ∙ sym (append-nil (spelled spell.value)) in
    ap (json_reading_after first_json_reading) same
    ∙ run_value spell.value [] want.Value refl spell.formed (omega (arith, spell.shallow)) [] (subst AreLeaves same (leaves_of text v e))
