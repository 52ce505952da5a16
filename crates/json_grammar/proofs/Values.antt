-- The lexemes that give the tokens of a value spell a value.
use Rattle.std.proofs.Common.{◌≡◌, ℕ, suc, ◌≤◌, max, true, false, ◌||◌, Bool, List, [], ◌∷◌, ◌++◌}
use Rattle.std.proofs.Common.{refl, sym, ap, ap₂, ◌∙◌, subst, append_assoc, append-nil}
use Rattle.std.specs.Prelude.{⊤}
use Rattle.json.specs.Word.{is_operator, is_space, head, ends_word}
use Rattle.json.specs.Token.{Token, begin_object, end_object, begin_array, end_array, key, string, number, boolean, null, bad}
use Rattle.json.specs.Lex.{Lexeme, token, comma, colon, Place, fresh, after_value, after_comma, after_key}
use Rattle.json.specs.Lex.{begins_colon, may_begin, may_close, if_allowed, place_token, punctuate}
use Rattle.json.specs.Json as j
use Rattle.json.specs.Json.{Json}
use Rattle.json_validity.specs.Document.{max_depth}
use Rattle.json.specs.Tree as tree
use Rattle.json.specs.Tree.{json_tokens, items_tokens, members_tokens}
use Rattle.json_grammar.specs.Grammar.{Value, alone, array, object, Items, no_items, item, Members, no_members, member}
use Rattle.json_grammar.specs.Grammar.{spelled, spelled_items, more_items, spelled_members, more_members}
use Rattle.json_grammar.specs.Grammar.{depth, items_depth, members_depth, IsFormed, AreFormedItems, AreFormedMembers, SpellValue}
use Rattle.json_grammar.proofs.Spelling.{Spell, first_of, next, Step, step, step_end, Opens, past_comma, past_colon}

-- ---- what is read

-- a value; or what is in an array or an object, up to its closing bracket, all of it or what is after a value in it
data Part : Type 0 where
  a_value : Part
  all_items : Part
  later_items : Part
  all_members : Part
  later_members : Part

abbrev What : Part → Type 0
What a_value = Value
What all_items = Items
What later_items = Items
What all_members = Members
What later_members = Members

abbrev texts_of : (q : Part) → What q → List (List ℕ)
texts_of a_value v = spelled v
texts_of all_items vs = spelled_items vs
texts_of later_items vs = more_items vs
texts_of all_members ms = spelled_members ms
texts_of later_members ms = more_members ms

abbrev depth_of : (q : Part) → What q → ℕ
depth_of a_value v = depth v
depth_of all_items vs = items_depth vs
depth_of later_items vs = items_depth vs
depth_of all_members ms = members_depth ms
depth_of later_members ms = members_depth ms

abbrev IsGood : (q : Part) → What q → Type 0
IsGood a_value v = IsFormed v
IsGood all_items vs = AreFormedItems vs
IsGood later_items vs = AreFormedItems vs
IsGood all_members ms = AreFormedMembers ms
IsGood later_members ms = AreFormedMembers ms

-- the first texts spell such a part, which is d deep, and those after them give the tokens ts
record Taken (q : Part) (d : ℕ) (ss : List (List ℕ)) (ts : List Token) : Type 0 where
  what : What q
  texts : List (List ℕ)
  lexemes : List Lexeme
  is : ss ≡ texts_of q what ++ texts
  spell : Spell texts lexemes
  go : punctuate after_value lexemes ≡ ts
  deep : depth_of q what ≡ d
  good : IsGood q what

-- ---- one lexeme

single : {q : Part} {p : Place} {t : Token} {ss : List (List ℕ)} {ts : List Token} (s : Step p t ss ts) (a : What q)
    → next t ≡ after_value → texts_of q a ≡ s.text ∷ [] → depth_of q a ≡ 0 → IsGood q a → Taken q 0 ss ts
single s a after one flat good =
    record {
      what = a;
      texts = s.texts;
      lexemes = s.lexemes;
      is = s.is ∙ ap (λ l. l ++ s.texts) (sym one);
      spell = s.spell;
      go = ap (λ p. punctuate p s.lexemes) (sym after) ∙ s.go;
      deep = flat;
      good = good;
    }

word : {p : Place} {t : Token} {ss : List (List ℕ)} {ts : List Token} (s : Step p t ss ts)
    → next t ≡ after_value → ends_word s.text ≡ false → Taken a_value 0 ss ts
word s after formed = single s (alone s.text) after refl refl formed

-- a quote ends no word
quoted : (s : List ℕ) → head s ≡ 34 → ends_word s ≡ false
quoted s e = ap (λ x. is_operator x || is_space x) e

-- ---- brackets around, and a value in front

nested : {q : Part} {p : Place} {t : Token} {d : ℕ} {ss : List (List ℕ)} {us ts : List Token} (s : Step p t ss us) (h : What q → Value)
    → ((a : What q) → spelled (h a) ≡ s.text ∷ texts_of q a) → ((a : What q) → depth (h a) ≡ suc (depth_of q a))
    → ((a : What q) → IsGood q a → IsFormed (h a)) → Taken q d s.texts ts → Taken a_value (suc d) ss ts
nested s h spells deeper formed r =
    record {
      what = h r.what;
      texts = r.texts;
      lexemes = r.lexemes;
      is = s.is ∙ ap (λ l. s.text ∷ l) r.is ∙ ap (λ l. l ++ r.texts) (sym (spells r.what));
      spell = r.spell;
      go = r.go;
      deep = deeper r.what ∙ ap suc r.deep;
      good = formed r.what r.good;
    }

-- a front, what f spells and what m spells
three : (ss front rest f others m texts : List (List ℕ)) → ss ≡ front ++ rest → rest ≡ f ++ others → others ≡ m ++ texts
    → ss ≡ (front ++ (f ++ m)) ++ texts
three ss front rest f others m texts a b c =
    a ∙ ap (λ l. front ++ l) (b ∙ ap (λ l. f ++ l) c ∙ sym (append_assoc f m texts)) ∙ sym (append_assoc front (f ++ m) texts)

-- the front, a value, and more, are a longer part
and_more : {q w : Part} (front : List (List ℕ)) (h : Value → What q → What w)
    → ((v : Value) (a : What q) → texts_of w (h v a) ≡ front ++ (spelled v ++ texts_of q a))
    → ((v : Value) (a : What q) → depth_of w (h v a) ≡ max (depth v) (depth_of q a))
    → ((v : Value) (a : What q) → IsFormed v → IsGood q a → IsGood w (h v a))
    → {d e : ℕ} {ss rest : List (List ℕ)} {us ts : List Token} → ss ≡ front ++ rest → (v : Taken a_value d rest us)
    → Taken q e v.texts ts → Taken w (max d e) ss ts
and_more {q} {w} front h spells deeper formed {d} {e} {ss} {rest} split v r =
    record {
      what = h v.what r.what;
      texts = r.texts;
      lexemes = r.lexemes;
      is = three ss front rest (spelled v.what) v.texts (texts_of q r.what) r.texts split v.is r.is
          ∙ ap (λ l. l ++ r.texts) (sym (spells v.what r.what));
      spell = r.spell;
      go = r.go;
      deep = deeper v.what r.what ∙ ap₂ max v.deep r.deep;
      good = formed v.what r.what v.good r.good;
    }

-- ---- commas and colons

-- a value's tokens begin with what may begin
Opens-json : (v : Json) (ts : List Token) → Opens (json_tokens v ++ ts)
Opens-json j.null ts = tt
Opens-json (j.boolean b) ts = tt
Opens-json (j.number s) ts = tt
Opens-json (j.string s) ts = tt
Opens-json (j.array vs) ts = tt
Opens-json (j.object ms) ts = tt

-- the front comes first, and the others give the tokens ts from a place on
record Passed (ss front : List (List ℕ)) (p : Place) (ts : List Token) : Type 0 where
  texts : List (List ℕ)
  lexemes : List Lexeme
  is : ss ≡ front ++ texts
  spell : Spell texts lexemes
  go : punctuate p lexemes ≡ ts

comma_first : {ss : List (List ℕ)} (ls : List Lexeme) {ts : List Token} → Spell ss ls → Opens ts → punctuate after_value ls ≡ ts
    → Passed ss ((44 ∷ []) ∷ []) after_comma ts
comma_first {ss} ls h opens e =
    let p = past_comma ls (subst Opens (sym e) opens) in
    let f = first_of ss comma p.0 (subst (Spell ss) p.1 h) in
    record { texts = f.texts; lexemes = p.0; is = f.is ∙ ap (λ s. s ∷ f.texts) f.spelling; spell = f.spell; go = sym p.2 ∙ e }

colon_first : {ss : List (List ℕ)} (ls : List Lexeme) {ts : List Token} → Spell ss ls → Opens ts → punctuate after_key ls ≡ ts
    → Passed ss ((58 ∷ []) ∷ []) fresh ts
colon_first {ss} ls h opens e =
    let p = past_colon ls (subst Opens (sym e) opens) in
    let f = first_of ss colon p.0 (subst (Spell ss) p.1 h) in
    record { texts = f.texts; lexemes = p.0; is = f.is ∙ ap (λ s. s ∷ f.texts) f.spelling; spell = f.spell; go = sym p.2 ∙ e }

-- ---- the whole value

-- lexemes that give the tokens us first, from a place on, spell such a part first
abbrev Takes : Part → List Token → ℕ → Place → Type 0
Takes q us d p = (ss : List (List ℕ)) (ls : List Lexeme) (ts : List Token) → Spell ss ls → punctuate p ls ≡ us ++ ts → Taken q d ss ts

abbrev TakesValue : Json → Type 0
TakesValue v = (p : Place) → may_begin p ≡ true → Takes a_value (json_tokens v) (tree.depth v) p

-- how a member joins the front of a part
record Joins (w : Part) (front : List (List ℕ)) (h : List ℕ → Value → Members → What w) : Type 0 where
  spells : (t : List ℕ) (v : Value) (a : Members) → texts_of w (h t v a) ≡ front ++ (t ∷ (58 ∷ []) ∷ (spelled v ++ more_members a))
  deeper : (t : List ℕ) (v : Value) (a : Members) → depth_of w (h t v a) ≡ max (depth v) (members_depth a)
  formed : (t : List ℕ) (v : Value) (a : Members) → head t ≡ 34 → IsFormed v → AreFormedMembers a → IsGood w (h t v a)

-- the front, a key, a colon, a value, and more
with_key : {w : Part} {front : List (List ℕ)} {h : List ℕ → Value → Members → What w} (joins : Joins w front h)
    → {p : Place} {k : List ℕ} {d e : ℕ} {ss rest : List (List ℕ)} {us vs xs ts : List Token} → ss ≡ front ++ rest
    → (s : Step p (key k) rest us) (c : Passed s.texts ((58 ∷ []) ∷ []) fresh vs) (v : Taken a_value d c.texts xs)
    → Taken later_members e v.texts ts → Taken w (max d e) ss ts
with_key {w} {front} {h} joins split s c v more =
    let key_colon : List (List ℕ) = s.text ∷ (58 ∷ []) ∷ [] in
    and_more (front ++ key_colon) (h s.text)
    (λ x a. joins.spells s.text x a ∙ sym (append_assoc front key_colon (spelled x ++ more_members a)))
    (joins.deeper s.text) (λ x a. joins.formed s.text x a s.spelling)
    (split ∙ ap (λ l. front ++ l) (s.is ∙ ap (λ l. s.text ∷ l) c.is) ∙ sym (append_assoc front key_colon c.texts)) v more

take_member : {w : Part} {front : List (List ℕ)} {h : List ℕ → Value → Members → What w} (joins : Joins w front h)
    (k : List ℕ) (v : Json) (ms : j.Members) → TakesValue v → Takes later_members (members_tokens ms) (tree.members_depth ms) after_value
    → {p : Place} {ss : List (List ℕ)} → may_begin p ≡ true → (ts : List Token)
    → Passed ss front p (members_tokens (j.member k v ms) ++ ts) → Taken w (tree.members_depth (j.member k v ms)) ss ts
take_member joins k v ms take more {p} m ts h =
    let us = members_tokens ms ++ ts in
    let regrouped = ap (λ l. key k ∷ l) (append_assoc (json_tokens v) (members_tokens ms) ts) in
    let s = step p h.lexemes h.texts (key k) (json_tokens v ++ us) m (λ i. cc) h.spell (h.go ∙ regrouped) in
    let c = colon_first s.lexemes s.spell (Opens-json v us) s.go in
    let first = take fresh refl c.texts c.lexemes us c.spell c.go in
    with_key joins h.is s c first (more first.texts first.lexemes ts first.spell first.go)

Joins-first : Joins all_members [] member
Joins-first = record { spells = λ t v a. refl; deeper = λ t v a. refl; formed = λ t v a q f g. (q, f, g) }

Joins-later : Joins later_members ((44 ∷ []) ∷ []) member
Joins-later = record { spells = λ t v a. refl; deeper = λ t v a. refl; formed = λ t v a q f g. (q, f, g) }

mutual
  take_value : (v : Json) → TakesValue v
  take_value j.null p m ss ls ts h e = let s = step p ls ss null ts m (λ i. cc) h e in word s refl s.spelling
  take_value (j.boolean b) p m ss ls ts h e = let s = step p ls ss (boolean b) ts m (λ i. cc) h e in word s refl s.spelling
  take_value (j.number n) p m ss ls ts h e = let s = step p ls ss (number n) ts m (λ i. cc) h e in word s refl s.spelling
  take_value (j.string t) p m ss ls ts h e = let s = step p ls ss (string t) ts m (λ i. cc) h e in word s refl (quoted s.text s.spelling)
  take_value (j.array vs) p m ss ls ts h e =
      let s = step p ls ss begin_array (items_tokens vs ++ ts) m (λ i. cc) h e in
      nested s array (λ a. ap (λ t. t ∷ spelled_items a) (sym s.spelling)) (λ a. refl) (λ a good. good)
      (take_items vs s.texts s.lexemes ts s.spell s.go)
  take_value (j.object ms) p m ss ls ts h e =
      let s = step p ls ss begin_object (members_tokens ms ++ ts) m (λ i. cc) h e in
      nested s object (λ a. ap (λ t. t ∷ spelled_members a) (sym s.spelling)) (λ a. refl) (λ a good. good)
      (take_members ms s.texts s.lexemes ts s.spell s.go)

  take_items : (vs : j.Items) → Takes all_items (items_tokens vs) (tree.items_depth vs) fresh
  take_items j.no_items ss ls ts h e =
      let s = step fresh ls ss end_array ts refl (λ i. cc) h e in
      single s no_items refl (ap (λ t. t ∷ []) (sym s.spelling)) refl tt
  take_items (j.item v vs) ss ls ts h e =
      let first = take_value v fresh refl ss ls (items_tokens vs ++ ts) h (e ∙ append_assoc (json_tokens v) (items_tokens vs) ts) in
      and_more [] item (λ x a. refl) (λ x a. refl) (λ x a f g. (f, g)) refl first
      (take_later_items vs first.texts first.lexemes ts first.spell first.go)

  take_later_items : (vs : j.Items) → Takes later_items (items_tokens vs) (tree.items_depth vs) after_value
  take_later_items j.no_items ss ls ts h e =
      let s = step_end ls ss end_array ts refl (λ i. cc) h e in
      single s no_items refl (ap (λ t. t ∷ []) (sym s.spelling)) refl tt
  take_later_items (j.item v vs) ss ls ts h e =
      let us = items_tokens vs ++ ts in
      let c = comma_first ls h (Opens-json v us) (e ∙ append_assoc (json_tokens v) (items_tokens vs) ts) in
      let first = take_value v after_comma refl c.texts c.lexemes us c.spell c.go in
      and_more ((44 ∷ []) ∷ []) item (λ x a. refl) (λ x a. refl) (λ x a f g. (f, g)) c.is first
      (take_later_items vs first.texts first.lexemes ts first.spell first.go)

  take_members : (ms : j.Members) → Takes all_members (members_tokens ms) (tree.members_depth ms) fresh
  take_members j.no_members ss ls ts h e =
      let s = step fresh ls ss end_object ts refl (λ i. cc) h e in
      single s no_members refl (ap (λ t. t ∷ []) (sym s.spelling)) refl tt
  take_members (j.member k v ms) ss ls ts h e =
      take_member Joins-first k v ms (take_value v) (take_later_members ms) refl ts
      (record { texts = ss; lexemes = ls; is = refl; spell = h; go = e })

  take_later_members : (ms : j.Members) → Takes later_members (members_tokens ms) (tree.members_depth ms) after_value
  take_later_members j.no_members ss ls ts h e =
      let s = step_end ls ss end_object ts refl (λ i. cc) h e in
      single s no_members refl (ap (λ t. t ∷ []) (sym s.spelling)) refl tt
  take_later_members (j.member k v ms) ss ls ts h e =
      take_member Joins-later k v ms (take_value v) (take_later_members ms) refl ts (comma_first ls h tt e)

-- ---- nothing is left

abbrev IsSome : List Token → Type 0
IsSome [] = ⊥
IsSome (t ∷ ts) = ⊤

IsSome-allowed : (b : Bool) (t : Token) (k : Place → List Token) (n : Place) → IsSome (if_allowed b t k n)
IsSome-allowed true t k n = tt
IsSome-allowed false t k n = tt

IsSome-placed : (p : Place) (t : Token) (b : Bool) (k : Place → List Token) → IsSome (place_token p t b k)
IsSome-placed p begin_object b k = IsSome-allowed (may_begin p) begin_object k fresh
IsSome-placed p end_object b k = IsSome-allowed (may_close p) end_object k after_value
IsSome-placed p begin_array b k = IsSome-allowed (may_begin p) begin_array k fresh
IsSome-placed p end_array b k = IsSome-allowed (may_close p) end_array k after_value
IsSome-placed p (key s) b k = tt
IsSome-placed p (string s) true k = IsSome-allowed (may_begin p) (key s) k after_key
IsSome-placed p (string s) false k = IsSome-allowed (may_begin p) (string s) k after_value
IsSome-placed p (number s) b k = IsSome-allowed (may_begin p) (number s) k after_value
IsSome-placed p (boolean v) b k = IsSome-allowed (may_begin p) (boolean v) k after_value
IsSome-placed p null b k = IsSome-allowed (may_begin p) null k after_value
IsSome-placed p bad b k = tt

after_a_comma : (ls : List Lexeme) → IsSome (punctuate after_comma ls)
unfolding punctuate
after_a_comma [] = tt
after_a_comma (token t ∷ ls) = IsSome-placed after_comma t (begins_colon ls) (λ n. punctuate n ls)
after_a_comma (comma ∷ ls) = tt
after_a_comma (colon ∷ ls) = tt

none_left : (ls : List Lexeme) (ss : List (List ℕ)) → punctuate after_value ls ≡ [] → Spell ss ls → ss ≡ []
unfolding punctuate
none_left [] [] e h = refl
none_left [] (s ∷ ss) e h = absurd h
none_left (token t ∷ ls) ss e h = absurd (subst IsSome e (IsSome-placed after_value t (begins_colon ls) (λ n. punctuate n ls)))
none_left (comma ∷ ls) ss e h = absurd (subst IsSome e (after_a_comma ls))
none_left (colon ∷ ls) ss e h = absurd (subst IsSome e tt)

pub spell_value : (v : Json) (ss : List (List ℕ)) (ls : List Lexeme) → Spell ss ls → punctuate fresh ls ≡ json_tokens v
    → tree.depth v ≤ max_depth → SpellValue ss
spell_value v ss ls h e within =
    let r = take_value v fresh refl ss ls [] h (e ∙ sym (append-nil (json_tokens v))) in
    record {
      value = r.what;
      spells = r.is ∙ ap (λ l. spelled r.what ++ l) (none_left r.lexemes r.texts r.go r.spell) ∙ append-nil (spelled r.what);
      shallow = subst (λ n. n ≤ max_depth) (sym r.deep) within;
      formed = r.good;
    }
