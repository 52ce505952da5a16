-- In a text that is a value no string is bad, and after a word an operator stands, or the text ends.
use Rattle.std.proofs.Common.{◌≡◌, ℕ, Bool, true, false, List, [], ◌∷◌, ◌++◌, Some, refl, sym, subst, append_assoc, append-nil}
use Rattle.std.specs.Prelude.{⊤}
use Rattle.json.specs.Token.{Token, begin_object, end_object, begin_array, end_array, key, string, number, boolean, null, bad}
use Rattle.json.specs.Lex.{Lexeme, token, comma, colon, Place, fresh, after_value, after_comma, after_key, begins_colon, may_begin}
use Rattle.json.specs.Lex.{may_close, if_allowed, place_token, punctuate, lex, between}
use Rattle.json.specs.Json as j
use Rattle.json.specs.Json.{Json, Items, no_items, item, Members, no_members, member}
use Rattle.json.specs.Tree.{json_tokens, items_tokens, members_tokens}
use Rattle.json_validity.specs.Document.{document}
use Rattle.json_validity.proofs.Documents.{document_tokens}

-- no token is bad
abbrev AreGood : List Token → Type 0
AreGood [] = ⊤
AreGood (begin_object ∷ ts) = AreGood ts
AreGood (end_object ∷ ts) = AreGood ts
AreGood (begin_array ∷ ts) = AreGood ts
AreGood (end_array ∷ ts) = AreGood ts
AreGood (key s ∷ ts) = AreGood ts
AreGood (string s ∷ ts) = AreGood ts
AreGood (number s ∷ ts) = AreGood ts
AreGood (boolean b ∷ ts) = AreGood ts
AreGood (null ∷ ts) = AreGood ts
AreGood (bad ∷ ts) = ⊥

abbrev mutual
  AreGood-json : (v : Json) (ts : List Token) → AreGood ts → AreGood (json_tokens v ++ ts)
  AreGood-json j.null ts h = h
  AreGood-json (j.boolean b) ts h = h
  AreGood-json (j.number s) ts h = h
  AreGood-json (j.string s) ts h = h
  AreGood-json (j.array vs) ts h = AreGood-items vs ts h
  AreGood-json (j.object ms) ts h = AreGood-members ms ts h

  AreGood-items : (vs : Items) (ts : List Token) → AreGood ts → AreGood (items_tokens vs ++ ts)
  AreGood-items no_items ts h = h
  AreGood-items (item v vs) ts h = subst AreGood (sym (append_assoc (json_tokens v) (items_tokens vs) ts))
      (AreGood-json v (items_tokens vs ++ ts) (AreGood-items vs ts h))

  AreGood-members : (ms : Members) (ts : List Token) → AreGood ts → AreGood (members_tokens ms ++ ts)
  AreGood-members no_members ts h = h
  AreGood-members (member k v ms) ts h = subst AreGood (sym (append_assoc (json_tokens v) (members_tokens ms) ts))
      (AreGood-json v (members_tokens ms ++ ts) (AreGood-members ms ts h))

-- nothing, or an operator first
abbrev pub begins_operator : List Lexeme → Bool
begins_operator [] = true
begins_operator (comma ∷ ls) = true
begins_operator (colon ∷ ls) = true
begins_operator (token begin_object ∷ ls) = true
begins_operator (token end_object ∷ ls) = true
begins_operator (token begin_array ∷ ls) = true
begins_operator (token end_array ∷ ls) = true
begins_operator (token (key s) ∷ ls) = false
begins_operator (token (string s) ∷ ls) = false
begins_operator (token (number s) ∷ ls) = false
begins_operator (token (boolean b) ∷ ls) = false
begins_operator (token null ∷ ls) = false
begins_operator (token bad ∷ ls) = false

-- what may follow a token
abbrev pub Follows : Token → List Lexeme → Type 0
Follows begin_object ls = ⊤
Follows end_object ls = ⊤
Follows begin_array ls = ⊤
Follows end_array ls = ⊤
Follows (key s) ls = ⊤
Follows (string s) ls = ⊤
Follows (number s) ls = begins_operator ls ≡ true
Follows (boolean b) ls = begins_operator ls ≡ true
Follows null ls = begins_operator ls ≡ true
Follows bad ls = ⊥

-- each token is good, and what follows it may
abbrev pub IsSound : List Lexeme → Type 0
IsSound [] = ⊤
IsSound (comma ∷ ls) = IsSound ls
IsSound (colon ∷ ls) = IsSound ls
IsSound (token t ∷ ls) = Follows t ls × IsSound ls

allowed : (b : Bool) (t : Token) (k : Place → List Token) (next : Place) → AreGood (if_allowed b t k next) → AreGood (t ∷ k next)
allowed true t k next h = h
allowed false t k next h = absurd h

-- after a value no other begins
after_a_value : (ls : List Lexeme) → AreGood (punctuate after_value ls) → begins_operator ls ≡ true
unfolding punctuate
after_a_value [] h = refl
after_a_value (comma ∷ ls) h = refl
after_a_value (colon ∷ ls) h = refl
after_a_value (token begin_object ∷ ls) h = refl
after_a_value (token end_object ∷ ls) h = refl
after_a_value (token begin_array ∷ ls) h = refl
after_a_value (token end_array ∷ ls) h = refl
after_a_value (token (key s) ∷ ls) h = absurd h
after_a_value (token (string s) ∷ ls) h = absurd (no_string (begins_colon ls) h)
  where
    no_string : (b : Bool) → AreGood (place_token after_value (string s) b (λ n. punctuate n ls)) → ⊥
    no_string true h = h
    no_string false h = h
after_a_value (token (number s) ∷ ls) h = absurd h
after_a_value (token (boolean b) ∷ ls) h = absurd h
after_a_value (token null ∷ ls) h = absurd h
after_a_value (token bad ∷ ls) h = absurd h

module _ (ls : List Lexeme) (ih : (p : Place) → AreGood (punctuate p ls) → IsSound ls) where
  placed : (p : Place) (t : Token) (b : Bool) → AreGood (place_token p t b (λ n. punctuate n ls)) → Follows t ls × IsSound ls
  placed p begin_object b h = (tt, ih fresh (allowed (may_begin p) begin_object _ fresh h))
  placed p end_object b h = (tt, ih after_value (allowed (may_close p) end_object _ after_value h))
  placed p begin_array b h = (tt, ih fresh (allowed (may_begin p) begin_array _ fresh h))
  placed p end_array b h = (tt, ih after_value (allowed (may_close p) end_array _ after_value h))
  placed p (key s) b h = absurd h
  placed p (string s) true h = (tt, ih after_key (allowed (may_begin p) (key s) _ after_key h))
  placed p (string s) false h = (tt, ih after_value (allowed (may_begin p) (string s) _ after_value h))
  placed p (number s) b h = let g = allowed (may_begin p) (number s) (λ n. punctuate n ls) after_value h in
      (after_a_value ls g, ih after_value g)
  placed p (boolean v) b h = let g = allowed (may_begin p) (boolean v) (λ n. punctuate n ls) after_value h in
      (after_a_value ls g, ih after_value g)
  placed p null b h = let g = allowed (may_begin p) null (λ n. punctuate n ls) after_value h in (after_a_value ls g, ih after_value g)
  placed p bad b h = absurd h

IsSound-punctuate : (ls : List Lexeme) (p : Place) → AreGood (punctuate p ls) → IsSound ls
unfolding punctuate
IsSound-punctuate [] p h = tt
IsSound-punctuate (token t ∷ ls) p h = placed ls (IsSound-punctuate ls) p t (begins_colon ls) h
IsSound-punctuate (comma ∷ ls) fresh h = absurd h
IsSound-punctuate (comma ∷ ls) after_value h = IsSound-punctuate ls after_comma h
IsSound-punctuate (comma ∷ ls) after_comma h = absurd h
IsSound-punctuate (comma ∷ ls) after_key h = absurd h
IsSound-punctuate (colon ∷ ls) fresh h = absurd h
IsSound-punctuate (colon ∷ ls) after_value h = absurd h
IsSound-punctuate (colon ∷ ls) after_comma h = absurd h
IsSound-punctuate (colon ∷ ls) after_key h = IsSound-punctuate ls fresh h

pub IsSound-document : (text : List ℕ) (v : Json) → document text ≡ Some v → IsSound (lex between text)
IsSound-document text v e =
    let good : AreGood (json_tokens v) = subst AreGood (append-nil (json_tokens v)) (AreGood-json v [] tt) in
    IsSound-punctuate (lex between text) fresh (subst AreGood (sym (document_tokens text v e)) good)
