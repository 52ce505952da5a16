-- How a lexeme of each kind is spelled, and what the first of the tokens says of the first lexemes.
use Rattle.std.proofs.Common.{◌≡◌, ◌≢◌, ℕ, Bool, true, false, List, [], ◌∷◌, refl, sym, ◌∙◌, subst}
use Rattle.std.specs.Prelude.{⊤}
use Rattle.std.proofs.lemmas.Bool.{false≢true}
use Rattle.json.specs.Ascii as ascii
use Rattle.json.specs.Word.{head, ends_word}
use Rattle.json.specs.Token.{Token, begin_object, end_object, begin_array, end_array, key, string, number, boolean, null, bad}
use Rattle.json.specs.Lex.{Lexeme, token, comma, colon, Place, fresh, after_value, after_comma, after_key}
use Rattle.json.specs.Lex.{begins_colon, may_begin, may_close, if_allowed, place_token, punctuate}

abbrev pub IsSpelling : Lexeme → List ℕ → Type 0
IsSpelling comma s = s ≡ ascii.comma ∷ []
IsSpelling colon s = s ≡ ascii.colon ∷ []
IsSpelling (token begin_object) s = s ≡ ascii.open_brace ∷ []
IsSpelling (token end_object) s = s ≡ ascii.close_brace ∷ []
IsSpelling (token begin_array) s = s ≡ ascii.open_bracket ∷ []
IsSpelling (token end_array) s = s ≡ ascii.close_bracket ∷ []
IsSpelling (token (key k)) s = ⊥
IsSpelling (token (string k)) s = head s ≡ ascii.quote
IsSpelling (token (number n)) s = ends_word s ≡ false
IsSpelling (token (boolean b)) s = ends_word s ≡ false
IsSpelling (token null) s = ends_word s ≡ false
IsSpelling (token bad) s = ⊥

-- the texts spell the lexemes, each its own
abbrev pub Spell : List (List ℕ) → List Lexeme → Type 0
Spell [] [] = ⊤
Spell [] (l ∷ ls) = ⊥
Spell (s ∷ ss) [] = ⊥
Spell (s ∷ ss) (l ∷ ls) = IsSpelling l s × Spell ss ls

-- the first of them
pub record First (l : Lexeme) (ss : List (List ℕ)) (ls : List Lexeme) : Type 0 where
  pub text : List ℕ
  pub texts : List (List ℕ)
  pub is : ss ≡ text ∷ texts
  pub spelling : IsSpelling l text
  pub spell : Spell texts ls

pub first_of : (ss : List (List ℕ)) (l : Lexeme) (ls : List Lexeme) → Spell ss (l ∷ ls) → First l ss ls
first_of [] l ls h = absurd h
first_of (s ∷ ss) l ls h = record { text = s; texts = ss; is = refl; spelling = h.0; spell = h.1 }

-- ---- the lexeme that a token comes from, and the place after it

abbrev pub said : Token → Token
said begin_object = begin_object
said end_object = end_object
said begin_array = begin_array
said end_array = end_array
said (key s) = string s
said (string s) = string s
said (number s) = number s
said (boolean b) = boolean b
said null = null
said bad = bad

abbrev pub next : Token → Place
next begin_object = fresh
next end_object = after_value
next begin_array = fresh
next end_array = after_value
next (key s) = after_key
next (string s) = after_value
next (number s) = after_value
next (boolean b) = after_value
next null = after_value
next bad = after_value

abbrev pub may : Place → Token → Bool
may p begin_object = may_begin p
may p end_object = may_close p
may p begin_array = may_begin p
may p end_array = may_close p
may p (key s) = may_begin p
may p (string s) = may_begin p
may p (number s) = may_begin p
may p (boolean b) = may_begin p
may p null = may_begin p
may p bad = false

module _ (t : Token) (ts : List Token) (good : t ≢ bad) where
  fault : {P : Type 0} → bad ∷ [] ≡ t ∷ ts → P
  fault e = absurd (good (cc))

  allowed : (b : Bool) (u : Token) (k : Place → List Token) (n : Place) → if_allowed b u k n ≡ t ∷ ts → (u ≡ t) × (k n ≡ ts) × (b ≡ true)
  allowed true u k n e = (cc, cc, refl)
  allowed false u k n e = fault e

  abbrev Placed : Place → Token → (Place → List Token) → Type 0
  Placed p l k = (l ≡ said t) × (k (next t) ≡ ts) × (may p t ≡ true)

  put : (p : Place) (u : Token) (k : Place → List Token) → if_allowed (may p u) u k (next u) ≡ t ∷ ts → Placed p (said u) k
  put p u k e =
      let a = allowed (may p u) u k (next u) e in
      subst (λ v. (said u ≡ said v) × (k (next v) ≡ ts) × (may p v ≡ true)) a.0 (refl, a.1, a.2)

  placed : (p : Place) (l : Token) (b : Bool) (k : Place → List Token) → place_token p l b k ≡ t ∷ ts → Placed p l k
  placed p begin_object b k e = put p begin_object k e
  placed p end_object b k e = put p end_object k e
  placed p begin_array b k e = put p begin_array k e
  placed p end_array b k e = put p end_array k e
  placed p (key s) b k e = fault e
  placed p (string s) true k e = put p (key s) k e
  placed p (string s) false k e = put p (string s) k e
  placed p (number s) b k e = put p (number s) k e
  placed p (boolean v) b k e = put p (boolean v) k e
  placed p null b k e = put p null k e
  placed p bad b k e = fault e

no_token : (t : Token) (ts : List Token) → [] ≡ t ∷ ts → ⊥
no_token t ts e = cc

-- from a place on, the first lexeme gives the token t, and the others give the tokens ts
pub record Step (p : Place) (t : Token) (ss : List (List ℕ)) (ts : List Token) : Type 0 where
  pub text : List ℕ
  pub texts : List (List ℕ)
  pub lexemes : List Lexeme
  pub is : ss ≡ text ∷ texts
  pub spelling : IsSpelling (token (said t)) text
  pub spell : Spell texts lexemes
  pub go : punctuate (next t) lexemes ≡ ts
  pub may : may p t ≡ true

-- a token's lexeme
step_token : (p : Place) (l : Token) (ls : List Lexeme) (ss : List (List ℕ)) (t : Token) (ts : List Token)
    → t ≢ bad → Spell ss (token l ∷ ls) → punctuate p (token l ∷ ls) ≡ t ∷ ts → Step p t ss ts
unfolding punctuate
step_token p l ls ss t ts good h e =
    let a = placed t ts good p l (begins_colon ls) (λ n. punctuate n ls) e in
    let f = first_of ss (token l) ls h in
    record {
      text = f.text;
      texts = f.texts;
      lexemes = ls;
      is = f.is;
      spelling = subst (λ u. IsSpelling (token u) f.text) a.0 f.spelling;
      spell = f.spell;
      go = a.1;
      may = a.2;
    }

-- where a value or a key may begin
pub step : (p : Place) (ls : List Lexeme) (ss : List (List ℕ)) (t : Token) (ts : List Token)
    → may_begin p ≡ true → t ≢ bad → Spell ss ls → punctuate p ls ≡ t ∷ ts → Step p t ss ts
unfolding punctuate
step p (token l ∷ ls) ss t ts m good h e = step_token p l ls ss t ts good h e
step fresh [] ss t ts m good h e = absurd (no_token t ts e)
step fresh (comma ∷ ls) ss t ts m good h e = fault t ts good e
step fresh (colon ∷ ls) ss t ts m good h e = fault t ts good e
step after_comma [] ss t ts m good h e = fault t ts good e
step after_comma (comma ∷ ls) ss t ts m good h e = fault t ts good e
step after_comma (colon ∷ ls) ss t ts m good h e = fault t ts good e
step after_value ls ss t ts m good h e = absurd (false≢true m)
step after_key ls ss t ts m good h e = absurd (false≢true m)

-- a bracket closes after a value, and not after a comma
pub step_end : (ls : List Lexeme) (ss : List (List ℕ)) (t : Token) (ts : List Token)
    → may after_comma t ≡ false → t ≢ bad → Spell ss ls → punctuate after_value ls ≡ t ∷ ts → Step after_value t ss ts
unfolding punctuate
step_end [] ss t ts m good h e = absurd (no_token t ts e)
step_end (token l ∷ ls) ss t ts m good h e = step_token after_value l ls ss t ts good h e
step_end (comma ∷ ls) ss t ts m good h e =
    let f = first_of ss comma ls h in
    absurd (false≢true (sym m ∙ (step after_comma ls f.texts t ts refl good f.spell e).may))
step_end (colon ∷ ls) ss t ts m good h e = fault t ts good e

-- ---- commas and colons

-- a value or a key comes first
abbrev pub Opens : List Token → Type 0
Opens [] = ⊥
Opens (begin_object ∷ ts) = ⊤
Opens (end_object ∷ ts) = ⊥
Opens (begin_array ∷ ts) = ⊤
Opens (end_array ∷ ts) = ⊥
Opens (key s ∷ ts) = ⊤
Opens (string s ∷ ts) = ⊤
Opens (number s ∷ ts) = ⊤
Opens (boolean b ∷ ts) = ⊤
Opens (null ∷ ts) = ⊤
Opens (bad ∷ ts) = ⊥

-- what comes first is l, and then the others go on from another place
abbrev pub Past : Lexeme → Place → Place → List Lexeme → Type 0
Past l p q ls = (rest : List Lexeme) × (ls ≡ l ∷ rest) × (punctuate p ls ≡ punctuate q rest)

no_string : (p : Place) (s : List ℕ) (b : Bool) (k : Place → List Token) → may_begin p ≡ false → Opens (place_token p (string s) b k) → ⊥
no_string p s true k m h = subst (λ a. Opens (if_allowed a (key s) k after_key)) m h
no_string p s false k m h = subst (λ a. Opens (if_allowed a (string s) k after_value)) m h

pub past_comma : (ls : List Lexeme) → Opens (punctuate after_value ls) → Past comma after_value after_comma ls
unfolding punctuate
past_comma [] h = absurd h
past_comma (comma ∷ ls) h = (ls, refl, refl)
past_comma (colon ∷ ls) h = absurd h
past_comma (token begin_object ∷ ls) h = absurd h
past_comma (token end_object ∷ ls) h = absurd h
past_comma (token begin_array ∷ ls) h = absurd h
past_comma (token end_array ∷ ls) h = absurd h
past_comma (token (key s) ∷ ls) h = absurd h
past_comma (token (string s) ∷ ls) h = absurd (no_string after_value s (begins_colon ls) _ refl h)
past_comma (token (number s) ∷ ls) h = absurd h
past_comma (token (boolean b) ∷ ls) h = absurd h
past_comma (token null ∷ ls) h = absurd h
past_comma (token bad ∷ ls) h = absurd h

pub past_colon : (ls : List Lexeme) → Opens (punctuate after_key ls) → Past colon after_key fresh ls
unfolding punctuate
past_colon [] h = absurd h
past_colon (comma ∷ ls) h = absurd h
past_colon (colon ∷ ls) h = (ls, refl, refl)
past_colon (token begin_object ∷ ls) h = absurd h
past_colon (token end_object ∷ ls) h = absurd h
past_colon (token begin_array ∷ ls) h = absurd h
past_colon (token end_array ∷ ls) h = absurd h
past_colon (token (key s) ∷ ls) h = absurd h
past_colon (token (string s) ∷ ls) h = absurd (no_string after_key s (begins_colon ls) _ refl h)
past_colon (token (number s) ∷ ls) h = absurd h
past_colon (token (boolean b) ∷ ls) h = absurd h
past_colon (token null ∷ ls) h = absurd h
past_colon (token bad ∷ ls) h = absurd h
