-- The lexemes of a text that is a value, with gaps around them, are read as the text is.
use Rattle.std.proofs.Common.{◌≡◌, ℕ, true, List, [], ◌∷◌, ◌++◌, Some, option_and_then, refl, sym, ap, ◌∙◌, subst, append-nil}
use Rattle.std.specs.Prelude.{⊤}
use Rattle.std.proofs.lemmas.Bool.{false≢true, or_left, or_right}
use Rattle.json.specs.Token.{Token, begin_object, end_object, begin_array, end_array, key, string, number, boolean, null, bad}
use Rattle.json.specs.Word.{is_operator, is_space, ends_word, word}
use Rattle.json.specs.Lex.{Lexeme, token, operator, space, other, class, operator_lexeme, between, lex, punctuate, fresh}
use Rattle.json.specs.Json.{Json, value, if_last}
use Rattle.json_validity.specs.Document.{document, max_depth}
use Rattle.json_lexemes.specs.Lexemes.{cut, lexemes}
use Rattle.json_lexemes.specs.Spaced.{IsGap, IsSpacedJson}
use Rattle.json_lexemes.proofs.Classes.{class-space}
use Rattle.json_lexemes.proofs.Words.{IsRun, lex-word, cut-word, IsWord, IsWord-word}
use Rattle.json_lexemes.proofs.Following.{begins_operator, Follows, IsSound-document}
use Rattle.json_lexemes.proofs.Sound.{lex-space, cut-space, lex-sign, cut-sign, Walk, walked}

-- ---- gaps are passed over

lex-gap : (g r : List ℕ) → IsGap g → lex between (g ++ r) ≡ lex between r
lex-gap [] r h = refl
lex-gap (x ∷ g) r h = lex-space x (g ++ r) (class-space x h.0) ∙ lex-gap g r h.1

pub cut-gap : (g r : List ℕ) → IsGap g → cut between (g ++ r) ≡ cut between r
cut-gap [] r h = refl
cut-gap (x ∷ g) r h = cut-space x (g ++ r) (class-space x h.0) ∙ cut-gap g r h.1

pub gap_ends : (g r : List ℕ) → IsGap g → ends_word r ≡ true → ends_word (g ++ r) ≡ true
gap_ends [] r h e = e
gap_ends (x ∷ g) r h e = or_right (is_operator x) (is_space x) h.0

-- ---- from the end of the text on

-- whatever the gaps are, the rest of the text is read the same
record Kept (xs : List ℕ) : Type 0 where
  lexed : (b : List ℕ) → IsSpacedJson b (cut between xs) → lex between b ≡ lex between xs
  cuts : (b : List ℕ) → IsSpacedJson b (cut between xs) → cut between b ≡ cut between xs
  ended : begins_operator (lex between xs) ≡ true → (b : List ℕ) → IsSpacedJson b (cut between xs) → ends_word b ≡ true

Kept-nil : Kept []
unfolding lex cut
Kept-nil =
    record {
      lexed = λ b h. ap (lex between) (sym (append-nil b)) ∙ lex-gap b [] h;
      cuts = λ b h. ap (cut between) (sym (append-nil b)) ∙ cut-gap b [] h;
      ended = λ e b h. ap ends_word (sym (append-nil b)) ∙ gap_ends b [] h refl;
    }

Kept-space : (x : ℕ) (xs : List ℕ) → class x ≡ space → Kept xs → Kept (x ∷ xs)
Kept-space x xs e k =
    let same_lex = lex-space x xs e in
    let same_cut = cut-space x xs e in
    record {
      lexed = λ b h. k.lexed b (subst (IsSpacedJson b) same_cut h) ∙ sym same_lex;
      cuts = λ b h. k.cuts b (subst (IsSpacedJson b) same_cut h) ∙ sym same_cut;
      ended = λ f b h. k.ended (ap begins_operator (sym same_lex) ∙ f) b (subst (IsSpacedJson b) same_cut h);
    }

-- a lexeme t is read as l, before any text that may follow it
record Reads (t : List ℕ) (l : Lexeme) (May : List ℕ → Type 0) : Type 0 where
  lexed : (r : List ℕ) → May r → lex between (t ++ r) ≡ l ∷ lex between r
  cuts : (r : List ℕ) → May r → cut between (t ++ r) ≡ t ∷ cut between r
  begun : (ls : List Lexeme) (r : List ℕ) → begins_operator (l ∷ ls) ≡ true → ends_word (t ++ r) ≡ true

module _ (t rest : List ℕ) (l : Lexeme) (May : List ℕ → Type 0) (reads : Reads t l May) (here : May rest)
    (there : (r : List ℕ) → IsSpacedJson r (cut between rest) → May r) (k : Kept rest) where
  abbrev Split : List ℕ → Type 0
  Split b = IsSpacedJson b (t ∷ cut between rest)

  split_lex : (b : List ℕ) → Split b → lex between b ≡ lex between (t ++ rest)
  split_lex b (g, r, gap, is, h) =
      ap (lex between) is ∙ lex-gap g (t ++ r) gap ∙ reads.lexed r (there r h) ∙ ap (λ ls. l ∷ ls) (k.lexed r h)
      ∙ sym (reads.lexed rest here)

  split_cut : (b : List ℕ) → Split b → cut between b ≡ cut between (t ++ rest)
  split_cut b (g, r, gap, is, h) =
      ap (cut between) is ∙ cut-gap g (t ++ r) gap ∙ reads.cuts r (there r h) ∙ ap (λ ls. t ∷ ls) (k.cuts r h) ∙ sym (reads.cuts rest here)

  split_ended : begins_operator (l ∷ lex between rest) ≡ true → (b : List ℕ) → Split b → ends_word b ≡ true
  split_ended e b (g, r, gap, is, h) = ap ends_word is ∙ gap_ends g (t ++ r) gap (reads.begun (lex between rest) r e)

  Kept-more : Kept (t ++ rest)
  Kept-more =
      let same = reads.cuts rest here in
      record {
        lexed = λ b h. split_lex b (subst (IsSpacedJson b) same h);
        cuts = λ b h. split_cut b (subst (IsSpacedJson b) same h);
        ended = λ e b h. split_ended (ap begins_operator (sym (reads.lexed rest here)) ∙ e) b (subst (IsSpacedJson b) same h);
      }

-- ---- each kind of lexeme

abbrev Anything : List ℕ → Type 0
Anything r = ⊤

Reads-operator : (x : ℕ) → class x ≡ operator → is_operator x ≡ true → Reads (x ∷ []) (operator_lexeme x) Anything
Reads-operator x e h =
    record {
      lexed = λ r may. lex-sign x r e;
      cuts = λ r may. cut-sign x r e;
      begun = λ ls r f. or_left (is_operator x) (is_space x) h;
    }

Reads-string : (s front : List ℕ) → ((r : List ℕ) → lex between (34 ∷ (front ++ r)) ≡ token (string s) ∷ lex between r)
    → ((r : List ℕ) → cut between (34 ∷ (front ++ r)) ≡ (34 ∷ front) ∷ cut between r) → Reads (34 ∷ front) (token (string s)) Anything
Reads-string s front lexed cuts = record { lexed = λ r may. lexed r; cuts = λ r may. cuts r; begun = λ ls r f. absurd (false≢true f) }

not_begun : (k : Token) (ls : List Lexeme) → IsWord k → begins_operator (token k ∷ ls) ≡ true → ⊥
not_begun begin_object ls w e = w
not_begun end_object ls w e = w
not_begun begin_array ls w e = w
not_begun end_array ls w e = w
not_begun (key s) ls w e = w
not_begun (string s) ls w e = w
not_begun (number s) ls w e = false≢true e
not_begun (boolean v) ls w e = false≢true e
not_begun null ls w e = false≢true e
not_begun bad ls w e = false≢true e

-- after a good word an operator stands, or nothing
word_follows : (k : Token) (ls : List Lexeme) → IsWord k → Follows k ls → begins_operator ls ≡ true
word_follows begin_object ls w h = absurd w
word_follows end_object ls w h = absurd w
word_follows begin_array ls w h = absurd w
word_follows end_array ls w h = absurd w
word_follows (key s) ls w h = absurd w
word_follows (string s) ls w h = absurd w
word_follows (number s) ls w h = h
word_follows (boolean v) ls w h = h
word_follows null ls w h = h
word_follows bad ls w h = absurd h

abbrev Ended : List ℕ → Type 0
Ended r = ends_word r ≡ true

Reads-word : (x : ℕ) (w : List ℕ) → class x ≡ other → IsRun w → Reads (x ∷ w) (token (word (x ∷ w))) Ended
Reads-word x w e run =
    record {
      lexed = λ r ended. lex-word x w r e run ended;
      cuts = λ r ended. cut-word x w r e run ended;
      begun = λ ls r f. absurd (not_begun (word (x ∷ w)) ls (IsWord-word (x ∷ w)) f);
    }

-- ---- the whole text

Kept-walk : Walk Kept
Kept-walk =
    record {
      at_end = Kept-nil;
      at_space = Kept-space;
      at_sign = λ x xs e h k. Kept-more (x ∷ []) xs (operator_lexeme x) Anything (Reads-operator x e h) tt (λ r i. tt) k;
      at_string = λ s xs w k.
          Kept-more (34 ∷ w.front) w.rest (token (string s)) Anything (Reads-string s w.front w.lexed w.cuts) tt (λ r i. tt) k;
      at_word = λ x w rest e run ended sound k.
          let t = x ∷ w in
          let follows = word_follows (word t) (lex between rest) (IsWord-word t) sound.0 in
          Kept-more t rest (token (word t)) Ended (Reads-word x w e run) ended (k.ended follows) k;
    }

pub same_reading : (a b : List ℕ) (j : Json) → document a ≡ Some j → IsSpacedJson b (lexemes a)
    → (document b ≡ Some j) × (lexemes b ≡ lexemes a)
same_reading a b j e h =
    let kept = walked Kept Kept-walk a (IsSound-document a j e) in
    (ap (λ ls. option_and_then (λ p. if_last p.0 p.1) (value max_depth (punctuate fresh ls))) (kept.lexed b h) ∙ e, kept.cuts b h)
