-- The lexemes of a text that is a value spell a value.
use Rattle.std.proofs.Common.{◌≡◌, ℕ, true, false, List, [], ◌∷◌, Some, refl, sym, subst}
use Rattle.json.specs.Word.{is_operator, ends_word, word}
use Rattle.json.specs.Token.{Token, begin_object, end_object, begin_array, end_array, key, string, number, boolean, null, bad}
use Rattle.json.specs.Lex.{Lexeme, token, operator_lexeme, between, lex}
use Rattle.json.specs.Json.{Json}
use Rattle.json_validity.specs.Document.{document}
use Rattle.json_validity.proofs.Documents.{document_depth, document_tokens}
use Rattle.json_lexemes.specs.Lexemes.{cut, lexemes}
use Rattle.json_lexemes.proofs.Classes.{IsOfClass, IsOfClass-class, each_operator}
use Rattle.json_lexemes.proofs.Words.{cut-word, lex-word, IsWord, IsWord-word}
use Rattle.json_lexemes.proofs.Following.{Follows, IsSound-document}
use Rattle.json_lexemes.proofs.Sound.{lex-space, cut-space, lex-sign, cut-sign, Walk, walked}
use Rattle.json_grammar.specs.Grammar.{SpellValue}
use Rattle.json_grammar.proofs.Spelling.{IsSpelling, Spell}
use Rattle.json_grammar.proofs.Values.{spell_value}

-- the lexemes of a text are spelled as its cut is
abbrev IsSpelled : List ℕ → Type 0
IsSpelled xs = Spell (cut between xs) (lex between xs)

one_more : (t xs rest : List ℕ) (l : Lexeme) → cut between xs ≡ t ∷ cut between rest → lex between xs ≡ l ∷ lex between rest
    → IsSpelling l t → IsSpelled rest → IsSpelled xs
one_more t xs rest l cuts lexed spelling h =
    subst (Spell (cut between xs)) (sym lexed) (subst (λ ss. Spell ss (l ∷ lex between rest)) (sym cuts) (spelling, h))

sign_spelling : (x : ℕ) → is_operator x ≡ true → IsSpelling (operator_lexeme x) (x ∷ [])
sign_spelling = each_operator (λ x. IsSpelling (operator_lexeme x) (x ∷ [])) refl refl refl refl refl refl

word_spelling : (t : Token) (s : List ℕ) (ls : List Lexeme) → IsWord t → Follows t ls → ends_word s ≡ false → IsSpelling (token t) s
word_spelling begin_object s ls w f e = absurd w
word_spelling end_object s ls w f e = absurd w
word_spelling begin_array s ls w f e = absurd w
word_spelling end_array s ls w f e = absurd w
word_spelling (key k) s ls w f e = absurd w
word_spelling (string k) s ls w f e = absurd w
word_spelling (number n) s ls w f e = e
word_spelling (boolean b) s ls w f e = e
word_spelling null s ls w f e = e
word_spelling bad s ls w f e = absurd f

IsSpelled-end : IsSpelled []
unfolding lex cut
IsSpelled-end = tt

IsSpelled-walk : Walk IsSpelled
IsSpelled-walk =
    record {
      at_end = IsSpelled-end;
      at_space = λ x xs e h.
          let spaced : Spell (cut between (x ∷ xs)) (lex between xs) = subst (λ ss. Spell ss (lex between xs)) (sym (cut-space x xs e)) h in
          subst (Spell (cut between (x ∷ xs))) (sym (lex-space x xs e)) spaced;
      at_sign = λ x xs e o h. one_more (x ∷ []) (x ∷ xs) xs (operator_lexeme x) (cut-sign x xs e) (lex-sign x xs e) (sign_spelling x o) h;
      at_string = λ s xs w h. one_more (34 ∷ w.front) _ w.rest (token (string s)) (w.cuts w.rest) (w.lexed w.rest) refl h;
      at_word = λ x w rest e run ended sound h.
          let t = x ∷ w in
          let begins : ends_word t ≡ false = subst (λ c. IsOfClass c x) e (IsOfClass-class x) in
          let spelling = word_spelling (word t) t (lex between rest) (IsWord-word t) sound.0 begins in
          one_more t _ rest (token (word t)) (cut-word x w rest e run ended) (lex-word x w rest e run ended) spelling h;
    }

pub spell_document : (text : List ℕ) (j : Json) → document text ≡ Some j → SpellValue (lexemes text)
spell_document text j e =
    let spell = walked IsSpelled IsSpelled-walk text (IsSound-document text j e) in
    spell_value j (lexemes text) (lex between text) spell (document_tokens text j e) (document_depth text j e)
