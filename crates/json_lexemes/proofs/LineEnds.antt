-- No lexeme of a JSON text has a line end.
use Rattle.std.proofs.Common.{◌≡◌, ℕ, true, false, List, [], ◌∷◌, Some, refl, sym, subst}
use Rattle.std.specs.Prelude.{⊤}
use Rattle.json.specs.Json.{Json}
use Rattle.json.specs.Word.{is_operator}
use Rattle.json_validity.specs.Document.{document}
use Rattle.json_lexemes.specs.Lexemes.{cut, lexemes}
use Rattle.json.specs.Lex.{between}
use Rattle.json_lexemes.proofs.Classes.{IsOfClass, IsOfClass-class, each_operator}
use Rattle.json_lexemes.proofs.Ended.{ends}
use Rattle.json_lexemes.proofs.Following.{IsSound-document}
use Rattle.json_lexemes.proofs.Inline.{IsInline, inline_not, is_line_end}
use Rattle.json_lexemes.proofs.Sound.{cut-space, cut-sign, Walk, walked}
use Rattle.json_lexemes.proofs.Words.{cut-word, IsRun}

-- none of these texts has one
abbrev pub AreInline : List (List ℕ) → Type 0
AreInline [] = ⊤
AreInline (s ∷ ss) = IsInline s × AreInline ss

-- no lexeme of this text has one
abbrev HasNone : List ℕ → Type 0
HasNone xs = AreInline (cut between xs)

one_more : (s xs rest : List ℕ) → cut between xs ≡ s ∷ cut between rest → IsInline s → HasNone rest → HasNone xs
one_more s xs rest cuts one h = subst AreInline (sym cuts) (one, h)

sign_inline : (x : ℕ) → is_operator x ≡ true → is_line_end x ≡ false
sign_inline = each_operator (λ x. is_line_end x ≡ false) refl refl refl refl refl refl

word_byte : (x : ℕ) → ends x ≡ false → is_line_end x ≡ false
word_byte x h = inline_not ends x h refl refl

word_inline : (w : List ℕ) → IsRun w → IsInline w
word_inline [] h = tt
word_inline (x ∷ w) h = (word_byte x h.0, word_inline w h.1)

none_at_end : HasNone []
unfolding cut
none_at_end = tt

none_walk : Walk HasNone
none_walk =
    record {
      at_end = none_at_end;
      at_space = λ x xs e h. subst AreInline (sym (cut-space x xs e)) h;
      at_sign = λ x xs e o h. one_more (x ∷ []) (x ∷ xs) xs (cut-sign x xs e) (sign_inline x o, tt) h;
      at_string = λ s xs w h. one_more (34 ∷ w.front) _ w.rest (w.cuts w.rest) (refl, w.inline) h;
      at_word = λ x w rest e run ended sound h.
          let begins : ends x ≡ false = subst (λ c. IsOfClass c x) e (IsOfClass-class x) in
          one_more (x ∷ w) _ rest (cut-word x w rest e run ended) (word_byte x begins, word_inline w run) h;
    }

pub lexemes_inline : (text : List ℕ) (j : Json) → document text ≡ Some j → AreInline (lexemes text)
lexemes_inline text j e = walked HasNone none_walk text (IsSound-document text j e)
