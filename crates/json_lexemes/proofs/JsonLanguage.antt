-- JSON's lexemes are those of a language that is read from the left.
use Rattle.std.proofs.Common.{◌≡◌, ℕ, Bool, true, false, List, [], ◌∷◌, refl, sym, ap, ◌∙◌, subst}
use Rattle.std.proofs.lemmas.Bool.{or_parts}
use Rattle.json.specs.Lex as json
use Rattle.json.specs.Lex.{Class, quote, backslash, operator, space, other, class}
use Rattle.json.specs.Word.{is_operator, is_space}
use Rattle.text_lexemes.specs.Languages as language
use Rattle.text_lexemes.specs.Languages.{First, alone, begins, Turn, goes_on, ends, stops, between, within, lengthened, cut_first, cut_turn}
use Rattle.text_lexemes.proofs.Cuts as cuts
use Rattle.json_lexemes.specs.Lexemes.{cut, cut_byte}
use Rattle.json_lexemes.specs.JsonLanguage.{InJson, in_word, in_string, in_escape, first_json, turn_json, json_language, json_mode}
use Rattle.json_lexemes.proofs.Classes.{IsOfClass, IsOfClass-class, each_operator}

-- no other class is of spaces
abbrev IsSpaceClass : Class → Bool
IsSpaceClass space = true
IsSpaceClass c = false

blank_by_class : (x : ℕ) (c : Class) → IsOfClass c x → is_space x ≡ IsSpaceClass c
blank_by_class x quote e = ap is_space e
blank_by_class x backslash e = ap is_space e
blank_by_class x operator e = each_operator (λ y. is_space y ≡ false) refl refl refl refl refl refl x e
blank_by_class x space e = e
blank_by_class x other e = (or_parts (is_operator x) (is_space x) e).1

module _ (x : ℕ) (xs : List ℕ) (h : (m : json.Mode) → cut m xs ≡ language.cut json_language (json_mode m) xs) where
  begun : (c : Class) → class x ≡ c → IsSpaceClass c ≡ false
      → language.cut json_language between (x ∷ xs) ≡ cut_first (first_json c) x (λ m. language.cut json_language m xs)
  begun c e differs =
      cuts.cut_begun json_language x xs (first_json c)
      (blank_by_class x c (subst (λ d. IsOfClass d x) e (IsOfClass-class x)) ∙ differs) (ap first_json e)

  passed : class x ≡ space → language.cut json_language between (x ∷ xs) ≡ language.cut json_language between xs
  passed e = cuts.cut_blank json_language x xs (blank_by_class x space (subst (λ d. IsOfClass d x) e (IsOfClass-class x)))

  turned : (i : InJson) (c : Class) → class x ≡ c
      → language.cut json_language (within i) (x ∷ xs)
      ≡ cut_turn (turn_json i c) (language.cut json_language between (x ∷ xs)) x (λ m. language.cut json_language m xs)
  turned i c e = cuts.cut_turned json_language i x xs (turn_json i c) (ap (turn_json i) e)

  more : (m : json.Mode) → lengthened x (cut m xs) ≡ lengthened x (language.cut json_language (json_mode m) xs)
  more m = ap (lengthened x) (h m)

  by_class : (m : json.Mode) (c : Class) → class x ≡ c
      → cut_byte m c x (λ next. cut next xs) ≡ language.cut json_language (json_mode m) (x ∷ xs)
  by_class json.between quote e = more json.in_string ∙ sym (begun quote e refl)
  by_class json.between backslash e = more json.in_word ∙ sym (begun backslash e refl)
  by_class json.between operator e = ap (λ ss. (x ∷ []) ∷ ss) (h json.between) ∙ sym (begun operator e refl)
  by_class json.between space e = h json.between ∙ sym (passed e)
  by_class json.between other e = more json.in_word ∙ sym (begun other e refl)
  by_class json.in_word quote e = more json.in_word ∙ sym (turned in_word quote e)
  by_class json.in_word backslash e = more json.in_word ∙ sym (turned in_word backslash e)
  by_class json.in_word operator e =
      ap (λ ss. [] ∷ (x ∷ []) ∷ ss) (h json.between) ∙ ap (λ ss. [] ∷ ss) (sym (begun operator e refl)) ∙ sym (turned in_word operator e)
  by_class json.in_word space e =
      ap (λ ss. [] ∷ ss) (h json.between) ∙ ap (λ ss. [] ∷ ss) (sym (passed e)) ∙ sym (turned in_word space e)
  by_class json.in_word other e = more json.in_word ∙ sym (turned in_word other e)
  by_class json.in_string quote e = ap (λ ss. (x ∷ []) ∷ ss) (h json.between) ∙ sym (turned in_string quote e)
  by_class json.in_string backslash e = more json.in_escape ∙ sym (turned in_string backslash e)
  by_class json.in_string operator e = more json.in_string ∙ sym (turned in_string operator e)
  by_class json.in_string space e = more json.in_string ∙ sym (turned in_string space e)
  by_class json.in_string other e = more json.in_string ∙ sym (turned in_string other e)
  by_class json.in_escape c e = more json.in_string ∙ sym (turned in_escape c e)

cut_nothing : (m : json.Mode) → cut m [] ≡ language.cut json_language (json_mode m) []
unfolding cut
cut_nothing json.between = sym (cuts.cut_nil json_language)
cut_nothing json.in_word = sym (cuts.cut_inside_nil json_language in_word)
cut_nothing json.in_string = sym (cuts.cut_inside_nil json_language in_string)
cut_nothing json.in_escape = sym (cuts.cut_inside_nil json_language in_escape)

pub cut_language : (xs : List ℕ) (m : json.Mode) → cut m xs ≡ language.cut json_language (json_mode m) xs
unfolding cut
cut_language [] m = cut_nothing m
cut_language (x ∷ xs) m = by_class x xs (cut_language xs) m (class x) refl
