-- What may follow a closed string.
use Rattle.std.proofs.Common.{◌≡◌, ℕ, Bool, true, false, cond, ◌==◌, ◌||◌, List, [], ◌∷◌, refl, sym, ap, ◌∙◌, subst}
use Rattle.std.specs.Prelude.{⊤}
use Rattle.std.proofs.lemmas.Bool.{cond_both, or_parts, eqb-true, true≢false}
use Rattle.toml_lexemes.specs.Bytes.{is_quote}
use Rattle.text_lexemes.specs.Languages.{LexerMode, between, within, begins, Turn, goes_on, ends, stops}
use Rattle.toml_lexemes.specs.Lexemes.{StringKind, basic, literal, quote_mark, escapes, Inner, in_word, in_comment, opened, doubled}
use Rattle.toml_lexemes.specs.Lexemes.{in_line, in_line_escape, in_lines, in_lines_escape, closing, closing_more, closed, closed_more}
use Rattle.toml_lexemes.specs.Lexemes.{first, line_turn, lines_turn, turn, begins_line_feed, cut_toml}
use Rattle.toml_lexemes.specs.Spaced.{mode_first, mode_turn, mode_after, EndsBefore, MayFollow}
use Rattle.toml_lexemes.proofs.Kept.{cut_begun, cut_turned, shortened, some_cut}

-- ---- the modes in a string

-- a place in a string
abbrev InString : Inner → Type 0
InString in_word = ⊥
InString in_comment = ⊥
InString i = ⊤

-- a turn that does not leave the string for a place in another lexeme
abbrev Stays : Turn Inner → Type 0
Stays (goes_on i) = InString i
Stays t = ⊤

by_test : (b : Bool) (t u : Turn Inner) → Stays t → Stays u → Stays (cond b t u)
by_test b t u p q = cond_both b t u Stays (λ e. p) (λ e. q)

stays_in_line : (k : StringKind) (x : ℕ) → Stays (line_turn k x)
stays_in_line k x = by_test (x == 10) _ _ tt (by_test (x == quote_mark k) _ _ tt (by_test (escapes k x) _ _ tt tt))

stays_in_lines : (k : StringKind) (x : ℕ) → Stays (lines_turn k x)
stays_in_lines k x = by_test (x == quote_mark k) _ _ tt (by_test (escapes k x) _ _ tt tt)

Stays-turn : (i : Inner) (x : ℕ) (b : Bool) → InString i → Stays (turn i x b)
Stays-turn in_word x b h = absurd h
Stays-turn in_comment x b h = absurd h
Stays-turn (opened k) x b h = by_test (x == quote_mark k) _ _ tt (stays_in_line k x)
Stays-turn (doubled k) x b h = by_test (x == quote_mark k) _ _ tt tt
Stays-turn (in_line k) x b h = stays_in_line k x
Stays-turn in_line_escape x b h = by_test (x == 10) _ _ tt tt
Stays-turn (in_lines k) x b h = stays_in_lines k x
Stays-turn in_lines_escape x b h = tt
Stays-turn (closing k) x b h = by_test (x == quote_mark k) _ _ tt (stays_in_lines k x)
Stays-turn (closing_more k) x b h = by_test (x == quote_mark k) _ _ tt (stays_in_lines k x)
Stays-turn (closed k) x b h = by_test (x == quote_mark k) _ _ tt tt
Stays-turn (closed_more k) x b h = by_test (x == quote_mark k) _ _ tt tt

-- after a string, or in one
abbrev OfString : LexerMode Inner → Type 0
OfString between = ⊤
OfString (within i) = InString i

module _ (i : Inner) (x : ℕ) (s : List ℕ) (lexeme : cut_toml (within i) (x ∷ s) ≡ (x ∷ s) ∷ []) where
  -- nothing is left after the byte that ends a lexeme
  last_byte : turn i x (begins_line_feed s) ≡ ends → s ≡ []
  last_byte e = let same : (x ∷ []) ∷ cut_toml between s ≡ (x ∷ s) ∷ [] = sym (cut_turned i x s ends e) ∙ lexeme in cc

  no_stop : turn i x (begins_line_feed s) ≡ stops → ⊥
  no_stop e =
      let clash : [] ∷ cut_toml between (x ∷ s) ≡ (x ∷ s) ∷ [] = sym (cut_turned i x s stops e) ∙ lexeme in cc

  rest_alone : (n : Inner) → turn i x (begins_line_feed s) ≡ goes_on n → cut_toml (within n) s ≡ s ∷ []
  rest_alone n e = shortened x s (cut_toml (within n) s) (some_cut n s) (sym (cut_turned i x s (goes_on n) e) ∙ lexeme)

-- a string leaves a mode of strings
string_mode : (s : List ℕ) (i : Inner) → InString i → cut_toml (within i) s ≡ s ∷ [] → OfString (mode_after (within i) s)
string_mode [] i h lexeme = h
string_mode (x ∷ s) i h lexeme = by_turn (turn i x (begins_line_feed s)) refl (λ n. string_mode s n)
  where
    by_turn : (t : Turn Inner) → turn i x (begins_line_feed s) ≡ t
        → ((n : Inner) → InString n → cut_toml (within n) s ≡ s ∷ [] → OfString (mode_after (within n) s))
        → OfString (mode_after (mode_turn t) s)
    by_turn (goes_on n) e more = more n (subst Stays e (Stays-turn i x (begins_line_feed s) h)) (rest_alone i x s lexeme n e)
    by_turn ends e more = subst (λ l. OfString (mode_after between l)) (sym (last_byte i x s lexeme e)) tt
    by_turn stops e more = absurd (no_stop i x s lexeme e)

-- ---- what stops a string

-- a byte that is no quote stops after two quotes, and after a string of several lines
no_mark : (k : StringKind) (t : Turn Inner) (y : ℕ) → is_quote y ≡ false → cond (y == quote_mark k) t stops ≡ stops
no_mark basic t y q = ap (λ b. cond b t stops) (or_parts (y == 34) (y == 39) q).0
no_mark literal t y q = ap (λ b. cond b t stops) (or_parts (y == 34) (y == 39) q).1

-- where a space stops a string, any byte does that is no quote
stop_string : (i : Inner) (y : ℕ) (b c : Bool) → InString i → is_quote y ≡ false → turn i 32 b ≡ stops → turn i y c ≡ stops
stop_string in_word y b c h q e = absurd h
stop_string in_comment y b c h q e = absurd h
stop_string (opened basic) y b c h q e = cc
stop_string (opened literal) y b c h q e = cc
stop_string (doubled k) y b c h q e = no_mark k _ y q
stop_string (in_line basic) y b c h q e = cc
stop_string (in_line literal) y b c h q e = cc
stop_string in_line_escape y b c h q e = cc
stop_string (in_lines basic) y b c h q e = cc
stop_string (in_lines literal) y b c h q e = cc
stop_string in_lines_escape y b c h q e = cc
stop_string (closing basic) y b c h q e = cc
stop_string (closing literal) y b c h q e = cc
stop_string (closing_more basic) y b c h q e = cc
stop_string (closing_more literal) y b c h q e = cc
stop_string (closed k) y b c h q e = no_mark k _ y q
stop_string (closed_more k) y b c h q e = no_mark k _ y q

ends_at_byte : (m : LexerMode Inner) (y : ℕ) (ys : List ℕ) → OfString m → is_quote y ≡ false → EndsBefore m (32 ∷ []) → EndsBefore m (y ∷ ys)
ends_at_byte between y ys h q e = tt
ends_at_byte (within i) y ys h q e = stop_string i y false (begins_line_feed ys) h q e

no_comment : (m : LexerMode Inner) → OfString m → m ≡ within in_comment → ⊥
no_comment m h e = subst OfString e h

after_string : (s : List ℕ) (y : ℕ) (ys : List ℕ) → OfString (mode_after between s) → is_quote y ≡ false → MayFollow s (32 ∷ [])
    → MayFollow s (y ∷ ys)
after_string s y ys h q follows =
    record {
      ended = ends_at_byte (mode_after between s) y ys h q follows.ended;
      apart = λ m is. absurd (no_comment (mode_after between s) h m);
    }

-- ---- whole strings

quote_first : (x : ℕ) (b c : Bool) → (x == 34) ≡ b → (x == 39) ≡ c → (b || c) ≡ true → (k : StringKind) × (first x ≡ begins (opened k))
quote_first x true c e f h = (basic, subst (λ y. first y ≡ begins (opened basic)) (sym (eqb-true x 34 e)) refl)
quote_first x false true e f h = (literal, subst (λ y. first y ≡ begins (opened literal)) (sym (eqb-true x 39 f)) refl)
quote_first x false false e f h = absurd (true≢false (sym h))

begun_alone : (x : ℕ) (s : List ℕ) (i : Inner) → first x ≡ begins i → cut_toml between (x ∷ s) ≡ (x ∷ s) ∷ []
    → cut_toml (within i) s ≡ s ∷ []
begun_alone x s i e lexeme = shortened x s (cut_toml (within i) s) (some_cut i s) (cut_begun x s (begins i) e lexeme)

-- after a string that a space may follow, any byte may stand that is no quote
pub string_followed : (x : ℕ) (s : List ℕ) (y : ℕ) (ys : List ℕ) → is_quote x ≡ true → cut_toml between (x ∷ s) ≡ (x ∷ s) ∷ []
    → is_quote y ≡ false → MayFollow (x ∷ s) (32 ∷ []) → MayFollow (x ∷ s) (y ∷ ys)
string_followed x s y ys quote lexeme q follows = by_kind (quote_first x (x == 34) (x == 39) refl refl quote)
  where
    by_kind : (k : StringKind) × (first x ≡ begins (opened k)) → MayFollow (x ∷ s) (y ∷ ys)
    by_kind (k, e) =
        after_string (x ∷ s) y ys
        (subst (λ m. OfString (mode_after m s)) (sym (ap mode_first e)) (string_mode s (opened k) tt (begun_alone x s (opened k) e lexeme)))
        q follows
