-- What may follow a lexeme.
use Rattle.std.proofs.Common.{◌≡◌, ◌≢◌, ◌↔◌, ℕ, Bool, true, false, cond, ◌==◌, ◌&&◌, ◌||◌, ◌⊎◌, inl, inr, List, [], ◌∷◌, refl, sym, ap, ◌∙◌}
use Rattle.std.proofs.Common.{subst}
use Rattle.std.proofs.lemmas.Bool.{cond_both, true≢false, ne_eqb, or_parts, eqb-true}
use Rattle.toml_lexemes.specs.Bytes.{is_sign, is_blank, is_quote, ends_word, head}
use Rattle.text_lexemes.specs.Languages.{LexerMode, between, within, alone, begins, Turn, goes_on, stops, cut}
use Rattle.toml_lexemes.specs.Lexemes.{StringKind, basic, literal, quote_mark, escapes, Inner, in_word, in_comment, opened, doubled}
use Rattle.toml_lexemes.specs.Lexemes.{in_line, in_line_escape, in_lines, in_lines_escape, closing, closing_more, closed, closed_more}
use Rattle.toml_lexemes.specs.Lexemes.{first, line_turn, lines_turn, turn, begins_line_feed, cut_toml}
use Rattle.toml_lexemes.specs.Spaced.{mode_first, mode_turn, mode_after, EndsBefore, EndsWithReturn, MayFollow, begins_line_end}
use Rattle.toml_lexemes.proofs.Bytes.{or_both}
use Rattle.toml_lexemes.proofs.Gaps.{follows_one}
use Rattle.toml_lexemes.proofs.Kept.{cut_begun, cut_turned, shortened, some_cut}

pub end_may_follow : (s : List ℕ) → MayFollow s []
end_may_follow s = record { ended = tt; apart = λ m is. refl }

-- ---- which bytes stop a lexeme

-- the turn is no stop, or the fact holds
abbrev IfStop : Type 0 → Turn Inner → Type 0
IfStop P t = t ≡ stops → P

by_test : (P : Type 0) (b : Bool) (t u : Turn Inner) → (b ≡ true → IfStop P t) → (b ≡ false → IfStop P u) → IfStop P (cond b t u)
by_test P b t u f g = cond_both b t u (IfStop P) f g

-- in a string of one line only a line feed stops
line_stop : (k : StringKind) (x : ℕ) → IfStop ((x == 10) ≡ true) (line_turn k x)
line_stop k x =
    by_test _ (x == 10) _ _ (λ e h. e) (λ e. by_test _ (x == quote_mark k) _ _ (λ f h. cc)
    (λ f. by_test _ (escapes k x) _ _ (λ g h. cc) (λ g h. cc)))

-- in a string of several lines none does
lines_stop : (k : StringKind) (x : ℕ) → IfStop ⊥ (lines_turn k x)
lines_stop k x = by_test _ (x == quote_mark k) _ _ (λ f h. cc) (λ f. by_test _ (escapes k x) _ _ (λ g h. cc) (λ g h. cc))

-- a byte that is no quote stops after two quotes, and after a string of several lines
no_mark : (k : StringKind) (t : Turn Inner) (y : ℕ) → is_quote y ≡ false → cond (y == quote_mark k) t stops ≡ stops
no_mark basic t y q = ap (λ b. cond b t stops) (or_parts (y == 34) (y == 39) q).0
no_mark literal t y q = ap (λ b. cond b t stops) (or_parts (y == 34) (y == 39) q).1

opened_line_feed : (k : StringKind) (b : Bool) → turn (opened k) 10 b ≡ stops
opened_line_feed basic b = refl
opened_line_feed literal b = refl

-- where a byte stops, a line feed does
stop_at_line_feed : (i : Inner) (x : ℕ) (b c : Bool) → turn i x b ≡ stops → turn i 10 c ≡ stops
stop_at_line_feed in_word x b c e = refl
stop_at_line_feed in_comment x b c e = refl
stop_at_line_feed (opened k) x b c e = opened_line_feed k c
stop_at_line_feed (doubled k) x b c e = no_mark k _ 10 refl
stop_at_line_feed (in_line k) x b c e = refl
stop_at_line_feed in_line_escape x b c e = refl
stop_at_line_feed (in_lines k) x b c e = absurd (lines_stop k x e)
stop_at_line_feed in_lines_escape x b c e = cc
stop_at_line_feed (closing k) x b c e = absurd (by_test ⊥ (x == quote_mark k) _ _ (λ f h. cc) (λ f. lines_stop k x) e)
stop_at_line_feed (closing_more k) x b c e = absurd (by_test ⊥ (x == quote_mark k) _ _ (λ f h. cc) (λ f. lines_stop k x) e)
stop_at_line_feed (closed k) x b c e = no_mark k _ 10 refl
stop_at_line_feed (closed_more k) x b c e = no_mark k _ 10 refl

-- in a comment only a line end stops
comment_stop : (p : Bool) → cond p stops (goes_on in_comment) ≡ stops → p ≡ true
comment_stop true e = refl
comment_stop false e = cc

left : (p q : Bool) → (p || q) ≡ false → p ≡ true → ⊥
left p q h e = true≢false (sym e ∙ (or_parts p q h).0)

-- where a byte stops that begins no line end, each byte does that ends a word and is no quote
stop_at_blank : (i : Inner) (x y : ℕ) (b c : Bool) → ((x == 10) || ((x == 13) && b)) ≡ false → ends_word y ≡ true → is_quote y ≡ false
    → turn i x b ≡ stops → turn i y c ≡ stops
stop_at_blank in_word x y b c n w q e = ap (λ t. cond t stops (goes_on in_word)) w
stop_at_blank in_comment x y b c n w q e = absurd (true≢false (sym (comment_stop _ e) ∙ n))
stop_at_blank (opened k) x y b c n w q e =
    absurd (left (x == 10) _ n (by_test _ (x == quote_mark k) _ _ (λ f h. cc) (λ f. line_stop k x) e))
stop_at_blank (doubled k) x y b c n w q e = no_mark k _ y q
stop_at_blank (in_line k) x y b c n w q e = absurd (left (x == 10) _ n (line_stop k x e))
stop_at_blank in_line_escape x y b c n w q e = absurd (left (x == 10) _ n (by_test _ (x == 10) _ _ (λ f h. f) (λ f h. cc) e))
stop_at_blank (in_lines k) x y b c n w q e = absurd (lines_stop k x e)
stop_at_blank in_lines_escape x y b c n w q e = cc
stop_at_blank (closing k) x y b c n w q e = absurd (by_test ⊥ (x == quote_mark k) _ _ (λ f h. cc) (λ f. lines_stop k x) e)
stop_at_blank (closing_more k) x y b c n w q e = absurd (by_test ⊥ (x == quote_mark k) _ _ (λ f h. cc) (λ f. lines_stop k x) e)
stop_at_blank (closed k) x y b c n w q e = no_mark k _ y q
stop_at_blank (closed_more k) x y b c n w q e = no_mark k _ y q

-- the byte after it matters to a CR alone
same_stop : (i : Inner) (x : ℕ) (b c : Bool) → x ≢ 13 → turn i x b ≡ stops → turn i x c ≡ stops
same_stop in_comment x b c n e =
    let cr : (d : Bool) → turn in_comment x d ≡ turn in_comment x false =
    λ d. ap (λ p. cond ((x == 10) || (p && d)) stops (goes_on in_comment)) (ne_eqb x 13 n)
    ∙ sym (ap (λ p. cond ((x == 10) || (p && false)) stops (goes_on in_comment)) (ne_eqb x 13 n)) in
    cr c ∙ sym (cr b) ∙ e
same_stop i x b c n e = e

-- ---- the bytes after a lexeme

module _ (x : ℕ) (xs : List ℕ) where
  ends_at_line_feed : (m : LexerMode Inner) (rest : List ℕ) → EndsBefore m (x ∷ xs) → EndsBefore m (10 ∷ rest)
  ends_at_line_feed between rest e = tt
  ends_at_line_feed (within i) rest e = stop_at_line_feed i x (begins_line_feed xs) (begins_line_feed rest) e

  pub line_feed_may_follow : (s rest : List ℕ) → (EndsWithReturn s → ⊥) → MayFollow s (x ∷ xs) → MayFollow s (10 ∷ rest)
  line_feed_may_follow s rest differs h =
      record { ended = ends_at_line_feed (mode_after between s) rest h.ended; apart = λ m is. absurd (differs is) }

  ends_at_blank : (m : LexerMode Inner) (y : ℕ) (ys : List ℕ) → begins_line_end (x ∷ xs) ≡ false → ends_word y ≡ true → is_quote y ≡ false
      → EndsBefore m (x ∷ xs) → EndsBefore m (y ∷ ys)
  ends_at_blank between y ys n w q e = tt
  ends_at_blank (within i) y ys n w q e = stop_at_blank i x y (begins_line_feed xs) (begins_line_feed ys) n w q e

  pub blank_may_follow : (s : List ℕ) (y : ℕ) (ys : List ℕ) → begins_line_end (x ∷ xs) ≡ false → ends_word y ≡ true → is_quote y ≡ false
      → MayFollow s (x ∷ xs) → MayFollow s (y ∷ ys)
  blank_may_follow s y ys n w q h =
      record {
        ended = ends_at_blank (mode_after between s) y ys n w q h.ended;
        apart = λ m is. absurd (true≢false (sym (comment_stop _ (subst (λ m. EndsBefore m (x ∷ xs)) m h.ended)) ∙ n));
      }

  ends_at_first : (m : LexerMode Inner) (ys : List ℕ) → x ≢ 13 → EndsBefore m (x ∷ xs) → EndsBefore m (x ∷ ys)
  ends_at_first between ys n e = tt
  ends_at_first (within i) ys n e = same_stop i x (begins_line_feed xs) (begins_line_feed ys) n e

  pub first_byte_decides : (s ys : List ℕ) → x ≢ 13 → MayFollow s (x ∷ xs) → MayFollow s (x ∷ ys)
  first_byte_decides s ys n h = record { ended = ends_at_first (mode_after between s) ys n h.ended; apart = h.apart }

-- ---- words and comments

-- a lexeme that is in a mode stays in it, where any other byte would stop it
module _ (i : Inner) (stays : (x : ℕ) (b : Bool) → (turn i x b ≡ stops) ⊎ (turn i x b ≡ goes_on i)) where
  one_byte : (x : ℕ) (s : List ℕ) → (turn i x (begins_line_feed s) ≡ stops) ⊎ (turn i x (begins_line_feed s) ≡ goes_on i)
      → (cut_toml (within i) s ≡ s ∷ [] → mode_after (within i) s ≡ within i) → cut_toml (within i) (x ∷ s) ≡ (x ∷ s) ∷ []
      → mode_after (within i) (x ∷ s) ≡ within i
  one_byte x s (inl e) more h =
      let clash : [] ∷ cut_toml between (x ∷ s) ≡ (x ∷ s) ∷ [] = sym (cut_turned i x s stops e) ∙ h in
      absurd cc
  one_byte x s (inr e) more h =
      ap (λ t. mode_after (mode_turn t) s) e ∙ more (shortened x s (cut_toml (within i) s) (some_cut i s)
      (sym (cut_turned i x s (goes_on i) e) ∙ h))

  stays_in : (s : List ℕ) → cut_toml (within i) s ≡ s ∷ [] → mode_after (within i) s ≡ within i
  stays_in [] h = refl
  stays_in (x ∷ s) h = one_byte x s (stays x (begins_line_feed s)) (stays_in s) h

  mode_left : (x : ℕ) (s : List ℕ) → first x ≡ begins i → cut_toml between (x ∷ s) ≡ (x ∷ s) ∷ [] → mode_after between (x ∷ s) ≡ within i
  mode_left x s e h =
      ap (λ f. mode_after (mode_first f) s) e ∙ stays_in s (shortened x s (cut_toml (within i) s) (some_cut i s)
      (cut_begun x s (begins i) e h))

either : (p : Bool) (i : Inner) → (cond p stops (goes_on i) ≡ stops) ⊎ (cond p stops (goes_on i) ≡ goes_on i)
either true i = inl refl
either false i = inr refl

-- a byte of a word is no blank
pub word_blank : (x : ℕ) → ends_word x ≡ false → is_blank x ≡ false
word_blank x h =
    let a = or_parts (is_sign x || is_blank x || is_quote x || (x == 10)) (x == 35) h in
    let b = or_parts (is_sign x || is_blank x || is_quote x) (x == 10) a.0 in
    let c = or_parts (is_sign x || is_blank x) (is_quote x) b.0 in
    (or_parts (is_sign x) (is_blank x) c.0).1

pub first_word : (x : ℕ) → ends_word x ≡ false → first x ≡ begins in_word
first_word x h =
    let a = or_parts (is_sign x || is_blank x || is_quote x || (x == 10)) (x == 35) h in
    let b = or_parts (is_sign x || is_blank x || is_quote x) (x == 10) a.0 in
    let c = or_parts (is_sign x || is_blank x) (is_quote x) b.0 in
    let d = or_parts (is_sign x) (is_blank x) c.0 in
    let q = or_parts (x == 34) (x == 39) c.1 in
    λ j. cond (d.0 j || b.1 j) alone (cond (a.1 j) (begins in_comment)
    (cond (q.0 j) (begins (opened basic)) (cond (q.1 j) (begins (opened literal)) (begins in_word))))

word_stop : (p : Bool) → cond p stops (goes_on in_word) ≡ stops → p ≡ true
word_stop true e = refl
word_stop false e = cc

cut-nil : cut_toml between [] ≡ []
unfolding cut
cut-nil = refl

no_lexeme : cut_toml between [] ≡ [] ∷ [] → ⊥
no_lexeme e = let clash : [] ≡ [] ∷ [] = sym cut-nil ∙ e in cc

after_word : (s r : List ℕ) → mode_after between s ≡ within in_word → MayFollow s r ↔ (ends_word (head r) ≡ true)
after_word s [] mode = (λ h. refl, λ e. end_may_follow s)
after_word s (y ∷ ys) mode = (
  λ h. word_stop (ends_word y) (subst (λ m. EndsBefore m (y ∷ ys)) mode h.ended),
  λ e. record {
    ended = subst (λ m. EndsBefore m (y ∷ ys)) (sym mode) (ap (λ p. cond p stops (goes_on in_word)) e);
    apart = λ m is. let clash : within in_word ≡ within in_comment = sym mode ∙ m in cc;
  },
)

pub words_are_ended : (s r : List ℕ) → cut_toml between s ≡ s ∷ [] → ends_word (head s) ≡ false →
    MayFollow s r ↔ (ends_word (head r) ≡ true)
words_are_ended [] r h e = absurd (no_lexeme h)
words_are_ended (x ∷ s) r h e =
    after_word (x ∷ s) r (mode_left in_word (λ y b. either (ends_word y) in_word) x s (first_word x e) h)

after_comment : (s : List ℕ) (y : ℕ) (ys : List ℕ) → mode_after between s ≡ within in_comment
    → MayFollow s (y ∷ ys) ↔ ((begins_line_end (y ∷ ys) ≡ true) × (EndsWithReturn s → y ≢ 10))
after_comment s y ys mode = (
  λ h. (
    comment_stop _ (subst (λ m. EndsBefore m (y ∷ ys)) mode h.ended),
    λ is e. true≢false (subst (λ z. (z == 10) ≡ false) e (h.apart mode is)),
  ),
  λ (e, differs). record {
    ended = subst (λ m. EndsBefore m (y ∷ ys)) (sym mode) (ap (λ p. cond p stops (goes_on in_comment)) e);
    apart = λ m is. ne_eqb y 10 (differs is);
  },
)

pub comments_are_ended : (s : List ℕ) (y : ℕ) (ys : List ℕ) → cut_toml between s ≡ s ∷ [] → head s ≡ 35
    → MayFollow s (y ∷ ys) ↔ ((begins_line_end (y ∷ ys) ≡ true) × (EndsWithReturn s → y ≢ 10))
comments_are_ended [] y ys h e = absurd (no_lexeme h)
comments_are_ended (x ∷ s) y ys h e =
    after_comment (x ∷ s) y ys
    (mode_left in_comment (λ z b. either ((z == 10) || ((z == 13) && b)) in_comment) x s
    (subst (λ z. first z ≡ begins in_comment) (sym e) refl) h)

-- ---- signs

module _ (x : ℕ) where
  -- the byte is one that stands alone
  is_one : (c : ℕ) → first c ≡ alone → (x == c) ≡ true → first x ≡ alone
  is_one c e h = subst (λ y. first y ≡ alone) (sym (eqb-true x c h)) e

  stands_alone : (is_sign x || (x == 10)) ≡ true → first x ≡ alone
  stands_alone =
      or_both _ _ _ (or_both _ _ _ (or_both _ _ _ (or_both _ _ _ (or_both _ _ _ (or_both _ _ _ (is_one 91 refl) (is_one 93 refl))
      (is_one 123 refl)) (is_one 125 refl)) (is_one 44 refl)) (is_one 61 refl)) (is_one 10 refl)

pub signs_are_ended : (x : ℕ) (r : List ℕ) → (is_sign x || (x == 10)) ≡ true → MayFollow (x ∷ []) r
signs_are_ended x r h = follows_one x r (stands_alone x h)
