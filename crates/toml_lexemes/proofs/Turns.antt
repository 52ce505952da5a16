-- Where a lexeme may end, a text may be cut: the byte there is ASCII, or the byte before it is.
use Rattle.std.proofs.Common.{◌≡◌, ℕ, ◌<◌, Bool, true, false, cond, ◌==◌, ◌&&◌, ◌||◌, refl, sym, ◌∙◌, arith}
use Rattle.std.proofs.lemmas.Bool.{cond_both, false≢true, and_parts}
use Rattle.toml_lexemes.specs.Bytes.{ends_word}
use Rattle.text_lexemes.specs.Languages.{Turn, goes_on, ends, stops}
use Rattle.toml_lexemes.specs.Lexemes.{StringKind, basic, quote_mark, escapes, Inner, in_word, in_comment, opened, doubled, in_line}
use Rattle.toml_lexemes.specs.Lexemes.{in_line_escape, in_lines, in_lines_escape, closing, closing_more, closed, closed_more, line_turn}
use Rattle.toml_lexemes.specs.Lexemes.{lines_turn, turn}
use Rattle.toml_lexemes.specs.Modes.{is_after_quote}
use Rattle.toml_lexemes.proofs.Bytes.{or_both, small, ends_ascii, mark_ascii}

-- what a turn says of the byte x, in a mode
abbrev pub Tied : Inner → ℕ → Turn Inner → Type 0
Tied i x (goes_on n) = is_after_quote n ≡ true → x < 128
Tied i x ends = x < 128
Tied i x stops = is_after_quote i ≡ false → x < 128

module _ (i : Inner) (x : ℕ) where
  -- a test by which a turn is chosen
  by_test : (b : Bool) (t u : Turn Inner) → (b ≡ true → Tied i x t) → Tied i x u → Tied i x (cond b t u)
  by_test b t u f g = cond_both b t u (Tied i x) f (λ e. g)

  goes : (n : Inner) → is_after_quote n ≡ false → Tied i x (goes_on n)
  goes n e h = absurd (false≢true (sym e ∙ h))

  by_mark : (k : StringKind) (n : Inner) (u : Turn Inner) → Tied i x u → Tied i x (cond (x == quote_mark k) (goes_on n) u)
  by_mark k n u g = by_test (x == quote_mark k) (goes_on n) u (λ e h. mark_ascii k x e) g

  in_one_line : (k : StringKind) → Tied i x (line_turn k x)
  in_one_line k =
      by_test (x == 10) _ _ (λ e h. small x 10 (omega arith) e) (by_test (x == quote_mark k) _ _ (mark_ascii k x)
      (by_test (escapes k x) _ _ (λ e. goes in_line_escape refl) (goes (in_line k) refl)))

  in_some_lines : (k : StringKind) → Tied i x (lines_turn k x)
  in_some_lines k =
      by_mark k (closing k) _ (by_test (escapes k x) _ _ (λ e. goes in_lines_escape refl) (goes (in_lines k) refl))

line_end_ascii : (x : ℕ) (b : Bool) → ((x == 10) || ((x == 13) && b)) ≡ true → x < 128
line_end_ascii x b = or_both _ _ _ (small x 10 (omega arith)) (λ e. small x 13 (omega arith) (and_parts _ _ e).0)

-- after a quote any byte may stop the lexeme
free : (i : Inner) (x : ℕ) → is_after_quote i ≡ true → Tied i x stops
free i x e h = absurd (false≢true (sym h ∙ e))

pub Tied-turn : (i : Inner) (x : ℕ) (b : Bool) → Tied i x (turn i x b)
Tied-turn in_word x b = by_test in_word x (ends_word x) _ _ (λ e h. ends_ascii x e) (goes in_word x in_word refl)
Tied-turn in_comment x b =
    by_test in_comment x ((x == 10) || ((x == 13) && b)) _ _ (λ e h. line_end_ascii x b e) (goes in_comment x in_comment refl)
Tied-turn (opened k) x b = by_mark (opened k) x k (doubled k) _ (in_one_line (opened k) x k)
Tied-turn (doubled k) x b = by_mark (doubled k) x k (in_lines k) stops (free (doubled k) x refl)
Tied-turn (in_line k) x b = in_one_line (in_line k) x k
Tied-turn in_line_escape x b =
    by_test in_line_escape x (x == 10) _ _ (λ e h. small x 10 (omega arith) e) (goes in_line_escape x (in_line basic) refl)
Tied-turn (in_lines k) x b = in_some_lines (in_lines k) x k
Tied-turn in_lines_escape x b = goes in_lines_escape x (in_lines basic) refl
Tied-turn (closing k) x b = by_mark (closing k) x k (closing_more k) _ (in_some_lines (closing k) x k)
Tied-turn (closing_more k) x b = by_mark (closing_more k) x k (closed k) _ (in_some_lines (closing_more k) x k)
Tied-turn (closed k) x b = by_mark (closed k) x k (closed_more k) stops (free (closed k) x refl)
Tied-turn (closed_more k) x b = by_test (closed_more k) x (x == quote_mark k) ends stops (mark_ascii k x) (free (closed_more k) x refl)
