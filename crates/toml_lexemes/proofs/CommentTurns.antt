-- Only in a comment does the turn of a byte depend on the byte after it.
use Rattle.std.proofs.Common.{◌≡◌, ℕ, Bool, true, false, cond, ◌==◌, ◌&&◌, ◌||◌, refl, sym, subst}
use Rattle.std.specs.Prelude.{⊤}
use Rattle.std.proofs.lemmas.Bool.{cond_both, true≢false, eqb-true}
use Rattle.toml_lexemes.specs.Bytes.{ends_word}
use Rattle.text_lexemes.specs.Languages.{Turn, goes_on, ends, stops}
use Rattle.toml_lexemes.specs.Lexemes.{StringKind, quote_mark, escapes, Inner, in_word, in_comment, opened, doubled, in_line}
use Rattle.toml_lexemes.specs.Lexemes.{in_line_escape, in_lines, in_lines_escape, closing, closing_more, closed, closed_more, line_turn}
use Rattle.toml_lexemes.specs.Lexemes.{lines_turn, turn}

-- a comment is begun by its first byte alone
abbrev pub From : Inner → Turn Inner → Type 0
From i (goes_on n) = n ≡ in_comment → i ≡ in_comment
From i ends = ⊤
From i stops = ⊤

module _ (i : Inner) where
  by_test : (b : Bool) (t u : Turn Inner) → From i t → From i u → From i (cond b t u)
  by_test b t u p q = cond_both b t u (From i) (λ e. p) (λ e. q)

  in_one_line : (k : StringKind) (x : ℕ) → From i (line_turn k x)
  in_one_line k x = by_test (x == 10) _ _ tt (by_test (x == quote_mark k) _ _ tt (by_test (escapes k x) _ _ (λ e. cc) (λ e. cc)))

  in_some_lines : (k : StringKind) (x : ℕ) → From i (lines_turn k x)
  in_some_lines k x = by_test (x == quote_mark k) _ _ (λ e. cc) (by_test (escapes k x) _ _ (λ e. cc) (λ e. cc))

pub From-turn : (i : Inner) (x : ℕ) (b : Bool) → From i (turn i x b)
From-turn in_word x b = by_test in_word (ends_word x) _ _ tt (λ e. cc)
From-turn in_comment x b = by_test in_comment ((x == 10) || ((x == 13) && b)) _ _ tt (λ e. refl)
From-turn (opened k) x b = by_test (opened k) (x == quote_mark k) _ _ (λ e. cc) (in_one_line (opened k) k x)
From-turn (doubled k) x b = by_test (doubled k) (x == quote_mark k) _ _ (λ e. cc) tt
From-turn (in_line k) x b = in_one_line (in_line k) k x
From-turn in_line_escape x b = by_test in_line_escape (x == 10) _ _ tt (λ e. cc)
From-turn (in_lines k) x b = in_some_lines (in_lines k) k x
From-turn in_lines_escape x b = λ e. cc
From-turn (closing k) x b = by_test (closing k) (x == quote_mark k) _ _ (λ e. cc) (in_some_lines (closing k) k x)
From-turn (closing_more k) x b = by_test (closing_more k) (x == quote_mark k) _ _ (λ e. cc) (in_some_lines (closing_more k) k x)
From-turn (closed k) x b = by_test (closed k) (x == quote_mark k) _ _ (λ e. cc) tt
From-turn (closed_more k) x b = by_test (closed_more k) (x == quote_mark k) _ _ tt tt

-- ---- the last byte of a lexeme, alone and before other bytes

abbrev comment_turn : Bool → Bool → Bool → Turn Inner
comment_turn p q b = cond (p || (q && b)) stops (goes_on in_comment)

last_comment : (p q b : Bool) (t : Turn Inner) → comment_turn p q b ≡ t → (t ≡ stops → ⊥) → comment_turn p q false ≡ t
last_comment true q b t e differs = absurd (differs (sym e))
last_comment false true true t e differs = absurd (differs (sym e))
last_comment false true false t e differs = e
last_comment false false b t e differs = e

-- a byte that is one of the lexeme is so too where the text ends after it
pub last_turn : (i : Inner) (x : ℕ) (b : Bool) (t : Turn Inner) → turn i x b ≡ t → (t ≡ stops → ⊥) → turn i x false ≡ t
last_turn in_comment x b t e differs = last_comment (x == 10) (x == 13) b t e differs
last_turn i x b t e differs = e

more_comment : (p q b : Bool) (t : Turn Inner) → comment_turn p q false ≡ t → (q ≡ true → b ≡ false) → comment_turn p q b ≡ t
more_comment true q b t e h = e
more_comment false true true t e h = absurd (true≢false (h refl))
more_comment false true false t e h = e
more_comment false false b t e h = e

-- and where other bytes come after it, if it is no CR of a comment before a line feed
pub more_turn : (i : Inner) (x : ℕ) (b : Bool) (t : Turn Inner) → turn i x false ≡ t → (i ≡ in_comment → x ≡ 13 → b ≡ false) → turn i x b ≡ t
more_turn in_comment x b t e h = more_comment (x == 10) (x == 13) b t e (λ q. h refl (eqb-true x 13 q))
more_turn i x b t e h = e

-- a CR that is a byte of a comment is not before a line feed
pub no_line_feed : (x : ℕ) (b : Bool) (t : Turn Inner) → turn in_comment x b ≡ t → (t ≡ stops → ⊥) → x ≡ 13 → b ≡ false
no_line_feed x false t e differs is = refl
no_line_feed x true t e differs is = absurd (differs (sym (subst (λ y. turn in_comment y true ≡ t) is e)))
