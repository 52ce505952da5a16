-- A comment in front of a gap: blanks before its line end go on with it.
use Rattle.std.proofs.Common.{◌≡◌, ℕ, Bool, true, false, cond, ◌==◌, ◌&&◌, ◌||◌, List, [], ◌∷◌, ◌++◌, refl, sym, ap, ◌∙◌, subst, ◌⊎◌, inl}
use Rattle.std.proofs.Common.{inr}
use Rattle.std.proofs.lemmas.Bool.{eqb-true, true≢false, false_from_ne_true}
use Rattle.prettyless_model.specs.Shows.{EndsLine, IsBlank}
use Rattle.prettyless_model.specs.Spelling.{is_blank_byte}
use Rattle.text_lexemes.specs.Languages.{between, within, goes_on, stops, lengthened, cut}
use Rattle.toml_lexemes.specs.Lexemes.{in_comment, turn, begins_line_feed, cut_toml}
use Rattle.toml_lexemes.specs.Spaced.{IsTomlGap, EndsWithReturn}
use Rattle.toml_lexemes.proofs.Kept.{cut_turned, shortened, some_cut}
use Rattle.toml_lexemes.specs.Statements.{trimmed}
use Rattle.toml_lexemes.proofs.LineEnds.{line_ends, gap_byte, blank_byte, cut_blank, cut_gap}
use Rattle.toml_lexemes.proofs.Trimmed.{no_return}

-- ---- what is before the comment's line end

-- the comment goes on with blanks, and then come the line ends of the gap and what is after it
abbrev pub GoesOn : List ℕ → List ℕ → Type 0
GoesOn g w = (t : List ℕ) × IsTomlGap t × (cut_toml (within in_comment) (g ++ w) ≡ t ∷ (line_ends g ++ cut_toml between w))

module _ (x : ℕ) (g w : List ℕ) (blank : IsBlank g) where
  -- a line feed ends it
  at_line_feed : x ≡ 10 → cut_toml (within in_comment) (x ∷ (g ++ w)) ≡ [] ∷ (10 ∷ []) ∷ (line_ends g ++ cut_toml between w)
  unfolding cut
  at_line_feed e = ap (λ y. cut_toml (within in_comment) (y ∷ (g ++ w))) e ∙ ap (λ l. [] ∷ (10 ∷ []) ∷ l) (cut_gap g w blank)

  -- any other byte of the gap ends it too, if it is CR before a line feed, or goes on with it
  at_blank : is_blank_byte x ≡ true → (x == 10) ≡ false → GoesOn g w → (p : Bool)
      → (x == 13) && begins_line_feed (g ++ w) ≡ p
      → (t : List ℕ) × IsTomlGap t × (cut_toml (within in_comment) (x ∷ (g ++ w)) ≡ t ∷ (line_ends g ++ cut_toml between w))
  at_blank is n more true e = (
    [],
    tt,
    cut_turned in_comment x (g ++ w) stops (λ j. cond (n j || e j) stops (goes_on in_comment))
        ∙ ap (λ l. [] ∷ l) (cut_blank x (g ++ w) (blank_byte x is n))
        ∙ ap (λ l. [] ∷ l) (cut_gap g w blank),
  )
  at_blank is n (t, gap, more) false e = (
    x ∷ t,
    (blank_byte x is n, gap),
    cut_turned in_comment x (g ++ w) (goes_on in_comment) (λ j. cond (n j || e j) stops (goes_on in_comment)) ∙ ap (lengthened x) more,
  )

later : (x : ℕ) (g : List ℕ) → (x == 10) ≡ false → EndsLine (x ∷ g) → EndsLine g
later x g e (inl is) = absurd (true≢false (sym (subst (λ y. (y == 10) ≡ true) (sym is) refl) ∙ e))
later x g e (inr more) = more

-- a gap that has a line end, or after which the text ends
comment_goes_on : (g w : List ℕ) → IsBlank g → EndsLine g ⊎ (w ≡ []) → GoesOn g w
unfolding cut
comment_goes_on [] w blank (inl none) = absurd none
comment_goes_on [] w blank (inr e) = ([], tt, ap (cut_toml (within in_comment)) e ∙ ap (λ l. [] ∷ cut_toml between l) (sym e))
comment_goes_on (x ∷ g) w blank ends =
    let parts = gap_byte x g blank in
    by_byte (x == 10) refl parts.0 parts.1 (λ e. comment_goes_on g w parts.1 (shorter e ends))
  where
    shorter : (x == 10) ≡ false → EndsLine (x ∷ g) ⊎ (w ≡ []) → EndsLine g ⊎ (w ≡ [])
    shorter e (inl h) = inl (later x g e h)
    shorter e (inr h) = inr h

    by_byte : (b : Bool) → (x == 10) ≡ b → is_blank_byte x ≡ true → IsBlank g → ((x == 10) ≡ false → GoesOn g w)
        → (t : List ℕ) × IsTomlGap t
        × (cut_toml (within in_comment) (x ∷ (g ++ w)) ≡ t ∷ (cond b ((10 ∷ []) ∷ line_ends g) (line_ends g) ++ cut_toml between w))
    by_byte true e is rest more = ([], tt, at_line_feed x g w rest (eqb-true x 10 e))
    by_byte false e is rest more =
        at_blank x g w rest is e (more e) ((x == 13) && begins_line_feed (g ++ w)) refl

-- ---- the comment

-- a byte of a comment that is no CR is one before any bytes
plain : (p q b c : Bool) → q ≡ false → cond (p || (q && b)) stops (goes_on in_comment) ≡ goes_on in_comment
    → cond (p || (q && c)) stops (goes_on in_comment) ≡ goes_on in_comment
plain true q b c n e = cc
plain false true b c n e = absurd (true≢false n)
plain false false b c n e = refl

-- a comment alone: each of its bytes goes on with it
module _ (x : ℕ) (s : List ℕ) (alone : cut_toml (within in_comment) (x ∷ s) ≡ (x ∷ s) ∷ []) where
  pub byte_goes_on : turn in_comment x (begins_line_feed s) ≡ goes_on in_comment
  byte_goes_on = by ((x == 10) || ((x == 13) && begins_line_feed s)) refl
    where
      by : (p : Bool) → (x == 10) || ((x == 13) && begins_line_feed s) ≡ p → cond p stops (goes_on in_comment) ≡ goes_on in_comment
      by false e = refl
      by true e =
          let stop : turn in_comment x (begins_line_feed s) ≡ stops = ap (λ p. cond p stops (goes_on in_comment)) e in
          let clash : [] ∷ cut_toml between (x ∷ s) ≡ (x ∷ s) ∷ [] = sym (cut_turned in_comment x s stops stop) ∙ alone in
          absurd cc

  -- and so does the rest alone
  pub tail_alone : cut_toml (within in_comment) s ≡ s ∷ []
  tail_alone =
      shortened x s (cut_toml (within in_comment) s) (some_cut in_comment s)
      (sym (cut_turned in_comment x s (goes_on in_comment) byte_goes_on) ∙ alone)

-- the turn of the byte x is the same with more bytes at the end
same_turn : (x : ℕ) (s r : List ℕ) → (EndsWithReturn (x ∷ s) → ⊥) → turn in_comment x (begins_line_feed s) ≡ goes_on in_comment
    → turn in_comment x (begins_line_feed (s ++ r)) ≡ goes_on in_comment
same_turn x [] r n e =
    plain (x == 10) (x == 13) false (begins_line_feed r) (false_from_ne_true (x == 13) (λ is. n (eqb-true x 13 is))) e
same_turn x (y ∷ ys) r n e = e

tail_differs : (x : ℕ) (s : List ℕ) → (EndsWithReturn (x ∷ s) → ⊥) → EndsWithReturn s → ⊥
tail_differs x [] n h = h
tail_differs x (y ∷ ys) n h = n h

-- more bytes after a comment
comment_more : (s : List ℕ) → cut_toml (within in_comment) s ≡ s ∷ [] → (EndsWithReturn s → ⊥) → (r t : List ℕ) (ts : List (List ℕ))
    → cut_toml (within in_comment) r ≡ t ∷ ts → cut_toml (within in_comment) (s ++ r) ≡ (s ++ t) ∷ ts
comment_more [] alone n r t ts e = e
comment_more (x ∷ s) alone n r t ts e =
    cut_turned in_comment x (s ++ r) (goes_on in_comment) (same_turn x s r n (byte_goes_on x s alone))
    ∙ ap (lengthened x) (comment_more s (tail_alone x s alone) (tail_differs x s n) r t ts e)

pub comment_begun : (s : List ℕ) → cut_toml between (35 ∷ s) ≡ lengthened 35 (cut_toml (within in_comment) s)
unfolding cut
comment_begun s = refl

-- what follows `#` in a comment alone
pub after_hash : (s : List ℕ) → cut_toml between (35 ∷ s) ≡ (35 ∷ s) ∷ [] → cut_toml (within in_comment) s ≡ s ∷ []
after_hash s lexeme = shortened 35 s (cut_toml (within in_comment) s) (some_cut in_comment s) (sym (comment_begun s) ∙ lexeme)

-- a comment before a gap that has a line end, or after which the text ends, goes on with blanks alone
pub comment_before_gap : (s g w : List ℕ) → cut_toml between (35 ∷ s) ≡ (35 ∷ s) ∷ [] → trimmed (35 ∷ s) ≡ 35 ∷ s → IsBlank g
    → EndsLine g ⊎ (w ≡ [])
    → (t : List ℕ) × IsTomlGap t × (cut_toml between (35 ∷ (s ++ (g ++ w))) ≡ (35 ∷ (s ++ t)) ∷ (line_ends g ++ cut_toml between w))
comment_before_gap s g w alone whole blank ends = by_rest (comment_goes_on g w blank ends)
  where
    by_rest : GoesOn g w
        → (t : List ℕ) × IsTomlGap t × (cut_toml between (35 ∷ (s ++ (g ++ w))) ≡ (35 ∷ (s ++ t)) ∷ (line_ends g ++ cut_toml between w))
    by_rest (t, gap, e) = (
      t,
      gap,
      comment_begun (s ++ (g ++ w))
          ∙ ap (lengthened 35)
          (comment_more s (after_hash s alone)
          (tail_differs 35 s (no_return (35 ∷ s) whole)) (g ++ w) t (line_ends g ++ cut_toml between w) e),
    )
