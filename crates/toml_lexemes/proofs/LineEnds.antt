-- Gaps in front of a lexeme: their line ends are lexemes, and no other of their bytes is in one.
use Rattle.std.proofs.Common.{◌≡◌, ℕ, zero, suc, Bool, true, false, cond, ◌==◌, ◌||◌, List, [], ◌∷◌, ◌++◌, refl, sym, ap, ◌∙◌, subst, inl}
use Rattle.std.proofs.Common.{inr}
use Rattle.std.proofs.lemmas.Bool.{cond_both, eqb-true, true≢false}
use Rattle.prettyless_model.specs.Shows.{EndsLine, IsBlank}
use Rattle.prettyless_model.specs.Spelling.{is_blank_byte}
use Rattle.text_lexemes.proofs.Cuts as cuts
use Rattle.toml_lexemes.specs.Bytes.{is_blank}
use Rattle.text_lexemes.specs.Languages.{between, cut}
use Rattle.toml_lexemes.specs.Lexemes.{cut_toml, toml}
use Rattle.toml_lexemes.specs.Statements.{Collected, line_ended_at, line_ended, with_lexeme, with_lexemes, statements_of}

-- the line ends among the bytes
abbrev pub line_ends : List ℕ → List (List ℕ)
line_ends [] = []
line_ends (x ∷ g) = cond (x == 10) ((10 ∷ []) ∷ line_ends g) (line_ends g)

-- ---- the bytes of a gap

no_ink : (t : Bool) (x : ℕ) (g : List ℕ) → is_blank_byte x ≡ t → IsBlank (x ∷ g) → (is_blank_byte x ≡ true) × IsBlank g
no_ink true x g e h = (e, rw e at h)
no_ink false x g e h = absurd (cc (rw e at h))

-- the first byte of a gap is in no text
pub gap_byte : (x : ℕ) (g : List ℕ) → IsBlank (x ∷ g) → (is_blank_byte x ≡ true) × IsBlank g
gap_byte x g h = no_ink (is_blank_byte x) x g refl h

by_bytes : (p q r t : Bool) → ((p || q) || r) ≡ true → r ≡ false → ((p || t) || q) ≡ true
by_bytes true q r t e n = refl
by_bytes false true r true e n = refl
by_bytes false true r false e n = refl
by_bytes false false r t e n = absurd (true≢false (sym e ∙ n))

-- a byte of a gap that is no line feed is a blank
pub blank_byte : (x : ℕ) → is_blank_byte x ≡ true → (x == 10) ≡ false → is_blank x ≡ true
blank_byte x e n = by_bytes (x == 32) (x == 13) (x == 10) (x == 9) e n

-- ---- lexemes

pub cut-nil : cut_toml between [] ≡ []
unfolding cut
cut-nil = refl

pub cut_line_feed : (x : ℕ) (w : List ℕ) → x ≡ 10 → cut_toml between (x ∷ w) ≡ (10 ∷ []) ∷ cut_toml between w
unfolding cut
cut_line_feed x w e = ap (λ y. cut_toml between (y ∷ w)) e

pub cut_blank : (x : ℕ) (w : List ℕ) → is_blank x ≡ true → cut_toml between (x ∷ w) ≡ cut_toml between w
cut_blank x w e = cuts.cut_blank toml x w e

-- the lexemes of a gap and what is after it
pub cut_gap : (g w : List ℕ) → IsBlank g → cut_toml between (g ++ w) ≡ line_ends g ++ cut_toml between w
cut_gap [] w h = refl
cut_gap (x ∷ g) w h = let parts = gap_byte x g h in by_byte (x == 10) refl parts.0 (cut_gap g w parts.1)
  where
    by_byte : (b : Bool) → (x == 10) ≡ b → is_blank_byte x ≡ true → cut_toml between (g ++ w) ≡ line_ends g ++ cut_toml between w
        → cut_toml between (x ∷ (g ++ w)) ≡ cond b ((10 ∷ []) ∷ line_ends g) (line_ends g) ++ cut_toml between w
    by_byte true e blank more = cut_line_feed x (g ++ w) (eqb-true x 10 e) ∙ ap (λ l. (10 ∷ []) ∷ l) more
    by_byte false e blank more = cut_blank x (g ++ w) (blank_byte x blank e) ∙ more

-- ---- what line ends change

pub none_ends : (g : List ℕ) → (EndsLine g → ⊥) → line_ends g ≡ []
none_ends [] n = refl
none_ends (x ∷ g) n =
    cond_both (x == 10) _ _ (λ l. l ≡ []) (λ e. absurd (n (inl (eqb-true x 10 e)))) (λ e. none_ends g (λ h. n (inr h)))

-- a line end after a line end changes nothing
pub ended_twice : (c : Collected) → line_ended (line_ended c) ≡ line_ended c
ended_twice c = at c.depth refl
  where
    at : (n : ℕ) → c.depth ≡ n → line_ended (line_ended_at n c) ≡ line_ended_at n c
    at zero e = refl
    at (suc n) e = ap (λ k. line_ended_at k c) e

-- the statements of all are the same with one more line end
pub statements_ended : (c : Collected) → statements_of (line_ended c) ≡ statements_of c
statements_ended c = at c.depth
  where
    at : (n : ℕ) → statements_of (line_ended_at n c) ≡ statements_of c
    at zero = refl
    at (suc n) = refl

-- where a line end changes nothing, neither do some
pub line_ends_keep : (c : Collected) → line_ended c ≡ c → (g : List ℕ) → with_lexemes c (line_ends g) ≡ c
line_ends_keep c same [] = refl
line_ends_keep c same (x ∷ g) =
    cond_both (x == 10) _ _ (λ l. with_lexemes c l ≡ c)
    (λ e. ap (λ d. with_lexemes d (line_ends g)) same ∙ line_ends_keep c same g) (λ e. line_ends_keep c same g)

-- some are as one
pub line_ends_end : (c : Collected) (g : List ℕ) → EndsLine g → with_lexemes c (line_ends g) ≡ line_ended c
line_ends_end c [] h = absurd h
line_ends_end c (x ∷ g) h =
    cond_both (x == 10) _ _ (λ l. with_lexemes c l ≡ line_ended c) (λ e. line_ends_keep (line_ended c) (ended_twice c) g)
    (λ e. line_ends_end c g (later e h))
  where
    later : (x == 10) ≡ false → EndsLine (x ∷ g) → EndsLine g
    later e (inl is) = absurd (true≢false (sym (subst (λ y. (y == 10) ≡ true) (sym is) refl) ∙ e))
    later e (inr more) = more

pub with_both : (c : Collected) (ss ts : List (List ℕ)) → with_lexemes c (ss ++ ts) ≡ with_lexemes (with_lexemes c ss) ts
with_both c [] ts = refl
with_both c (s ∷ ss) ts = with_both (with_lexeme c s) ss ts
