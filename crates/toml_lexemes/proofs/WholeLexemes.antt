-- Which texts are whole lexemes, and stay so where blanks follow them.
use Rattle.std.proofs.Common.{◌≡◌, ℕ, Bool, true, false, cond, ◌==◌, ◌&&◌, ◌||◌, List, [], ◌∷◌, ◌++◌, refl, sym, ap, ◌∙◌, subst, ◌⊎◌, inl}
use Rattle.std.proofs.Common.{inr}
use Rattle.std.proofs.lemmas.Bool.{eqb-true, true≢false, or_parts, or_cases}
use Rattle.toml_lexemes.specs.Bytes.{is_sign, is_blank, is_quote, ends_word, head}
use Rattle.text_lexemes.specs.Languages.{between, within, goes_on, stops, lengthened, cut}
use Rattle.toml_lexemes.specs.Lexemes.{in_comment, begins_line_feed, cut_toml}
use Rattle.toml_lexemes.specs.Spaced.{MayFollow}
use Rattle.toml_lexemes.proofs.Following.{words_are_ended, signs_are_ended}
use Rattle.toml_lexemes.proofs.Kept.{cut_turned}
use Rattle.toml_lexemes.specs.Statements.{Role, a_comma, a_comment, a_line_end, an_opening, a_closing, a_word, any_other, role_of, role}
use Rattle.toml_lexemes.specs.Statements.{before_trimmed, trimmed, Collected, with_lexeme}
use Rattle.toml_lexemes.specs.Shown.{EndsWell, IsWholeLexeme}
use Rattle.toml_lexemes.proofs.CommentGaps.{byte_goes_on, tail_alone, comment_begun, after_hash}
use Rattle.toml_lexemes.proofs.Trimmed.{trimmed_twice}

-- ---- signs

-- what holds of each sign
pub by_sign : (P : ℕ → Type 0) → P 91 → P 93 → P 123 → P 125 → P 44 → P 61 → (x : ℕ) → is_sign x ≡ true → P x
by_sign P p q r s t u x e =
    or_either _ _
    (or_either _ _ (or_either _ _ (or_either _ _ (or_either _ _ (at 91 p) (at 93 q)) (at 123 r)) (at 125 s)) (at 44 t)) (at 61 u) e
  where
    at : (c : ℕ) → P c → (x == c) ≡ true → P x
    at c p e = subst P (sym (eqb-true x c e)) p

    or_either : (p q : Bool) → (p ≡ true → P x) → (q ≡ true → P x) → (p || q) ≡ true → P x
    or_either p q f g h = elim (or_cases p q h) [ inl e ↦ f e | inr e ↦ g e ]

pub sign_is_whole : (x : ℕ) → is_sign x ≡ true → IsWholeLexeme (x ∷ [])
unfolding cut
sign_is_whole =
    by_sign (λ x. IsWholeLexeme (x ∷ [])) (record { alone = refl; ends = signs_are_ended 91 (32 ∷ []) refl })
    (record { alone = refl; ends = signs_are_ended 93 (32 ∷ []) refl }) (record { alone = refl; ends = signs_are_ended 123 (32 ∷ []) refl })
    (record { alone = refl; ends = signs_are_ended 125 (32 ∷ []) refl }) (record { alone = refl; ends = signs_are_ended 44 (32 ∷ []) refl })
    (record { alone = refl; ends = signs_are_ended 61 (32 ∷ []) refl })

-- ---- words and strings

pub word_role : (x : ℕ) → ends_word x ≡ false → role_of x ≡ a_word
word_role x e =
    let a = or_parts (is_sign x || is_blank x || is_quote x || (x == 10)) (x == 35) e in
    let b = or_parts (is_sign x || is_blank x || is_quote x) (x == 10) a.0 in
    let c = or_parts (is_sign x || is_blank x) (is_quote x) b.0 in
    let d = or_parts (is_sign x) (is_blank x) c.0 in
    let f = or_parts ((x == 91) || (x == 93) || (x == 123) || (x == 125) || (x == 44)) (x == 61) d.0 in
    let g = or_parts ((x == 91) || (x == 93) || (x == 123) || (x == 125)) (x == 44) f.0 in
    let h = or_parts ((x == 91) || (x == 93) || (x == 123)) (x == 125) g.0 in
    let k = or_parts ((x == 91) || (x == 93)) (x == 123) h.0 in
    let l = or_parts (x == 91) (x == 93) k.0 in
    λ j. cond (g.1 j) a_comma (cond (a.1 j) a_comment (cond (b.1 j) a_line_end
    (cond (l.0 j || k.1 j) an_opening (cond (l.1 j || h.1 j) a_closing (cond (e j) any_other a_word)))))

pub quote_role : (x : ℕ) → is_quote x ≡ true → role_of x ≡ any_other
quote_role x e = go (or_cases (x == 34) (x == 39) e)
  where
    go : ((x == 34) ≡ true) ⊎ ((x == 39) ≡ true) → role_of x ≡ any_other
    go (inl h) = ap role_of (eqb-true x 34 h)
    go (inr h) = ap role_of (eqb-true x 39 h)

ends_by_role : (r : Role) (s : List ℕ) → role s ≡ r → EndsWell r s → EndsWell (role s) s
ends_by_role r s e h = subst (λ r. EndsWell r s) (sym e) h

pub word_is_whole : (s : List ℕ) → cut_toml between s ≡ s ∷ [] → ends_word (head s) ≡ false → IsWholeLexeme s
word_is_whole s lexeme e =
    record { alone = lexeme; ends = ends_by_role a_word s (word_role (head s) e) ((words_are_ended s (32 ∷ []) lexeme e).1 refl) }

pub string_is_whole : (s : List ℕ) → cut_toml between s ≡ s ∷ [] → is_quote (head s) ≡ true → MayFollow s (32 ∷ []) → IsWholeLexeme s
string_is_whole s lexeme e closed = record { alone = lexeme; ends = ends_by_role any_other s (quote_role (head s) e) closed }

-- ---- comments

no_line_feed : (x : ℕ) (xs : List ℕ) → cut_toml (within in_comment) (x ∷ xs) ≡ (x ∷ xs) ∷ [] → (x == 10) ≡ false
no_line_feed x xs alone = by (x == 10) ((x == 13) && begins_line_feed xs) (byte_goes_on x xs alone)
  where
    by : (p q : Bool) → cond (p || q) stops (goes_on in_comment) ≡ goes_on in_comment → p ≡ false
    by true q e = cc
    by false q e = refl

comment_byte : (p q b : Bool) → p ≡ false → cond (p || (q && false)) stops (goes_on in_comment) ≡ goes_on in_comment
comment_byte true q b e = absurd (true≢false e)
comment_byte false true b e = refl
comment_byte false false b e = refl

module _ (x : ℕ) (no : (x == 10) ≡ false) where
  one_alone : (b : Bool) → cut_toml (within in_comment) (cond b [] (x ∷ [])) ≡ cond b [] (x ∷ []) ∷ []
  unfolding cut
  one_alone true = refl
  one_alone false = cut_turned in_comment x [] (goes_on in_comment) (comment_byte (x == 10) (x == 13) false no)

  before_alone : (t : List ℕ) → cut_toml (within in_comment) t ≡ t ∷ [] →
      cut_toml (within in_comment) (before_trimmed x t) ≡ before_trimmed x t ∷ []
  before_alone [] e = one_alone (is_blank x)
  before_alone (y ∷ ys) e =
      cut_turned in_comment x (y ∷ ys) (goes_on in_comment)
      ((λ j. cond ((x == 10) || ((x == 13) && no_line_feed y ys e j)) stops (goes_on in_comment))
      ∙ comment_byte (x == 10) (x == 13) false no)
      ∙ ap (lengthened x) e

trimmed_alone : (s : List ℕ) → cut_toml (within in_comment) s ≡ s ∷ [] → cut_toml (within in_comment) (trimmed s) ≡ trimmed s ∷ []
trimmed_alone [] e = e
trimmed_alone (x ∷ s) e = before_alone x (no_line_feed x s e) (trimmed s) (trimmed_alone s (tail_alone x s e))

-- `#` is no blank
pub trimmed_begins : (s : List ℕ) → trimmed (35 ∷ s) ≡ 35 ∷ trimmed s
trimmed_begins s = go (trimmed s)
  where
    go : (t : List ℕ) → before_trimmed 35 t ≡ 35 ∷ t
    go [] = refl
    go (y ∷ ys) = refl

trimmed_comment : (s : List ℕ) → cut_toml between (35 ∷ s) ≡ (35 ∷ s) ∷ [] → IsWholeLexeme (trimmed (35 ∷ s))
trimmed_comment s lexeme =
    subst IsWholeLexeme (sym (trimmed_begins s))
    (record {
      alone = comment_begun (trimmed s) ∙ ap (lengthened 35) (trimmed_alone s (after_hash s lexeme));
      ends = trimmed_begins (trimmed s) ∙ ap (λ l. 35 ∷ l) (trimmed_twice s);
    })

pub no_lexeme : cut_toml between [] ≡ [] ∷ [] → ⊥
unfolding cut
no_lexeme e = cc

-- a comment without the blanks at its end is one
pub comment_is_whole : (s : List ℕ) → cut_toml between s ≡ s ∷ [] → head s ≡ 35 → IsWholeLexeme (trimmed s)
comment_is_whole [] lexeme e = absurd (no_lexeme lexeme)
comment_is_whole (x ∷ s) lexeme e =
    subst (λ y. cut_toml between (y ∷ s) ≡ (y ∷ s) ∷ [] → IsWholeLexeme (trimmed (y ∷ s))) (sym e) (trimmed_comment s) lexeme

-- and is read as the same
pub comment_read : (s : List ℕ) → head s ≡ 35 → (c : Collected) → with_lexeme c (trimmed s) ≡ with_lexeme c s
comment_read [] e c = refl
comment_read (x ∷ s) e c =
    subst (λ y. with_lexeme c (trimmed (y ∷ s)) ≡ with_lexeme c (y ∷ s)) (sym e)
    (ap (λ t. with_lexeme c t) (trimmed_begins s)
    ∙ ap (λ (r : List ℕ). record c { comments = c.comments ++ r ∷ [] })
    (trimmed_begins (trimmed s) ∙ ap (λ l. 35 ∷ l) (trimmed_twice s) ∙ sym (trimmed_begins s)))
