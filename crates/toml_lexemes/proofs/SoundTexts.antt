-- The lexemes of a text are sound, where its strings are closed.
use Rattle.std.proofs.Common.{◌≡◌, ℕ, Bool, true, false, cond, ◌==◌, ◌&&◌, ◌||◌, List, [], ◌∷◌, All, refl, sym, ap, ◌∙◌, subst, ◌⊎◌, inl}
use Rattle.std.proofs.Common.{inr}
use Rattle.std.proofs.lemmas.Bool.{eqb-true, true≢false, or_cases, and_parts}
use Rattle.std.proofs.lemmas.List.Elements.{All-head, All-tail}
use Rattle.toml_lexemes.specs.Bytes.{is_sign, is_blank, is_quote, ends_word, head}
use Rattle.text_lexemes.specs.Languages.{between, cut}
use Rattle.toml_lexemes.specs.Lexemes.{begins_line_feed, cut_toml}
use Rattle.toml_lexemes.specs.Spaced.{MayFollow, IsWellSpaced, begins_line_end}
use Rattle.toml_lexemes.proofs.Following.{comments_are_ended}
use Rattle.toml_lexemes.proofs.Gaps.{IsWellSpaced-lexemes, lexemes_alone}
use Rattle.toml_lexemes.proofs.Kept.{same_lexemes}
use Rattle.toml_lexemes.specs.Statements.{Role, a_comma, a_comment, a_line_end, an_opening, a_closing, a_word, any_other, role_of, role}
use Rattle.toml_lexemes.specs.Statements.{trimmed}
use Rattle.toml_lexemes.specs.Shown.{IsWholeLexeme}
use Rattle.toml_lexemes.specs.Sound.{IsClosedString, LineEndsNext, IsSoundIn, AreSound}
use Rattle.toml_lexemes.proofs.LineEnds.{cut-nil, cut_blank, cut_line_feed}
use Rattle.toml_lexemes.proofs.TextsApart.{no_blank, sign_alone}
use Rattle.toml_lexemes.proofs.WholeLexemes.{no_lexeme, by_sign, sign_is_whole, word_role, word_is_whole, quote_role, string_is_whole}
use Rattle.toml_lexemes.proofs.WholeLexemes.{comment_is_whole}

-- ---- each lexeme

-- a lexeme of this role is whole, whatever comes after it
abbrev IsAlone : Role → List ℕ → Type 0
IsAlone a_comment s = IsWholeLexeme (trimmed s)
IsAlone a_line_end s = s ≡ 10 ∷ []
IsAlone r s = IsWholeLexeme s

-- its line ends, if it is a comment
abbrev MayComeAfter : Role → List (List ℕ) → Type 0
MayComeAfter a_comment ss = LineEndsNext ss
MayComeAfter r ss = Unit {0}

alone_sound : (r : Role) (s : List ℕ) (ss : List (List ℕ)) → IsAlone r s → MayComeAfter r ss → IsSoundIn r s ss
alone_sound a_comma s ss h k = h
alone_sound a_comment s ss h k = (h, k)
alone_sound a_line_end s ss h k = h
alone_sound an_opening s ss h k = h
alone_sound a_closing s ss h k = h
alone_sound a_word s ss h k = h
alone_sound any_other s ss h k = h

line_feed_alone : (s : List ℕ) → cut_toml between (10 ∷ s) ≡ (10 ∷ s) ∷ [] → 10 ∷ s ≡ 10 ∷ []
unfolding cut
line_feed_alone s lexeme = let one : (10 ∷ []) ∷ cut_toml between s ≡ (10 ∷ s) ∷ [] = lexeme in cc

-- a sign has a role that asks for a whole lexeme
sign_whole : (x : ℕ) (s : List ℕ) → is_sign x ≡ true → IsWholeLexeme s → IsAlone (role_of x) s
sign_whole x s sign whole = by_sign (λ y. IsAlone (role_of y) s) whole whole whole whole whole whole x sign

module _ (x : ℕ) (s : List ℕ) (lexeme : cut_toml between (x ∷ s) ≡ (x ∷ s) ∷ []) (closed : IsClosedString (x ∷ s)) where
  at_byte : (c : ℕ) → ((t : List ℕ) → cut_toml between (c ∷ t) ≡ (c ∷ t) ∷ [] → IsAlone (role_of c) (c ∷ t)) → x ≡ c
      → IsAlone (role_of x) (x ∷ s)
  at_byte c h e = subst (λ y. cut_toml between (y ∷ s) ≡ (y ∷ s) ∷ [] → IsAlone (role_of y) (y ∷ s)) (sym e) (h s) lexeme

  by_tests : (sign blank quote line_feed hash : Bool) → is_sign x ≡ sign → is_blank x ≡ blank → is_quote x ≡ quote
      → (x == 10) ≡ line_feed → (x == 35) ≡ hash → IsAlone (role_of x) (x ∷ s)
  by_tests true true q l h es eb eq el eh = absurd (no_blank x s lexeme eb)
  by_tests true false q l h es eb eq el eh =
      sign_whole x (x ∷ s) es (subst (λ t. IsWholeLexeme (x ∷ t)) (sym (sign_alone x s es eb lexeme)) (sign_is_whole x es))
  by_tests false true q l h es eb eq el eh = absurd (no_blank x s lexeme eb)
  by_tests false false true l h es eb eq el eh =
      subst (λ r. IsAlone r (x ∷ s)) (sym (quote_role x eq)) (string_is_whole (x ∷ s) lexeme eq (closed eq))
  by_tests false false false true h es eb eq el eh = at_byte 10 (λ t e. line_feed_alone t e) (eqb-true x 10 el)
  by_tests false false false false true es eb eq el eh =
      at_byte 35 (λ t e. comment_is_whole (35 ∷ t) e refl) (eqb-true x 35 eh)
  by_tests false false false false false es eb eq el eh =
      let plain : ends_word x ≡ false = λ j. es j || eb j || eq j || el j || eh j in
      subst (λ r. IsAlone r (x ∷ s)) (sym (word_role x plain)) (word_is_whole (x ∷ s) lexeme plain)

-- a lexeme of a text, which is closed if it is a string
lexeme_alone : (s : List ℕ) → cut_toml between s ≡ s ∷ [] → IsClosedString s → IsAlone (role s) s
lexeme_alone [] lexeme closed = absurd (no_lexeme lexeme)
lexeme_alone (x ∷ s) lexeme closed =
    by_tests x s lexeme closed (is_sign x) (is_blank x) (is_quote x) (x == 10) (x == 35) refl refl refl refl refl

-- ---- what comes after it

-- what begins with a line end has that as its first lexeme
line_end_first : (x : ℕ) (xs : List ℕ) → begins_line_end (x ∷ xs) ≡ true
    → (rest : List (List ℕ)) × (cut_toml between (x ∷ xs) ≡ (10 ∷ []) ∷ rest)
line_end_first x xs e = go (or_cases (x == 10) ((x == 13) && begins_line_feed xs) e)
  where
    at_return : (ys : List ℕ) → x ≡ 13 → begins_line_feed ys ≡ true
        → (rest : List (List ℕ)) × (cut_toml between (x ∷ ys) ≡ (10 ∷ []) ∷ rest)
    at_return [] is h = absurd (true≢false (sym h))
    at_return (y ∷ ys) is h =
        (cut_toml between ys, cut_blank x (y ∷ ys) (ap is_blank is) ∙ cut_line_feed y ys (eqb-true y 10 h))

    go : ((x == 10) ≡ true) ⊎ (((x == 13) && begins_line_feed xs) ≡ true)
        → (rest : List (List ℕ)) × (cut_toml between (x ∷ xs) ≡ (10 ∷ []) ∷ rest)
    go (inl h) = (cut_toml between xs, cut_line_feed x xs (eqb-true x 10 h))
    go (inr h) = let parts = and_parts (x == 13) (begins_line_feed xs) h in at_return xs (eqb-true x 13 parts.0) parts.1

after_comment : (s rest : List ℕ) (ss : List (List ℕ)) → cut_toml between s ≡ s ∷ [] → head s ≡ 35 → MayFollow s rest →
    cut_toml between rest ≡ ss
    → MayComeAfter a_comment ss
after_comment s [] ss lexeme e follows is = inl (sym is ∙ cut-nil)
after_comment s (x ∷ xs) ss lexeme e follows is =
    let first = line_end_first x xs ((comments_are_ended s x xs lexeme e).0 follows).0 in inr (first.0, sym is ∙ first.1)

abbrev HashIfComment : ℕ → Role → Type 0
HashIfComment x a_comment = x ≡ 35
HashIfComment x r = Unit {0}

pub comment_begins : (x : ℕ) → role_of x ≡ a_comment → x ≡ 35
comment_begins x e = subst (HashIfComment x) e (says (x == 44) (x == 35) (x == 10) ((x == 91) || (x == 123))
    ((x == 93) || (x == 125)) (ends_word x) refl)
  where
    says : (p q r t u v : Bool) → (x == 35) ≡ q
        → HashIfComment x (cond p a_comma (cond q a_comment (cond r a_line_end (cond t an_opening (cond u a_closing
        (cond v any_other a_word))))))
    says true q r t u v e = tt
    says false true r t u v e = eqb-true x 35 e
    says false false true t u v e = tt
    says false false false true u v e = tt
    says false false false false true v e = tt
    says false false false false false true e = tt
    says false false false false false false e = tt

comes_after : (r : Role) (s rest : List ℕ) (ss : List (List ℕ)) → role s ≡ r → cut_toml between s ≡ s ∷ [] → MayFollow s rest
    → cut_toml between rest ≡ ss → MayComeAfter r ss
comes_after a_comment s rest ss e lexeme follows is = after_comment s rest ss lexeme (comment_begins (head s) e) follows is
comes_after r s rest ss e lexeme follows is = tt

-- ---- all of them

are_sound : (ss : List (List ℕ)) (bytes : List ℕ) → All (λ s. cut_toml between s ≡ s ∷ []) ss → All IsClosedString ss →
    IsWellSpaced bytes ss
    → AreSound ss
are_sound [] bytes alone closed spaced = tt
are_sound (s ∷ ss) bytes alone closed (g, rest, gap, is, follows, spaced) =
    let lexeme = All-head (λ s. cut_toml between s ≡ s ∷ []) s ss alone in
    let others = All-tail (λ s. cut_toml between s ≡ s ∷ []) s ss alone in (
      record {
        sound = alone_sound (role s) s ss (lexeme_alone s lexeme (All-head IsClosedString s ss closed))
            (comes_after (role s) s rest ss refl lexeme follows (same_lexemes rest ss others spaced));
      },
      are_sound ss rest others (All-tail IsClosedString s ss closed) spaced,
    )

-- the lexemes of a text whose strings are closed are sound
pub lexemes_sound : (text : List ℕ) → All IsClosedString (cut_toml between text) → AreSound (cut_toml between text)
lexemes_sound text closed = are_sound (cut_toml between text) text (lexemes_alone text) closed (IsWellSpaced-lexemes text)
