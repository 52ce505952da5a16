-- What the lexemes of a text are: each a lexeme where a layout has it, and comments in front of line ends.
use Rattle.std.proofs.Common.{◌≡◌, refl, sym, ◌∙◌, ap, subst, ℕ, Bool, true, false, cond, ◌==◌, ◌&&◌, ◌||◌, List, [], ◌∷◌, ◌++◌, All}
use Rattle.std.proofs.lemmas.Bool.{eqb-true, true≢false}
use Rattle.std.proofs.lemmas.List.Elements.{All-head, All-tail}
use Rattle.toml_lexemes.specs.Bytes as byte
use Rattle.toml_lexemes.specs.Bytes.{head, is_blank, is_quote}
use Rattle.text_lexemes.specs.Languages.{between}
use Rattle.toml_lexemes.specs.Lexemes.{begins_line_feed, cut_toml}
use Rattle.toml_lexemes.specs.Spaced.{IsTomlGap, IsWellSpaced, MayFollow, begins_line_end}
use Rattle.toml_lexemes.proofs.Following.{comments_are_ended}
use Rattle.toml_lexemes.proofs.Gaps.{IsWellSpaced-lexemes, lexemes_alone}
use Rattle.toml_lexemes.proofs.TextsApart.{no_blank}
use Rattle.toml_lexemes.proofs.WholeLexemes.{no_lexeme}
use Rattle.toml_grammar.specs.Sorts as sort
use Rattle.toml_grammar.specs.Sorts.{Sort, sort_of}
use Rattle.toml_documents.proofs.ReadSteps.{IsLexeme}
use Rattle.toml_documents.proofs.ReadDrafts.{BeginsComment}

-- it is a lexeme alone
abbrev pub IsAlone : List ℕ → Type 0
IsAlone s = cut_toml between s ≡ s ∷ []

no_space : (x : ℕ) → IsAlone (x ∷ []) → (x == byte.blank_space) ≡ true → ⊥
no_space x h e = no_blank x [] h (subst (λ (y : ℕ). is_blank y ≡ true) (sym (eqb-true x 32 e)) refl)

one_byte : (b : Bool) (x : ℕ) (ss : List (List ℕ)) → (b ≡ true → ⊥) → cond b ss ((x ∷ []) ∷ ss) ≡ (x ∷ []) ∷ ss
one_byte true x ss h = absurd (h refl)
one_byte false x ss h = refl

pub alone_is : (s : List ℕ) → IsAlone s → IsLexeme s
alone_is [] h = λ ss. absurd (no_lexeme h)
alone_is (x ∷ []) h = λ ss. one_byte (x == byte.blank_space) x ss (no_space x h)
alone_is (x ∷ y ∷ s) h = λ ss. refl

-- ---- comments

comment_byte : (a b c d e f g h q : Bool) → cond a sort.open_array (cond b sort.close_array (cond c sort.open_table
    (cond d sort.close_table (cond e sort.comma (cond f sort.equals (cond g sort.line_end (cond h sort.comment
    (cond q sort.string sort.word)))))))) ≡ sort.comment → h ≡ true
comment_byte true b c d e f g h q p = absurd (cc)
comment_byte false true c d e f g h q p = absurd (cc)
comment_byte false false true d e f g h q p = absurd (cc)
comment_byte false false false true e f g h q p = absurd (cc)
comment_byte false false false false true f g h q p = absurd (cc)
comment_byte false false false false false true g h q p = absurd (cc)
comment_byte false false false false false false true h q p = absurd (cc)
comment_byte false false false false false false false true q p = refl
comment_byte false false false false false false false false true p = absurd (cc)
comment_byte false false false false false false false false false p = absurd (cc)

pub comment_begins : (s : List ℕ) → sort_of s ≡ sort.comment → BeginsComment s
comment_begins [] p = absurd (cc)
comment_begins (x ∷ t) p = (
  t,
  ap (λ (y : ℕ). y ∷ t)
      (eqb-true x 35 (comment_byte (x == 91) (x == 93) (x == 123) (x == 125) (x == 44) (x == 61) (x == 10) (x == 35) (is_quote x) p)),
)

-- ---- no lexeme is the end of the text

end_byte : (a b c d e f g h q : Bool) → cond a sort.open_array (cond b sort.close_array (cond c sort.open_table
    (cond d sort.close_table (cond e sort.comma (cond f sort.equals (cond g sort.line_end (cond h sort.comment
    (cond q sort.string sort.word)))))))) ≡ sort.text_end → ⊥
end_byte true b c d e f g h q p = cc
end_byte false true c d e f g h q p = cc
end_byte false false true d e f g h q p = cc
end_byte false false false true e f g h q p = cc
end_byte false false false false true f g h q p = cc
end_byte false false false false false true g h q p = cc
end_byte false false false false false false true h q p = cc
end_byte false false false false false false false true q p = cc
end_byte false false false false false false false false true p = cc
end_byte false false false false false false false false false p = cc

pub some_sort : (s : List ℕ) → IsAlone s → sort_of s ≡ sort.text_end → ⊥
some_sort [] h e = no_lexeme h
some_sort (x ∷ s) h e = end_byte (x == 91) (x == 93) (x == 123) (x == 125) (x == 44) (x == 61) (x == 10) (x == 35) (is_quote x) e

-- ---- line ends

either_feed : (p q : Bool) → p || q ≡ true → (p ≡ true → ⊥) → q ≡ true
either_feed true q e h = absurd (h refl)
either_feed false q e h = e

both_feed : (p q : Bool) → p && q ≡ true → (p ≡ true) × (q ≡ true)
both_feed true q e = (refl, e)
both_feed false q e = absurd (cc)

no_feed : (x : ℕ) → is_blank x ≡ true → (x == 10) ≡ true → ⊥
no_feed x b e = let clash : is_blank 10 ≡ true = subst (λ (y : ℕ). is_blank y ≡ true) (eqb-true x 10 e) b in true≢false (sym clash)

feed_sort : (x : ℕ) (s : List ℕ) → (x == 10) ≡ true → sort_of (x ∷ s) ≡ sort.line_end
feed_sort x s e = subst (λ (y : ℕ). sort_of (y ∷ s) ≡ sort.line_end) (sym (eqb-true x 10 e)) refl

-- a line feed first
feed_first : (g t rest : List ℕ) → IsTomlGap g → IsAlone t → begins_line_feed (g ++ (t ++ rest)) ≡ true → sort_of t ≡ sort.line_end
feed_first [] [] rest gap alone e = absurd (no_lexeme alone)
feed_first [] (x ∷ t) rest gap alone e = feed_sort x t e
feed_first (x ∷ g) t rest gap alone e = absurd (no_feed x gap.0 e)

return_blank : (x : ℕ) → (x == 13) ≡ true → is_blank x ≡ true
return_blank x e = subst (λ (y : ℕ). is_blank y ≡ true) (sym (eqb-true x 13 e)) refl

-- a line feed or the end of a line at the beginning of a lexeme
feed_or : (b : Bool) (x : ℕ) (t : List ℕ) (more : Bool) → (x == 10) ≡ b → IsAlone (x ∷ t) → b || ((x == 13) && more) ≡ true
    → sort_of (x ∷ t) ≡ sort.line_end
feed_or true x t more is alone e = feed_sort x t is
feed_or false x t more is alone e = absurd (no_blank x t alone (return_blank x (both_feed (x == 13) more e).0))

end_first : (g t rest : List ℕ) → IsTomlGap g → IsAlone t → begins_line_end (g ++ (t ++ rest)) ≡ true → sort_of t ≡ sort.line_end
end_first [] [] rest gap alone e = absurd (no_lexeme alone)
end_first [] (x ∷ t) rest gap alone e = feed_or (x == 10) x t (begins_line_feed (t ++ rest)) refl alone e
end_first (x ∷ g) t rest gap alone e =
    feed_first g t rest gap.1 alone
    (both_feed (x == 13) (begins_line_feed (g ++ (t ++ rest)))
    (either_feed (x == 10) ((x == 13) && begins_line_feed (g ++ (t ++ rest))) e (no_feed x gap.0))).1

-- a line end comes first, or nothing
abbrev pub EndsFirst : List (List ℕ) → Type 0
EndsFirst [] = Unit {0}
EndsFirst (s ∷ ss) = sort_of s ≡ sort.line_end

-- each comment is in front of one
abbrev pub AreLexemes : List (List ℕ) → Type 0
AreLexemes [] = Unit {0}
AreLexemes (s ∷ ss) = IsAlone s × (sort_of s ≡ sort.comment → EndsFirst ss) × AreLexemes ss

some_append : (g t rest : List ℕ) → IsAlone t → (y : ℕ) × (ys : List ℕ) × (g ++ (t ++ rest) ≡ y ∷ ys)
some_append [] [] rest h = absurd (no_lexeme h)
some_append [] (x ∷ t) rest h = (x, t ++ rest, refl)
some_append (x ∷ g) t rest h = (x, g ++ (t ++ rest), refl)

comment_ends : (s bytes : List ℕ) (ss : List (List ℕ)) → IsAlone s → MayFollow s bytes → IsWellSpaced bytes ss
    → All (λ (t : List ℕ). IsAlone t) ss → sort_of s ≡ sort.comment → EndsFirst ss
comment_ends s bytes [] alone follows spaced each is = tt
comment_ends s bytes (t ∷ ss) alone follows (g, rest, gap, same, after, more) each is =
    let one = All-head (λ (u : List ℕ). IsAlone u) t ss each in
    let some = some_append g t rest one in
    let begins = comment_begins s is in
    let here : MayFollow s (some.0 ∷ some.1) = subst (MayFollow s) (same ∙ some.2) follows in
    let end = ((comments_are_ended s some.0 some.1 alone (ap head begins.1)).0 here).0 in
    end_first g t rest gap one (subst (λ (l : List ℕ). begins_line_end l ≡ true) (sym some.2) end)

are_lexemes : (bytes : List ℕ) (ss : List (List ℕ)) → IsWellSpaced bytes ss → All (λ (t : List ℕ). IsAlone t) ss → AreLexemes ss
are_lexemes bytes [] spaced each = tt
are_lexemes bytes (s ∷ ss) (g, rest, gap, same, follows, more) each =
    let one = All-head (λ (u : List ℕ). IsAlone u) s ss each in
    let others = All-tail (λ (u : List ℕ). IsAlone u) s ss each in
    (one, λ is. comment_ends s rest ss one follows more others is, are_lexemes rest ss more others)

pub lexemes_are : (text : List ℕ) → AreLexemes (cut_toml between text)
lexemes_are text = are_lexemes text (cut_toml between text) (IsWellSpaced-lexemes text) (lexemes_alone text)
