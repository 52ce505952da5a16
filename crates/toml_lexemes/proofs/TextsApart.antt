-- A text that is a lexeme, a gap and what is after it, cut into lexemes.
use Rattle.std.proofs.Common.{◌≡◌, ℕ, Bool, true, false, cond, ◌==◌, ◌||◌, List, [], ◌∷◌, ◌++◌, refl, sym, ap, ◌∙◌}
use Rattle.std.proofs.Common.{subst, ◌⊎◌, inl, inr, arith}
use Rattle.std.proofs.lemmas.Bool.{true≢false, eqb-true, or_parts, or_cases}
use Rattle.prettyless_model.specs.Shows.{Least, Nothing, Spacing, LineEnd, EndsLine, IsBlank, Has}
use Rattle.prettyless_model.specs.Spelling.{is_blank_byte}
use Rattle.toml_lexemes.specs.Bytes.{is_sign, is_blank, is_quote, ends_word, head, ends_with_dot}
use Rattle.text_lexemes.specs.Languages.{between, alone, begins}
use Rattle.toml_lexemes.specs.Lexemes.{first, opened, basic, literal, in_comment, in_word, cut_toml, toml}
use Rattle.toml_lexemes.specs.Spaced.{IsTomlGap, MayFollow}
use Rattle.toml_lexemes.proofs.Following.{end_may_follow, words_are_ended, signs_are_ended}
use Rattle.toml_lexemes.proofs.Gaps.{follows_lexeme}
use Rattle.toml_lexemes.proofs.Kept as kept
use Rattle.text_lexemes.proofs.Cuts.{cut_lexeme}
use Rattle.toml_lexemes.specs.Statements.{role, Collected, with_lexeme, with_lexemes}
use Rattle.toml_lexemes.specs.Shown.{EndsWell, IsWholeLexeme, least_after_word, least_after, least_between}
use Rattle.toml_lexemes.proofs.LineEnds.{line_ends, gap_byte, cut_gap}
use Rattle.toml_lexemes.proofs.CommentGaps.{comment_before_gap}
use Rattle.toml_lexemes.proofs.Strings.{string_followed}
use Rattle.toml_lexemes.proofs.Trimmed.{trimmed_before_gap}
use Rattle.toml_lexemes.proofs.WholeLexemes.{no_lexeme, word_role, quote_role}
use Rattle.toml_lexemes.proofs.Words.{word_letters, words_meet, both_read}

-- ---- the first byte of a lexeme

-- what begins with a byte
pub data Beginning (x : ℕ) : Type 0 where
  a_sign : is_sign x ≡ true → Beginning x
  a_comment_sign : x ≡ 35 → Beginning x
  a_quote : is_quote x ≡ true → Beginning x
  a_letter : ends_word x ≡ false → Beginning x

pub no_blank : (x : ℕ) (s : List ℕ) → cut_toml between (x ∷ s) ≡ (x ∷ s) ∷ [] → is_blank x ≡ true → ⊥
no_blank x s lexeme e = true≢false (sym e ∙ kept.no_blank x s lexeme)

no_line_end : (x : ℕ) (s : List ℕ) → EndsWell (role (x ∷ s)) (x ∷ s) → x ≡ 10 → ⊥
no_line_end x s h e = subst (λ y. EndsWell (role (y ∷ s)) (x ∷ s)) e h

module _ (x : ℕ) (s : List ℕ) (whole : IsWholeLexeme (x ∷ s)) where
  by_tests : (sign blank quote line_feed hash : Bool) → is_sign x ≡ sign → is_blank x ≡ blank → is_quote x ≡ quote
      → (x == 10) ≡ line_feed → (x == 35) ≡ hash → Beginning x
  by_tests true b q l h es eb eq el eh = a_sign es
  by_tests false true q l h es eb eq el eh = absurd (no_blank x s whole.alone eb)
  by_tests false false true l h es eb eq el eh = a_quote eq
  by_tests false false false true h es eb eq el eh = absurd (no_line_end x s whole.ends (eqb-true x 10 el))
  by_tests false false false false true es eb eq el eh = a_comment_sign (eqb-true x 35 eh)
  by_tests false false false false false es eb eq el eh = a_letter (λ j. es j || eb j || eq j || el j || eh j)

  pub beginning : Beginning x
  beginning = by_tests (is_sign x) (is_blank x) (is_quote x) (x == 10) (x == 35) refl refl refl refl refl

-- ---- what is after a gap

by_gap_byte : (P : ℕ → Type 0) → P 32 → P 13 → P 10 → (x : ℕ) → is_blank_byte x ≡ true → P x
by_gap_byte P p q r x e = go (or_cases ((x == 32) || (x == 13)) (x == 10) e)
  where
    two : ((x == 32) ≡ true) ⊎ ((x == 13) ≡ true) → P x
    two (inl h) = subst P (sym (eqb-true x 32 h)) p
    two (inr h) = subst P (sym (eqb-true x 13 h)) q

    go : (((x == 32) || (x == 13)) ≡ true) ⊎ ((x == 10) ≡ true) → P x
    go (inl h) = two (or_cases (x == 32) (x == 13) h)
    go (inr h) = subst P (sym (eqb-true x 10 h)) r

module _ (w : List ℕ) where
  -- no quote follows
  no_quote : (g : List ℕ) → IsBlank g → Has (cond (is_quote (head w)) Spacing Nothing) g → is_quote (head (g ++ w)) ≡ false
  no_quote [] blank has = by (is_quote (head w)) has
    where
      by : (b : Bool) → Has (cond b Spacing Nothing) [] → b ≡ false
      by true h = absurd (omega arith)
      by false h = refl
  no_quote (x ∷ g) blank has = by_gap_byte (λ y. is_quote y ≡ false) refl refl refl x (gap_byte x g blank).0

  -- what ends a word follows
  no_letter : (x : ℕ) (g : List ℕ) → IsBlank (x ∷ g) → ends_word (head (x ∷ (g ++ w))) ≡ true
  no_letter x g blank = by_gap_byte (λ y. ends_word y ≡ true) refl refl refl x (gap_byte x g blank).0

-- ---- a lexeme before what may follow it

lexeme_first : (s rest : List ℕ) → cut_toml between s ≡ s ∷ [] → MayFollow s rest → cut_toml between (s ++ rest) ≡ s ∷ cut_toml between rest
lexeme_first s rest lexeme follows = cut_lexeme toml s rest (follows_lexeme s rest lexeme follows)

pub sign_alone : (x : ℕ) (s : List ℕ) → is_sign x ≡ true → is_blank x ≡ false → cut_toml between (x ∷ s) ≡ (x ∷ s) ∷ [] → s ≡ []
sign_alone x s sign blank lexeme =
    let f : first x ≡ alone = λ j. cond (sign j || (x == 10)) alone
    (cond (x == 35) (begins in_comment) (cond (x == 34) (begins (opened basic))
    (cond (x == 39) (begins (opened literal)) (begins in_word)))) in
    let one : (x ∷ []) ∷ cut_toml between s ≡ (x ∷ s) ∷ [] = kept.cut_begun x s alone f lexeme in
    cc

-- ---- a lexeme, a gap and what is after it

-- The bytes are read as the text, the line ends of the gap, and the lexemes of what is after it.
abbrev pub AreReadApart : List ℕ → List ℕ → List ℕ → Type 0
AreReadApart s g w =
    (c : Collected) → with_lexemes c (cut_toml between (s ++ (g ++ w))) ≡ with_lexemes (with_lexeme c s) (line_ends g ++ cut_toml between w)

-- nothing is after the gap, or the gap has what it has to have in front of it
abbrev pub LeavesRoom : List ℕ → List ℕ → List ℕ → Type 0
LeavesRoom s g w = (w ≡ []) ⊎ Has (least_between s w) g

module _ (s g w : List ℕ) where
  as_it_is : IsBlank g → cut_toml between s ≡ s ∷ [] → MayFollow s (g ++ w) → AreReadApart s g w
  as_it_is blank lexeme follows c =
      ap (λ l. with_lexemes c l) (lexeme_first s (g ++ w) lexeme follows ∙ ap (λ l. s ∷ l) (cut_gap g w blank))

-- ---- words

none_needed : (g : List ℕ) (dotted : Bool) → Has (least_after_word dotted 32) g
none_needed g true = tt
none_needed g false = tt

module _ (x : ℕ) (s : List ℕ) (e : ends_word x ≡ false) (whole : IsWholeLexeme (x ∷ s)) where
  -- a gap ends a word, and so does a byte after it
  word_ended : (g w : List ℕ) → IsBlank g → ends_word (head (g ++ w)) ≡ true → AreReadApart (x ∷ s) g w
  word_ended g w blank ended = as_it_is (x ∷ s) g w blank whole.alone ((words_are_ended (x ∷ s) (g ++ w) whole.alone e).1 ended)

  -- a dot stands where nothing has to
  dotted_there : (dotted p q : Bool) → q ≡ false → Has (cond (dotted || (p || q)) Nothing Spacing) [] → (dotted || p) ≡ true
  dotted_there true p q f h = refl
  dotted_there false true q f h = refl
  dotted_there false false q f h = let none : Has Spacing [] = subst (λ b. Has (cond b Nothing Spacing) []) f h in absurd (omega arith)

  -- two words with nothing between them
  words_together : (w : List ℕ) → ends_word (head w) ≡ false → Has (least_after_word (ends_with_dot (x ∷ s)) (head w)) []
      → AreReadApart (x ∷ s) [] w
  words_together [] f has = absurd (cc)
  words_together (y ∷ ys) f has = by (words_meet x s y ys (word_letters (x ∷ s) whole.alone e) f)
    where
      by : (t : List ℕ) × (ts : List (List ℕ)) × (cut_toml between (y ∷ ys) ≡ (y ∷ t) ∷ ts)
          × (cut_toml between (x ∷ (s ++ (y ∷ ys))) ≡ (x ∷ (s ++ (y ∷ t))) ∷ ts)
          → AreReadApart (x ∷ s) [] (y ∷ ys)
      by (t, ts, next, together) c =
          ap (λ l. with_lexemes c l) together
          ∙ ap (λ d. with_lexemes d ts) (both_read c x s y t (word_role x e) (word_role y f)
          (dotted_there (ends_with_dot (x ∷ s)) (y == 46) (ends_word y) f has))
          ∙ sym (ap (λ l. with_lexemes (with_lexeme c (x ∷ s)) l) next)

  word_apart : (g w : List ℕ) → IsBlank g → Has (least_after_word (ends_with_dot (x ∷ s)) (head w)) g → AreReadApart (x ∷ s) g w
  word_apart [] w blank has = by (ends_word (head w)) refl
    where
      by : (b : Bool) → ends_word (head w) ≡ b → AreReadApart (x ∷ s) [] w
      by true f = word_ended [] w blank f
      by false f = words_together w f has
  word_apart (z ∷ g) w blank has = word_ended (z ∷ g) w blank (no_letter w z g blank)

-- ---- signs, strings and comments

module _ (s g w : List ℕ) where
  sign_apart : (x : ℕ) → is_sign x ≡ true → IsBlank g → IsWholeLexeme (x ∷ s) → MayFollow (x ∷ s) (g ++ w)
  sign_apart x sign blank whole =
      subst (λ l. MayFollow (x ∷ l) (g ++ w)) (sym (sign_alone x s sign (not_blank (is_blank x) refl) whole.alone))
      (signs_are_ended x (g ++ w) (λ j. sign j || (x == 10)))
    where
      not_blank : (b : Bool) → is_blank x ≡ b → is_blank x ≡ false
      not_blank true e = absurd (no_blank x s whole.alone e)
      not_blank false e = e

  string_followed_by : (x : ℕ) (r : List ℕ) → is_quote x ≡ true → IsWholeLexeme (x ∷ s) → MayFollow (x ∷ s) (32 ∷ [])
      → is_quote (head r) ≡ false → MayFollow (x ∷ s) r
  string_followed_by x [] quote whole closed e = end_may_follow (x ∷ s)
  string_followed_by x (y ∷ ys) quote whole closed e = string_followed x s y ys quote whole.alone e closed

  quote_least : (dotted : Bool) (x y : ℕ) → is_quote x ≡ true → least_after dotted x y ≡ cond (is_quote y) Spacing Nothing
  quote_least dotted x y e = go (or_cases (x == 34) (x == 39) e)
    where
      go : ((x == 34) ≡ true) ⊎ ((x == 39) ≡ true) → least_after dotted x y ≡ cond (is_quote y) Spacing Nothing
      go (inl h) = ap (λ z. least_after dotted z y) (eqb-true x 34 h)
      go (inr h) = ap (λ z. least_after dotted z y) (eqb-true x 39 h)

  letter_least : (dotted : Bool) (x y : ℕ) → ends_word x ≡ false → least_after dotted x y ≡ least_after_word dotted y
  letter_least dotted x y e =
      let a = or_parts (is_sign x || is_blank x || is_quote x || (x == 10)) (x == 35) e in
      let b = or_parts (is_sign x || is_blank x || is_quote x) (x == 10) a.0 in
      let c = or_parts (is_sign x || is_blank x) (is_quote x) b.0 in
      let d = or_parts (is_sign x) (is_blank x) c.0 in
      λ j. cond (d.0 j) Nothing (cond (a.1 j) LineEnd
      (cond (c.1 j) (cond (is_quote y) Spacing Nothing) (least_after_word dotted y)))

  -- a gap of any kind leaves room at the end
  room_for : (l : ℕ → Least) → Has (l 32) g → (w ≡ []) ⊎ Has (l (head w)) g → Has (l (head w)) g
  room_for l none (inl e) = subst (λ v. Has (l (head v)) g) (sym e) none
  room_for l none (inr has) = has

  comment_apart : IsBlank g → IsWholeLexeme (35 ∷ s) → LeavesRoom (35 ∷ s) g w → AreReadApart (35 ∷ s) g w
  comment_apart blank whole room = by_rest (comment_before_gap s g w whole.alone whole.ends blank (swap room))
    where
      swap : LeavesRoom (35 ∷ s) g w → EndsLine g ⊎ (w ≡ [])
      swap (inl e) = inr e
      swap (inr has) = inl has

      by_rest : (t : List ℕ) × IsTomlGap t × (cut_toml between (35 ∷ (s ++ (g ++ w))) ≡ (35 ∷ (s ++ t))
          ∷ (line_ends g ++ cut_toml between w))
          → AreReadApart (35 ∷ s) g w
      by_rest (t, gap, e) c =
          ap (λ l. with_lexemes c l) e
          ∙ ap (λ (r : List ℕ). with_lexemes (record c { comments = c.comments ++ r ∷ [] }) (line_ends g ++ cut_toml between w))
          (trimmed_before_gap (35 ∷ s) t gap)

  by_beginning : (x : ℕ) → IsBlank g → IsWholeLexeme (x ∷ s) → LeavesRoom (x ∷ s) g w → Beginning x
      → AreReadApart (x ∷ s) g w
  by_beginning x blank whole room (a_sign e) =
      as_it_is (x ∷ s) g w blank whole.alone (sign_apart x e blank whole)
  by_beginning x blank whole room (a_comment_sign e) =
      subst (λ y. IsWholeLexeme (y ∷ s) → LeavesRoom (y ∷ s) g w → AreReadApart (y ∷ s) g w) (sym e) (comment_apart blank) whole room
  by_beginning x blank whole room (a_quote e) =
      let has =
      room_for (λ y. cond (is_quote y) Spacing Nothing) tt (subst (λ l. (w ≡ []) ⊎ Has l g)
      (quote_least (ends_with_dot (x ∷ s)) x (head w) e) room) in
      let closed : MayFollow (x ∷ s) (32 ∷ []) = subst (λ r. EndsWell r (x ∷ s)) (quote_role x e) whole.ends in
      as_it_is (x ∷ s) g w blank whole.alone (string_followed_by x (g ++ w) e whole closed (no_quote w g blank has))
  by_beginning x blank whole room (a_letter e) =
      let dotted = ends_with_dot (x ∷ s) in
      let has =
      room_for (λ y. least_after_word dotted y) (none_needed g dotted) (subst (λ l. (w ≡ []) ⊎ Has l g)
      (letter_least dotted x (head w) e) room) in
      word_apart x s e whole g w blank has

pub read_apart : (s g w : List ℕ) → IsBlank g → IsWholeLexeme s → LeavesRoom s g w → AreReadApart s g w
read_apart [] g w blank whole room = absurd (no_lexeme whole.alone)
read_apart (x ∷ s) g w blank whole room = by_beginning s g w x blank whole room (beginning x s whole)

-- a lexeme is not empty
pub some_bytes : (s : List ℕ) → IsWholeLexeme s → (y : ℕ) × (ys : List ℕ) × (s ≡ y ∷ ys)
some_bytes [] whole = absurd (no_lexeme whole.alone)
some_bytes (y ∷ ys) whole = (y, ys, refl)
