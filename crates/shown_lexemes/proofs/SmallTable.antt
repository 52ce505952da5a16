-- A table of neighbours for a small language.
use Rattle.std.proofs.Common.{◌≡◌, ℕ, Bool, true, false, cond, ◌==◌, ◌&&◌, ◌||◌, List, [], ◌∷◌, ◌++◌, refl, sym, ap, ◌∙◌, subst}
use Rattle.std.proofs.Common.{◌⊎◌, inl, inr, arith}
use Rattle.std.specs.Prelude.{not}
use Rattle.std.proofs.lemmas.Bool.{eqb-true, and_parts, or_parts}
use Rattle.prettyless_model.specs.Spelling.{is_blank_byte}
use Rattle.prettyless_model.specs.Shows.{Least, Nothing, Spacing, LineEnd, EndsLine, IsBlank, Has}
use Rattle.text_lexemes.specs.Languages.{alone, begins, goes_on, stops}
use Rattle.text_lexemes.specs.SpacedTexts.{OnTurn, OnFirst, StopsBefore, EndsWithin, MayFollow}
use Rattle.text_lexemes.specs.Rows.{InSmall, in_name, in_note, is_small_blank, ends_note, turn_small, small_language}
use Rattle.shown_lexemes.specs.Neighbours.{PassesGaps, LetsFollow, LetsEnd, Neighbours}
use Rattle.shown_lexemes.proofs.ShownTexts.{first_blank}

-- ---- the table

-- what ends a name
abbrev ends_name : ℕ → Bool
ends_name x = is_small_blank x || (x == 59) || (x == 35)

abbrev are_letters : List ℕ → Bool
are_letters [] = true
are_letters (x ∷ xs) = not (ends_name x) && are_letters xs

-- what a note holds after its first byte
abbrev are_noted : List ℕ → Bool
are_noted [] = true
are_noted (x ∷ xs) = not (ends_note (x ∷ xs)) && are_noted xs

abbrev is_none : List ℕ → Bool
is_none [] = true
is_none (x ∷ xs) = false

abbrev is_small : List ℕ → Bool
is_small [] = false
is_small (x ∷ xs) = cond (x == 59) (is_none xs) (cond (x == 35) (are_noted xs) (are_letters (x ∷ xs)))

abbrev least_small : List ℕ → List ℕ → Least
least_small [] t = Nothing
least_small (x ∷ xs) [] = LineEnd
least_small (x ∷ xs) (y ∷ ys) = cond (x == 59) Nothing (cond (x == 35) LineEnd (cond ((y == 59) || (y == 35)) Nothing Spacing))

-- ---- names

not_true : (b : Bool) → not b ≡ true → b ≡ false
not_true true e = cc
not_true false e = refl

goes_on_in : (b : Bool) → b ≡ false → (s : List ℕ) (later : InSmall → Type 0) → later in_name
    → OnTurn (cond b stops (goes_on in_name)) s later
goes_on_in b e s later h = subst (λ b. OnTurn (cond b stops (goes_on in_name)) s later) (sym e) h

name_ends : (s r : List ℕ) → are_letters s ≡ true → StopsBefore small_language in_name r → EndsWithin small_language in_name s r
name_ends [] r h stop = stop
name_ends (x ∷ s) r h stop =
    let parts = and_parts (not (ends_name x)) (are_letters s) h in
    goes_on_in (ends_name x) (not_true (ends_name x) parts.0) s (λ n. EndsWithin small_language n s r) (name_ends s r parts.1 stop)

pub small_passes : PassesGaps small_language
small_passes x e = e

blank_ends : (x : ℕ) (r : List ℕ) → is_small_blank x ≡ true → turn_small in_name x r ≡ stops
blank_ends x r e = ap (λ b. cond (b || (x == 59) || (x == 35)) stops (goes_on in_name)) e

gap_ends_name : (x : ℕ) (g w : List ℕ) → IsBlank (x ∷ g) → StopsBefore small_language in_name (x ∷ (g ++ w))
gap_ends_name x g w blank = blank_ends x (g ++ w) (small_passes x (first_blank (is_blank_byte x) x g refl blank).0)

-- ---- notes

more_noted : (u r : List ℕ) → ends_note u ≡ false → ends_note (u ++ r) ≡ false
more_noted [] r e = cc
more_noted (x ∷ u) r e = by (x == 10) (is_small_blank x) e (more_noted u r)
  where
    by : (p q : Bool) → (p || (q && ends_note u)) ≡ false → (ends_note u ≡ false → ends_note (u ++ r) ≡ false)
        → (p || (q && ends_note (u ++ r))) ≡ false
    by true q e more = cc
    by false true e more = more e
    by false false e more = refl

note_ends : (s r : List ℕ) → are_noted s ≡ true → StopsBefore small_language in_note r → EndsWithin small_language in_note s r
note_ends [] r h stop = stop
note_ends (x ∷ s) r h stop =
    let parts = and_parts (not (ends_note (x ∷ s))) (are_noted s) h in
    let on : ends_note (x ∷ (s ++ r)) ≡ false = more_noted (x ∷ s) r (not_true (ends_note (x ∷ s)) parts.0) in
    subst (λ b. OnTurn (cond b stops (goes_on in_note)) s (λ n. EndsWithin small_language n s r)) (sym on) (note_ends s r parts.1 stop)

line_ends_note : (g w : List ℕ) → IsBlank g → EndsLine g → ends_note (g ++ w) ≡ true
line_ends_note [] w blank h = absurd h
line_ends_note (x ∷ g) w blank h =
    let parts = first_blank (is_blank_byte x) x g refl blank in
    by h (small_passes x parts.0) (line_ends_note g w parts.1)
  where
    or_true : (p : Bool) → (p || true) ≡ true
    or_true true = refl
    or_true false = refl

    by : (x ≡ 10) ⊎ EndsLine g → is_small_blank x ≡ true → (EndsLine g → ends_note (g ++ w) ≡ true)
        → ((x == 10) || (is_small_blank x && ends_note (g ++ w))) ≡ true
    by (inl e) b more = subst (λ y. ((y == 10) || (is_small_blank y && ends_note (g ++ w))) ≡ true) (sym e) refl
    by (inr l) b more = (λ i. (x == 10) || (b i && more l i)) ∙ or_true (x == 10)

blanks_end_note : (g : List ℕ) → IsBlank g → ends_note g ≡ true
blanks_end_note [] blank = refl
blanks_end_note (x ∷ g) blank =
    let parts = first_blank (is_blank_byte x) x g refl blank in
    (λ i. (x == 10) || (small_passes x parts.0 i && blanks_end_note g parts.1 i)) ∙ or_true (x == 10)
  where
    or_true : (p : Bool) → (p || true) ≡ true
    or_true true = refl
    or_true false = refl

stops_note : (r : List ℕ) → ends_note r ≡ true → StopsBefore small_language in_note r
stops_note [] e = tt
stops_note (x ∷ r) e = ap (λ b. cond b stops (goes_on in_note)) e

-- ---- neighbours

-- a text of the table is a sign, a note or a name
data SmallSort (s : List ℕ) : Type 0 where
  a_sign : s ≡ 59 ∷ [] → SmallSort s
  a_note : (t : List ℕ) → s ≡ 35 ∷ t → are_noted t ≡ true → SmallSort s
  a_name : (x : ℕ) (t : List ℕ) → s ≡ x ∷ t → (x == 59) ≡ false → (x == 35) ≡ false → ends_name x ≡ false → are_letters t ≡ true → SmallSort s

small_sort : (s : List ℕ) → is_small s ≡ true → SmallSort s
small_sort [] h = cc
small_sort (x ∷ xs) h = by (x == 59) (x == 35) refl refl h
  where
    none : (l : List ℕ) → is_none l ≡ true → l ≡ []
    none [] e = refl
    none (y ∷ ys) e = cc

    by : (p q : Bool) → (x == 59) ≡ p → (x == 35) ≡ q → cond p (is_none xs) (cond q (are_noted xs) (are_letters (x ∷ xs))) ≡ true
        → SmallSort (x ∷ xs)
    by true q e f h = a_sign (λ i. eqb-true x 59 e i ∷ none xs h i)
    by false true e f h = a_note xs (ap (λ y. y ∷ xs) (eqb-true x 35 f)) h
    by false false e f h =
        let parts = and_parts (not (ends_name x)) (are_letters xs) h in
        a_name x xs refl e f (not_true (ends_name x) parts.0) parts.1

-- a name before what ends it
name_follows : (x : ℕ) (t r : List ℕ) → (x == 59) ≡ false → (x == 35) ≡ false → ends_name x ≡ false → are_letters t ≡ true
    → StopsBefore small_language in_name r → MayFollow small_language (x ∷ t) r
name_follows x t r sign hash name letters stop = (
  (or_parts (is_small_blank x) (x == 59) (or_parts (is_small_blank x || (x == 59)) (x == 35) name).0).0,
  subst (λ f. OnFirst f t (λ i. EndsWithin small_language i t r)) (sym first) (name_ends t r letters stop),
)
  where
    first : small_language.first x ≡ begins in_name
    first = λ i. cond (sign i) alone (cond (hash i) (begins in_note) (begins in_name))

note_follows : (t r : List ℕ) → are_noted t ≡ true → ends_note r ≡ true → MayFollow small_language (35 ∷ t) r
note_follows t r noted ended = (refl, note_ends t r noted (stops_note r ended))

-- what begins a sign or a note ends a name
name_before : (x : ℕ) (t g u rest : List ℕ) → (x == 59) ≡ false → (x == 35) ≡ false → IsBlank g → Has (least_small (x ∷ t) u) g
    → MayFollow small_language u rest → StopsBefore small_language in_name (g ++ (u ++ rest))
name_before x t (z ∷ g) u rest sign hash blank has follows = gap_ends_name z g (u ++ rest) blank
name_before x t [] [] rest sign hash blank has follows = absurd follows
name_before x t [] (y ∷ ys) rest sign hash blank has follows =
    by (is_small_blank y) ((y == 59) || (y == 35)) refl refl
    (subst (λ (b : Bool). Has (cond b Nothing (cond (x == 35) LineEnd (cond ((y == 59) || (y == 35)) Nothing Spacing))) []) sign has)
  where
    by : (p q : Bool) → is_small_blank y ≡ p → ((y == 59) || (y == 35)) ≡ q
        → Has (cond (x == 35) LineEnd (cond ((y == 59) || (y == 35)) Nothing Spacing)) [] → turn_small in_name y (ys ++ rest) ≡ stops
    by p true e f has = ap (λ b. cond b stops (goes_on in_name)) (by_tests (is_small_blank y) (y == 59) (y == 35) f)
      where
        by_tests : (a b c : Bool) → (b || c) ≡ true → ((a || b) || c) ≡ true
        by_tests true b c e = refl
        by_tests false b c e = e
    by p false e f has =
        let none : Has Spacing [] =
        subst (λ (b : Bool). Has (cond b Nothing Spacing) []) f
        (subst (λ (b : Bool). Has (cond b LineEnd (cond ((y == 59) || (y == 35)) Nothing Spacing)) []) hash has) in
        absurd (omega arith)

pub lets_follow : (s t : List ℕ) → is_small s ≡ true → is_small t ≡ true → LetsFollow small_language s (least_small s t) t
lets_follow s t hs ht g rest blank has follows = by (small_sort s hs) (small_sort t ht)
  where
    by : SmallSort s → SmallSort t → MayFollow small_language s (g ++ (t ++ rest))
    by (a_sign e) k = subst (λ l. MayFollow small_language l (g ++ (t ++ rest))) (sym e) (refl, refl)
    by (a_note u e noted) k =
        let line : EndsLine g = note_line u e k in
        subst (λ l. MayFollow small_language l (g ++ (t ++ rest))) (sym e)
        (note_follows u (g ++ (t ++ rest)) noted (line_ends_note g (t ++ rest) blank line))
      where
        some_line : (u v : List ℕ) → Has (least_small (35 ∷ u) v) g → EndsLine g
        some_line u [] h = h
        some_line u (y ∷ ys) h = h

        note_line : (u : List ℕ) → s ≡ 35 ∷ u → SmallSort t → EndsLine g
        note_line u e k = some_line u t (subst (λ l. Has (least_small l t) g) e has)
    by (a_name x u e sign hash name letters) k =
        subst (λ l. MayFollow small_language l (g ++ (t ++ rest))) (sym e)
        (name_follows x u (g ++ (t ++ rest)) sign hash name letters
        (name_before x u g t rest sign hash blank (subst (λ l. Has (least_small l t) g) e has) follows))

pub lets_end : (s : List ℕ) → is_small s ≡ true → LetsEnd small_language s Nothing
lets_end s hs g blank has = by (small_sort s hs)
  where
    gap_end : (g : List ℕ) → IsBlank g → StopsBefore small_language in_name g
    gap_end [] blank = tt
    gap_end (x ∷ g) blank = blank_ends x g (small_passes x (first_blank (is_blank_byte x) x g refl blank).0)

    by : SmallSort s → MayFollow small_language s g
    by (a_sign e) = subst (λ l. MayFollow small_language l g) (sym e) (refl, refl)
    by (a_note u e noted) = subst (λ l. MayFollow small_language l g) (sym e) (note_follows u g noted (blanks_end_note g blank))
    by (a_name x u e sign hash name letters) =
        subst (λ l. MayFollow small_language l g) (sym e) (name_follows x u g sign hash name letters (gap_end g blank))

abbrev pub small_table : Neighbours small_language
small_table =
    record { is_whole = is_small; least = least_small; least_end = λ s. Nothing; follow = lets_follow; end = lets_end }
