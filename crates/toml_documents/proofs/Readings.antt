-- Which lexemes the grammar takes in what a layout has open, and after which gaps.
use Rattle.std.proofs.Common.{◌≡◌, refl, sym, ◌∙◌, ap, subst, ℕ, Bool, true, false, not, cond, ◌==◌, ◌&&◌, ◌||◌, List, [], ◌∷◌}
use Rattle.std.proofs.Common.{◌⊎◌, inl, inr, length, arith}
use Rattle.std.specs.Char.{is_ascii_digit}
use Rattle.std.specs.Prelude.{⊤, codes, Option, Some, None, Ok}
use Rattle.std.specs.List.{list_all, zip}
use Rattle.std.proofs.Math.Seq.{take-length}
use Rattle.std.proofs.lemmas.Bool.{and_parts, eqb-true, true≢false}
use Rattle.prettyless_model.specs.Spaces.{spaces}
use Rattle.toml_lexemes.specs.Bytes.{carriage_return, dot, ends_with_dot, ends_word, head, is_quote, is_sign}
use Rattle.toml_lexemes.specs.Shown.{IsWholeLexeme}
use Rattle.toml_lexemes.specs.SpacedLexemes.{after_toml_gap}
use Rattle.toml_lexemes.proofs.WholeLexemes.{by_sign}
use Rattle.toml_grammar.specs.Dates.{fits_form, has_form, is_clock, is_date, is_time}
use Rattle.toml_grammar.specs.GapLaws.{sees_gap}
use Rattle.toml_grammar.specs.Grammar.{Reading, innermost, is_clear, is_empty_gap, is_line_end, is_one_space, key_turn, lexeme_step}
use Rattle.toml_grammar.specs.Grammar.{sort_turn, turned, value_turn, where_so}
use Rattle.toml_grammar.specs.Keys.{key_word}
use Rattle.toml_grammar.specs.Sorts as sort
use Rattle.toml_grammar.specs.Sorts.{Sort, sort_of}
use Rattle.toml_grammar.specs.Strings.{is_key_string, is_string}
use Rattle.toml_grammar.specs.Values.{is_value}
use Rattle.toml_grammar.specs.declared.expected.Expected.{Expected}
use Rattle.toml_grammar.specs.declared.expected.Expected.TheVariants as want
use Rattle.toml_grammar.specs.declared.next.Bracket.{Bracket}
use Rattle.toml_grammar.specs.declared.next.Bracket.TheVariants as bracket
use Rattle.toml_grammar.specs.declared.next.Next.{Next}
use Rattle.toml_grammar.specs.declared.next.Next.TheVariants as next
use Rattle.toml_grammar.specs.declared.next.Owner.{Owner}
use Rattle.toml_grammar.specs.declared.next.Owner.TheVariants as owner
use Rattle.toml_grammar.specs.declared.turn.LexemeTurn.{LexemeTurn}
use Rattle.toml_grammar.specs.declared.turn.LexemeTurn.TheVariants.{Stops}
use Rattle.toml_grammar.proofs.GapLaws.{gaps_are_unseen}
use Rattle.toml_documents.specs.Gaps.{edge_gap, gap_after_comma, gap_before_part, gap_before_text, gap_on_line, line_break}
use Rattle.toml_documents.specs.Kinds.{last_after_sort, last_after_text, last_after_word}
use Rattle.toml_documents.specs.declared.gaps.Gap.TheVariants as gap
use Rattle.toml_documents.specs.declared.kind.Kind.{Kind}
use Rattle.toml_documents.specs.declared.kind.Kind.TheVariants.{Statement, Header, Table, Array, Numbers}
use Rattle.toml_documents.specs.declared.kind.Last.{Last}
use Rattle.toml_documents.specs.declared.kind.Last.TheVariants as last
use Rattle.toml_documents.proofs.AlignedAgain.{clear_spaces}
use Rattle.toml_documents.proofs.Leading.{GapLeads, Lined, LinedTwice, Spaced}
use Rattle.toml_documents.proofs.Written.{BeginsAs, EndsLine, IsGapAt, Lex, MayEnd, MaySpace, MayTouch, Place, Stands, Touch, after}
use Rattle.toml_documents.proofs.Written.{after_space, at_line, begins_as, lex_of, place, same_reading, sign, comment, string, word}

abbrev pub reading : List Bracket → Next → Reading
reading bs n = record { open_brackets = bs; next = n }

-- ---- one lexeme

-- what it does, as the sort that it is
pub turn_at : (r t : Reading) (g s : List ℕ) (k : Sort) → sort_of s ≡ k → lexeme_step r (after_toml_gap g s) ≡ Ok t
    → turned r.open_brackets (sort_turn k r.next (innermost r.open_brackets) g s) ≡ Ok t
turn_at r t g s k e h =
    let b = innermost r.open_brackets in
    clear (is_clear g (is_line_end k)) (sort_turn k r.next b g s)
    (subst (λ (q : Sort). turned r.open_brackets
    (cond (is_clear g (is_line_end q)) (sort_turn q r.next b g s) (Stops want.LineFeed)) ≡ Ok t) e h)
  where
    clear : (c : Bool) (x : LexemeTurn) → turned r.open_brackets (cond c x (Stops want.LineFeed)) ≡ Ok t → turned r.open_brackets x ≡ Ok t
    clear true x h = h
    clear false x h = absurd (cc)

pub step_at : (r t : Reading) (g s : List ℕ) (k : Sort) → sort_of s ≡ k → is_clear g (is_line_end k) ≡ true
    → turned r.open_brackets (sort_turn k r.next (innermost r.open_brackets) g s) ≡ Ok t → lexeme_step r (after_toml_gap g s) ≡ Ok t
step_at r t g s k e clear h =
    let b = innermost r.open_brackets in
    ap (λ (q : Sort). turned r.open_brackets (cond (is_clear g (is_line_end q)) (sort_turn q r.next b g s) (Stops want.LineFeed))) e
    ∙ ap (λ (c : Bool). turned r.open_brackets (cond c (sort_turn k r.next b g s) (Stops want.LineFeed))) clear ∙ h

spaces_clear : (n : ℕ) → is_clear (spaces n) false ≡ true
spaces_clear n = ap (list_all (λ x. not (x == carriage_return))) (take-length (spaces n)) ∙ clear_spaces n

pub clear_at : (u : Touch) (g : List ℕ) → IsGapAt u g → is_clear g false ≡ true
clear_at at_line g (n, e) = ap (λ (l : List ℕ). is_clear l false) e ∙ spaces_clear n
clear_at after_space g e = ap (λ (l : List ℕ). is_clear l false) e
clear_at (after l) g e = ap (λ (l : List ℕ). is_clear l false) e

-- the lexeme leads on after the gap that is there
abbrev pub StepsAt : Touch → Reading → List ℕ → Reading → Type 0
StepsAt u r s t = (g : List ℕ) → IsGapAt u g → lexeme_step r (after_toml_gap g s) ≡ Ok t

-- the lexeme may come at the place, and leads on
abbrev pub Ready : List ℕ → Reading → Place → Type 0
Ready s t c = MayTouch c.touch c.reading.next s × StepsAt c.touch c.reading s t

pub stands : (s : List ℕ) (t : Reading) (c : Place) → IsWholeLexeme s → Ready s t c → Stands c s (place (after (lex_of (sort_of s))) t)
stands s t c whole ready = record { whole = whole; touches = ready.0; step = ready.1; touch = refl }

module _ (bs : List Bracket) (n : Next) (t : Reading) (g s : List ℕ) (k : Sort) (is : sort_of s ≡ k) (plain : is_line_end k ≡ false)
    (step : lexeme_step (reading bs n) (after_toml_gap g s) ≡ Ok t) where
  clear_here : (h : List ℕ) → is_clear h false ≡ true → is_clear h (is_line_end (sort_of s)) ≡ true
  clear_here h e = ap (is_clear h) (ap is_line_end is ∙ plain) ∙ e

  pub unseen_at : sees_gap n k ≡ false → (u : Touch) → StepsAt u (reading bs n) s t
  unseen_at unseen u = λ h e.
      gaps_are_unseen (reading bs n) (after_toml_gap g s) h t (ap (sees_gap n) is ∙ unseen) (clear_here h (clear_at u h e)) step

pub empty_gap : (g : List ℕ) → is_empty_gap g ≡ true → g ≡ []
empty_gap [] e = refl
empty_gap (x ∷ g) e = absurd (omega (arith, eqb-true (length (x ∷ g)) 0 e))

one_space : (g : List ℕ) → is_one_space g ≡ true → g ≡ 32 ∷ []
one_space [] e = absurd (cc)
one_space (x ∷ []) e = ap (λ (y : ℕ). y ∷ []) (eqb-true x 32 e)
one_space (x ∷ y ∷ g) e = absurd (cc)

pub where_ok : (b : Bool) (n : Next) (e : Expected) (bs : List Bracket) (t : Reading) → turned bs (where_so b n e) ≡ Ok t
    → (b ≡ true) × (t ≡ reading bs n)
where_ok true n e bs t h = (refl, sym (same_reading h))
where_ok false n e bs t h = absurd (cc)

-- ---- what a layout has open

-- a statement; a header, and in it the inner brackets of one of an array of tables; an inline table; an array
pub data Context : Type 0 where
  statement : Context
  header : Context
  headers : Context
  table : Context
  array : Context

abbrev pub IsOf : Context → Kind → Type 0
IsOf statement Statement = ⊤
IsOf header Header = ⊤
IsOf headers Header = ⊤
IsOf table Table = ⊤
IsOf array Array = ⊤
IsOf array Numbers = ⊤
IsOf c k = ⊥

abbrev pub start : Context → Next
start statement = next.Line
start header = next.Header
start headers = next.Key owner.Tables true
start table = next.Entry
start array = next.Member

abbrev pub start_touch : Context → Touch
start_touch statement = at_line
start_touch c = after sign

abbrev pub touch_at : Context → Last → Touch
touch_at c last.Start = start_touch c
touch_at c last.Close = after sign
touch_at c last.Equals = after sign
touch_at c last.Word = after word
touch_at c last.Dot = after word
touch_at c last.String = after string
touch_at c last.Comma = after sign
touch_at c last.Comment = after comment

-- the brackets that are open
abbrev pub Within : Context → List Bracket → Type 0
Within statement bs = bs ≡ []
Within header bs = bs ≡ []
Within headers bs = bs ≡ []
Within table bs = innermost bs ≡ Some bracket.Table
Within array bs = innermost bs ≡ Some bracket.Array

-- what may come after a value
abbrev pub IsAfter : Next → Type 0
IsAfter next.After = ⊤
IsAfter next.AfterDate = ⊤
IsAfter n = ⊥

-- after a value that ends so
abbrev pub FitsValue : Last → Next → Type 0
FitsValue last.Word next.After = ⊤
FitsValue last.Word next.AfterDate = ⊤
FitsValue last.Dot next.After = ⊤
FitsValue last.String next.After = ⊤
FitsValue last.Close next.After = ⊤
FitsValue l n = ⊥

-- after a part of a key of this owner that ends so
abbrev pub FitsKey : Owner → Last → Next → Type 0
FitsKey owner.Value last.Word (next.Key owner.Value d) = ⊤
FitsKey owner.Value last.Dot (next.Key owner.Value d) = ⊤
FitsKey owner.Value last.String (next.Key owner.Value d) = ⊤
FitsKey owner.Table last.Word (next.Key owner.Table d) = ⊤
FitsKey owner.Table last.Dot (next.Key owner.Table d) = ⊤
FitsKey owner.Table last.String (next.Key owner.Table d) = ⊤
FitsKey owner.Tables last.Word (next.Key owner.Tables d) = ⊤
FitsKey owner.Tables last.Dot (next.Key owner.Tables d) = ⊤
FitsKey owner.Tables last.String (next.Key owner.Tables d) = ⊤
FitsKey o l n = ⊥

-- after a part of `key = value`
abbrev pub FitsEntry : Last → Next → Type 0
FitsEntry last.Equals n = n ≡ next.Value
FitsEntry l n = FitsKey owner.Value l n ⊎ FitsValue l n

-- what may come next after parts that end so
abbrev pub Fits : Context → Last → Next → Type 0
Fits c last.Start n = n ≡ start c
Fits statement last.Comma n = ⊥
Fits statement last.Comment n = n ≡ next.Line
Fits statement l n = FitsEntry l n
Fits header last.Close n = n ≡ next.Closing
Fits header l n = FitsKey owner.Table l n
Fits headers l n = FitsKey owner.Tables l n
Fits table l n = FitsEntry l n
Fits array l n = FitsValue l n

-- after a comma, and after comments
abbrev pub FitsComma : Context → Next → Type 0
FitsComma table n = n ≡ next.Key owner.Value true
FitsComma array n = n ≡ next.Member
FitsComma c n = ⊥

abbrev pub FitsComment : Context → Next → Type 0
FitsComment statement n = (n ≡ next.Line) ⊎ (n ≡ next.After)
FitsComment array n = (n ≡ next.Member) ⊎ (n ≡ next.After)
FitsComment c n = ⊥

-- after all of a level
abbrev pub FitsEnd : Context → Last → Next → Type 0
FitsEnd c last.Comma n = FitsComma c n
FitsEnd c last.Comment n = FitsComment c n
FitsEnd c l n = Fits c l n

-- ---- parts

abbrev pub IsPart : Sort → Type 0
IsPart sort.open_array = ⊤
IsPart sort.open_table = ⊤
IsPart sort.equals = ⊤
IsPart sort.string = ⊤
IsPart sort.word = ⊤
IsPart k = ⊥

part_plain : (k : Sort) → IsPart k → is_line_end k ≡ false
part_plain sort.open_array h = refl
part_plain sort.open_table h = refl
part_plain sort.equals h = refl
part_plain sort.string h = refl
part_plain sort.word h = refl
part_plain k h = absurd h

pub sign_ends : (x : ℕ) → is_sign x ≡ true → (ends_word x ≡ true) × (is_quote x ≡ false)
sign_ends x =
    by_sign (λ y. (ends_word y ≡ true) × (is_quote y ≡ false)) (refl, refl) (refl, refl) (refl, refl) (refl, refl) (refl, refl)
    (refl, refl) x

quote_ends : (x : ℕ) → is_quote x ≡ true → ends_word x ≡ true
quote_ends x e = go (x == 34) (x == 39) refl refl e
  where
    go : (b c : Bool) → (x == 34) ≡ b → (x == 39) ≡ c → (b || c) ≡ true → ends_word x ≡ true
    go true c p q h = subst (λ (y : ℕ). ends_word y ≡ true) (sym (eqb-true x 34 p)) refl
    go false true p q h = subst (λ (y : ℕ). ends_word y ≡ true) (sym (eqb-true x 39 q)) refl
    go false false p q h = absurd (true≢false (sym h))

letter_no_quote : (x : ℕ) → ends_word x ≡ false → is_quote x ≡ false
letter_no_quote x e = go (is_quote x) refl
  where
    go : (b : Bool) → is_quote x ≡ b → b ≡ false
    go false q = refl
    go true q = absurd (true≢false (sym (quote_ends x q) ∙ e))

both_left : (a b : Bool) → (a && b) ≡ true → a ≡ true
both_left a b e = (and_parts a b e).0

both_right : (a b : Bool) → (a && b) ≡ true → b ≡ true
both_right a b e = (and_parts a b e).1

-- no time begins with a dot, and no date ends with one
time_no_dot : (xs : List ℕ) → is_time (46 ∷ xs) ≡ true → ⊥
unfolding is_time is_clock has_form
time_no_dot xs e =
    let clock = both_left _ _ e in
    let form = both_left _ _ (both_left _ _ clock) in
    true≢false (sym (both_right _ _ form))

no_dot_digit : (x : ℕ) → is_ascii_digit x ≡ true → (x == 46) ≡ false
no_dot_digit x e = go (x == 46) refl
  where
    go : (b : Bool) → (x == 46) ≡ b → b ≡ false
    go false h = refl
    go true h = absurd (true≢false (sym e ∙ ap is_ascii_digit (eqb-true x 46 h)))

abbrev AllFit : List ℕ → List ℕ → Type 0
AllFit fs xs = list_all (λ p. fits_form p.0 p.1) (zip fs xs) ≡ true

all_fit : (f x : ℕ) (fs xs : List ℕ) → AllFit (f ∷ fs) (x ∷ xs) → AllFit fs xs
all_fit f x fs xs p = both_right (fits_form f x) (list_all (λ p. fits_form p.0 p.1) (zip fs xs)) p

last_digit : (s : List ℕ) → length s ≡ 10 → AllFit (codes "0000-00-00") s → ends_with_dot s ≡ false
last_digit (a ∷ b ∷ c ∷ d ∷ e ∷ f ∷ g ∷ h ∷ i ∷ j ∷ []) n p0 =
    let p1 = all_fit 48 a (48 ∷ 48 ∷ 48 ∷ 45 ∷ 48 ∷ 48 ∷ 45 ∷ 48 ∷ 48 ∷ []) (b ∷ c ∷ d ∷ e ∷ f ∷ g ∷ h ∷ i ∷ j ∷ []) p0 in
    let p2 = all_fit 48 b (48 ∷ 48 ∷ 45 ∷ 48 ∷ 48 ∷ 45 ∷ 48 ∷ 48 ∷ []) (c ∷ d ∷ e ∷ f ∷ g ∷ h ∷ i ∷ j ∷ []) p1 in
    let p3 = all_fit 48 c (48 ∷ 45 ∷ 48 ∷ 48 ∷ 45 ∷ 48 ∷ 48 ∷ []) (d ∷ e ∷ f ∷ g ∷ h ∷ i ∷ j ∷ []) p2 in
    let p4 = all_fit 48 d (45 ∷ 48 ∷ 48 ∷ 45 ∷ 48 ∷ 48 ∷ []) (e ∷ f ∷ g ∷ h ∷ i ∷ j ∷ []) p3 in
    let p5 = all_fit 45 e (48 ∷ 48 ∷ 45 ∷ 48 ∷ 48 ∷ []) (f ∷ g ∷ h ∷ i ∷ j ∷ []) p4 in
    let p6 = all_fit 48 f (48 ∷ 45 ∷ 48 ∷ 48 ∷ []) (g ∷ h ∷ i ∷ j ∷ []) p5 in
    let p7 = all_fit 48 g (45 ∷ 48 ∷ 48 ∷ []) (h ∷ i ∷ j ∷ []) p6 in
    let p8 = all_fit 45 h (48 ∷ 48 ∷ []) (i ∷ j ∷ []) p7 in
    let p9 = all_fit 48 i (48 ∷ []) (j ∷ []) p8 in
    no_dot_digit j (both_left (fits_form 48 j) true p9)
last_digit s n p = absurd (omega (arith, n))

date_no_dot : (s : List ℕ) → is_date s ≡ true → ends_with_dot s ≡ false
unfolding is_date has_form
date_no_dot s e = let form = both_left _ _ e in last_digit s (eqb-true (length s) 10 (both_left _ _ form)) (both_right _ _ form)

module _ (bs : List Bracket) (s g : List ℕ) (t : Reading) (k : Sort) (is : sort_of s ≡ k) (part : IsPart k) (whole : IsWholeLexeme s) where
  -- no part comes after a value
  pub after_stops : lexeme_step (reading bs next.After) (after_toml_gap g s) ≡ Ok t → ⊥
  after_stops step = by k is part (turn_at (reading bs next.After) t g s k is step)
    where
      by : (q : Sort) → sort_of s ≡ q → IsPart q → turned bs (sort_turn q next.After (innermost bs) g s) ≡ Ok t → ⊥
      by sort.open_array e p h = cc
      by sort.open_table e p h = cc
      by sort.equals e p h = cc
      by sort.string e p h = cc
      by sort.word e p h = cc
      by q e p h = absurd p

  closing_stops : lexeme_step (reading bs next.Closing) (after_toml_gap g s) ≡ Ok t → ⊥
  closing_stops step = by k is part (turn_at (reading bs next.Closing) t g s k is step)
    where
      by : (q : Sort) → sort_of s ≡ q → IsPart q → turned bs (sort_turn q next.Closing (innermost bs) g s) ≡ Ok t → ⊥
      by sort.open_array e p h = cc
      by sort.open_table e p h = cc
      by sort.equals e p h = cc
      by sort.string e p h = cc
      by sort.word e p h = cc
      by q e p h = absurd p

  letter : k ≡ sort.word → ends_word (head s) ≡ false
  letter e = subst (λ (q : Sort). BeginsAs (lex_of q) s) (is ∙ e) (begins_as s whole)

  quoted : k ≡ sort.string → is_quote (head s) ≡ true
  quoted e = subst (λ (q : Sort). BeginsAs (lex_of q) s) (is ∙ e) (begins_as s whole)

  signed : lex_of k ≡ sign → is_sign (head s) ≡ true
  signed e = subst (λ (l : Lex). BeginsAs l s) (ap lex_of is ∙ e) (begins_as s whole)

-- what may come next on the same line after parts that end so
abbrev pub OnLine : Next → Last → Type 0
OnLine (next.Key o d) last.Word = ⊤
OnLine (next.Key o d) last.Dot = ⊤
OnLine (next.Key o d) last.String = ⊤
OnLine next.After last.Word = ⊤
OnLine next.After last.Dot = ⊤
OnLine next.After last.String = ⊤
OnLine next.After last.Close = ⊤
OnLine next.AfterDate last.Word = ⊤
OnLine next.Closing last.Close = ⊤
OnLine n l = ⊥

module _ (bs : List Bracket) (s g : List ℕ) (t : Reading) (whole : IsWholeLexeme s) where
  abbrev StepOf : Next → Type 0
  StepOf n = lexeme_step (reading bs n) (after_toml_gap g s) ≡ Ok t

  turn_of : (n : Next) (k : Sort) → sort_of s ≡ k → StepOf n → turned bs (sort_turn k n (innermost bs) g s) ≡ Ok t
  turn_of n k is step = turn_at (reading bs n) t g s k is step

  -- a lexeme of this sort is ready where no gap is seen
  unseen : (n : Next) (k : Sort) → sort_of s ≡ k → is_line_end k ≡ false → sees_gap n k ≡ false → StepOf n → (u : Touch)
      → StepsAt u (reading bs n) s t
  unseen n k is plain none step u = unseen_at bs n t g s k is plain step none u

  line_key : (c : Context) (l : Last) (q : Sort) → sort_of s ≡ q → IsPart q → (o : Owner) (d dotted : Bool) → OnLine (next.Key o d) l
      → StepOf (next.Key o d) → GapLeads (gap_on_line l q dotted) (place (touch_at c l) (reading bs (next.Key o d))) (Ready s t)
  line_key c last.Word sort.equals is part o d dotted on step = (tt, (tt, unseen (next.Key o d) sort.equals is refl refl step after_space))
  line_key c last.Dot sort.equals is part o d dotted on step = (tt, (tt, unseen (next.Key o d) sort.equals is refl refl step after_space))
  line_key c last.String sort.equals is part o d dotted on step =
      (tt, (tt, unseen (next.Key o d) sort.equals is refl refl step after_space))
  line_key c last.Word sort.word is part o d true on step =
      (inr (tt, letter bs s g t sort.word is tt whole refl), unseen (next.Key o d) sort.word is refl refl step (after word))
  line_key c last.Word sort.word is part o d false on step = (tt, (tt, unseen (next.Key o d) sort.word is refl refl step after_space))
  line_key c last.Dot sort.word is part o d dotted on step =
      (inr (tt, letter bs s g t sort.word is tt whole refl), unseen (next.Key o d) sort.word is refl refl step (after word))
  line_key c last.String sort.word is part o d dotted on step = (
    letter_no_quote (head s) (letter bs s g t sort.word is tt whole refl),
    unseen (next.Key o d) sort.word is refl refl step
        (after string),
  )
  line_key c last.Word sort.string is part o d dotted on step = (
    inl (quote_ends (head s) (quoted bs s g t sort.string is tt whole refl)),
    unseen (next.Key o d) sort.string is refl refl step
        (after word),
  )
  line_key c last.Dot sort.string is part o d dotted on step = (
    inl (quote_ends (head s) (quoted bs s g t sort.string is tt whole refl)),
    unseen (next.Key o d) sort.string is refl refl step
        (after word),
  )
  line_key c last.String sort.string is part o d dotted on step =
      (tt, (tt, unseen (next.Key o d) sort.string is refl refl step after_space))
  line_key c l sort.open_array is part o d dotted on step = let clash = turn_of (next.Key o d) sort.open_array is step in absurd (cc)
  line_key c l sort.open_table is part o d dotted on step = let clash = turn_of (next.Key o d) sort.open_table is step in absurd (cc)
  line_key c l q is part o d dotted on step = absurd assumption

  line_date : (c : Context) (q : Sort) → sort_of s ≡ q → IsPart q → (dotted : Bool) → (head s == 46) ≡ dotted → StepOf next.AfterDate
      → GapLeads (gap_on_line last.Word q dotted) (place (touch_at c last.Word) (reading bs next.AfterDate)) (Ready s t)
  line_date c sort.word is part true dotted step =
      let so = where_ok (is_one_space g && is_time s) next.After _ bs t (turn_of next.AfterDate sort.word is step) in
      absurd (begins_dot s (eqb-true (head s) 46 dotted) (both_right (is_one_space g) (is_time s) so.0))
    where
      begins_dot : (s : List ℕ) → head s ≡ 46 → is_time s ≡ true → ⊥
      begins_dot [] e h = absurd (omega (arith, e))
      begins_dot (x ∷ s) e h = time_no_dot s (subst (λ (y : ℕ). is_time (y ∷ s) ≡ true) e h)
  line_date c sort.word is part false dotted step =
      let so = where_ok (is_one_space g && is_time s) next.After _ bs t (turn_of next.AfterDate sort.word is step) in (
        tt,
        (
          tt,
          λ h e. subst (λ (l : List ℕ). lexeme_step (reading bs next.AfterDate) (after_toml_gap l s) ≡ Ok t)
              (one_space g (both_left (is_one_space g) (is_time s) so.0) ∙ sym e) step,
        ),
      )
  line_date c sort.equals is part dotted e step = let clash = turn_of next.AfterDate sort.equals is step in absurd (cc)
  line_date c sort.string is part dotted e step = let clash = turn_of next.AfterDate sort.string is step in absurd (cc)
  line_date c sort.open_array is part dotted e step = let clash = turn_of next.AfterDate sort.open_array is step in absurd (cc)
  line_date c sort.open_table is part dotted e step = let clash = turn_of next.AfterDate sort.open_table is step in absurd (cc)
  line_date c q is part dotted e step = absurd part

  on_line : (c : Context) (l : Last) (n : Next) (k : Sort) → sort_of s ≡ k → IsPart k → OnLine n l → StepOf n
      → GapLeads (gap_on_line l k (head s == dot)) (place (touch_at c l) (reading bs n)) (Ready s t)
  on_line c l (next.Key o d) k is part on step = line_key c l k is part o d (head s == dot) on step
  on_line c last.Word next.AfterDate k is part on step = line_date c k is part (head s == dot) refl step
  on_line c l next.After k is part on step = absurd (after_stops bs s g t k is part whole step)
  on_line c l next.Closing k is part on step = absurd (closing_stops bs s g t k is part whole step)
  on_line c l n k is part on step = absurd on

-- ---- after any gap that a layout has

key_on_line : (o : Owner) (l : Last) (n : Next) → FitsKey o l n → OnLine n l
key_on_line owner.Value last.Word (next.Key owner.Value d) h = tt
key_on_line owner.Value last.Dot (next.Key owner.Value d) h = tt
key_on_line owner.Value last.String (next.Key owner.Value d) h = tt
key_on_line owner.Table last.Word (next.Key owner.Table d) h = tt
key_on_line owner.Table last.Dot (next.Key owner.Table d) h = tt
key_on_line owner.Table last.String (next.Key owner.Table d) h = tt
key_on_line owner.Tables last.Word (next.Key owner.Tables d) h = tt
key_on_line owner.Tables last.Dot (next.Key owner.Tables d) h = tt
key_on_line owner.Tables last.String (next.Key owner.Tables d) h = tt
key_on_line o l n h = absurd h

value_on_line : (l : Last) (n : Next) → FitsValue l n → OnLine n l
value_on_line last.Word next.After h = tt
value_on_line last.Word next.AfterDate h = tt
value_on_line last.Dot next.After h = tt
value_on_line last.String next.After h = tt
value_on_line last.Close next.After h = tt
value_on_line l n h = absurd h

either_on_line : (l : Last) (n : Next) → FitsKey owner.Value l n ⊎ FitsValue l n → OnLine n l
either_on_line l n (inl h) = key_on_line owner.Value l n h
either_on_line l n (inr h) = value_on_line l n h

-- what ends so is followed on the same line
abbrev pub IsOnLine : Last → Type 0
IsOnLine last.Close = ⊤
IsOnLine last.Word = ⊤
IsOnLine last.Dot = ⊤
IsOnLine last.String = ⊤
IsOnLine l = ⊥

fits_on_line : (c : Context) (l : Last) (n : Next) → IsOnLine l → FitsEnd c l n → OnLine n l
fits_on_line statement last.Close n on h = either_on_line last.Close n h
fits_on_line statement last.Word n on h = either_on_line last.Word n h
fits_on_line statement last.Dot n on h = either_on_line last.Dot n h
fits_on_line statement last.String n on h = either_on_line last.String n h
fits_on_line table last.Close n on h = either_on_line last.Close n h
fits_on_line table last.Word n on h = either_on_line last.Word n h
fits_on_line table last.Dot n on h = either_on_line last.Dot n h
fits_on_line table last.String n on h = either_on_line last.String n h
fits_on_line array last.Close n on h = value_on_line last.Close n h
fits_on_line array last.Word n on h = value_on_line last.Word n h
fits_on_line array last.Dot n on h = value_on_line last.Dot n h
fits_on_line array last.String n on h = value_on_line last.String n h
fits_on_line header last.Close n on h = subst (λ (m : Next). OnLine m last.Close) (sym h) tt
fits_on_line header last.Word n on h = key_on_line owner.Table last.Word n h
fits_on_line header last.Dot n on h = key_on_line owner.Table last.Dot n h
fits_on_line header last.String n on h = key_on_line owner.Table last.String n h
fits_on_line headers last.Close n on h = key_on_line owner.Tables last.Close n h
fits_on_line headers last.Word n on h = key_on_line owner.Tables last.Word n h
fits_on_line headers last.Dot n on h = key_on_line owner.Tables last.Dot n h
fits_on_line headers last.String n on h = key_on_line owner.Tables last.String n h
fits_on_line c l n on h = absurd on

value_of_equals : (c : Context) (n : Next) → FitsEnd c last.Equals n → n ≡ next.Value
value_of_equals statement n h = h
value_of_equals table n h = h
value_of_equals header n h = absurd h
value_of_equals headers n h = absurd h
value_of_equals array n h = absurd h

line_unseen : (k : Sort) → sees_gap next.Line k ≡ false
line_unseen sort.word = refl
line_unseen k = refl

member_unseen : (k : Sort) → sees_gap next.Member k ≡ false
member_unseen sort.word = refl
member_unseen k = refl

entry_unseen : (k : Sort) → sees_gap next.Entry k ≡ false
entry_unseen sort.word = refl
entry_unseen k = refl

value_unseen : (k : Sort) → sees_gap next.Value k ≡ false
value_unseen sort.word = refl
value_unseen k = refl

key_unseen : (o : Owner) (d : Bool) (k : Sort) → sees_gap (next.Key o d) k ≡ false
key_unseen o d sort.word = refl
key_unseen o d k = refl

module _ (bs : List Bracket) (s g : List ℕ) (t : Reading) (whole : IsWholeLexeme s) (k : Sort) (is : sort_of s ≡ k) (part : IsPart k) where
  abbrev Step : Next → Type 0
  Step n = lexeme_step (reading bs n) (after_toml_gap g s) ≡ Ok t

  plainly : (n : Next) → sees_gap n k ≡ false → Step n → (u : Touch) → StepsAt u (reading bs n) s t
  plainly n none step u = unseen_at bs n t g s k is (part_plain k part) step none u

  in_header : (q : Sort) → sort_of s ≡ q → IsPart q → Step next.Header → StepsAt (after sign) (reading bs next.Header) s t
  in_header sort.open_array e p step = λ h none.
      let so =
      where_ok (is_empty_gap g) (next.Key owner.Tables true) _ bs t (turn_at (reading bs next.Header) t g s sort.open_array e step) in
      subst (λ (l : List ℕ). lexeme_step (reading bs next.Header) (after_toml_gap l s) ≡ Ok t) (empty_gap g so.0 ∙ sym none) step
  in_header sort.open_table e p step = unseen_at bs next.Header t g s sort.open_table e refl step refl (after sign)
  in_header sort.equals e p step = unseen_at bs next.Header t g s sort.equals e refl step refl (after sign)
  in_header sort.string e p step = unseen_at bs next.Header t g s sort.string e refl step refl (after sign)
  in_header sort.word e p step = unseen_at bs next.Header t g s sort.word e refl step refl (after sign)
  in_header q e p step = absurd p

  -- at the edge of an array
  array_edge : (u : Touch) → MayEnd u → MayTouch u next.Member s → Step next.Member
      → Lined (place u (reading bs next.Member)) (Ready s t) × Ready s t (place u (reading bs next.Member))
  array_edge u may touch step =
      let steps = plainly next.Member (member_unseen k) step in
      ((reading bs next.Member, may, refl, (tt, steps at_line)), (touch, steps u))

  start_ready : (c : Context) (kind : Kind) → IsOf c kind → Step (start c)
      → GapLeads (edge_gap kind) (place (start_touch c) (reading bs (start c))) (Ready s t)
  start_ready statement Statement of step = (tt, plainly next.Line (line_unseen k) step at_line)
  start_ready header Header of step = (tt, in_header k is part step)
  start_ready headers Header of step = (tt, plainly (next.Key owner.Tables true) (key_unseen owner.Tables true k) step (after sign))
  start_ready table Table of step = (tt, (tt, plainly next.Entry (entry_unseen k) step after_space))
  start_ready array Array of step = array_edge (after sign) tt tt step
  start_ready array Numbers of step = array_edge (after sign) tt tt step
  start_ready c kind of step = absurd of

  -- after a line end, one or two, in an array
  line_ready : (n : Next) → EndsLine (reading bs n) (reading bs n) → sees_gap n k ≡ false → (u : Touch) → MayEnd u → Step n
      → Lined (place u (reading bs n)) (Ready s t)
  line_ready n ends none u may step = (reading bs n, may, ends, (tt, plainly n none step at_line))

  lines_ready : (n : Next) → EndsLine (reading bs n) (reading bs n) → sees_gap n k ≡ false → (u : Touch) → MayEnd u → Step n
      → LinedTwice (place u (reading bs n)) (Ready s t)
  lines_ready n ends none u may step = (reading bs n, may, ends, line_ready n ends none at_line tt step)

  break_ready : (n : Next) → EndsLine (reading bs n) (reading bs n) → sees_gap n k ≡ false → (u : Touch) → MayEnd u → Step n
      → (blank : Bool)
      → GapLeads (line_break blank) (place u (reading bs n)) (Ready s t)
  break_ready n ends none u may step true = lines_ready n ends none u may step
  break_ready n ends none u may step false = line_ready n ends none u may step

  member_line : (step : Step next.Member) (u : Touch) → MaySpace u → Spaced (place u (reading bs next.Member)) (Ready s t)
  member_line step u may = (may, (tt, plainly next.Member (member_unseen k) step after_space))

  comma_ready : (c : Context) (kind : Kind) → IsOf c kind → (n : Next) → FitsComma c n → (blank : Bool) → Step n
      → GapLeads (gap_after_comma kind blank) (place (after sign) (reading bs n)) (Ready s t)
  comma_ready table Table of n e blank step =
      subst (λ (m : Next). Step m → GapLeads gap.Space (place (after sign) (reading bs m)) (Ready s t)) (sym e)
      (λ st. (tt, (tt, plainly (next.Key owner.Value true) (key_unseen owner.Value true k) st after_space))) step
  comma_ready array Array of n e true step =
      subst (λ (m : Next). Step m → GapLeads gap.BlankLine (place (after sign) (reading bs m)) (Ready s t)) (sym e)
      (λ st. (lines_ready next.Member refl (member_unseen k) (after sign) tt st, member_line st (after sign) tt)) step
  comma_ready array Array of n e false step =
      subst (λ (m : Next). Step m → GapLeads gap.Line (place (after sign) (reading bs m)) (Ready s t)) (sym e)
      (λ st. (line_ready next.Member refl (member_unseen k) (after sign) tt st, member_line st (after sign) tt)) step
  comma_ready array Numbers of n e true step =
      subst (λ (m : Next). Step m → GapLeads gap.BlankLine (place (after sign) (reading bs m)) (Ready s t)) (sym e)
      (λ st. (lines_ready next.Member refl (member_unseen k) (after sign) tt st, member_line st (after sign) tt)) step
  comma_ready array Numbers of n e false step =
      subst (λ (m : Next). Step m → GapLeads gap.Fill (place (after sign) (reading bs m)) (Ready s t)) (sym e)
      (λ st. (line_ready next.Member refl (member_unseen k) (after sign) tt st, member_line st (after sign) tt)) step
  comma_ready c kind of n e blank step = absurd assumption

  comment_ready : (c : Context) (n : Next) → FitsComment c n → (blank : Bool) → Step n
      → GapLeads (line_break blank) (place (after comment) (reading bs n)) (Ready s t)
  comment_ready statement n (inl e) blank step =
      subst (λ (m : Next). Step m → GapLeads (line_break blank) (place (after comment) (reading bs m)) (Ready s t)) (sym e)
      (λ st. break_ready next.Line refl (line_unseen k) (after comment) tt st blank) step
  comment_ready statement n (inr e) blank step = absurd (after_stops bs s g t k is part whole (subst Step e step))
  comment_ready array n (inl e) blank step =
      subst (λ (m : Next). Step m → GapLeads (line_break blank) (place (after comment) (reading bs m)) (Ready s t)) (sym e)
      (λ st. break_ready next.Member refl (member_unseen k) (after comment) tt st blank) step
  comment_ready array n (inr e) blank step = absurd (after_stops bs s g t k is part whole (subst Step e step))
  comment_ready c n e blank step = absurd e

  gap_ready : (c : Context) (kind : Kind) → IsOf c kind → (l : Last) (n : Next) → FitsEnd c l n → (blank : Bool) → Step n
      → GapLeads (gap_before_part kind l k (head s == dot) blank) (place (touch_at c l) (reading bs n)) (Ready s t)
  gap_ready c kind of last.Start n e blank step =
      subst (λ (m : Next). Step m → GapLeads (edge_gap kind) (place (start_touch c) (reading bs m)) (Ready s t)) (sym e)
      (start_ready c kind of) step
  gap_ready c kind of last.Comma n e blank step = comma_ready c kind of n e blank step
  gap_ready c kind of last.Comment n e blank step = comment_ready c n e blank step
  gap_ready c kind of last.Equals n e blank step =
      subst (λ (m : Next). Step m → GapLeads gap.Space (place (after sign) (reading bs m)) (Ready s t)) (sym (value_of_equals c n e))
      (λ st. (tt, (tt, plainly next.Value (value_unseen k) st after_space))) step
  gap_ready c kind of last.Close n e blank step = on_line bs s g t whole c last.Close n k is part (fits_on_line c last.Close n tt e) step
  gap_ready c kind of last.Word n e blank step = on_line bs s g t whole c last.Word n k is part (fits_on_line c last.Word n tt e) step
  gap_ready c kind of last.Dot n e blank step = on_line bs s g t whole c last.Dot n k is part (fits_on_line c last.Dot n tt e) step
  gap_ready c kind of last.String n e blank step = on_line bs s g t whole c last.String n k is part (fits_on_line c last.String n tt e) step

-- a part that may come next may stand after the gap that a layout has before it
pub part_ready : (bs : List Bracket) (s g : List ℕ) (t : Reading) → IsWholeLexeme s → IsPart (sort_of s) → (c : Context) (kind : Kind)
    → IsOf c kind → (l : Last) (n : Next) → FitsEnd c l n → (blank : Bool) → lexeme_step (reading bs n) (after_toml_gap g s) ≡ Ok t
    → GapLeads (gap_before_text kind l s blank) (place (touch_at c l) (reading bs n)) (Ready s t)
part_ready bs s g t whole part c kind of l n e blank step =
    gap_ready bs s g t whole (sort_of s) refl part c kind of l n e blank step

-- ---- where a part leads

-- what may come next in what is open
abbrev pub In : Context → Next → Type 0
In statement next.Line = ⊤
In statement (next.Key owner.Value d) = ⊤
In statement next.Value = ⊤
In statement next.After = ⊤
In statement next.AfterDate = ⊤
In header next.Header = ⊤
In header (next.Key owner.Table d) = ⊤
In header next.Closing = ⊤
In headers (next.Key owner.Tables d) = ⊤
In table next.Entry = ⊤
In table (next.Key owner.Value d) = ⊤
In table next.Value = ⊤
In table next.After = ⊤
In table next.AfterDate = ⊤
In array next.Member = ⊤
In array next.After = ⊤
In array next.AfterDate = ⊤
In c n = ⊥

key_is : (o : Owner) (l : Last) (n : Next) → FitsKey o l n → (d : Bool) × (n ≡ next.Key o d)
key_is owner.Value last.Word (next.Key owner.Value d) h = (d, refl)
key_is owner.Value last.Dot (next.Key owner.Value d) h = (d, refl)
key_is owner.Value last.String (next.Key owner.Value d) h = (d, refl)
key_is owner.Table last.Word (next.Key owner.Table d) h = (d, refl)
key_is owner.Table last.Dot (next.Key owner.Table d) h = (d, refl)
key_is owner.Table last.String (next.Key owner.Table d) h = (d, refl)
key_is owner.Tables last.Word (next.Key owner.Tables d) h = (d, refl)
key_is owner.Tables last.Dot (next.Key owner.Tables d) h = (d, refl)
key_is owner.Tables last.String (next.Key owner.Tables d) h = (d, refl)
key_is o l n h = absurd h

pub value_is : (l : Last) (n : Next) → FitsValue l n → IsAfter n
value_is last.Word next.After h = tt
value_is last.Word next.AfterDate h = tt
value_is last.Dot next.After h = tt
value_is last.String next.After h = tt
value_is last.Close next.After h = tt
value_is l n h = absurd h

in_as : (c : Context) (m n : Next) → n ≡ m → In c m → In c n
in_as c m n e h = subst (In c) (sym e) h

after_in : (c : Context) (n : Next) → IsAfter n → In c next.After → In c next.AfterDate → In c n
after_in c next.After e h k = h
after_in c next.AfterDate e h k = k
after_in c n e h k = absurd e

in_entry : (c : Context) (l : Last) (n : Next) → ((d : Bool) → In c (next.Key owner.Value d)) → In c next.After → In c next.AfterDate
    → FitsKey owner.Value l n ⊎ FitsValue l n → In c n
in_entry c l n keys a b (inl h) = let k = key_is owner.Value l n h in in_as c (next.Key owner.Value k.0) n k.1 (keys k.0)
in_entry c l n keys a b (inr h) = after_in c n (value_is l n h) a b

in_key : (c : Context) (o : Owner) (l : Last) (n : Next) → ((d : Bool) → In c (next.Key o d)) → FitsKey o l n → In c n
in_key c o l n keys h = let k = key_is o l n h in in_as c (next.Key o k.0) n k.1 (keys k.0)

pub in_fits : (c : Context) (l : Last) (n : Next) → FitsEnd c l n → In c n
in_fits statement last.Start n h = in_as statement next.Line n h tt
in_fits header last.Start n h = in_as header next.Header n h tt
in_fits headers last.Start n h = in_as headers (next.Key owner.Tables true) n h tt
in_fits table last.Start n h = in_as table next.Entry n h tt
in_fits array last.Start n h = in_as array next.Member n h tt
in_fits statement last.Comma n h = absurd h
in_fits header last.Comma n h = absurd h
in_fits headers last.Comma n h = absurd h
in_fits table last.Comma n h = in_as table (next.Key owner.Value true) n h tt
in_fits array last.Comma n h = in_as array next.Member n h tt
in_fits statement last.Comment n (inl h) = in_as statement next.Line n h tt
in_fits statement last.Comment n (inr h) = in_as statement next.After n h tt
in_fits array last.Comment n (inl h) = in_as array next.Member n h tt
in_fits array last.Comment n (inr h) = in_as array next.After n h tt
in_fits header last.Comment n h = absurd h
in_fits headers last.Comment n h = absurd h
in_fits table last.Comment n h = absurd h
in_fits statement last.Equals n h = in_as statement next.Value n h tt
in_fits table last.Equals n h = in_as table next.Value n h tt
in_fits statement l n h = in_entry statement l n (λ d. tt) tt tt h
in_fits table l n h = in_entry table l n (λ d. tt) tt tt h
in_fits array l n h = after_in array n (value_is l n h) tt tt
in_fits header last.Close n h = in_as header next.Closing n h tt
in_fits header l n h = in_key header owner.Table l n (λ d. tt) h
in_fits headers l n h = in_key headers owner.Tables l n (λ d. tt) h

-- where a lexeme leads, which ends so
abbrev pub LeadsTo : Context → List Bracket → Reading → Last → Type 0
LeadsTo c bs t l = (n : Next) × (t ≡ reading bs n) × Fits c l n

module _ (bs : List Bracket) (s g : List ℕ) (t : Reading) where
  key_leads : (c : Context) (o : Owner) (b : Bool) (k : Option Bool) (e : Expected)
      → ((d : Bool) → Fits c (last_after_word b) (next.Key o d))
      → turned bs (key_turn o k e) ≡ Ok t → LeadsTo c bs t (last_after_word b)
  key_leads c o b None e fits h = absurd (cc)
  key_leads c o b (Some d) e fits h = (next.Key o d, sym (same_reading h), fits d)

  entry_key : (c : Context) (b : Bool) → ((l : Last) (n : Next) → IsOnLine l → FitsKey owner.Value l n → Fits c l n) → (d : Bool)
      → Fits c (last_after_word b) (next.Key owner.Value d)
  entry_key c true f d = f last.Dot (next.Key owner.Value d) tt tt
  entry_key c false f d = f last.Word (next.Key owner.Value d) tt tt

  statement_fits : (l : Last) (n : Next) → IsOnLine l → FitsKey owner.Value l n ⊎ FitsValue l n → Fits statement l n
  statement_fits last.Close n on h = h
  statement_fits last.Word n on h = h
  statement_fits last.Dot n on h = h
  statement_fits last.String n on h = h
  statement_fits l n on h = absurd on

  table_fits : (l : Last) (n : Next) → IsOnLine l → FitsKey owner.Value l n ⊎ FitsValue l n → Fits table l n
  table_fits last.Close n on h = h
  table_fits last.Word n on h = h
  table_fits last.Dot n on h = h
  table_fits last.String n on h = h
  table_fits l n on h = absurd on

  array_fits : (l : Last) (n : Next) → IsOnLine l → FitsValue l n → Fits array l n
  array_fits last.Close n on h = h
  array_fits last.Word n on h = h
  array_fits last.Dot n on h = h
  array_fits last.String n on h = h
  array_fits l n on h = absurd on

  header_fits : (b d : Bool) → Fits header (last_after_word b) (next.Key owner.Table d)
  header_fits true d = tt
  header_fits false d = tt

  headers_fits : (b d : Bool) → Fits headers (last_after_word b) (next.Key owner.Tables d)
  headers_fits true d = tt
  headers_fits false d = tt

  -- a word in place of a value
  value_leads : (c : Context) (b : Bool) (e : Expected) → ends_with_dot s ≡ b
      → ((l : Last) (n : Next) → IsOnLine l → FitsValue l n → Fits c l n) → turned bs (value_turn s e) ≡ Ok t
      → LeadsTo c bs t (last_after_word b)
  value_leads c b e dotted fits h = by (is_date s) refl b dotted
      (where_ok (is_value s) (cond (is_date s) next.AfterDate next.After) e bs t h).1
    where
      by : (d : Bool) → is_date s ≡ d → (b : Bool) → ends_with_dot s ≡ b → t ≡ reading bs (cond d next.AfterDate next.After)
          → LeadsTo c bs t (last_after_word b)
      by true is true e h = absurd (true≢false (sym e ∙ date_no_dot s is))
      by true is false e h = (next.AfterDate, h, fits last.Word next.AfterDate tt tt)
      by false is true e h = (next.After, h, fits last.Dot next.After tt tt)
      by false is false e h = (next.After, h, fits last.Word next.After tt tt)

  time_leads : (c : Context) (b ok : Bool) (e : Expected) → ((l : Last) (n : Next) → IsOnLine l → FitsValue l n → Fits c l n)
      → turned bs (where_so ok next.After e) ≡ Ok t → LeadsTo c bs t (last_after_word b)
  time_leads c true ok e fits h = (next.After, (where_ok ok next.After e bs t h).1, fits last.Dot next.After tt tt)
  time_leads c false ok e fits h = (next.After, (where_ok ok next.After e bs t h).1, fits last.Word next.After tt tt)

  word_leads : (c : Context) (n : Next) → In c n → turned bs (sort_turn sort.word n (innermost bs) g s) ≡ Ok t
      → LeadsTo c bs t (last_after_word (ends_with_dot s))
  word_leads statement next.Line i h =
      key_leads statement owner.Value _ (key_word true s) _ (entry_key statement _ (λ l n on f. statement_fits l n on (inl f))) h
  word_leads statement (next.Key owner.Value d) i h =
      key_leads statement owner.Value _ (key_word d s) _ (entry_key statement _ (λ l n on f. statement_fits l n on (inl f))) h
  word_leads statement next.Value i h = value_leads statement _ _ refl (λ l n on f. statement_fits l n on (inr f)) h
  word_leads statement next.AfterDate i h = time_leads statement _ _ _ (λ l n on f. statement_fits l n on (inr f)) h
  word_leads table next.Entry i h =
      key_leads table owner.Value _ (key_word true s) _ (entry_key table _ (λ l n on f. table_fits l n on (inl f))) h
  word_leads table (next.Key owner.Value d) i h =
      key_leads table owner.Value _ (key_word d s) _ (entry_key table _ (λ l n on f. table_fits l n on (inl f))) h
  word_leads table next.Value i h = value_leads table _ _ refl (λ l n on f. table_fits l n on (inr f)) h
  word_leads table next.AfterDate i h = time_leads table _ _ _ (λ l n on f. table_fits l n on (inr f)) h
  word_leads array next.Member i h = value_leads array _ _ refl array_fits h
  word_leads array next.AfterDate i h = time_leads array _ _ _ array_fits h
  word_leads header next.Header i h = key_leads header owner.Table _ (key_word true s) _ (header_fits _) h
  word_leads header (next.Key owner.Table d) i h = key_leads header owner.Table _ (key_word d s) _ (header_fits _) h
  word_leads headers (next.Key owner.Tables d) i h = key_leads headers owner.Tables _ (key_word d s) _ (headers_fits _) h
  word_leads c next.After i h = absurd (cc)
  word_leads c next.Closing i h = absurd (cc)
  word_leads c n i h = absurd i

  string_leads : (c : Context) (n : Next) → In c n → turned bs (sort_turn sort.string n (innermost bs) g s) ≡ Ok t
      → LeadsTo c bs t last.String
  string_leads statement next.Line i h = (next.Key owner.Value false, (where_ok (is_key_string s) _ _ bs t h).1, inl tt)
  string_leads statement (next.Key owner.Value true) i h = (next.Key owner.Value false, (where_ok (is_key_string s) _ _ bs t h).1, inl tt)
  string_leads statement (next.Key owner.Value false) i h = absurd (cc)
  string_leads statement next.Value i h = (next.After, (where_ok (is_string s) _ _ bs t h).1, inr tt)
  string_leads table next.Entry i h = (next.Key owner.Value false, (where_ok (is_key_string s) _ _ bs t h).1, inl tt)
  string_leads table (next.Key owner.Value true) i h = (next.Key owner.Value false, (where_ok (is_key_string s) _ _ bs t h).1, inl tt)
  string_leads table (next.Key owner.Value false) i h = absurd (cc)
  string_leads table next.Value i h = (next.After, (where_ok (is_string s) _ _ bs t h).1, inr tt)
  string_leads array next.Member i h = (next.After, (where_ok (is_string s) _ _ bs t h).1, tt)
  string_leads header next.Header i h = (next.Key owner.Table false, (where_ok (is_key_string s) _ _ bs t h).1, tt)
  string_leads header (next.Key owner.Table true) i h = (next.Key owner.Table false, (where_ok (is_key_string s) _ _ bs t h).1, tt)
  string_leads header (next.Key owner.Table false) i h = absurd (cc)
  string_leads headers (next.Key owner.Tables true) i h = (next.Key owner.Tables false, (where_ok (is_key_string s) _ _ bs t h).1, tt)
  string_leads headers (next.Key owner.Tables false) i h = absurd (cc)
  string_leads c next.After i h = absurd (cc)
  string_leads c next.AfterDate i h = absurd (cc)
  string_leads c next.Closing i h = absurd (cc)
  string_leads c n i h = absurd i

  equals_leads : (c : Context) (n : Next) → In c n → turned bs (sort_turn sort.equals n (innermost bs) g s) ≡ Ok t
      → LeadsTo c bs t last.Equals
  equals_leads statement (next.Key owner.Value false) i h = (next.Value, sym (same_reading h), refl)
  equals_leads table (next.Key owner.Value false) i h = (next.Value, sym (same_reading h), refl)
  equals_leads c (next.Key owner.Value true) i h = absurd (cc)
  equals_leads c (next.Key owner.Table d) i h = absurd (cc)
  equals_leads c (next.Key owner.Tables d) i h = absurd (cc)
  equals_leads c next.Line i h = absurd (cc)
  equals_leads c next.Header i h = absurd (cc)
  equals_leads c next.Closing i h = absurd (cc)
  equals_leads c next.Value i h = absurd (cc)
  equals_leads c next.Member i h = absurd (cc)
  equals_leads c next.Entry i h = absurd (cc)
  equals_leads c next.After i h = absurd (cc)
  equals_leads c next.AfterDate i h = absurd (cc)
  equals_leads c n i h = absurd i

-- a part that is one lexeme
abbrev pub IsOne : Sort → Type 0
IsOne sort.equals = ⊤
IsOne sort.string = ⊤
IsOne sort.word = ⊤
IsOne k = ⊥

pub one_leads : (bs : List Bracket) (s g : List ℕ) (t : Reading) (c : Context) (l : Last) (n : Next) (k : Sort) → sort_of s ≡ k → IsOne k
    → FitsEnd c l n → lexeme_step (reading bs n) (after_toml_gap g s) ≡ Ok t → LeadsTo c bs t (last_after_text s)
one_leads bs s g t c l n sort.equals is one e step =
    subst (λ (q : Sort). LeadsTo c bs t (last_after_sort q (ends_with_dot s))) (sym is)
    (equals_leads bs s g t c n (in_fits c l n e) (turn_at (reading bs n) t g s sort.equals is step))
one_leads bs s g t c l n sort.string is one e step =
    subst (λ (q : Sort). LeadsTo c bs t (last_after_sort q (ends_with_dot s))) (sym is)
    (string_leads bs s g t c n (in_fits c l n e) (turn_at (reading bs n) t g s sort.string is step))
one_leads bs s g t c l n sort.word is one e step =
    subst (λ (q : Sort). LeadsTo c bs t (last_after_sort q (ends_with_dot s))) (sym is)
    (word_leads bs s g t c n (in_fits c l n e) (turn_at (reading bs n) t g s sort.word is step))
one_leads bs s g t c l n k is one e step = absurd one
