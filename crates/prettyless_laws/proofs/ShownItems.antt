-- What the document of each call shows. For each call there is one lemma, `CALL_shows`: what the call makes of documents shows
-- items made of theirs.
use Rattle.std.proofs.Common.{◌≡◌, refl, sym, ◌∙◌, ap, subst, arith, ℕ, zero, ◌<◌, length, ℤ, pos, List, [], ◌∷◌, ◌++◌, map, append_assoc}
use Rattle.std.proofs.Common.{append-nil, inl, inr, Bool, true, false, if◌then◌else◌}
use Rattle.std.specs.List.{AllZip, fold}
use Rattle.prettyless_model.specs.Metrics.{is_ascii}
use Rattle.prettyless_model.specs.Shows.{Reach, SameLine, AnyLine, Least, Spacing, LineEnd, Item, Shown, Gap}
use Rattle.prettyless_model.specs.Shows.{Mark, Late, spaced, apart, ended, loose, Implies, NoneIsLate, TextShows, EitherShows}
use Rattle.prettyless_model.specs.Shows.{shows, texts, AreFixed, HasTexts, Place, at_start, after_text, with_gap, ShowsFrom}
use Rattle.prettyless_model.specs.declared.choice.ColumnTest.{ColumnTest}
use Rattle.prettyless_model.specs.declared.choice.NestingTest.{NestingTest}
use Rattle.prettyless_trees.specs.Counted as counted
use Rattle.prettyless_trees.specs.Lines.{line, line_, space}
use Rattle.prettyless_model.specs.Tree.{Tree, Nil, Text, TextWithLen, MultilineText, WeakSpace, HardLine, WeakLine, LineSuffix}
use Rattle.prettyless_model.specs.Tree.{DedentToRoot, Align, Flatten, BreakOrFlat, Group, Union, PartialUnion, OnColumn, OnNesting}
use Rattle.prettyless_trees.specs.Built.{align, append, append_to, between, dedent_to_root, enclose, flatten, group, nest, nest_by}
use Rattle.prettyless_trees.specs.Built.{softline, softline_}
use Rattle.prettyless_trees.specs.Lists.{change_all_but_last}
use Rattle.prettyless_laws.specs.Shown.{text_items, after_gaps, with_gaps, in_lines, TextsShow, SeparatedShow, PunctuatedShow}
use Rattle.prettyless_laws.specs.Shown.{BracketedShow, MarksStandInGaps}
use Rattle.prettyless_laws.specs.SpacedItems.{IsSpacedFrom, FixedAreSpaced}
use Rattle.prettyless_trees.specs.Words.{intersperse}

-- ---- texts

counted_shows : (by_bytes : Bool) (w : ℕ) (s : List ℕ) (items : List Item) → TextShows s items
    → shows (if by_bytes then Text s else TextWithLen w s) items
counted_shows true w s items h = h
counted_shows false w s items h = h

itself : (s : List ℕ) → TextShows s (text_items s)
itself [] = refl
itself (b ∷ bs) = inl refl

pub as_string_shows : (s : List ℕ) → shows (counted.as_string s) (text_items s)
as_string_shows s = counted_shows (is_ascii s) _ s (text_items s) (itself s)

pub text_shows : (s : List ℕ) → shows (counted.text s) (text_items s)
text_shows [] = refl
text_shows (b ∷ bs) = as_string_shows (b ∷ bs)

pub ascii_text_shows : (s : List ℕ) → shows (Text s) (text_items s)
ascii_text_shows s = itself s

pub text_with_width_shows : (w : ℕ) (s : List ℕ) → shows (TextWithLen w s) (text_items s)
text_with_width_shows w s = itself s

pub texts_show : TextsShow
texts_show s = (text_shows s, as_string_shows s)

-- ---- spaces and lines

-- any gap may be nothing
pub loose_shown : Implies [] (loose ∷ [])
loose_shown = inl ((refl, refl, λ e. absurd (cc)), refl)

-- a line end is a gap of any kind that may have one
pub ended_loose : Implies (ended ∷ []) (loose ∷ [])
ended_loose = inr (AnyLine, LineEnd, [], refl, (refl, refl, λ e. inr refl), refl)

pub ended_apart : Implies (ended ∷ []) (apart ∷ [])
ended_apart = inr (AnyLine, LineEnd, [], refl, (refl, refl, λ e. inr refl), refl)

-- so is a space
pub spaced_apart : Implies (spaced ∷ []) (apart ∷ [])
spaced_apart = inr (SameLine, Spacing, [], refl, (refl, refl, λ e. absurd (cc)), refl)

pub spaced_loose : Implies (spaced ∷ []) (loose ∷ [])
spaced_loose = inr (SameLine, Spacing, [], refl, (refl, refl, λ e. absurd (cc)), refl)

-- a text that is there by one alternative alone
pub mark_shown : (s : List ℕ) → Implies (Shown s ∷ []) (Mark s ∷ [])
mark_shown s = inr ([], inl refl, refl)

pub mark_not_shown : (s : List ℕ) → Implies [] (Mark s ∷ [])
mark_not_shown s = inl refl

pub space_shows : shows space (spaced ∷ [])
space_shows = inr (refl, (λ e. elim e [ inl same ↦ absurd (cc same) | inr none ↦ absurd none ]), refl)

pub weak_space_shows : shows WeakSpace (spaced ∷ [])
weak_space_shows = refl

pub hard_line_shows : shows HardLine (ended ∷ [])
hard_line_shows = refl

pub weak_line_shows : shows WeakLine (ended ∷ [])
weak_line_shows = refl

pub line_shows : shows line (apart ∷ [])
line_shows = (ended ∷ [], spaced ∷ [], refl, space_shows, ended_apart, spaced_apart)

pub line__shows : shows line_ (loose ∷ [])
line__shows = (ended ∷ [], [], refl, refl, ended_loose, loose_shown)

pub softline_shows : shows softline (apart ∷ [])
softline_shows = line_shows

pub softline__shows : shows softline_ (loose ∷ [])
softline__shows = line__shows

-- ---- documents made of others

append_to_shows : (x y : Tree) (xs ys : List Item) → shows x xs → shows y ys → shows (append_to x y) (xs ++ ys)
append_to_shows x Nil xs ys h k = subst (shows x) (sym (ap (λ (zs : List Item). xs ++ zs) k ∙ append-nil xs)) h
append_to_shows x y xs ys h k = (xs, ys, h, k, refl)

pub append_shows : (x y : Tree) (xs ys : List Item) → shows x xs → shows y ys → shows (append x y) (xs ++ ys)
append_shows Nil y xs ys h k = subst (shows y) (sym (ap (λ (zs : List Item). zs ++ ys) h)) k
append_shows x y xs ys h k = append_to_shows x y xs ys h k

pub enclose_shows : (before x after : Tree) (first xs last : List Item) → shows before first → shows x xs → shows after last
    → shows (enclose before x after) ((first ++ xs) ++ last)
enclose_shows before x after first xs last h j k =
    append_shows (append before x) after (first ++ xs) last (append_shows before x first xs h j) k

-- between two characters
pub between_shows : (b a : ℕ) (x : Tree) (xs : List Item) → shows x xs
    → shows (between b a x) (Shown (b ∷ []) ∷ (xs ++ Shown (a ∷ []) ∷ []))
between_shows b a x xs h =
    enclose_shows (Text (b ∷ [])) x (Text (a ∷ [])) (Shown (b ∷ []) ∷ []) xs (Shown (a ∷ []) ∷ []) (inl refl) h (inl refl)

nest_by_shows : (k : ℤ) (x : Tree) (items : List Item) → shows x items → shows (nest_by k x) items
nest_by_shows k Nil items h = h
nest_by_shows k _ items h = h

pub nest_shows : (k : ℤ) (x : Tree) (items : List Item) → shows x items → shows (nest k x) items
nest_shows (pos zero) x items h = h
nest_shows k x items h = nest_by_shows k x items h

pub group_shows : (x : Tree) (items : List Item) → shows x items → shows (group x) items
group_shows Nil items h = h
group_shows (Group x) items h = h
group_shows _ items h = h

pub align_shows : (x : Tree) (items : List Item) → shows x items → shows (align x) items
align_shows Nil items h = h
align_shows (Align x) items h = h
align_shows _ items h = h

pub dedent_to_root_shows : (x : Tree) (items : List Item) → shows x items → shows (dedent_to_root x) items
dedent_to_root_shows Nil items h = h
dedent_to_root_shows (DedentToRoot x) items h = h
dedent_to_root_shows _ items h = h

pub flatten_shows : (x : Tree) (items : List Item) → shows x items → shows (flatten x) items
flatten_shows Nil items h = h
flatten_shows (MultilineText s) items h = tt
flatten_shows HardLine items h = tt
flatten_shows (Flatten x) items h = h
flatten_shows _ items h = h

-- put off to the end of the line
pub line_suffix_shows : (x : Tree) (items : List Item) → shows x items → NoneIsLate items → shows (LineSuffix x) (map Late items)
line_suffix_shows x items h n = (items, h, n, refl)

-- ---- alternatives

either : (x y : Tree) (xs ys items : List Item) → shows x xs → shows y ys → Implies xs items → Implies ys items
    → EitherShows (λ zs. shows x zs) (λ zs. shows y zs) items
either x y xs ys items h k i j = (xs, ys, h, k, i, j)

-- what both alternatives imply
pub flat_alt_shows : (x y : Tree) (xs ys items : List Item) → shows x xs → shows y ys → Implies xs items → Implies ys items
    → shows (BreakOrFlat x y) items
flat_alt_shows x y xs ys items h k i j = either x y xs ys items h k i j

pub union_shows : (x y : Tree) (xs ys items : List Item) → shows x xs → shows y ys → Implies xs items → Implies ys items
    → shows (Union x y) items
union_shows x y xs ys items h k i j = either x y xs ys items h k i j

pub partial_union_shows : (x y : Tree) (xs ys items : List Item) → shows x xs → shows y ys → Implies xs items → Implies ys items
    → shows (PartialUnion x y) items
partial_union_shows x y xs ys items h k i j = either x y xs ys items h k i j

pub if_column_shows : (test : ColumnTest) (x y : Tree) (xs ys items : List Item) → shows x xs → shows y ys → Implies xs items
    → Implies ys items → shows (OnColumn test x y) items
if_column_shows test x y xs ys items h k i j = either x y xs ys items h k i j

pub if_nesting_shows : (test : NestingTest) (x y : Tree) (xs ys items : List Item) → shows x xs → shows y ys → Implies xs items
    → Implies ys items → shows (OnNesting test x y) items
if_nesting_shows test x y xs ys items h k i j = either x y xs ys items h k i j

-- a text that only broken lines have, or only flat ones
pub if_group_break_shows : (x : Tree) (s : List ℕ) → shows x (Shown s ∷ []) → shows (BreakOrFlat x Nil) (Mark s ∷ [])
if_group_break_shows x s h = either x Nil (Shown s ∷ []) [] (Mark s ∷ []) h refl (mark_shown s) (mark_not_shown s)

pub if_group_flat_shows : (x : Tree) (s : List ℕ) → shows x (Shown s ∷ []) → shows (BreakOrFlat Nil x) (Mark s ∷ [])
if_group_flat_shows x s h = either Nil x [] (Shown s ∷ []) (Mark s ∷ []) refl h (mark_not_shown s) (mark_shown s)

-- ---- lists

regrouped : (xs gap ys zs : List Item) → ((xs ++ gap) ++ ys) ++ zs ≡ xs ++ (gap ++ (ys ++ zs))
regrouped xs gap ys zs = append_assoc (xs ++ gap) ys zs ∙ append_assoc xs gap (ys ++ zs)

-- trees appended, each after a separator
after_shows : (s : Tree) (gap : List Item) → shows s gap → (xs : List Tree) (lists : List (List Item)) → AllZip shows xs lists
    → (z : Tree) (before : List Item) → shows z before → shows (fold (λ a y. append (append a s) y) z xs) (before ++ after_gaps gap lists)
after_shows s gap h [] [] each z before k = subst (shows z) (sym (append-nil before)) k
after_shows s gap h [] (items ∷ lists) each z before k = absurd each
after_shows s gap h (x ∷ xs) [] each z before k = absurd each
after_shows s gap h (x ∷ xs) (items ∷ lists) each z before k =
    let next = append_shows (append z s) x (before ++ gap) items (append_shows z s before gap k h) each.0 in
    let all = after_shows s gap h xs lists each.1 (append (append z s) x) ((before ++ gap) ++ items) next in
    subst (shows (fold (λ a y. append (append a s) y) (append (append z s) x) xs)) (regrouped before gap items (after_gaps gap lists)) all

-- trees with a separator in each gap
pub intersperse_shows : SeparatedShow
intersperse_shows s [] gap [] h each = refl
intersperse_shows s [] gap (items ∷ lists) h each = absurd each
intersperse_shows s (x ∷ xs) gap [] h each = absurd each
intersperse_shows s (x ∷ xs) gap (items ∷ lists) h each = after_shows s gap h xs lists each.1 x items each.0

-- trees with punctuation after each but the last
pub punctuated_shows : PunctuatedShow
punctuated_shows mark [] marked [] h each = tt
punctuated_shows mark [] marked (items ∷ lists) h each = absurd each
punctuated_shows mark (x ∷ xs) marked [] h each = absurd each
punctuated_shows mark (x ∷ []) marked (items ∷ []) h each = each
punctuated_shows mark (x ∷ []) marked (items ∷ next ∷ lists) h each = absurd each.1
punctuated_shows mark (x ∷ y ∷ ys) marked (items ∷ []) h each = absurd each.1
punctuated_shows mark (x ∷ y ∷ ys) marked (items ∷ next ∷ lists) h each =
    (append_shows x mark items marked each.0 h, punctuated_shows mark (y ∷ ys) marked (next ∷ lists) h each.1)

-- trees on lines of their own, or flat
pub lines_show : (k : ℤ) (x : Tree) (items : List Item) → shows x items → shows (append (nest k (append line_ x)) line_)
    (loose ∷ (items ++ loose ∷ []))
lines_show k x items h =
    append_shows (nest k (append line_ x)) line_ (loose ∷ items) (loose ∷ [])
    (nest_shows k (append line_ x) (loose ∷ items) (append_shows line_ x (loose ∷ []) items line__shows h)) line__shows

-- trees between brackets
pub bracketed_shows : BracketedShow
bracketed_shows before after k [] first last [] h j each = append_shows before after first last h j
bracketed_shows before after k [] first last (items ∷ lists) h j each = absurd each
bracketed_shows before after k (x ∷ xs) first last [] h j each = absurd each
bracketed_shows before after k (x ∷ xs) first last (items ∷ lists) h j each =
    let between = intersperse line (x ∷ xs) in
    let inside = append (nest k (append line_ between)) line_ in
    let inner = lines_show k between (with_gaps (apart ∷ []) (items ∷ lists))
    (intersperse_shows line (x ∷ xs) (apart ∷ []) (items ∷ lists) line_shows each) in
    let whole = enclose_shows before inside after first (in_lines (items ∷ lists)) last h inner j in
    group_shows (enclose before inside after) (first ++ (in_lines (items ∷ lists) ++ last))
    (subst (shows (enclose before inside after)) (append_assoc first (in_lines (items ∷ lists)) last) whole)

module _ (f : List Item → List Item) (gap next : List Item) where
  -- a gap in front of each is one in front of them all, with others in each gap
  in_front : (lists : List (List Item)) → after_gaps gap (change_all_but_last f (next ∷ lists)) ≡ gap ++ with_gaps gap
      (change_all_but_last f (next ∷ lists))
  in_front [] = refl
  in_front (items ∷ lists) = refl

-- punctuation stands in the gaps
pub marks_stand_in_gaps : MarksStandInGaps
marks_stand_in_gaps marked gap [] = refl
marks_stand_in_gaps marked gap (items ∷ []) = refl
marks_stand_in_gaps marked gap (items ∷ next ∷ lists) =
    let mark = λ (xs : List Item). xs ++ marked in
    let changed = with_gaps gap (change_all_but_last mark (next ∷ lists)) in
    append_assoc items marked (after_gaps gap (change_all_but_last mark (next ∷ lists)))
    ∙ ap (λ (zs : List Item). items ++ (marked ++ zs)) (in_front mark gap next lists)
    ∙ ap (λ (zs : List Item). items ++ zs) (sym (append_assoc marked gap changed))
    ∙ ap (λ (zs : List Item). items ++ ((marked ++ gap) ++ zs)) (marks_stand_in_gaps marked gap (next ∷ lists))

-- ---- texts alone

pub texts_both : (xs ys : List Item) → texts (xs ++ ys) ≡ texts xs ++ texts ys
texts_both [] ys = refl
texts_both (Shown s ∷ xs) ys = ap (λ (ss : List (List ℕ)). s ∷ ss) (texts_both xs ys)
texts_both (Gap r l ∷ xs) ys = texts_both xs ys
texts_both (Mark s ∷ xs) ys = texts_both xs ys
texts_both (Late i ∷ xs) ys = texts_both xs ys

pub fixed_both : (xs ys : List Item) → AreFixed xs → AreFixed ys → AreFixed (xs ++ ys)
fixed_both [] ys h k = k
fixed_both (Shown s ∷ xs) ys h k = fixed_both xs ys h k
fixed_both (Gap r l ∷ xs) ys h k = fixed_both xs ys h k
fixed_both (Mark s ∷ xs) ys h k = absurd h
fixed_both (Late i ∷ xs) ys h k = absurd h

-- a document that another is appended to has the texts of both
pub append_texts : (x y : Tree) (ss ts : List (List ℕ)) → HasTexts x ss → HasTexts y ts → HasTexts (append x y) (ss ++ ts)
append_texts x y ss ts h k = (
  h.0 ++ k.0,
  append_shows x y h.0 k.0 h.1 k.1,
  fixed_both h.0 k.0 h.2 k.2,
  texts_both h.0 k.0
      ∙ ap (λ (us : List (List ℕ)). us ++ texts k.0) h.3 ∙ ap (λ (us : List (List ℕ)). ss ++ us) k.3,
)

-- what shows one text has it
pub one_text : (x : Tree) (s : List ℕ) → shows x (Shown s ∷ []) → HasTexts x (s ∷ [])
one_text x s h = (Shown s ∷ [], h, tt, refl)

-- and what shows a gap, or nothing, has none
pub nothing_has_no_text : (x : Tree) → shows x [] → HasTexts x []
nothing_has_no_text x h = ([], h, tt, refl)

pub gap_has_no_text : (x : Tree) (r : Reach) (l : Least) → shows x (Gap r l ∷ []) → HasTexts x []
gap_has_no_text x r l h = (Gap r l ∷ [], h, tt, refl)

-- what shows all that another shows has its texts: a tree that is nested, grouped, aligned
pub same_texts : (x y : Tree) → ((items : List Item) → shows x items → shows y items) → (ss : List (List ℕ)) → HasTexts x ss → HasTexts y ss
same_texts x y k ss h = (h.0, k h.0 h.1, h.2, h.3)

-- a text that is not empty is one item
pub some_text : (s : List ℕ) → 0 < length s → text_items s ≡ Shown s ∷ []
some_text [] some = absurd (omega arith)
some_text (b ∷ bs) some = refl

-- ---- texts and gaps alone

spaced_from : (p : Place) (b : List ℕ) (items : List Item) → AreFixed items → ShowsFrom p [] b items → IsSpacedFrom p b items
spaced_from p b [] f h = h
spaced_from p b (Shown s ∷ items) f h = (h.0, h.1, h.2, h.3, spaced_from after_text h.1 items f h.4)
spaced_from p b (Gap r l ∷ items) f h = spaced_from (with_gap r l p) b items f h
spaced_from p b (Mark s ∷ items) f h = absurd f
spaced_from p b (Late i ∷ items) f h = absurd f

-- bytes that show items of which each is there, in its place
pub spaced_by_fixed : FixedAreSpaced
spaced_by_fixed b items f h = spaced_from at_start b items f h
