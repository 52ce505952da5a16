-- What a document shows, whichever alternatives are taken: its texts, and what is between them.
use Rattle.std.specs.Prelude.{◌≡◌, ℕ, ◌<◌, true, List, [], ◌∷◌, ◌++◌, length, map, ◌⊎◌, ⊤}
use Rattle.prettyless_model.specs.declared.options.RenderOptions.{RenderOptions}
use Rattle.prettyless_model.specs.declared.metrics.Metrics.{Metrics}
use Rattle.prettyless_model.specs.Tree as t
use Rattle.prettyless_model.specs.Tree.{Tree}
use Rattle.prettyless_model.specs.Metrics.{metrics}
use Rattle.prettyless_model.specs.Layout.{layout, Whole}
use Rattle.prettyless_model.specs.Spelling.{ink}

-- ---- gaps

-- how far a gap between two texts may reach: it is empty, it stays on its line, or it may go on to other lines
pub data Reach : Type 0 where
  NoGap : Reach
  SameLine : Reach
  AnyLine : Reach

-- what a gap has at least: nothing, some byte, or a line end
pub data Least : Type 0 where
  Nothing : Least
  Spacing : Least
  LineEnd : Least

-- the further of two reaches
abbrev pub further : Reach → Reach → Reach
further NoGap s = s
further SameLine AnyLine = AnyLine
further SameLine s = SameLine
further AnyLine s = AnyLine

-- the more of two
abbrev pub more : Least → Least → Least
more Nothing m = m
more Spacing LineEnd = LineEnd
more Spacing m = Spacing
more LineEnd m = LineEnd

-- an LF is among the bytes
abbrev pub EndsLine : List ℕ → Type 0
EndsLine [] = ⊥
EndsLine (b ∷ bs) = (b ≡ 10) ⊎ EndsLine bs

-- the bytes are spaces, CR and LF alone
abbrev pub IsBlank : List ℕ → Type 0
IsBlank bytes = ink bytes ≡ []

-- a gap reaches no further
abbrev pub StaysWithin : Reach → List ℕ → Type 0
StaysWithin NoGap g = g ≡ []
StaysWithin SameLine g = ¬ EndsLine g
StaysWithin AnyLine g = ⊤

-- a gap has no less
abbrev pub Has : Least → List ℕ → Type 0
Has Nothing g = ⊤
Has Spacing g = 0 < length g
Has LineEnd g = EndsLine g

-- ---- items

-- what a document shows, in its order
pub data Item : Type 0 where
  -- a text, whole
  Shown : List ℕ → Item
  -- a gap, which reaches so far and has so much
  Gap : Reach → Least → Item
  -- a text, whole, or nothing: an optional text, there by some alternatives alone
  Mark : List ℕ → Item
  -- an item that is put off to the end of its line
  Late : Item → Item

-- a space at least, on the same line
abbrev pub spaced : Item
spaced = Gap SameLine Spacing

-- a space or a line end
abbrev pub apart : Item
apart = Gap AnyLine Spacing

-- a line end
abbrev pub ended : Item
ended = Gap AnyLine LineEnd

-- any gap, which may be empty
abbrev pub loose : Item
loose = Gap AnyLine Nothing

-- no item is put off
abbrev pub NoneIsLate : List Item → Type 0
NoneIsLate [] = ⊤
NoneIsLate (Late i ∷ items) = ⊥
NoneIsLate (i ∷ items) = NoneIsLate items

-- ---- which items say less

-- the second gap may reach as far as the first, and has to have no more; where it may have no line end, neither has the first
abbrev pub IsWeaker : Reach → Least → Reach → Least → Type 0
IsWeaker r l s m = (further r s ≡ s) × (more m l ≡ l) × (l ≡ LineEnd → (m ≡ LineEnd) ⊎ (s ≡ AnyLine))

-- What shows the first items shows the second: gaps that reach further, or have less, optional texts in place of texts, and such
-- texts and gaps where there may be nothing.
abbrev pub Implies : List Item → List Item → Type 0
Implies xs [] = xs ≡ []
Implies xs (Gap s m ∷ ys) =
    (IsWeaker NoGap Nothing s m × Implies xs ys)
    ⊎ ((r : Reach) × (l : Least) × (rest : List Item) × (xs ≡ Gap r l ∷ rest) × IsWeaker r l s m × Implies rest ys)
Implies xs (Mark s ∷ ys) =
    Implies xs ys ⊎ ((rest : List Item) × ((xs ≡ Shown s ∷ rest) ⊎ (xs ≡ Mark s ∷ rest)) × Implies rest ys)
Implies xs (y ∷ ys) = (rest : List Item) × (xs ≡ y ∷ rest) × Implies rest ys

-- ---- what a document shows

-- an empty text shows nothing; any other shows itself, and one that is blank and has no LF may be shown as a gap instead
abbrev pub TextShows : List ℕ → List Item → Type 0
TextShows [] items = items ≡ []
TextShows (b ∷ bs) items =
    (items ≡ Shown (b ∷ bs) ∷ []) ⊎ (IsBlank (b ∷ bs) × (EndsLine (b ∷ bs) → ⊥) × (items ≡ spaced ∷ []))

-- a payload shows itself where neither its first part nor its last is empty; any other shows nothing that is known
abbrev pub PayloadShows : Metrics → List ℕ → List Item → Type 0
PayloadShows m s items = (items ≡ Shown s ∷ []) × (m.first_nonempty ≡ true) × (m.last_nonempty ≡ true)

-- alternatives show what both imply
abbrev pub EitherShows : (List Item → Type 0) → (List Item → Type 0) → List Item → Type 0
EitherShows first second items =
    (xs : List Item) × (ys : List Item) × first xs × second ys × Implies xs items × Implies ys items

-- A document shows items where by every choice among its alternatives it has these texts in their order, with such gaps
-- between them. A weak space is a space, or nothing at the beginning or at the end of a line, where there is a line end
-- anyway; so is a weak line. A failure shows anything, since no layout of it ends well. A line suffix shows late what its
-- document shows; a line suffix in another shows nothing that is known, unless it shows nothing at all.
abbrev pub shows : Tree → List Item → Type 0
shows t.Nil items = items ≡ []
shows t.Fail items = ⊤
shows (t.Text s) items = TextShows s items
shows (t.TextWithLen n s) items = TextShows s items
shows (t.MultilineText s) items = PayloadShows (metrics s) s items
shows t.WeakSpace items = items ≡ spaced ∷ []
shows t.HardLine items = items ≡ ended ∷ []
shows t.WeakLine items = items ≡ ended ∷ []
shows (t.Append l r) items =
    (before : List Item) × (later : List Item) × shows l before × shows r later × (items ≡ before ++ later)
shows (t.LineSuffix d) items = (inner : List Item) × shows d inner × NoneIsLate inner × (items ≡ map Late inner)
shows (t.Indented how d) items = shows d items
shows t.ExpandParent items = items ≡ []
shows (t.Flatten d) items = shows d items
shows (t.BreakOrFlat b f) items = EitherShows (λ xs. shows b xs) (λ ys. shows f ys) items
shows (t.Group d) items = shows d items
shows (t.Union l r) items = EitherShows (λ xs. shows l xs) (λ ys. shows r ys) items
shows (t.PartialUnion l r) items = EitherShows (λ xs. shows l xs) (λ ys. shows r ys) items
shows (t.Chosen test y n) items = EitherShows (λ xs. shows y xs) (λ ys. shows n ys) items

-- ---- what it is for bytes to show items

-- where bytes go on: before the first text, or a first text of a line on which late items wait; or after a text. So far
-- may the gap before the next text reach, and after a text so much must it have.
pub data Place : Type 0 where
  Before : Reach → Place
  After : Reach → Least → Place

-- the place after one more gap
abbrev pub with_gap : Reach → Least → Place → Place
with_gap r l (Before s) = Before (further s r)
with_gap r l (After s m) = After (further s r) (more m l)

-- the start of a layout
abbrev pub at_start : Place
at_start = Before NoGap

-- the start of a line on which late items wait
abbrev pub line_start : Place
line_start = Before SameLine

-- directly after a text
abbrev pub after_text : Place
after_text = After NoGap Nothing

-- after the last text of a line on which late items come now
abbrev pub on_line : Place
on_line = After SameLine Nothing

-- after a text whose line has ended
abbrev pub after_line : Place
after_line = After AnyLine LineEnd

-- a line may end before the next text
abbrev pub MayEnd : Place → Type 0
MayEnd (Before AnyLine) = ⊤
MayEnd (After AnyLine l) = ⊤
MayEnd p = ⊥

-- no line has to end before the next text
abbrev pub MayStay : Place → Type 0
MayStay (After r LineEnd) = ⊥
MayStay p = ⊤

-- the same place, where no line has ended in the gap
abbrev pub same_line : Place → Place
same_line (Before AnyLine) = Before SameLine
same_line (After AnyLine l) = After SameLine l
same_line p = p

-- the place before the items that wait, where the line ends after them
abbrev pub late_place : Place → Place
late_place (Before r) = on_line
late_place (After AnyLine l) = on_line
late_place p = p

-- a gap that may stand before the next text
abbrev pub IsGapAt : Place → List ℕ → Type 0
IsGapAt (Before r) g = IsBlank g × StaysWithin r g
IsGapAt (After r l) g = IsBlank g × StaysWithin r g × Has l g

-- the same where late items wait, so that no line has ended
abbrev pub IsGapOnLine : Place → List ℕ → Type 0
IsGapOnLine p g = IsGapAt p g × (EndsLine g → ⊥)

-- bytes that may stand after the last text
abbrev pub IsEndAt : Place → List ℕ → Type 0
IsEndAt (Before r) g = IsBlank g × StaysWithin r g
IsEndAt (After r LineEnd) g = IsBlank g × StaysWithin r g × EndsLine g
IsEndAt (After r l) g = IsBlank g × StaysWithin r g

-- the bytes are a gap, this text, and then such bytes
abbrev pub ShowsText : (List ℕ → Type 0) → List ℕ → List ℕ → (List ℕ → Type 0) → Type 0
ShowsText IsBefore s bytes later =
    (g : List ℕ) × (rest : List ℕ) × IsBefore g × (bytes ≡ g ++ (s ++ rest)) × later rest

-- the bytes are a gap with a line end, and then such bytes
abbrev pub ShowsLineEnd : List ℕ → (List ℕ → Type 0) → Type 0
ShowsLineEnd bytes later = (g : List ℕ) × (rest : List ℕ) × IsBlank g × EndsLine g × (bytes ≡ g ++ rest) × later rest

-- the bytes show these items from a place on, none of which is late, and then are such bytes
abbrev pub ShowsThen : Place → List ℕ → List Item → (List ℕ → Type 0) → Type 0
ShowsThen p bytes [] later = later bytes
ShowsThen p bytes (Shown s ∷ items) later = ShowsText (IsGapAt p) s bytes (λ rest. ShowsThen after_text rest items later)
ShowsThen p bytes (Gap r l ∷ items) later = ShowsThen (with_gap r l p) bytes items later
ShowsThen p bytes (Mark s ∷ items) later =
    ShowsThen p bytes items later ⊎ ShowsText (IsGapAt p) s bytes (λ rest. ShowsThen after_text rest items later)
ShowsThen p bytes (Late i ∷ items) later = ⊥

-- The bytes show this text and what comes later, from a place on where such items wait: on this line, where they go on
-- waiting; or after them and the end of the line.
abbrev pub ShowsNext : Place → List Item → List ℕ → List ℕ → (List Item → List ℕ → Type 0) → Type 0
ShowsNext p [] s bytes later = ShowsText (IsGapAt p) s bytes (λ rest. later [] rest)
ShowsNext p (w ∷ ws) s bytes later =
    ShowsText (IsGapOnLine p) s bytes (λ rest. later (w ∷ ws) rest)
    ⊎ (MayEnd p × ShowsThen on_line bytes (w ∷ ws) (λ rest. ShowsText (IsGapAt after_line) s rest (λ last. later [] last)))

-- The bytes show these items from a place on, where such items wait for the end of the line: they are shown before the
-- first line end that comes, or at the end of all.
abbrev pub ShowsFrom : Place → List Item → List ℕ → List Item → Type 0
ShowsFrom p [] bytes [] = IsEndAt p bytes
ShowsFrom p (w ∷ ws) bytes [] = ShowsThen (late_place p) bytes (w ∷ ws) IsBlank
ShowsFrom p waiting bytes (Shown s ∷ items) = ShowsNext p waiting s bytes (λ ws rest. ShowsFrom after_text ws rest items)
ShowsFrom p [] bytes (Gap r l ∷ items) = ShowsFrom (with_gap r l p) [] bytes items
ShowsFrom p (w ∷ ws) bytes (Gap r LineEnd ∷ items) = ShowsThen (late_place p) bytes (w ∷ ws) (λ rest. ShowsFrom after_line [] rest items)
ShowsFrom p (w ∷ ws) bytes (Gap r l ∷ items) = ShowsFrom (with_gap r l p) (w ∷ ws) bytes items
ShowsFrom p waiting bytes (Mark s ∷ items) =
    ShowsFrom p waiting bytes items ⊎ ShowsNext p waiting s bytes (λ ws rest. ShowsFrom after_text ws rest items)
ShowsFrom p [] bytes (Late i ∷ items) =
    (MayStay p × ShowsFrom (same_line p) (i ∷ []) bytes items)
    ⊎ (MayEnd p × ShowsLineEnd bytes (λ rest. ShowsFrom line_start (i ∷ []) rest items))
ShowsFrom p (w ∷ ws) bytes (Late i ∷ items) =
    ShowsFrom (same_line p) (w ∷ (ws ++ i ∷ [])) bytes items
    ⊎ (MayEnd p × ShowsThen on_line bytes (w ∷ ws) (λ rest. ShowsLineEnd rest (λ last. ShowsFrom line_start (i ∷ []) last items)))

-- Bytes that show these items: the texts, each whole, in their order, with such gaps between them; late ones at the end of
-- their line, with none but late ones after them on it. An LF in a text or a payload ends no line.
abbrev pub AreShown : List ℕ → List Item → Type 0
AreShown bytes items = ShowsFrom at_start [] bytes items

-- ---- the texts alone

-- the texts among items, in their order
abbrev pub texts : List Item → List (List ℕ)
texts [] = []
texts (Shown s ∷ items) = s ∷ texts items
texts (i ∷ items) = texts items

-- each text is there, in its place: none is an optional text, and none is late
abbrev pub AreFixed : List Item → Type 0
AreFixed [] = ⊤
AreFixed (Shown s ∷ items) = AreFixed items
AreFixed (Gap r l ∷ items) = AreFixed items
AreFixed (i ∷ items) = ⊥

-- a document has these texts in their order, whatever is between them
abbrev pub HasTexts : Tree → List (List ℕ) → Type 0
HasTexts d ss = (items : List Item) × shows d items × AreFixed items × (texts items ≡ ss)

-- bytes that are these texts in their order, with gaps before, between and after them, any of which may be empty
abbrev pub IsSpaced : List ℕ → List (List ℕ) → Type 0
IsSpaced bytes [] = IsBlank bytes
IsSpaced bytes (s ∷ ss) =
    (g : List ℕ) × (rest : List ℕ) × IsBlank g × (bytes ≡ g ++ (s ++ rest)) × IsSpaced rest ss

-- ---- laws

-- a whole layout is the texts of its document, with gaps around them
abbrev pub LayoutsShowTexts : Type 0
LayoutsShowTexts =
    (o : RenderOptions) (d : Tree) (b : List ℕ) (ss : List (List ℕ)) → HasTexts d ss → layout o d ≡ Whole b → IsSpaced b ss

-- bytes that show items show what these imply
abbrev pub ShownIsImplied : Type 0
ShownIsImplied = (b : List ℕ) (xs ys : List Item) → Implies xs ys → AreShown b xs → AreShown b ys

-- a whole layout shows what its document shows
abbrev pub LayoutsShow : Type 0
LayoutsShow = (o : RenderOptions) (d : Tree) (b : List ℕ) (items : List Item) → shows d items → layout o d ≡ Whole b → AreShown b items
