-- Layout by parts: where it is known which groups fit and what ends a line, a document is laid part by part.
use Rattle.std.specs.Prelude.{◌≡◌, ℕ, suc, ◌+◌, ◌<◌, Bool, true, false, ◌&&◌, nat_le, List, [], ◌∷◌, ◌++◌, length, ◌⊎◌, ⊤}
use Rattle.prettyless_model.specs.Tree as t
use Rattle.prettyless_model.specs.Tree.{Tree, size}
use Rattle.prettyless_model.specs.Column.{commit, saturating_add}
use Rattle.prettyless_model.specs.Look.{look, look_text}
use Rattle.prettyless_model.specs.Layout.{State, Done, Whole, Breaks, Entry, breaks, entry, initial, lay, lay_each, lay_ending, lay_text}
use Rattle.prettyless_model.specs.Layout.{layout, next_indent, rest_fits, some_pending}
use Rattle.prettyless_model.specs.Levels.{settle}
use Rattle.prettyless_model.specs.declared.column.Column.{Column}
use Rattle.prettyless_model.specs.declared.mode.Mode.{Mode}
use Rattle.prettyless_model.specs.declared.mode.Mode.TheVariants.{Break, Flat}
use Rattle.prettyless_model.specs.declared.options.RenderOptions.{RenderOptions}

-- ---- documents that are texts alone on a flat line

-- nothing but texts is laid of a document in Flat
abbrev pub IsInline : Tree → Type 0
IsInline t.Nil = ⊤
IsInline (t.Text s) = ⊤
IsInline (t.TextWithLen w s) = ⊤
IsInline (t.Append l r) = IsInline l × IsInline r
IsInline (t.Indented how d) = IsInline d
IsInline (t.Flatten d) = IsInline d
IsInline (t.BreakOrFlat b f) = IsInline f
IsInline (t.Group d) = IsInline d
IsInline (t.Union l r) = IsInline l
IsInline (t.PartialUnion l r) = IsInline l
IsInline _ = ⊥

-- those texts, one after another
abbrev pub flat_bytes : Tree → List ℕ
flat_bytes (t.Text s) = s
flat_bytes (t.TextWithLen w s) = s
flat_bytes (t.Append l r) = flat_bytes l ++ flat_bytes r
flat_bytes (t.Indented how d) = flat_bytes d
flat_bytes (t.Flatten d) = flat_bytes d
flat_bytes (t.BreakOrFlat b f) = flat_bytes f
flat_bytes (t.Group d) = flat_bytes d
flat_bytes (t.Union l r) = flat_bytes l
flat_bytes (t.PartialUnion l r) = flat_bytes l
flat_bytes _ = []

-- the columns that a text of this width takes; an empty text is nothing
abbrev pub text_columns : ℕ → List ℕ → ℕ
text_columns w [] = 0
text_columns w (b ∷ bs) = w

-- the columns that those texts take
abbrev pub flat_columns : Tree → ℕ
flat_columns (t.Text s) = length s
flat_columns (t.TextWithLen w s) = text_columns w s
flat_columns (t.Append l r) = flat_columns l + flat_columns r
flat_columns (t.Indented how d) = flat_columns d
flat_columns (t.Flatten d) = flat_columns d
flat_columns (t.BreakOrFlat b f) = flat_columns f
flat_columns (t.Group d) = flat_columns d
flat_columns (t.Union l r) = flat_columns l
flat_columns (t.PartialUnion l r) = flat_columns l
flat_columns _ = 0

-- in Flat such a document is laid as one text, at any indent and before anything
abbrev pub InlineIsLaidAsOneText : Type 0
InlineIsLaidAsOneText =
    (o : RenderOptions) (brk : Breaks) (d : Tree) (i : ℕ) (rest : List Entry) (st : State) → IsInline d
    → lay o brk d i Flat rest st ≡ lay_text o (flat_columns d) (flat_bytes d) st

-- and a probe reads it as one text
abbrev pub InlineIsSeenAsOneText : Type 0
InlineIsSeenAsOneText =
    (width : ℕ) (d : Tree) (i : ℕ) (c : Column) (p : Bool) → IsInline d
    → look width d i Flat c p ≡ look_text width (flat_columns d) (flat_bytes d) c p

-- ---- groups

-- a text of this width ends within the line's width, and what follows it, up to the end of the line, does too
abbrev pub text_fits : RenderOptions → ℕ → List ℕ → List Entry → State → Bool
text_fits o w [] rest st = rest_fits o.width rest st.column (some_pending st.pending)
text_fits o w (b ∷ bs) rest st =
    let c = commit w st.column in
    nat_le c.position o.width && rest_fits o.width rest c (some_pending st.pending)

-- a group of such a document is one text where that fits
abbrev pub GroupsThatFitAreOneText : Type 0
GroupsThatFitAreOneText =
    (o : RenderOptions) (brk : Breaks) (d : Tree) (i : ℕ) (m : Mode) (rest : List Entry) (st : State) → IsInline d
    → text_fits o (flat_columns d) (flat_bytes d) rest st ≡ true
    → lay o brk (t.Group d) i m rest st ≡ lay_text o (flat_columns d) (flat_bytes d) st

-- and its document in Break where that does not fit
abbrev pub GroupsThatDoNotFitAreBroken : Type 0
GroupsThatDoNotFitAreBroken =
    (o : RenderOptions) (brk : Breaks) (d : Tree) (i : ℕ) (rest : List Entry) (st : State) → IsInline d
    → text_fits o (flat_columns d) (flat_bytes d) rest st ≡ false
    → lay o brk (t.Group d) i Break rest st ≡ lay o brk d i Break rest st

-- texts that are wider than the width fit nowhere: their group is broken from every state and before everything
abbrev pub WideGroupsAreBroken : Type 0
WideGroupsAreBroken =
    (o : RenderOptions) (brk : Breaks) (d : Tree) (i : ℕ) (rest : List Entry) (st : State) → IsInline d
    → o.width < saturating_add 0 (flat_columns d)
    → lay o brk (t.Group d) i Break rest st ≡ lay o brk d i Break rest st

-- a beginning that is so wide is enough, whatever comes after it
abbrev pub WideBeginningsBreakGroups : Type 0
WideBeginningsBreakGroups =
    (o : RenderOptions) (brk : Breaks) (l r : Tree) (i : ℕ) (rest : List Entry) (st : State) → IsInline l
    → o.width < saturating_add 0 (flat_columns l)
    → lay o brk (t.Group (t.Append l r)) i Break rest st ≡ lay o brk (t.Append l r) i Break rest st

-- something in a document keeps it from every flat line
abbrev pub IsNeverFlat : Tree → Type 0
IsNeverFlat t.Fail = ⊤
IsNeverFlat (t.MultilineText s) = ⊤
IsNeverFlat t.HardLine = ⊤
IsNeverFlat t.ExpandParent = ⊤
IsNeverFlat (t.Append l r) = IsNeverFlat l ⊎ IsNeverFlat r
IsNeverFlat (t.Indented how d) = IsNeverFlat d
IsNeverFlat (t.Flatten d) = IsNeverFlat d
IsNeverFlat (t.BreakOrFlat b f) = IsNeverFlat f
IsNeverFlat (t.Group d) = IsNeverFlat d
IsNeverFlat (t.Union l r) = IsNeverFlat l
IsNeverFlat (t.PartialUnion l r) = IsNeverFlat l
IsNeverFlat (t.Chosen test y n) = IsNeverFlat y × IsNeverFlat n
IsNeverFlat _ = ⊥

-- its group is broken, from every state and before everything
abbrev pub NeverFlatGroupsAreBroken : Type 0
NeverFlatGroupsAreBroken =
    (o : RenderOptions) (brk : Breaks) (d : Tree) (i : ℕ) (rest : List Entry) (st : State) → IsNeverFlat d
    → lay o brk (t.Group d) i Break rest st ≡ lay o brk d i Break rest st

-- ---- what follows

-- a break takes its indent from the same, and a probe finds the same, from every column
abbrev pub FollowAlike : List Entry → List Entry → Type 0
FollowAlike a b =
    ((i : ℕ) → next_indent i a ≡ next_indent i b) × ((w : ℕ) (c : Column) (p : Bool) → rest_fits w a c p ≡ rest_fits w b c p)

-- a meaning of a break that reads no more of what follows
abbrev pub ReadsAlike : Breaks → Type 0
ReadsAlike brk =
    (d : Tree) (i : ℕ) (m : Mode) (a b : List Entry) (st : State) → FollowAlike a b → brk d i m a st ≡ brk d i m b st

-- a document is laid alike before what is alike
abbrev pub LayoutsGoByWhatFollows : Type 0
LayoutsGoByWhatFollows =
    (o : RenderOptions) (brk : Breaks) (d : Tree) (i : ℕ) (m : Mode) (a b : List Entry) (st : State) → ReadsAlike brk
    → FollowAlike a b → lay o brk d i m a st ≡ lay o brk d i m b st

-- breaks of any number of levels read no more, nor those with as many as they need
abbrev pub BreaksReadAlike : Type 0
BreaksReadAlike = (o : RenderOptions) → ((n : ℕ) → ReadsAlike (breaks o n)) × ReadsAlike (settle o)

-- the documents that are appended in a document, from left to right, however they are grouped
abbrev pub sequence_of : Tree → List Tree
sequence_of (t.Append l r) = sequence_of l ++ sequence_of r
sequence_of d = d ∷ []

-- they are laid one after another, each with the later ones following
abbrev pub DocumentsAreLaidInTurn : Type 0
DocumentsAreLaidInTurn =
    (o : RenderOptions) (brk : Breaks) (d : Tree) (i : ℕ) (m : Mode) (rest : List Entry) (st : State) → ReadsAlike brk
    → lay o brk d i m rest st ≡ lay_each o brk (sequence_of d) i m rest st

-- a probe in Break always finds the end of a line in a document, or a failure
abbrev pub EndsItsLine : Tree → Type 0
EndsItsLine t.Fail = ⊤
EndsItsLine (t.MultilineText s) = ⊤
EndsItsLine t.HardLine = ⊤
EndsItsLine (t.Append l r) = EndsItsLine l ⊎ EndsItsLine r
EndsItsLine (t.Indented how d) = EndsItsLine d
EndsItsLine (t.BreakOrFlat b f) = EndsItsLine b
EndsItsLine (t.Group d) = EndsItsLine d
EndsItsLine (t.Union l r) = EndsItsLine r
EndsItsLine (t.PartialUnion l r) = EndsItsLine r
EndsItsLine (t.Chosen test y n) = EndsItsLine y × EndsItsLine n
EndsItsLine _ = ⊥

-- what comes after such a document is hidden by it
abbrev pub LineEndsHideWhatFollows : Type 0
LineEndsHideWhatFollows =
    (i : ℕ) (d : Tree) (a b : List Entry) → EndsItsLine d → FollowAlike (entry i d ∷ a) (entry i d ∷ b)

-- what a document has after its line end is hidden too
abbrev pub LineEndsHideTheirRight : Type 0
LineEndsHideTheirRight =
    (i : ℕ) (l r : Tree) (a b : List Entry) → EndsItsLine l → FollowAlike (entry i (t.Append l r) ∷ a) (entry i l ∷ b)

-- ---- line ends and the end

-- a hard line takes of what follows the indent of the nearest alone
abbrev pub HardLinesTakeAnIndent : Type 0
HardLinesTakeAnIndent =
    (o : RenderOptions) (n : ℕ) (i : ℕ) (m : Mode) (a b : List Entry) (st : State) → next_indent i a ≡ next_indent i b
    → breaks o n t.HardLine i m a st ≡ breaks o n t.HardLine i m b st

-- where nothing is pending it ends the line
abbrev pub HardLinesEndLines : Type 0
HardLinesEndLines =
    (o : RenderOptions) (n : ℕ) (i : ℕ) (m : Mode) (rest : List Entry) (st : State) → st.pending ≡ []
    → breaks o (suc n) t.HardLine i m rest st ≡ lay_ending o o.indentation_policy (next_indent i rest) st

-- bytes that a document is laid to, with nothing pending after them, are its layout
abbrev pub LayoutsEndWithNothingPending : Type 0
LayoutsEndWithNothingPending =
    (o : RenderOptions) (d : Tree) (bytes : List ℕ) (st : State) → lay o (breaks o (size d + 1)) d 0 Break [] initial ≡ Done bytes st
    → st.pending ≡ [] → layout o d ≡ Whole bytes
