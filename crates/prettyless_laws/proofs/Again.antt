-- Documents that are laid out again: in which modes a layout lays the groups of a document, and what it spells then.
use Rattle.std.specs.Prelude.{◌≡◌, ℕ, Bool, List, [], ◌∷◌, ◌++◌, ◌⊎◌, ⊤, true, if◌then◌else◌}
use Rattle.prettyless_model.specs.Tree as t
use Rattle.prettyless_model.specs.Tree.{Tree}
use Rattle.prettyless_trees.specs.Built.{is_nil}
use Rattle.prettyless_trees.specs.Built.{append}
use Rattle.prettyless_model.specs.Indent.{indent_by}
use Rattle.prettyless_model.specs.Layout.{Done, Entry, Failed, Outcome, State, Whole, entry, initial, lay, layout, probe}
use Rattle.prettyless_model.specs.Levels.{settle}
use Rattle.prettyless_model.specs.Look.{look}
use Rattle.prettyless_model.specs.declared.column.Column.{Column}
use Rattle.prettyless_model.specs.declared.mode.Mode.{Mode}
use Rattle.prettyless_model.specs.declared.mode.Mode.TheVariants.{Break, Flat}
use Rattle.prettyless_model.specs.declared.options.IndentationPolicy.TheVariants.{Deferred}
use Rattle.prettyless_model.specs.declared.options.RenderOptions.{RenderOptions}
use Rattle.prettyless_laws.specs.Bits.{AreWritten, Bit, IsExact, end_of_line, word_bits}
use Rattle.prettyless_laws.specs.Parts.{FollowAlike, IsNeverFlat}

-- ---- the modes of groups

-- the first of modes
abbrev pub first_mode : List Mode → Mode
first_mode [] = Flat
first_mode (m ∷ ms) = m

-- those after it
abbrev pub later_modes : List Mode → List Mode
later_modes [] = []
later_modes (m ∷ ms) = ms

-- the mode in which a group is laid where lines are broken
abbrev pub group_mode : RenderOptions → Tree → ℕ → List Entry → State → Mode
group_mode o d i rest st = if probe o d i Flat rest st then Flat else Break

-- modes that depend on the state after an outcome
abbrev pub modes_then : Outcome → (State → List Mode) → List Mode
modes_then (Done b st) next = next st
modes_then (Failed b) next = []

-- The modes in which a layout lays the groups of a document that are not in a flat one, in their order, in front of others.
abbrev pub group_modes : RenderOptions → Tree → ℕ → Mode → List Entry → State → List Mode → List Mode
group_modes o (t.Append l r) i m rest st ms =
    group_modes o l i m (entry i r ∷ rest) st
    (modes_then (lay o (settle o) l i m (entry i r ∷ rest) st) (λ u. group_modes o r i m rest u ms))
group_modes o (t.Indented how d) i m rest st ms = group_modes o d (indent_by how i st.column) m rest st ms
group_modes o (t.BreakOrFlat b f) i Break rest st ms = group_modes o b i Break rest st ms
group_modes o (t.BreakOrFlat b f) i Flat rest st ms = group_modes o f i Flat rest st ms
group_modes o (t.Group d) i Break rest st ms =
    group_mode o d i rest st ∷ group_modes o d i (group_mode o d i rest st) rest st ms
group_modes o (t.Group d) i Flat rest st ms = group_modes o d i Flat rest st ms
group_modes o _ i m rest st ms = ms

-- those of a whole layout
abbrev pub layout_modes : RenderOptions → Tree → List Mode
layout_modes o d = group_modes o d 0 Break [] initial []

-- what is left of modes after those of the groups of a document
abbrev pub modes_after : Tree → Mode → List Mode → List Mode
modes_after (t.Append l r) m ms = modes_after r m (modes_after l m ms)
modes_after (t.Indented how d) m ms = modes_after d m ms
modes_after (t.BreakOrFlat b f) Break ms = modes_after b Break ms
modes_after (t.BreakOrFlat b f) Flat ms = modes_after f Flat ms
modes_after (t.Group d) Break ms = modes_after d (first_mode ms) (later_modes ms)
modes_after (t.Group d) Flat ms = modes_after d Flat ms
modes_after _ m ms = ms

-- how a document is spelled whose groups are laid in these modes
abbrev pub spelled_in : Tree → Mode → List Mode → List Bit
spelled_in (t.Text s) m ms = word_bits s
spelled_in (t.TextWithLen w s) m ms = word_bits s
spelled_in t.HardLine m ms = end_of_line ∷ []
spelled_in (t.Append l r) m ms = spelled_in l m ms ++ spelled_in r m (modes_after l m ms)
spelled_in (t.Indented how d) m ms = spelled_in d m ms
spelled_in (t.BreakOrFlat b f) Break ms = spelled_in b Break ms
spelled_in (t.BreakOrFlat b f) Flat ms = spelled_in f Flat ms
spelled_in (t.Group d) Break ms = spelled_in d (first_mode ms) (later_modes ms)
spelled_in (t.Group d) Flat ms = spelled_in d Flat ms
spelled_in _ m ms = []

-- ---- documents laid again

-- documents at which a probe looks alike in this mode, at any indent
abbrev pub LooksSame : Mode → Tree → Tree → Type 0
LooksSame m x y = (w i : ℕ) (c : Column) (p : Bool) → look w x i m c p ≡ look w y i m c p

-- nothing is claimed of what is laid like a layout that fails
abbrev pub IsLaidLike : Outcome → Outcome → Type 0
IsLaidLike (Done b st) x = x ≡ Done b st
IsLaidLike (Failed b) x = ⊤

abbrev pub IsFailed : Outcome → Type 0
IsFailed (Done b st) = ⊥
IsFailed (Failed b) = ⊤

-- no layout that is whole lays the groups of a document in these modes
abbrev pub AreNoModes : Tree → Mode → List Mode → Type 0
AreNoModes x m ms =
    (o : RenderOptions) (i : ℕ) (rest : List Entry) (st : State) (more : List Mode) → group_modes o x i m rest st more ≡ ms
    → IsFailed (lay o (settle o) x i m rest st)

-- A group of the second document is flat where one of the first was, and only there: where x was laid flat it looks the same, and
-- where it was broken, with its groups in these modes, y is never flat or looks the same.
abbrev pub IsFlatAgain : Tree → Tree → Mode → List Mode → Type 0
IsFlatAgain x y Flat ms = IsNeverFlat x ⊎ LooksSame Flat x y
IsFlatAgain x y Break ms = IsNeverFlat y ⊎ (LooksSame Flat x y ⊎ AreNoModes x Break ms)

-- Where x was laid in this mode, and its groups in the first of these modes, which leaves those others, it is spelled so, and y is
-- laid like it before what is seen alike.
pub record Again (x y : Tree) (m : Mode) (ms left : List Mode) (bits : List Bit) : Type 0 where
  pub nil : is_nil x ≡ is_nil y
  pub broken : LooksSame Break x y
  pub flat : IsFlatAgain x y m ms
  pub after : modes_after x m ms ≡ left
  pub spelled : spelled_in x m ms ≡ bits
  pub laid : (o : RenderOptions) (i : ℕ) (a b : List Entry) (st : State) (more : List Mode) → FollowAlike a b
      → group_modes o x i m a st more ≡ ms → IsLaidLike (lay o (settle o) x i m a st) (lay o (settle o) y i m b st)

-- ---- layouts

-- a document that is laid again has the layout that it had
abbrev pub LayoutsStay : Type 0
LayoutsStay =
    (o : RenderOptions) (x y : Tree) (left : List Mode) (bits : List Bit) (bytes : List ℕ) → Again x y Break (layout_modes o x) left bits
    → layout o x ≡ Whole bytes → layout o y ≡ Whole bytes

-- a layout is written as its document is spelled in the modes of its groups
abbrev pub LayoutsAreWrittenByModes : Type 0
LayoutsAreWrittenByModes =
    (o : RenderOptions) (d : Tree) (bytes : List ℕ) → o.indentation_policy ≡ Deferred → IsExact d → layout o d ≡ Whole bytes
    → AreWritten o true (spelled_in d Break (layout_modes o d)) bytes

-- ---- one after another

-- a document is laid again as it is
abbrev pub DocumentsStay : Type 0
DocumentsStay = (x : Tree) (m : Mode) (ms : List Mode) → Again x x m ms (modes_after x m ms) (spelled_in x m ms)

abbrev pub AppendedDocumentsStay : Type 0
AppendedDocumentsStay =
    (x y u v : Tree) (m : Mode) (ms ns left : List Mode) (xs us : List Bit) → Again x y m ms ns xs → Again u v m ns left us
    → Again (append x u) (append y v) m ms left (xs ++ us)
