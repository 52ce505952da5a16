-- Tables: which documents stand where in their cells.
use Rattle.std.specs.Prelude.{◌≡◌, ℕ, ◌-◌, ◌<◌, ◌≤◌, Bool, true, false, List, [], ◌∷◌, Option, Some, None, length, get_or, ⊤}
use Rattle.std.specs.Coded.{×_prop, Unit-prop, le_prop}
use Rattle.prettyless_model.specs.Tree.{Tree, Nil, One, Two}
use Rattle.prettyless_model.specs.declared.mode.Mode.TheVariants.{Break, Flat}
use Rattle.prettyless_table.specs.declared.sums.Counts.{Counts}
use Rattle.prettyless_table.specs.declared.cell.Cell.{Cell}
use Rattle.prettyless_table.specs.declared.cell.Cell.TheVariants.{Root, Sums, Wide}
use Rattle.prettyless_table.specs.Sums.{AreDocumentSums, DocumentSums-prop, Keeps, Keeps-prop}
use Rattle.prettyless_table.specs.Parts.{shares, small}

-- the document that was stored before a cell, if the cell is for one
abbrev pub root_tree : {N : Type 0} → (N → Tree) → Cell N → Option Tree
root_tree f (Root place n) = Some (f n)
root_tree f _ = None

-- the documents of cells
abbrev pub cell_trees : {N : Type 0} → (N → Tree) → List (Cell N) → List (Option Tree)
cell_trees f [] = []
cell_trees f (c ∷ cs) = root_tree f c ∷ cell_trees f cs

-- a tree, if there is one
abbrev pub tree_or_nil : Option Tree → Tree
tree_or_nil (Some d) = d
tree_or_nil None = Nil

-- the document of the cell at a place
abbrev pub tree_at : {N : Type 0} → (N → Tree) → List (Cell N) → ℕ → Tree
tree_at f cells i = tree_or_nil (get_or (cell_trees f cells) i None)

-- a cell is for a document
abbrev pub HasRoot : {N : Type 0} → Cell N → Type 0
HasRoot (Root place n) = ⊤
HasRoot _ = ⊥

-- the cell at a place is
pub record IsRoot {N : Type 0} (cells : List (Cell N)) (at : ℕ) : Type 0 where
  pub within : at < length cells
  pub root : (c : Cell N) → HasRoot (get_or cells at c)

-- the summaries that a cell keeps are those of this tree
abbrev pub KeepsBoth : {N : Type 0} → Cell N → Tree → Type 0
KeepsBoth (Sums a b second flat broken) d = Keeps a flat d Flat × Keeps b broken d Break
KeepsBoth (Wide second sums) d = AreDocumentSums sums.value d
KeepsBoth (Root place n) d = ⊥

-- and those of the cell at a place
pub record HasCell {N : Type 0} (cells : List (Cell N)) (at : ℕ) (d : Tree) : Type 0 where
  pub within : at < length cells
  pub keeps : (c : Cell N) → KeepsBoth (get_or cells at c) d

-- the place of a second part that a cell keeps
abbrev pub second_of : {N : Type 0} → Cell N → ℕ
second_of (Sums a b second flat broken) = second
second_of (Wide second sums) = second
second_of (Root place n) = 0

-- and that of the cell at a place
abbrev pub no_counts : Counts
no_counts = record { lead = 0; inner = 0; trail = 0 }

abbrev pub no_cell : {N : Type 0} → Cell N
no_cell = Sums 255 255 0 no_counts no_counts

abbrev pub second_at : {N : Type 0} → List (Cell N) → ℕ → ℕ
second_at cells at = second_of (get_or cells at no_cell)

-- unless it is so
abbrev pub Unless : Bool → Type 0 → Type 0
Unless true P = ⊤
Unless false P = P

-- where the only part of a node of this kind stands, whose place this is
abbrev pub part_at : Bool → ℕ → ℕ
part_at true at = at
part_at false at = at - 1

-- A document stands at a place of a table: it is small, or its summaries are in the cell there. Its first part, or only one, stands
-- at the place before it, or at the same place, and the second one where the cell says.
abbrev pub In : {N : Type 0} → List (Cell N) → Tree → ℕ → Type 0
In cells (One kind d) at = Unless (small (One kind d)) (HasCell cells at (One kind d) × In cells d (part_at (shares kind) at))
In cells (Two kind l r) at =
    Unless (small (Two kind l r)) (HasCell cells at (Two kind l r) × (In cells l (at - 1) × In cells r (second_at cells at)))
In cells _ at = ⊤

-- a document that was stored stands where its cell says
abbrev pub IsPlaced : {N : Type 0} → (N → Tree) → List (Cell N) → Cell N → Type 0
IsPlaced f cells (Root place n) = In cells (f n) place
IsPlaced f cells _ = ⊤

-- each document that was stored does
abbrev pub CellsAreSound : {N : Type 0} → (N → Tree) → List (Cell N) → Type 0
CellsAreSound {N} f cells = (i : ℕ) (c : Cell N) → i < length cells → IsPlaced f cells (get_or cells i c)

KeepsBoth-prop : {N : Type 0} (c : Cell N) (d : Tree) → IsProp (KeepsBoth c d)
KeepsBoth-prop (Sums a b second flat broken) d = ×_prop (Keeps-prop a flat d Flat) (Keeps-prop b broken d Break)
KeepsBoth-prop (Wide second sums) d = DocumentSums-prop sums.value d
KeepsBoth-prop (Root place n) d = hlevel

HasCell-prop : {N : Type 0} (cells : List (Cell N)) (at : ℕ) (d : Tree) → IsProp (HasCell cells at d)
HasCell-prop {N} cells at d = hlevel (le_prop, λ (c : Cell N). KeepsBoth-prop (get_or cells at c) d)

Unless-prop : (b : Bool) {P : Type 0} → IsProp P → IsProp (Unless b P)
Unless-prop true h = Unit-prop
Unless-prop false h = h

pair-prop : {N : Type 0} (b : Bool) (cells : List (Cell N)) (at : ℕ) (d : Tree) {P Q : Type 0} → IsProp P → IsProp Q
    → IsProp (Unless b (HasCell cells at d × (P × Q)))
pair-prop b cells at d h k = Unless-prop b (×_prop (HasCell-prop cells at d) (×_prop h k))

single-prop : {N : Type 0} (b : Bool) (cells : List (Cell N)) (at : ℕ) (d : Tree) {P : Type 0} → IsProp P
    → IsProp (Unless b (HasCell cells at d × P))
single-prop b cells at d h = Unless-prop b (×_prop (HasCell-prop cells at d) h)

-- so a node of a table may know where it stands
pub In-prop : {N : Type 0} (cells : List (Cell N)) (d : Tree) (at : ℕ) → IsProp (In cells d at)
In-prop cells (One kind d) at = single-prop (small (One kind d)) cells at (One kind d) (In-prop cells d (part_at (shares kind) at))
In-prop cells (Two kind l r) at =
    pair-prop (small (Two kind l r)) cells at (Two kind l r) (In-prop cells l (at - 1)) (In-prop cells r (second_at cells at))
In-prop cells Nil at = Unit-prop
In-prop cells _ at = Unit-prop

-- cells were added: earlier ones are the same, and all documents stand where their cells say if they did
pub record CellsGrow {N : Type 0} (f : N → Tree) (old new : List (Cell N)) : Type 0 where
  pub longer : length old ≤ length new
  pub same : (i : ℕ) (c : Cell N) → i < length old → get_or new i c ≡ get_or old i c
  pub sound : CellsAreSound f old → CellsAreSound f new
