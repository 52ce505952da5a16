-- The nodes of documents that take cells, in the order in which they are listed, and where documents stand meanwhile.
use Rattle.std.specs.Prelude.{ℕ, ◌-◌, Bool, true, false, if◌then◌else◌, List, [], ◌∷◌, ◌++◌, map, length, reverse, ⊤}
use Rattle.prettyless_model.specs.Tree.{Tree, One, Two}
use Rattle.prettyless_probe.specs.Stack.{Task}
use Rattle.prettyless_table.specs.declared.cell.Cell.{Cell}
use Rattle.prettyless_table.specs.Parts.{shares, small, takes}
use Rattle.prettyless_table.specs.Cells.{In}
use Rattle.prettyless_table.specs.Stored.{FirstIn, SecondIn}

-- a tree before others, if it takes a cell
abbrev pub with_own : Tree → List Tree → List Tree
with_own d ds = if takes d then d ∷ ds else ds

-- the nodes of a tree that take cells: itself before those below it, and those of its first part before those of its second one
abbrev pub owners_of : Tree → List Tree
owners_of (One kind d) = with_own (One kind d) (owners_of d)
owners_of (Two kind l r) = with_own (Two kind l r) (owners_of l ++ owners_of r)
owners_of _ = []

-- and those of trees
abbrev pub all_owners : List Tree → List Tree
all_owners [] = []
all_owners (d ∷ ds) = owners_of d ++ all_owners ds

-- and those of nodes that wait, of the last one first
abbrev pub waiting_owners : {N : Type 0} → (N → Tree) → List N → List Tree
waiting_owners f [] = []
waiting_owners f (n ∷ ns) = waiting_owners f ns ++ owners_of (f n)

-- the trees that are not small
abbrev pub large : List Tree → List Tree
large [] = []
large (d ∷ ds) = if small d then large ds else d ∷ large ds

-- one tree or the other, where the first is that of a node with the place of its part, and the second is not small
abbrev pub keeper_by : Bool → Bool → Tree → Tree → Tree
keeper_by true false d x = x
keeper_by _ _ d x = d

-- the node whose cell a tree has that is not small: itself, or that of its part
abbrev pub keeper : Tree → Tree
keeper (One kind d) = keeper_by (shares kind) (small d) (One kind d) (keeper d)
keeper d = d

-- the nodes whose cells trees have
abbrev pub keepers : List Tree → List Tree
keepers [] = []
keepers (d ∷ ds) = if small d then keepers ds else keeper d ∷ keepers ds

-- documents stand at places, which others may follow
abbrev pub StandAt : {N : Type 0} → List (Cell N) → List Tree → List ℕ → Type 0
StandAt cells [] places = ⊤
StandAt cells (d ∷ ds) [] = ⊥
StandAt cells (d ∷ ds) (at ∷ places) = In cells d at × StandAt cells ds places

-- documents wait in a table: the first one has its last cell, and the others stand at places
abbrev pub WaitsInTable : {N : Type 0} → List (Cell N) → List Tree → List ℕ → Type 0
WaitsInTable cells [] places = ⊤
WaitsInTable cells (d ∷ ds) places = In cells d (length cells - 1) × StandAt cells ds places

-- of documents that wait the first ones are the parts of a node: these stand where its cell wants them, and the others at places
pub record AreFound {N : Type 0} (cells : List (Cell N)) (parts : List Tree) (at : ℕ) (ds : List Tree) (places : List ℕ)
    : Type 0 where
  pub first : FirstIn cells (length cells - 1) parts
  pub second : SecondIn cells at parts
  pub others : StandAt cells ds places

-- the documents that are not small stand at places of a stack, the first one at the last of them
abbrev pub Stand : {N : Type 0} → List (Cell N) → List Tree → List ℕ → Type 0
Stand cells ds places = StandAt cells (large ds) (reverse places)

-- the trees of tasks
abbrev pub task_trees : List Task → List Tree
task_trees = map (λ t. t.tree)
