-- Nodes and their parts: the documents that a node has below it.
use Rattle.std.specs.Prelude.{Bool, true, false, ◌&&◌, if◌then◌else◌, List, [], ◌∷◌}
use Rattle.prettyless_model.specs.Tree.{Tree, One, Two}
use Rattle.prettyless_model.specs.declared.kind.Single.{Single}
use Rattle.prettyless_model.specs.declared.kind.Single.TheVariants as one
use Rattle.prettyless_table.specs.declared.below.Parts.{Parts}
use Rattle.prettyless_table.specs.declared.below.Parts.TheVariants as parts

-- the parts of a tree
abbrev pub parts_of : Tree → List Tree
parts_of (One kind d) = d ∷ []
parts_of (Two kind l r) = l ∷ r ∷ []
parts_of _ = []

-- the trees of the parts of a node
abbrev pub part_trees : {N : Type 0} → (N → Tree) → Parts N → List Tree
part_trees f parts.None = []
part_trees f (parts.One x) = f x ∷ []
part_trees f (parts.Two x y) = f x ∷ f y ∷ []

-- whether there are no trees
abbrev pub none : List Tree → Bool
none [] = true
none (x ∷ xs) = false

-- whether trees have no parts
abbrev pub leaves : List Tree → Bool
leaves [] = true
leaves (x ∷ xs) = none (parts_of x) && leaves xs

-- whether the parts of a tree have none themselves
abbrev pub tiny : Tree → Bool
tiny d = leaves (parts_of d)

-- whether trees are no more than the parts of a small one: none has parts, but the second of two may be tiny, as a line after a text
abbrev pub below_small : List Tree → Bool
below_small (x ∷ y ∷ []) = none (parts_of x) && tiny y
below_small xs = leaves xs

-- whether a tree is so small that it takes no cell
abbrev pub small : Tree → Bool
small d = below_small (parts_of d)

-- whether a node of this kind has the place of its part
abbrev pub shares : Single → Bool
shares (one.Indented how) = true
shares one.Group = true
shares _ = false

-- whether a node is small and has parts: one above it that would share its cell takes one
abbrev pub small_with_parts : Tree → Bool
small_with_parts d = if none (parts_of d) then false else small d

-- whether a node takes a cell: it is not small, and does not share that of its part
abbrev pub takes_own : Bool → Tree → Tree → Bool
takes_own true d x = small_with_parts x
takes_own false d x = if small d then false else true

abbrev pub takes : Tree → Bool
takes (One kind d) = takes_own (shares kind) (One kind d) d
takes d = if small d then false else true
