-- A node by what it holds.
use Rattle.prettyless_model.specs.Tree as t
use Rattle.prettyless_model.specs.Tree.{Tree}
use Rattle.prettyless_doc.specs.DocTree.{tree_of}
use Rattle.prettyless_doc.specs.declared.parts.NodeParts.{NodeParts}
use Rattle.prettyless_doc.specs.declared.parts.NodeParts.TheVariants.{None, One, Two}

-- the tree of a node by its parts, where f gives the trees of its pointers
abbrev pub parts_tree : {T : Type 0} → (T → Tree) → NodeParts T → Tree
parts_tree f (None node) = tree_of f node
parts_tree f (One kind x) = t.One kind (f x.now)
parts_tree f (Two kind x y) = t.Two kind (f x.now) (f y.now)
