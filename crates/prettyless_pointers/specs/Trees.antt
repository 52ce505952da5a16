-- The trees of pointers.
use Rattle.prettyless_model.specs.Tree.{Tree}
use Rattle.prettyless_doc.specs.DocTree.{tree_of}
use Rattle.prettyless_pointers.specs.declared.arena.RefDoc.{RefDoc, fold-RefDoc}
use Rattle.prettyless_pointers.specs.declared.boxes.BoxDoc.{BoxDoc, fold-BoxDoc}
use Rattle.prettyless_pointers.specs.declared.rc.RcDoc.{RcDoc, fold-RcDoc}

-- the tree of a boxed document
abbrev pub box_tree : BoxDoc → Tree
box_tree = fold-BoxDoc Tree Tree (λ d. d.0.value) (λ d. tree_of (λ t. t) d.0)

-- the tree of a document whose owners are counted
abbrev pub rc_tree : RcDoc → Tree
rc_tree = fold-RcDoc Tree Tree (λ d. d.0.value) (λ d. tree_of (λ t. t) d.0)

-- the tree of a document in an arena
abbrev pub ref_tree : RefDoc → Tree
ref_tree = fold-RefDoc Tree (λ d. tree_of (λ t. t) d.0.now)
