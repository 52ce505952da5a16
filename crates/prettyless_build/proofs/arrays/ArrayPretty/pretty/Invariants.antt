use Rattle.std.proofs.Common.{take}
use Rattle.std.specs.List.{FoldsTo}
use Rattle.prettyless_model.specs.Tree.{Nil}
use Rattle.prettyless_doc.specs.DocTree.{built}
use Rattle.prettyless_trees.specs.Built.{appends}
use Rattle.prettyless_build.proofs.arrays.ArrayPretty.pretty.Given as goal

abbrev pub invariant-loop-item : goal.invariant-loop-item
invariant-loop-item g l =
    FoldsTo (appends g.T.Pretty.becomes) Nil (take l.item-index l.item-items) (built g.D.Doc.DocPtr.tree l.all.1)
