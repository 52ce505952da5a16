use Rattle.std.specs.List.{FoldsTo}
use Rattle.prettyless_doc.specs.DocTree.{built}
use Rattle.prettyless_trees.specs.Built.{appends}
use Rattle.prettyless_alloc.proofs.concat.append_all.Given as goal

abbrev pub invariant-loop-item : goal.invariant-loop-item
invariant-loop-item g l =
    (goal.iterator-loop-item g).can_next l.item-iterator
    × (goal.iterator-loop-item g).is_finite l.item-iterator
    × FoldsTo (appends g.I.Item.Pretty.becomes) (built g.D.Doc.DocPtr.tree l.initial.all.1) l.yielded (built g.D.Doc.DocPtr.tree l.all.1)
