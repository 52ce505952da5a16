use Rattle.std.specs.List.{FoldsTo}
use Rattle.prettyless_doc.specs.DocTree.{built}
use Rattle.prettyless_trees.specs.Built.{IsNotNil, append}
use Rattle.prettyless_build.specs.Iterated.{appends_after}
use Rattle.prettyless_alloc.proofs.intersperse.append_placed.Given as goal

abbrev pub invariant-loop-item : goal.invariant-loop-item
invariant-loop-item g l =
    let tree = g.D.Doc.DocPtr.tree in
    (goal.iterator-loop-item g).can_next l.item-iterator
    × (goal.iterator-loop-item g).is_finite l.item-iterator
    × IsNotNil (tree l.all)
    × FoldsTo (appends_after (tree l.gap) g.I.Item.Pretty.becomes)
    (append (append (tree l.initial.all) (tree l.gap)) (built tree l.initial.last.1)) l.yielded
    (append (append (tree l.all) (tree l.gap)) (built tree l.last.1))
