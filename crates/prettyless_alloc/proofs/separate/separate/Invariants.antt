use Rattle.std.proofs.Common.{◌≡◌, map}
use Rattle.std.specs.List.{fold}
use Rattle.prettyless_doc.specs.DocTree.{built}
use Rattle.prettyless_trees.specs.Built.{append}
use Rattle.prettyless_alloc.proofs.separate.separate.Given as goal

-- the first document, and after it the gap and a document for each that came
abbrev pub invariant-loop-doc : goal.invariant-loop-doc
invariant-loop-doc g l =
    let tree = g.D.Doc.DocPtr.tree in
    built tree l.all.1 ≡ fold (λ z y. append (append z (tree l.gap)) y) (built tree l.initial.all.1) (map tree l.yielded)
