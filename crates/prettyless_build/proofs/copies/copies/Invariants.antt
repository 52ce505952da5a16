use Rattle.std.proofs.Common.{◌≡◌}
use Rattle.prettyless_doc.specs.DocTree.{built}
use Rattle.prettyless_trees.specs.Built.{chain}
use Rattle.prettyless_build.proofs.copies.copies.Given as goal

abbrev pub invariant-loop : goal.invariant-loop
invariant-loop g l = built g.D.Doc.DocPtr.tree l.all.1 ≡ chain l.counter (g.D.Doc.DocPtr.tree l.fn.original)
