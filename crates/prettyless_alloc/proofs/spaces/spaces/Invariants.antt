use Rattle.std.proofs.Common.{◌≡◌}
use Rattle.prettyless_doc.specs.DocTree.{built}
use Rattle.prettyless_trees.specs.Built.{hundreds}
use Rattle.prettyless_alloc.proofs.spaces.spaces.Given as goal

abbrev pub invariant-loop : goal.invariant-loop
invariant-loop g l = built g.D.Doc.DocPtr.tree l.all.1 ≡ hundreds l.counter
