use Rattle.std.proofs.Common.{rules}
use Rattle.prettyless_model.specs.Shows.{shows}
use Rattle.prettyless_trees.specs.Counted as counted
use Rattle.prettyless_model.specs.Tree.{Tree}
use Rattle.prettyless_laws.specs.Shown.{text_items}
use Rattle.prettyless_laws.proofs.ShownItems.{text_shows}
use Rattle.prettyless_shapes.proofs.Made.{of_made}
use Rattle.prettyless_shapes.proofs.leaves.text.Goals as goal

pub returns-clause-ok : goal.returns-clause-ok
returns-clause-ok g c = search rules depth 1

pub returns-clause-items : goal.returns-clause-items
returns-clause-items g c =
    let s = c.args.text.now in
    of_made c.into_doc.result g.D.Doc.DocPtr.tree (counted.text s) (λ (x : Tree). shows x (text_items s))
    (text_shows s) (returns-clause-ok g c)
