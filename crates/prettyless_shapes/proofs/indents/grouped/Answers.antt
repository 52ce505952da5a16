use Rattle.std.proofs.Common.{rules}
use Rattle.prettyless_trees.specs.Built.{group}
use Rattle.prettyless_shapes.specs.Items.{ShowsSame}
use Rattle.prettyless_shapes.proofs.Made.{of_made}
use Rattle.prettyless_shapes.proofs.ShapesShow.{group_shows_same}
use Rattle.prettyless_shapes.proofs.indents.grouped.Goals as goal

pub returns-clause-ok : goal.returns-clause-ok
returns-clause-ok g c = search rules

pub returns-clause-items : goal.returns-clause-items
returns-clause-items g c =
    let tree = g.D.Doc.DocPtr.tree in
    let doc = tree c.args.doc in
    of_made c.into_doc.result tree (group doc) (ShowsSame doc) (group_shows_same doc) (returns-clause-ok g c)
