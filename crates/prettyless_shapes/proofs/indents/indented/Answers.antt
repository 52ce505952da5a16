use Rattle.std.proofs.Common.{pos, rules}
use Rattle.prettyless_trees.specs.Built.{nest}
use Rattle.prettyless_shapes.specs.Items.{ShowsSame}
use Rattle.prettyless_shapes.proofs.Made.{of_made}
use Rattle.prettyless_shapes.proofs.ShapesShow.{nest_shows_same}
use Rattle.prettyless_shapes.proofs.indents.indented.Goals as goal

pub returns-clause-ok : goal.returns-clause-ok
returns-clause-ok g c = search rules

pub returns-clause-items : goal.returns-clause-items
returns-clause-items g c =
    let tree = g.D.Doc.DocPtr.tree in
    let doc = tree c.args.doc in
    let columns = c.args.columns in
    of_made c.into_doc.result tree (nest (pos columns) doc) (ShowsSame doc) (nest_shows_same columns doc) (returns-clause-ok g c)
