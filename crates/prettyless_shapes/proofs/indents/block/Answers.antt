use Rattle.std.proofs.Common.{rules}
use Rattle.prettyless_shapes.specs.Items.{ShowsBlock}
use Rattle.prettyless_shapes.specs.Shapes.{block}
use Rattle.prettyless_shapes.proofs.Made.{of_made}
use Rattle.prettyless_shapes.proofs.ShapesShow.{block_shows}
use Rattle.prettyless_shapes.proofs.indents.block.Goals as goal

pub returns-clause-ok : goal.returns-clause-ok
returns-clause-ok g c = search rules

pub returns-clause-items : goal.returns-clause-items
returns-clause-items g c =
    let tree = g.D.Doc.DocPtr.tree in
    let before = tree c.args.before in
    let doc = tree c.args.doc in
    let after = tree c.args.after in
    let columns = c.args.columns in
    of_made c.stacked.result tree (block before doc after columns) (ShowsBlock before doc after)
    (block_shows before doc after columns) (returns-clause-ok g c)
