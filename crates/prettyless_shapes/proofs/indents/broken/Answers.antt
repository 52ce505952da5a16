use Rattle.std.proofs.Common.{refl, rules}
use Rattle.prettyless_model.specs.Tree.{ExpandParent}
use Rattle.prettyless_trees.specs.Built.{append}
use Rattle.prettyless_shapes.specs.Items.{ShowsSame}
use Rattle.prettyless_shapes.proofs.Made.{of_made}
use Rattle.prettyless_shapes.proofs.ShapesShow.{append_shows_same}
use Rattle.prettyless_shapes.proofs.indents.broken.Goals as goal

pub returns-clause-ok : goal.returns-clause-ok
returns-clause-ok g c = search rules

pub returns-clause-items : goal.returns-clause-items
returns-clause-items g c =
    let tree = g.D.Doc.DocPtr.tree in
    let doc = tree c.args.doc in
    of_made c.followed.result tree (append doc ExpandParent) (ShowsSame doc)
    (append_shows_same doc ExpandParent refl) (returns-clause-ok g c)
