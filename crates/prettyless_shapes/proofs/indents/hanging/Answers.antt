use Rattle.std.proofs.Common.{[], ◌∷◌, rules}
use Rattle.prettyless_model.specs.Shows.{apart}
use Rattle.prettyless_shapes.specs.Items.{ShowsBoth}
use Rattle.prettyless_shapes.specs.Shapes.{hanging}
use Rattle.prettyless_shapes.proofs.Made.{of_made}
use Rattle.prettyless_shapes.proofs.ShapesShow.{hanging_shows}
use Rattle.prettyless_shapes.proofs.indents.hanging.Goals as goal

pub returns-clause-ok : goal.returns-clause-ok
returns-clause-ok g c = search rules

pub returns-clause-items : goal.returns-clause-items
returns-clause-items g c =
    let tree = g.D.Doc.DocPtr.tree in
    let first = tree c.args.first in
    let next = tree c.args.next in
    let columns = c.args.columns in
    of_made c.followed.result tree (hanging first next columns) (ShowsBoth first (apart ∷ []) next)
    (hanging_shows first next columns) (returns-clause-ok g c)
