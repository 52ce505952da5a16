use Rattle.std.proofs.Common.{[], ◌∷◌, rules}
use Rattle.prettyless_model.specs.Shows.{spaced}
use Rattle.prettyless_trees.specs.Lines.{space}
use Rattle.prettyless_laws.proofs.ShownItems.{space_shows}
use Rattle.prettyless_shapes.specs.Items.{ShowsBoth}
use Rattle.prettyless_shapes.specs.Shapes.{gapped}
use Rattle.prettyless_shapes.proofs.Made.{of_made}
use Rattle.prettyless_shapes.proofs.ShapesShow.{gapped_shows}
use Rattle.prettyless_shapes.proofs.gaps.spaced.Goals as goal

pub returns-clause-ok : goal.returns-clause-ok
returns-clause-ok g c = search rules

pub returns-clause-items : goal.returns-clause-items
returns-clause-items g c =
    let tree = g.D.Doc.DocPtr.tree in
    let first = tree c.args.first in
    let next = tree c.args.next in
    of_made c.joined.result tree (gapped first space next) (ShowsBoth first (spaced ∷ []) next)
    (gapped_shows first space next (spaced ∷ []) space_shows) (returns-clause-ok g c)
