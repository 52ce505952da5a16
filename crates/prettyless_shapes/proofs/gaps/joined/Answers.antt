use Rattle.std.proofs.Common.{[], rules}
use Rattle.prettyless_trees.specs.Built.{append}
use Rattle.prettyless_shapes.specs.Items.{ShowsBoth}
use Rattle.prettyless_shapes.proofs.Made.{of_made}
use Rattle.prettyless_shapes.proofs.ShapesShow.{append_shows_both}
use Rattle.prettyless_shapes.proofs.gaps.joined.Goals as goal

pub returns-clause-ok : goal.returns-clause-ok
returns-clause-ok g c = search rules

pub returns-clause-items : goal.returns-clause-items
returns-clause-items g c =
    let tree = g.D.Doc.DocPtr.tree in
    let first = tree c.args.first in
    let next = tree c.args.next in
    of_made c.followed.result tree (append first next) (ShowsBoth first [] next)
    (append_shows_both first next) (returns-clause-ok g c)
