use Rattle.std.proofs.Common.{[], ◌∷◌, rules}
use Rattle.prettyless_model.specs.Shows.{ended}
use Rattle.prettyless_model.specs.Tree.{HardLine}
use Rattle.prettyless_trees.specs.Built.{append}
use Rattle.prettyless_laws.proofs.ShownItems.{hard_line_shows}
use Rattle.prettyless_shapes.specs.Items.{ShowsMore}
use Rattle.prettyless_shapes.proofs.Made.{of_made}
use Rattle.prettyless_shapes.proofs.ShapesShow.{append_shows_more}
use Rattle.prettyless_shapes.proofs.gaps.ended.Goals as goal

pub returns-clause-ok : goal.returns-clause-ok
returns-clause-ok g c = search rules

pub returns-clause-items : goal.returns-clause-items
returns-clause-items g c =
    let tree = g.D.Doc.DocPtr.tree in
    let doc = tree c.args.doc in
    of_made c.followed.result tree (append doc HardLine) (ShowsMore doc (ended ∷ []))
    (append_shows_more doc HardLine (ended ∷ []) hard_line_shows) (returns-clause-ok g c)
