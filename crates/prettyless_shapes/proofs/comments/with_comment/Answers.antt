use Rattle.std.proofs.Common.{[], ◌∷◌, ◌++◌, rules}
use Rattle.prettyless_model.specs.Shows.{spaced, ended}
use Rattle.prettyless_laws.specs.Shown.{text_items}
use Rattle.prettyless_shapes.specs.Items.{ShowsMore}
use Rattle.prettyless_shapes.specs.Shapes.{commented}
use Rattle.prettyless_shapes.proofs.Made.{of_made}
use Rattle.prettyless_shapes.proofs.ShapesShow.{commented_shows}
use Rattle.prettyless_shapes.proofs.comments.with_comment.Goals as goal

pub returns-clause-ok : goal.returns-clause-ok
returns-clause-ok g c = search rules

pub returns-clause-items : goal.returns-clause-items
returns-clause-items g c =
    let tree = g.D.Doc.DocPtr.tree in
    let doc = tree c.args.doc in
    let comment = c.args.comment.now in
    of_made c.ended.result tree (commented doc comment) (ShowsMore doc (spaced ∷ (text_items comment ++ ended ∷ [])))
    (commented_shows doc comment) (returns-clause-ok g c)
