use Rattle.std.proofs.Common.{◌∷◌, map, rules}
use Rattle.prettyless_model.specs.Shows.{Late, spaced}
use Rattle.prettyless_laws.specs.Shown.{text_items}
use Rattle.prettyless_shapes.specs.Items.{ShowsMore}
use Rattle.prettyless_shapes.specs.Shapes.{late_commented}
use Rattle.prettyless_shapes.proofs.Made.{of_made, comment_put_off}
use Rattle.prettyless_shapes.proofs.ShapesShow.{late_commented_shows}
use Rattle.prettyless_shapes.proofs.comments.with_late_comment.Goals as goal

pub returns-clause-ok : goal.returns-clause-ok
returns-clause-ok g c = let put_off = comment_put_off c.args.comment.now in search (rules, put_off)

pub returns-clause-items : goal.returns-clause-items
returns-clause-items g c =
    let tree = g.D.Doc.DocPtr.tree in
    let doc = tree c.args.doc in
    let comment = c.args.comment.now in
    of_made c.followed.result tree (late_commented doc comment) (ShowsMore doc (Late spaced ∷ map Late (text_items comment)))
    (late_commented_shows doc comment) (returns-clause-ok g c)
