use Rattle.std.proofs.Common.{[], ◌∷◌, map, rules}
use Rattle.prettyless_model.specs.Shows.{ended}
use Rattle.prettyless_model.specs.Tree.{HardLine}
use Rattle.prettyless_trees.specs.Words.{intersperse}
use Rattle.prettyless_shapes.specs.Items.{ShowsAll}
use Rattle.prettyless_shapes.proofs.Made.{of_made}
use Rattle.prettyless_shapes.proofs.ShapesShow.{stacked_all_shows}
use Rattle.prettyless_shapes.proofs.gaps.stacked_all.Goals as goal

pub returns-clause-ok : goal.returns-clause-ok
returns-clause-ok g c = search rules

pub returns-clause-items : goal.returns-clause-items
returns-clause-items g c =
    let tree = g.D.Doc.DocPtr.tree in
    let docs = map tree c.args.docs.items in
    of_made c.into_doc.result tree (intersperse HardLine docs) (ShowsAll (ended ∷ []) docs)
    (stacked_all_shows docs) (returns-clause-ok g c)
