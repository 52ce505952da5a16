use Rattle.std.proofs.Common.{[], ◌∷◌, rules}
use Rattle.prettyless_model.specs.Shows.{loose}
use Rattle.prettyless_trees.specs.Built.{append}
use Rattle.prettyless_trees.specs.Lines.{line_}
use Rattle.prettyless_laws.proofs.ShownItems.{line__shows}
use Rattle.prettyless_shapes.specs.Items.{ShowsMore}
use Rattle.prettyless_shapes.proofs.Made.{of_made}
use Rattle.prettyless_shapes.proofs.ShapesShow.{append_shows_more}
use Rattle.toml_formatter.proofs.parts.edged.Goals as goal

pub returns-clause-ok : goal.returns-clause-ok
returns-clause-ok g c = search rules

pub returns-clause-items : goal.returns-clause-items
returns-clause-items g c =
    let tree = g.D.Doc.DocPtr.tree in
    let doc = tree c.args.doc in
    of_made c.into_doc.result tree (append doc line_) (ShowsMore doc (loose ∷ [])) (append_shows_more doc line_ (loose ∷ []) line__shows)
    (returns-clause-ok g c)
