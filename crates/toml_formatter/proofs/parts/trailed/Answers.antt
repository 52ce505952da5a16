use Rattle.std.proofs.Common.{[], ◌∷◌, rules}
use Rattle.prettyless_model.specs.Shows.{Mark}
use Rattle.prettyless_trees.specs.Built.{append}
use Rattle.prettyless_trees.specs.Counted.{text}
use Rattle.prettyless_model.specs.Tree.{Nil, BreakOrFlat}
use Rattle.prettyless_laws.proofs.ShownItems.{if_group_break_shows, text_shows}
use Rattle.prettyless_shapes.specs.Items.{ShowsMore}
use Rattle.prettyless_shapes.proofs.Made.{of_made}
use Rattle.prettyless_shapes.proofs.ShapesShow.{append_shows_more}
use Rattle.toml_lexemes.specs.Bytes.{comma}
use Rattle.toml_formatter.proofs.parts.trailed.Goals as goal

pub returns-clause-ok : goal.returns-clause-ok
returns-clause-ok g c = search rules

pub returns-clause-items : goal.returns-clause-items
returns-clause-items g c =
    let tree = g.D.Doc.DocPtr.tree in
    let doc = tree c.args.doc in
    let mark = BreakOrFlat (text (comma ∷ [])) Nil in
    of_made c.into_doc.result tree (append doc mark) (ShowsMore doc (Mark (comma ∷ []) ∷ []))
    (append_shows_more doc mark (Mark (comma ∷ []) ∷ []) (if_group_break_shows (text (comma ∷ [])) (comma ∷ []) (text_shows (comma ∷ []))))
    (returns-clause-ok g c)
