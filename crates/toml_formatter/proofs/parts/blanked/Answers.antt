use Rattle.std.proofs.Common.{◌∙◌, ap, [], ◌∷◌}
use Rattle.std.proofs.lemmas.Result.{IfOk-weaker}
use Rattle.prettyless_trees.specs.Built.{append}
use Rattle.prettyless_model.specs.Tree.{TextWithLen}
use Rattle.prettyless_laws.proofs.ShownItems.{space_shows}
use Rattle.prettyless_model.specs.Shows.{spaced}
use Rattle.prettyless_shapes.specs.Items.{ShowsMore}
use Rattle.prettyless_shapes.proofs.Made.{of_made}
use Rattle.prettyless_shapes.proofs.ShapesShow.{append_shows_more}
use Rattle.toml_lexemes.specs.Bytes.{blank_space}
use Rattle.toml_formatter.proofs.parts.blanked.Goals as goal

pub returns-clause-ok : goal.returns-clause-ok
returns-clause-ok g c =
    IfOk-weaker c.joined.result _ _ (λ p e. e ∙ ap (append (g.D.Doc.DocPtr.tree c.args.doc)) c.in_ok-uncounted.ensures.ok) c.joined.ensures.ok

pub returns-clause-items : goal.returns-clause-items
returns-clause-items g c =
    let tree = g.D.Doc.DocPtr.tree in
    let doc = tree c.args.doc in
    let blank = TextWithLen 0 (blank_space ∷ []) in
    of_made c.joined.result tree (append doc blank) (ShowsMore doc (spaced ∷ [])) (append_shows_more doc blank (spaced ∷ []) space_shows)
    (returns-clause-ok g c)
