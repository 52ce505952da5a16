use Rattle.std.proofs.Common.{◌≡◌, refl, sym, ◌∙◌, ap, ◌<◌, arith, length, map}
use Rattle.std.proofs.lemmas.List.{length-map}
use Rattle.std.proofs.lemmas.Result.{IfOk-weaker}
use Rattle.prettyless_trees.specs.Counted.{text}
use Rattle.prettyless_doc.specs.DocTree.{built}
use Rattle.prettyless_trees.specs.Built.{enclose, group}
use Rattle.prettyless_shapes.specs.Items.{ShowsList}
use Rattle.prettyless_shapes.specs.Shapes.{inside, list}
use Rattle.prettyless_shapes.proofs.Made.{of_made, list_some}
use Rattle.prettyless_shapes.proofs.ShapesShow.{list_shows}
use Rattle.prettyless_shapes.proofs.lists.list.Goals as goal

-- where there are documents
pub returns-clause-ok : goal.returns-clause-ok
returns-clause-ok g c =
    let tree = g.D.Doc.DocPtr.tree in
    let docs = map tree c.args.docs.items in
    let before = c.args.before.now in
    let mark = c.args.mark.now in
    let after = c.args.after.now in
    let style = c.args.style in
    let long : length docs ≡ length c.args.docs.items = length-map c.args.docs.items tree in
    let some : 0 < length docs = grind (arith, c.is_empty.ensures, c.if-is_empty.ensures, long) in
    let enclosed = c.in_ok-enclose.ensures.ok in
    let whole : built tree c.in_ok-enclose.field-0.1 ≡ enclose (text before) (inside style (text mark) docs) (text after)
    = rw (enclosed.4, enclosed.2, enclosed.3, c.in_ok-inside.ensures.ok) refl in
    let made = c.in_ok-group.ensures.ok ∙ ap group whole ∙ sym (list_some style before docs mark after some) in
    IfOk-weaker c.into_doc.result _ _ (λ p placed. placed ∙ made) c.into_doc.ensures.ok

pub returns-clause-items : goal.returns-clause-items
returns-clause-items g c =
    let tree = g.D.Doc.DocPtr.tree in
    let docs = map tree c.args.docs.items in
    let before = c.args.before.now in
    let mark = c.args.mark.now in
    let after = c.args.after.now in
    let style = c.args.style in
    of_made c.into_doc.result tree (list style before docs mark after) (ShowsList style before docs mark after)
    (list_shows style mark before after docs) (returns-clause-ok g c)
