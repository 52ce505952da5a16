use Rattle.std.proofs.Common.{rules, ◌∙◌}
use Rattle.std.proofs.lemmas.Result.{IfOk-weaker}
use Rattle.prettyless_model.specs.Tree.{Tree}
use Rattle.prettyless_doc.specs.DocTree.{built}
use Rattle.prettyless_trees.specs.Built.{IsNotNil}
use Rattle.prettyless_alloc.proofs.Walks.{placed_after, some_from}
use Rattle.prettyless_alloc.proofs.intersperse.place_after.Goals as goal

pub returns-clause-ok : goal.returns-clause-ok
returns-clause-ok g c =
    let doc : Tree = built g.D.Doc.DocPtr.tree c.args.doc.1 in
    let some : IsNotNil doc = some_from doc (search rules) in
    IfOk-weaker c.alloc-2.result _ _
    (λ p h. h
    ∙ placed_after _ _ doc _ _ c.requires.some.0 c.requires.some.1 some c.in_ok-front.ensures.ok c.in_ok-into_doc.ensures.ok)
    c.alloc-2.ensures.ok
