use Rattle.std.proofs.Common.{rules, ap, ◌∙◌}
use Rattle.std.proofs.lemmas.Result.{IfErr-weaker}
use Rattle.prettyless_doc.specs.BuildErrors.{IsMemory}
use Rattle.prettyless_doc.specs.DocTree.{built}
use Rattle.prettyless_model.specs.Tree.{Tree, Append}
use Rattle.prettyless_trees.specs.Built.{IsNotNil}
use Rattle.prettyless_build.proofs.Appended.{nothing, something, after_nothing, before_nothing, both_something}
use Rattle.prettyless_build.proofs.builder.DocBuilder.join.Goals as goal

pub returns-then-is_nil-clause-ok : goal.returns-then-is_nil-clause-ok
returns-then-is_nil-clause-ok g c = after_nothing _ _ (nothing c.doc.ensures c.is_nil.ensures c.if-is_nil.true)

pub returns-then-is_nil-2-clause-ok : goal.returns-then-is_nil-2-clause-ok
returns-then-is_nil-2-clause-ok g c = before_nothing _ _ (nothing c.doc-2.ensures c.is_nil-2.ensures c.if-is_nil-2.true)

pub returns-in_err-left-clause-err : goal.returns-in_err-left-clause-err
returns-in_err-left-clause-err g c =
    let self = something c.doc.ensures c.is_nil.ensures c.if-is_nil.false in
    let that = something c.doc-2.ensures c.is_nil-2.ensures c.if-is_nil-2.false in
    IfErr-weaker c.from_residual.result IsMemory _ (λ e memory. (memory, self, that)) (search rules)

pub returns-in_err-right-clause-err : goal.returns-in_err-right-clause-err
returns-in_err-right-clause-err g c =
    let self = something c.doc.ensures c.is_nil.ensures c.if-is_nil.false in
    let that = something c.doc-2.ensures c.is_nil-2.ensures c.if-is_nil-2.false in
    IfErr-weaker c.from_residual-in_err-right.result IsMemory _ (λ e memory. (memory, self, that)) (search rules)

-- that both are something is searched for: what it follows from goes by other names in a changed branch
pub returns-clause-ok : goal.returns-clause-ok
returns-clause-ok g c =
    let tree = g.D.Doc.DocPtr.tree in
    let self : IsNotNil (built tree c.args.self.1) = search rules depth 1 in
    ap (built tree) c.new.ensures
    ∙ ap (λ (x : Tree). Append x (tree c.in_ok-right.right)) c.in_ok-left.ensures.ok
    ∙ ap (Append (built tree c.args.self.1)) c.in_ok-right.ensures.ok
    ∙ both_something _ _ self (search rules depth 1)
