use Rattle.std.proofs.Common.{rules, inl, inr}
use Rattle.std.proofs.lemmas.Result.{IfOk-weaker, IfErr-weaker}
use Rattle.prettyless_doc.specs.BuildErrors.{IsMemory}
use Rattle.prettyless_doc.specs.DocTree.{built}
use Rattle.prettyless_model.specs.Tree.{Tree}
use Rattle.prettyless_trees.specs.Built.{IsAppended}
use Rattle.prettyless_build.proofs.Appended.{enclosed, made_something}
use Rattle.prettyless_build.proofs.builder.DocBuilder.enclose.Goals as goal

pub returns-in_err-join-clause-err : goal.returns-in_err-join-clause-err
returns-in_err-join-clause-err g c =
    let tree = built g.D.Doc.DocPtr.tree in
    let x : Tree = tree c.in_ok-before.before.1 in
    let y : Tree = tree c.in_ok-after.after.1 in
    IfErr-weaker c.from_residual-in_err-join.result (λ e. IsMemory e × IsAppended x (tree c.args.self.1)) _
    (λ e h. inr (inr (h.0, (x, y, c.in_ok-before.ensures.ok, c.in_ok-after.ensures.ok, inl h.1))))
    (search rules)

pub returns-clause-ok : goal.returns-clause-ok
returns-clause-ok g c =
    let tree = built g.D.Doc.DocPtr.tree in
    let x : Tree = tree c.in_ok-before.before.1 in
    let y : Tree = tree c.in_ok-after.after.1 in
    let front : Tree = tree c.in_ok-join.field-0.1 in
    IfOk-weaker c.join-2.result _ _
    (λ b made. (
      x,
      y,
      c.in_ok-before.ensures.ok,
      c.in_ok-after.ensures.ok,
      enclosed x (tree c.args.self.1) y front (tree b.1)
          c.in_ok-join.ensures.ok made,
    ))
    c.join-2.ensures.ok

pub returns-clause-err : goal.returns-clause-err
returns-clause-err g c =
    let tree = built g.D.Doc.DocPtr.tree in
    let x : Tree = tree c.in_ok-before.before.1 in
    let y : Tree = tree c.in_ok-after.after.1 in
    let front : Tree = tree c.in_ok-join.field-0.1 in
    let joined = made_something x (tree c.args.self.1) front c.in_ok-join.ensures.ok in
    IfErr-weaker c.join-2.result _ _
    (λ e h. inr (inr (h.0, (x, y, c.in_ok-before.ensures.ok, c.in_ok-after.ensures.ok, inr (joined h.1, h.2)))))
    c.join-2.ensures.err
