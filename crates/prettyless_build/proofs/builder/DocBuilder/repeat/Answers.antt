use Rattle.std.proofs.Common.{rules, ap, ◌≡◌, ◌∙◌, ◌≤◌, ◌<◌, arith}
use Rattle.std.proofs.lemmas.Result.{IfOk-weaker, IfErr-weaker}
use Rattle.prettyless_doc.specs.BuildErrors.{IsMemory}
use Rattle.prettyless_doc.specs.DocTree.{built}
use Rattle.prettyless_model.specs.Tree.{Tree, Append}
use Rattle.prettyless_build.proofs.Chains.{repeated}
use Rattle.prettyless_build.proofs.builder.DocBuilder.repeat.Goals as goal

pub returns-in_err-original-in_default-clause-same : goal.returns-in_err-original-in_default-clause-same
returns-in_err-original-in_default-clause-same g c = λ one. absurd (omega arith)

pub returns-in_err-original-in_default-clause-err : goal.returns-in_err-original-in_default-clause-err
returns-in_err-original-in_default-clause-err g c =
    let more : 1 < c.args.count = omega arith in
    IfErr-weaker c.from_residual.result IsMemory _ (λ e memory. (memory, more)) (search rules)

pub returns-in_err-front-in_default-clause-same : goal.returns-in_err-front-in_default-clause-same
returns-in_err-front-in_default-clause-same g c = λ one. absurd (omega arith)

pub returns-in_err-front-in_default-clause-err : goal.returns-in_err-front-in_default-clause-err
returns-in_err-front-in_default-clause-err g c =
    let more : 1 < c.args.count = omega arith in
    IfErr-weaker c.from_residual-in_err-front-in_default.result IsMemory _ (λ e memory. (memory, more)) (search rules)

pub returns-clause-ok : goal.returns-clause-ok
returns-clause-ok g c =
    let more : 2 ≤ c.args.count = omega arith in
    let tree = g.D.Doc.DocPtr.tree in
    let front : Tree = built tree c.in_ok-front-in_default.front.1 in
    let last : Tree = built tree c.from_doc-last.result.1 in
    let original : Tree = tree c.in_ok-original-in_default.original in
    let same = ap (Append front) c.from_doc-last.ensures.tree in
    IfOk-weaker c.of_two.result (λ b. built tree b.1 ≡ Append front last) _
    (λ b made. repeated c.args.count _ front original _ more (made ∙ same) c.in_ok-front-in_default.ensures.ok
    c.in_ok-original-in_default.ensures.ok)
    c.of_two.ensures.ok

pub returns-clause-same : goal.returns-clause-same
returns-clause-same g c = λ one. absurd (omega arith)

pub returns-clause-err : goal.returns-clause-err
returns-clause-err g c =
    let more : 1 < c.args.count = omega arith in
    IfErr-weaker c.of_two.result IsMemory _ (λ e memory. (memory, more)) c.of_two.ensures.err
