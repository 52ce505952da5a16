use Rattle.std.proofs.Common.{sym, ◌∙◌, ap, Bool}
use Rattle.std.proofs.lemmas.Result.{IfOk-weaker}
use Rattle.toml_documents.specs.Documents.{broken_if}
use Rattle.toml_formatter.proofs.parts.broken_if.Goals as goal

pub returns-then-breaks-clause-ok : goal.returns-then-breaks-clause-ok
returns-then-breaks-clause-ok g c =
    IfOk-weaker c.broken.result _ _
    (λ p e. e ∙ ap (λ (b : Bool). broken_if b (g.D.Doc.DocPtr.tree c.args.doc)) (sym c.if-breaks.true)) c.broken.ensures.ok

pub returns-clause-ok : goal.returns-clause-ok
returns-clause-ok g c = ap (λ (b : Bool). broken_if b (g.D.Doc.DocPtr.tree c.args.doc)) (sym c.if-breaks.false)
