use Rattle.std.proofs.Common.{◌∙◌}
use Rattle.std.proofs.lemmas.Result.{IfOk-weaker}
use Rattle.toml_documents.specs.Documents.{broken_if}
use Rattle.toml_formatter.proofs.parts.lexeme.Goals as goal

pub returns-clause-ok : goal.returns-clause-ok
returns-clause-ok g c =
    IfOk-weaker c.broken_if.result _ _ (λ p e. e ∙ (λ i. broken_if (c.has_lines.ensures i) (c.in_ok-text.ensures.ok i))) c.broken_if.ensures.ok

pub returns-clause-items : goal.returns-clause-items
returns-clause-items g c =
    IfOk-weaker c.broken_if.result _ _ (λ p same. same _ c.in_ok-text.ensures.items) c.broken_if.ensures.items
