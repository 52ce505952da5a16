use Rattle.std.proofs.Common.{sym, ◌∙◌, subst}
use Rattle.toml_documents.specs.Documents.{level_with_comma}
use Rattle.toml_formatter.specs.Drafts.{Stands}
use Rattle.toml_formatter.specs.declared.line.Line.{Line}
use Rattle.toml_formatter.proofs.DraftLemmas.{comma_follows, comma_waits}
use Rattle.toml_formatter.proofs.line.Line.with_comma.Goals as goal

pub returns-then-settles-clause-stands : goal.returns-then-settles-clause-stands
returns-then-settles-clause-stands c = λ lv h.
    let settled = c.in_ok-settled.ensures in
    subst (λ (l : Line). Stands (level_with_comma lv) l) (sym c.with_waiting_comma.ensures.made)
    (comma_follows lv c.args.self c.in_ok-settled.field-0 h (sym c.settles.ensures ∙ c.if-settles.true) settled.end settled.no_comments)

pub returns-clause-stands : goal.returns-clause-stands
returns-clause-stands c = λ lv h. subst (λ (l : Line). Stands (level_with_comma lv) l) (sym c.with_waiting_comma-2.ensures.made)
    (comma_waits lv c.args.self h (sym c.settles.ensures ∙ c.if-settles.false))
