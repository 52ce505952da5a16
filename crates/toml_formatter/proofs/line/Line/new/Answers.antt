use Rattle.std.proofs.Common.{sym, subst, true, []}
use Rattle.toml_formatter.specs.declared.line.Line.{Line}
use Rattle.toml_formatter.specs.Lines.{ShowsTaken}
use Rattle.toml_documents.specs.Documents.{new_level}
use Rattle.toml_formatter.specs.Drafts.{Stands}
use Rattle.toml_formatter.proofs.DraftLemmas.{new_stands}
use Rattle.toml_formatter.proofs.LineLemmas.{no_lexeme}
use Rattle.toml_formatter.proofs.line.Line.new.Goals as goal

pub returns-clause-line : goal.returns-clause-line
returns-clause-line c = λ left. subst (λ (l : Line). ShowsTaken true true l left []) (sym c.begun.ensures)
    (no_lexeme c.in_ok-nil.field-0 left c.in_ok-nil.ensures.items)

pub returns-clause-stands : goal.returns-clause-stands
returns-clause-stands c = λ kind opening. subst (λ (l : Line). Stands (new_level kind opening) l) (sym c.begun.ensures)
    (new_stands c.in_ok-nil.field-0 kind opening c.in_ok-nil.ensures.ok)
