use Rattle.std.proofs.Common.{sym, subst}
use Rattle.prettyless_trees.specs.Built.{append}
use Rattle.prettyless_model.specs.Tree.{Tree}
use Rattle.prettyless_pointers.specs.Trees.{ref_tree}
use Rattle.toml_formatter.specs.Presses.{AddsLines}
use Rattle.prettyless_laws.specs.InTurn.{EndsHard}
use Rattle.prettyless_laws.proofs.InTurn.{ends_hard}
use Rattle.toml_formatter.proofs.PressLemmas.{statement_added}
use Rattle.toml_formatter.proofs.document.Laid.push_statement.Goals as goal

pub push-requires-clause-ends : goal.push-requires-clause-ends
push-requires-clause-ends c =
    subst EndsHard (sym c.in_ok-line.ensures.ok) (ends_hard (ref_tree c.args.statement))

pub returns-clause-lines : goal.returns-clause-lines
returns-clause-lines c =
    statement_added c.args.press.now.options c.args.self.now.sheet c.push_blank.new.self.sheet c.push.new.self.sheet c.args.self.now.blank
    (ref_tree c.args.statement) c.in_ok-push_blank.ensures.lines
    (subst (λ (q : Tree). AddsLines c.args.press.now.options c.push_blank.new.self.sheet c.push.new.self.sheet (λ d. append d q))
    c.in_ok-line.ensures.ok c.in_ok-push.ensures.lines)
