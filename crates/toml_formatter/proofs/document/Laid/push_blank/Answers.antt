use Rattle.std.proofs.Common.{◌≡◌, sym, ◌∙◌, ap, subst}
use Rattle.std.proofs.lemmas.Result.{on_ok_weaker}
use Rattle.prettyless_trees.specs.Built.{append}
use Rattle.prettyless_model.specs.Tree.{Tree, HardLine}
use Rattle.prettyless_pointers.specs.Trees.{ref_tree}
use Rattle.prettyless_laws.specs.InTurn.{EndsHard}
use Rattle.prettyless_laws.proofs.InTurn.{ends_hard}
use Rattle.toml_formatter.proofs.PressLemmas.{blank_added}
use Rattle.toml_formatter.proofs.document.Laid.push_blank.Goals as goal

pub push-requires-clause-ends : goal.push-requires-clause-ends
push-requires-clause-ends c =
    subst EndsHard (sym c.in_ok-line.ensures.ok) (ends_hard (ref_tree c.in_ok-nil.field-0))

pub returns-clause-lines : goal.returns-clause-lines
returns-clause-lines c =
    let line : ref_tree c.in_ok-line.line ≡ HardLine =
    c.in_ok-line.ensures.ok ∙ ap (λ (d : Tree). append d HardLine) c.in_ok-nil.ensures.ok in
    on_ok_weaker c.push.result
    (blank_added c.args.press.now.options c.args.self.now.sheet c.push.new.self.sheet c.args.self.now.blank (ref_tree c.in_ok-line.line)
    c.if-not-self.false line)
    c.push.ensures.lines
