use Rattle.std.proofs.Common.{true, refl, ap, ◌∙◌}
use Rattle.std.proofs.lemmas.Bool.{not-false}
use Rattle.prettyless_model.specs.Column.{saturating_add}
use Rattle.prettyless_summary.specs.Summary.{look_ink}
use Rattle.prettyless_summary.proofs.Ink.{ink_joins}
use Rattle.prettyless_summary.proofs.Weak.{rest_continues}
use Rattle.prettyless_summary.proofs.summary.Summary.and_ink.Goals as goal

pub returns-clause-reads : goal.returns-clause-reads
returns-clause-reads c =
    let s = c.args.self in
    let n = c.args.columns in
    let trail = c.args.trail in
    let total = c.saturating_add.result in
    rest_continues s (record s { inner = total; trail = trail }) (λ width. look_ink width true n trail) refl refl
    (λ width e q. rw (c.requires, not-false _ c.if-not-self.false)
    (ink_joins width s.inner s.trail n total trail s.has_suffix e q
    (c.saturating_add.ensures ∙ ap (λ k. saturating_add k n) c.saturating_add-before.ensures)))
