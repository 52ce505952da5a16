use Rattle.std.proofs.Common.{subst, sym}
use Rattle.prettyless_model.specs.Tree.{Append}
use Rattle.prettyless_summary.specs.Known.{IsKnown}
use Rattle.prettyless_summary.specs.declared.known.Known.{Known}
use Rattle.prettyless_summary.specs.declared.known.Known.TheVariants.{Begins}
use Rattle.prettyless_summary.proofs.Knowing.{append_begins, append_both}
use Rattle.prettyless_summary.proofs.known.appended.Goals as goal

pub returns-in-Begins-default : goal.returns-in-Begins-default
returns-in-Begins-default c d e m h k =
    let begins = c.in-Begins-default.is-0 in
    subst (λ (x : Known). IsKnown x (Append d e) m) (sym begins)
    (append_begins c.in-Begins-default.field-0-0 d e m (subst (λ (x : Known). IsKnown x d m) begins h))

pub returns-in-Whole-Begins : goal.returns-in-Whole-Begins
returns-in-Whole-Begins c d e m h k =
    let on = c.in-Whole-Begins in
    let both = c.then-in-Whole-Begins in
    subst (λ x. IsKnown (Begins x) (Append d e) m) (sym c.unwrap_or.ensures) (append_both on.start on.next both.result d e m
    (subst (λ (x : Known). IsKnown x d m) on.is-0 h) (subst (λ (x : Known). IsKnown x e m) on.is-1 k) both.ensures.reads
    both.ensures.small)
