use Rattle.std.proofs.Common.{ℕ, ◌+◌, ap, arith, subst}
use Rattle.prettyless_summary.specs.Known.{IsKnown}
use Rattle.prettyless_summary.specs.declared.known.Known.{Known}
use Rattle.prettyless_table.proofs.Summing.{pack_begins, pack_whole}
use Rattle.prettyless_table.proofs.sums.packed.Goals as goal

pub returns-in-Whole : goal.returns-in-Whole
returns-in-Whole c d m h =
    let to = c.counts_of.ensures in
    pack_whole c.in-Whole.sum c.marks.result c.counts_of.result d m (omega (arith, c.marks.ensures.small)) c.marks.ensures.marks to.lead
    to.inner to.trail (subst (λ (k : Known). IsKnown k d m) c.in-Whole.is h)

pub returns-in-Begins : goal.returns-in-Begins
returns-in-Begins c d m h =
    let to = c.counts_of-in-Begins.ensures in
    pack_begins c.in-Begins.sum (c.marks-in-Begins.result + 64) c.counts_of-in-Begins.result d m
    (ap (λ (n : ℕ). n + 64) c.marks-in-Begins.ensures.marks) to.lead to.inner to.trail
    (subst (λ (k : Known). IsKnown k d m) c.in-Begins.is h)
