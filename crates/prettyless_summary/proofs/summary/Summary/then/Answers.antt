use Rattle.prettyless_summary.proofs.Chains.{continues}
use Rattle.prettyless_summary.proofs.summary.Summary.then.Goals as goal

pub returns-clause-reads : goal.returns-clause-reads
returns-clause-reads c =
    let s = c.args.self in
    continues s c.and_weak.result c.and_rest.result _ _
    (continues s c.in_ok-blanks.blanks c.and_weak.result _ _ c.in_ok-blanks.ensures.reads c.and_weak.ensures.reads)
    c.and_rest.ensures.reads
