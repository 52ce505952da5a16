use Rattle.std.proofs.Common.{◌∙◌, ap₂}
use Rattle.prettyless_summary.proofs.Packing.{unpacked_marks, unpacked_of}
use Rattle.prettyless_summary.proofs.summary.Summary.unpacked.Goals as goal

pub returns-clause-same : goal.returns-clause-same
returns-clause-same c = λ s l i t m.
    let a = c.args in
    ap₂ (λ w x. record (unpacked_of a.lead a.inner a.trail a.marks) { weak = w; end = x }) c.weak_of.ensures c.end_of.ensures
    ∙ unpacked_marks s a.lead a.inner a.trail a.marks l i t m
