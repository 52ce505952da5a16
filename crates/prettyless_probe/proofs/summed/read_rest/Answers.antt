use Rattle.std.proofs.Common.{arith}
use Rattle.prettyless_probe.proofs.Counting.{all_read}
use Rattle.prettyless_probe.proofs.summed.read_rest.Goals as goal

pub returns-in-Answer-clause-visits : goal.returns-in-Answer-clause-visits
returns-in-Answer-clause-visits g c =
    let fits = c.read.invariant.fits in
    let left = rw c.in-Answer.is at c.read.invariant.reads in
    record {
      rises = c.read.invariant.rises;
      counted = omega (arith, c.read.invariant.counted);
      asked = omega (arith, c.read.invariant.rises);
      reads = λ small. all_read _ _ _ (fits small.0) (left small.1.on small.1.long small.1.small);
      reads_at_most = λ small.
          omega (arith, all_read _ _ _ (fits small.0) (left small.1.on small.1.long small.1.small));
    }
