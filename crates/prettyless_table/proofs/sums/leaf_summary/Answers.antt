use Rattle.std.proofs.Common.{subst}
use Rattle.prettyless_model.specs.Tree.{Tree}
use Rattle.prettyless_summary.specs.Summary.{Summarizes}
use Rattle.prettyless_table.proofs.Summing.{sum_hard_line}
use Rattle.prettyless_table.proofs.sums.leaf_summary.Goals as goal

pub returns-in-HardLine-clause-sum : goal.returns-in-HardLine-clause-sum
returns-in-HardLine-clause-sum g c =
    let s = c.unless_flat-in-HardLine in
    let P : Tree → Type 0 = λ d. Summarizes s.result d c.args.mode in
    subst P c.in-HardLine.ensures.tree
    (sum_hard_line s.result c.hard.result c.args.mode c.hard.ensures.reads s.ensures.broken s.ensures.flat)
