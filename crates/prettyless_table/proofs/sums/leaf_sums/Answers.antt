use Rattle.prettyless_model.specs.declared.mode.Mode.TheVariants.{Break, Flat}
use Rattle.prettyless_table.proofs.Summing.{sum_leaf}
use Rattle.prettyless_table.proofs.sums.leaf_sums.Goals as goal

pub returns : goal.returns
returns g c =
    let d = g.N.Walk.tree c.args.node.now in
    record {
      flat = sum_leaf d Flat c.leaf_summary.result c.requires c.leaf_summary.ensures.sum c.leaf_summary.ensures.small;
      broken = sum_leaf d Break c.leaf_summary-2.result c.requires c.leaf_summary-2.ensures.sum c.leaf_summary-2.ensures.small;
    }
