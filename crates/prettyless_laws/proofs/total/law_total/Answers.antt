use Rattle.prettyless_laws.proofs.TotalTrees.{total_layout}
use Rattle.prettyless_laws.proofs.total.law_total.Goals as goal

pub returns : goal.returns
returns c = total_layout
