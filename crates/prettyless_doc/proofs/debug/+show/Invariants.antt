use Rattle.prettyless_model.specs.Tree.{size}
use Rattle.prettyless_doc.proofs.debug.+show.Given as goal

abbrev pub decreases-show : goal.decreases-show
decreases-show g l = size (g.N.Walk.tree l.node)
