use Rattle.std.proofs.Common.{arith}
use Rattle.std.proofs.lemmas.Grind.{common_steps}
use Rattle.prettyless_probe.proofs.stack.Stack.push_each.Goals as goal

pub loop-k-preserved : goal.loop-k-preserved
loop-k-preserved g c = grind (arith, common_steps)

pub loop-k-init : goal.loop-k-init
loop-k-init g c = grind (arith, common_steps)
