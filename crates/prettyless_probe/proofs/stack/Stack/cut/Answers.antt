use Rattle.std.proofs.Common.{arith, rules}
use Rattle.std.proofs.lemmas.Grind.{common_steps}
use Rattle.prettyless_probe.proofs.stack.Stack.cut.Goals as goal

pub frames-smaller : goal.frames-smaller
frames-smaller g c = search rules depth 1

pub frames-preserved : goal.frames-preserved
frames-preserved g c = search rules depth 1

pub keep-requires-2 : goal.keep-requires-2
keep-requires-2 g c = search rules depth 1

pub returns-clause-cut : goal.returns-clause-cut
returns-clause-cut g c = grind (arith, common_steps)
