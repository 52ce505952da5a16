use Rattle.std.proofs.Common.{arith}
use Rattle.std.proofs.lemmas.Grind.{common_steps}
use Rattle.prettyless_probe.proofs.stack.Stack.cursor.Goals as goal

pub returns-clause-of_this : goal.returns-clause-of_this
returns-clause-of_this g c = grind (arith, common_steps)

pub returns-clause-unread : goal.returns-clause-unread
returns-clause-unread g c = grind (arith, common_steps)
