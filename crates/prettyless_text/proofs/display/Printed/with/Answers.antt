use Rattle.std.proofs.Common.{arith}
use Rattle.std.proofs.lemmas.Grind.{common_steps}
use Rattle.prettyless_text.proofs.display.Printed.with.Goals as goal

pub returns-in-Ok-clause-sized : goal.returns-in-Ok-clause-sized
returns-in-Ok-clause-sized c = grind (arith, common_steps)

pub returns-in_ok-joined-in-Err-clause-sized : goal.returns-in_ok-joined-in-Err-clause-sized
returns-in_ok-joined-in-Err-clause-sized c = grind (arith, common_steps)
