use Rattle.std.proofs.Common.{arith}
use Rattle.std.proofs.lemmas.Grind.{common_steps}
use Rattle.sexp.proofs.parse.is_end.Goals as goal

pub returns-in-empty : goal.returns-in-empty
returns-in-empty c = grind (arith, common_steps)

pub returns-in-empty-2 : goal.returns-in-empty-2
returns-in-empty-2 c = grind (arith, common_steps)
