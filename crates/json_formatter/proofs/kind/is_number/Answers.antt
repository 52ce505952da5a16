use Rattle.std.proofs.Common.{arith}
use Rattle.std.proofs.lemmas.Grind.{common_steps}
use Rattle.json_formatter.proofs.kind.is_number.Goals as goal

pub returns-in-45 : goal.returns-in-45
returns-in-45 c = grind (arith, common_steps)

pub returns-in-45-2 : goal.returns-in-45-2
returns-in-45-2 c = grind (arith, common_steps)

pub returns-in_default-matches : goal.returns-in_default-matches
returns-in_default-matches c = grind (arith, common_steps)

pub returns-in_default-matches-2 : goal.returns-in_default-matches-2
returns-in_default-matches-2 c = grind (arith, common_steps)

pub returns-in_default-matches-3 : goal.returns-in_default-matches-3
returns-in_default-matches-3 c = grind (arith, common_steps)
