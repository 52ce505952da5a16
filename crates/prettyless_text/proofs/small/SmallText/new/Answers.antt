use Rattle.std.proofs.Common.{arith, rules}
use Rattle.std.proofs.lemmas.Grind.{common_steps}
use Rattle.prettyless_text.proofs.small.SmallText.new.Goals as goal

pub returns-then-text-gt22-clause-fits : goal.returns-then-text-gt22-clause-fits
returns-then-text-gt22-clause-fits c = search rules depth 1

pub invariant_of-result : goal.invariant_of-result
invariant_of-result c = grind (arith, common_steps)

pub returns-clause-bytes : goal.returns-clause-bytes
returns-clause-bytes c = grind (arith, common_steps)
