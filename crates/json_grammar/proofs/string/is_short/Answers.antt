use Rattle.std.proofs.Common.{arith}
use Rattle.std.proofs.lemmas.Grind.{common_steps}
use Rattle.json.specs.Text.{short_escape}
use Rattle.json_grammar.proofs.string.is_short.Goals as goal

pub returns-in-34 : goal.returns-in-34
unfolding short_escape
returns-in-34 c = grind (arith, common_steps)

pub returns-in_default : goal.returns-in_default
unfolding short_escape
returns-in_default c = grind (arith, common_steps)
