use Rattle.prettyless_program.proofs.Encoding.{each_has_a_program}
use Rattle.prettyless_program.proofs.laws.law_program.Goals as goal

pub returns : goal.returns
returns c = each_has_a_program
