use Rattle.prettyless_program.proofs.OneDocument.{at_most_one}
use Rattle.prettyless_program.proofs.laws.law_one_document.Goals as goal

pub returns : goal.returns
returns c = at_most_one
