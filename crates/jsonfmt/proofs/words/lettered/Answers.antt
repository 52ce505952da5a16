use Rattle.std.proofs.Common.{ap}
use Rattle.clap.specs.Words.{rule_of}
use Rattle.jsonfmt.proofs.words.lettered.Goals as goal

pub returns-clause-rule : goal.returns-clause-rule
returns-clause-rule c = ap rule_of c.short.ensures
