use Rattle.toml_syntax.proofs.ReadAgain.{spelled_are_read}
use Rattle.toml_syntax.proofs.ReadFormed.{read_are_formed}
use Rattle.toml_syntax.proofs.laws.law_reading.Goals as goal

pub returns-clause-read : goal.returns-clause-read
returns-clause-read c = spelled_are_read

pub returns-clause-formed : goal.returns-clause-formed
returns-clause-formed c = read_are_formed
