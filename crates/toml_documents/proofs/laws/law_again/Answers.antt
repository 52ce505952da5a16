use Rattle.toml_documents.proofs.LaidAgain.{layouts_are_laid_again}
use Rattle.toml_documents.proofs.laws.law_again.Goals as goal

pub returns : goal.returns
returns c = layouts_are_laid_again
