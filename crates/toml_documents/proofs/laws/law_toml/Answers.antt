use Rattle.toml_documents.proofs.LaidTexts.{layouts_are_toml}
use Rattle.toml_documents.proofs.laws.law_toml.Goals as goal

pub returns : goal.returns
returns c = layouts_are_toml
