use Rattle.toml_documents.proofs.ExactDocuments.{layouts_spelled_out}
use Rattle.toml_documents.proofs.laws.law_layout.Goals as goal

pub returns : goal.returns
returns c = layouts_spelled_out
