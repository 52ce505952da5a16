use Rattle.toml_documents.proofs.AlignedAgain.{comments_stay, documents_stay, lexemes_stay, toml_stays}
use Rattle.toml_documents.proofs.laws.law_alignment.Goals as goal

pub returns-clause-lexemes : goal.returns-clause-lexemes
returns-clause-lexemes c = lexemes_stay

pub returns-clause-again : goal.returns-clause-again
returns-clause-again c = comments_stay

pub returns-clause-toml : goal.returns-clause-toml
returns-clause-toml c = toml_stays

pub returns-clause-documents : goal.returns-clause-documents
returns-clause-documents c = documents_stay
