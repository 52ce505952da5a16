use Rattle.toml_syntax.proofs.SameTexts.{parsed_are_toml}
use Rattle.toml_syntax.proofs.laws.law_same_texts.Goals as goal

pub returns : goal.returns
returns c = parsed_are_toml
