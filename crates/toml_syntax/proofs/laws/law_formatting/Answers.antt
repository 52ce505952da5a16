use Rattle.toml_syntax.proofs.FormattedAgain.{formatted_say_the_same, formatted_stay}
use Rattle.toml_syntax.proofs.FormattedToml.{formatted_are_toml}
use Rattle.toml_syntax.proofs.laws.law_formatting.Goals as goal

pub returns-clause-stay : goal.returns-clause-stay
returns-clause-stay c = formatted_stay

pub returns-clause-same : goal.returns-clause-same
returns-clause-same c = formatted_say_the_same

pub returns-clause-toml : goal.returns-clause-toml
returns-clause-toml c = formatted_are_toml
