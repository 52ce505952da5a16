use Rattle.toml_syntax.proofs.SameContent.{settled_say_the_same}
use Rattle.toml_syntax.proofs.SettledAgain.{settled_stay}
use Rattle.toml_syntax.proofs.laws.law_layout.Goals as goal

pub returns-clause-stay : goal.returns-clause-stay
returns-clause-stay c = settled_stay

pub returns-clause-same : goal.returns-clause-same
returns-clause-same c = settled_say_the_same
