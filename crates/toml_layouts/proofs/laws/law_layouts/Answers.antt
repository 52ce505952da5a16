use Rattle.toml_layouts.proofs.Keys.{formed_are_keyed}
use Rattle.toml_layouts.proofs.Statements.{layouts_are_settled}
use Rattle.toml_layouts.proofs.laws.law_layouts.Goals as goal

pub returns-clause-settled : goal.returns-clause-settled
returns-clause-settled c = layouts_are_settled

pub returns-clause-keyed : goal.returns-clause-keyed
returns-clause-keyed c = formed_are_keyed
