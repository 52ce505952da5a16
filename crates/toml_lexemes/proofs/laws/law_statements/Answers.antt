use Rattle.toml_lexemes.proofs.Divided.{gaps_keep_statements, line_ends_divide, line_ends_say_nothing}
use Rattle.toml_lexemes.proofs.Said.{lexemes_are_said}
use Rattle.toml_lexemes.proofs.laws.law_statements.Goals as goal

pub returns-clause-said : goal.returns-clause-said
returns-clause-said c = lexemes_are_said

pub returns-clause-gaps : goal.returns-clause-gaps
returns-clause-gaps c = gaps_keep_statements

pub returns-clause-divide : goal.returns-clause-divide
returns-clause-divide c = line_ends_divide

pub returns-clause-nothing : goal.returns-clause-nothing
returns-clause-nothing c = line_ends_say_nothing
