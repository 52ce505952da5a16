use Rattle.toml_grammar.proofs.GapLaws.{gaps_are_unseen, key_words_are_joined}
use Rattle.toml_grammar.proofs.laws.law_unseen.Goals as goal

pub returns-clause-gaps : goal.returns-clause-gaps
returns-clause-gaps c = gaps_are_unseen

pub returns-clause-keys : goal.returns-clause-keys
returns-clause-keys c = key_words_are_joined
