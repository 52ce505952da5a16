use Rattle.toml_lexemes.proofs.Joined.{joined_spaced, gaps_spaced, lexemes_spaced}
use Rattle.toml_lexemes.proofs.laws.law_joined.Goals as goal

pub returns-clause-joined : goal.returns-clause-joined
returns-clause-joined c = joined_spaced

pub returns-clause-blanks : goal.returns-clause-blanks
returns-clause-blanks c = gaps_spaced

pub returns-clause-lexemes : goal.returns-clause-lexemes
returns-clause-lexemes c = lexemes_spaced
