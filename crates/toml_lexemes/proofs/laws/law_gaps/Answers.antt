use Rattle.toml_lexemes.proofs.Gaps.{IsWellSpaced-lexemes, lexemes_alone}
use Rattle.toml_lexemes.proofs.Kept.{same_lexemes}
use Rattle.toml_lexemes.proofs.laws.law_gaps.Goals as goal

pub returns-clause-kept : goal.returns-clause-kept
returns-clause-kept c = same_lexemes

pub returns-clause-alone : goal.returns-clause-alone
returns-clause-alone c = lexemes_alone

pub returns-clause-well_spaced : goal.returns-clause-well_spaced
returns-clause-well_spaced c = IsWellSpaced-lexemes
