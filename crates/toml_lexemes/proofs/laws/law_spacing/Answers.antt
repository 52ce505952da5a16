use Rattle.toml_lexemes.proofs.Gaps.{IsSpaced-lexemes}
use Rattle.toml_lexemes.proofs.Gaps.{lexemes_some}
use Rattle.toml_lexemes.proofs.laws.law_spacing.Goals as goal

pub returns-clause-spaced : goal.returns-clause-spaced
returns-clause-spaced c = IsSpaced-lexemes

pub returns-clause-some : goal.returns-clause-some
returns-clause-some c = lexemes_some
