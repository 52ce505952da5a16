use Rattle.text_lexemes.proofs.WellSpaced.{spaced, lexemes_some}
use Rattle.text_lexemes.proofs.laws.law_spacing.Goals as goal

pub returns-clause-spaced : goal.returns-clause-spaced
returns-clause-spaced g c = spaced

pub returns-clause-some : goal.returns-clause-some
returns-clause-some g c = lexemes_some
