use Rattle.text_lexemes.proofs.WellSpaced.{well_spaced, same_lexemes, lexemes_alone}
use Rattle.text_lexemes.proofs.laws.law_gaps.Goals as goal

pub returns-clause-kept : goal.returns-clause-kept
returns-clause-kept g c = same_lexemes

pub returns-clause-alone : goal.returns-clause-alone
returns-clause-alone g c = lexemes_alone

pub returns-clause-well_spaced : goal.returns-clause-well_spaced
returns-clause-well_spaced g c = well_spaced
