use Rattle.text_lexemes.proofs.JoinedTexts.{texts_joined, gaps_blank, lexemes_spaced}
use Rattle.text_lexemes.proofs.laws.law_joined.Goals as goal

pub returns-clause-joined : goal.returns-clause-joined
returns-clause-joined g c = texts_joined

pub returns-clause-blanks : goal.returns-clause-blanks
returns-clause-blanks g c = gaps_blank

pub returns-clause-lexemes : goal.returns-clause-lexemes
returns-clause-lexemes g c = lexemes_spaced
