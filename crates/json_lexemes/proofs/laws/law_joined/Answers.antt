use Rattle.json_lexemes.proofs.SpacedLexemes.{gaps_spaces, spaced_are_lexemes, texts_joined}
use Rattle.json_lexemes.proofs.laws.law_joined.Goals as goal

pub returns-clause-joined : goal.returns-clause-joined
returns-clause-joined c = texts_joined

pub returns-clause-spaces : goal.returns-clause-spaces
returns-clause-spaces c = gaps_spaces

pub returns-clause-lexemes : goal.returns-clause-lexemes
returns-clause-lexemes c = spaced_are_lexemes
