use Rattle.text_lexemes.proofs.Cuts.{cut_lexeme}
use Rattle.text_lexemes.proofs.WellSpaced.{follows_there}
use Rattle.text_lexemes.proofs.laws.law_following.Goals as goal

pub returns : goal.returns
returns g c = λ L s rest. (cut_lexeme L s rest, follows_there L s rest)
