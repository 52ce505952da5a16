use Rattle.json.specs.Lex.{between}
use Rattle.json_lexemes.proofs.JsonLanguage.{cut_language}
use Rattle.json_lexemes.proofs.laws.law_language.Goals as goal

pub returns : goal.returns
returns c = λ text. cut_language text between
