use Rattle.json_formatter.proofs.ByValue.{laid_by_value, texts_laid_by_value}
use Rattle.json_formatter.proofs.laws.law_layout.Goals as goal

pub returns-clause-laid : goal.returns-clause-laid
returns-clause-laid c = laid_by_value

pub returns-clause-texts : goal.returns-clause-texts
returns-clause-texts c = texts_laid_by_value
