use Rattle.prettyless_model.proofs.Levels.{more_levels, suffixes_size}
use Rattle.prettyless_model.proofs.laws.law_levels.Goals as goal

pub returns-clause-more : goal.returns-clause-more
returns-clause-more c = more_levels

pub returns-clause-enough : goal.returns-clause-enough
returns-clause-enough c = suffixes_size
