use Rattle.json_lexemes.proofs.Reading.{same_reading}
use Rattle.json_lexemes.proofs.laws.law_reading.Goals as goal

pub returns : goal.returns
returns c = same_reading
