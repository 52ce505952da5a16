use Rattle.prettyless_model.proofs.Content.{content_of}
use Rattle.prettyless_model.proofs.laws.law_content.Goals as goal

pub returns : goal.returns
returns c = content_of
