use Rattle.prettyless_laws.proofs.ShownItems.{spaced_by_fixed}
use Rattle.prettyless_laws.proofs.shown.law_spaced.Goals as goal

pub returns : goal.returns
returns c = spaced_by_fixed
