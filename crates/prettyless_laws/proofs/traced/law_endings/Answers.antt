use Rattle.prettyless_laws.proofs.OneWidth.{traces_go_by_width}
use Rattle.prettyless_laws.proofs.traced.law_endings.Goals as goal

pub returns : goal.returns
returns c = traces_go_by_width
