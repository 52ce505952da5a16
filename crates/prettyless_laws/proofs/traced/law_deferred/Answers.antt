use Rattle.prettyless_laws.proofs.WrittenOut.{layouts_are_traces}
use Rattle.prettyless_laws.proofs.traced.law_deferred.Goals as goal

pub returns : goal.returns
returns c = layouts_are_traces
