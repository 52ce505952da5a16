use Rattle.std.proofs.Common.{rules}
use Rattle.prettyless_step.proofs.step.end_line.Goals as goal

pub returns-in-Eager : goal.returns-in-Eager
returns-in-Eager g c = search rules

pub returns-in-Deferred : goal.returns-in-Deferred
returns-in-Deferred g c = search rules
