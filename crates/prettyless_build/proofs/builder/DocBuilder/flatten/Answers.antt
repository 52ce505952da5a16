use Rattle.std.proofs.Common.{rules}
use Rattle.prettyless_build.proofs.builder.DocBuilder.flatten.Goals as goal

pub returns-in-HardLine-clause-ok : goal.returns-in-HardLine-clause-ok
returns-in-HardLine-clause-ok g c = search rules depth 1

pub returns-in-HardLine-clause-hard : goal.returns-in-HardLine-clause-hard
returns-in-HardLine-clause-hard g c = search rules depth 1

pub returns : goal.returns
returns g c = search rules depth 1
