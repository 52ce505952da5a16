use Rattle.std.proofs.Common.{rules}
use Rattle.prettyless_build.proofs.builder.DocBuilder.append.Goals as goal

pub returns-clause-ok : goal.returns-clause-ok
returns-clause-ok g c = search rules depth 1
