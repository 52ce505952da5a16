use Rattle.std.proofs.Common.{rules}
use Rattle.prettyless_build.proofs.builder.DocBuilder.clone.Goals as goal

pub returns : goal.returns
returns g c = search rules depth 1
