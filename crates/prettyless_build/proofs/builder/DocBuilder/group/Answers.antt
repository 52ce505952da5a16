use Rattle.std.proofs.Common.{rules}
use Rattle.prettyless_build.proofs.builder.DocBuilder.group.Goals as goal

pub returns-in_ok-inner-in_default : goal.returns-in_ok-inner-in_default
returns-in_ok-inner-in_default g c = search rules depth 1

pub returns-in-Nil : goal.returns-in-Nil
returns-in-Nil g c = search rules depth 1
