use Rattle.std.proofs.Common.{rules}
use Rattle.prettyless_build.proofs.pretty.OptionPretty.pretty.Goals as goal

pub returns-in-Some-clause-ok : goal.returns-in-Some-clause-ok
returns-in-Some-clause-ok g c = search rules depth 1

pub returns-in-Some-clause-err : goal.returns-in-Some-clause-err
returns-in-Some-clause-err g c = search rules depth 1
