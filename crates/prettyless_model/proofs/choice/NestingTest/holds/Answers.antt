use Rattle.std.proofs.Common.{rules}
use Rattle.prettyless_model.proofs.choice.NestingTest.holds.Goals as goal

pub returns-in-AtMost : goal.returns-in-AtMost
returns-in-AtMost c = search rules depth 1

pub returns-in-AtLeast : goal.returns-in-AtLeast
returns-in-AtLeast c = search rules depth 1
