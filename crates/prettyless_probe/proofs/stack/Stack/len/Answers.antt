use Rattle.std.proofs.Common.{arith}
use Rattle.prettyless_probe.proofs.Stacks.{length-stack_of}
use Rattle.prettyless_probe.proofs.stack.Stack.len.Goals as goal

pub returns : goal.returns
returns g c = omega (arith, length-stack_of g.N.Walk.tree c.args.self.now, c.args.self.now.nodes.ok.0, c.len.ensures)
