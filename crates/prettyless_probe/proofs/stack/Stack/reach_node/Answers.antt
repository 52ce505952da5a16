use Rattle.std.proofs.Common.{arith}
use Rattle.prettyless_probe.proofs.Stacks.{no_tasks}
use Rattle.prettyless_probe.proofs.stack.Stack.reach_node.Goals as goal

pub returns-clause-none : goal.returns-clause-none
returns-clause-none g c none =
    let s = c.leave.new.self in
    no_tasks g.N.Walk.tree s.frames.items s.here s.nodes.items s.bottom s.rises (omega (arith, s.top, s.nodes.ok.0))
    (omega (arith, c.leave.ensures.none none, s.nodes.ok.0))
