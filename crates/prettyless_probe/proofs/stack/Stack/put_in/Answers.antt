use Rattle.std.proofs.Common.{ap, arith, length}
use Rattle.prettyless_probe.proofs.Stacks.{length-stack_of, tasks_last}
use Rattle.prettyless_probe.proofs.stack.Stack.put_in.Goals as goal

pub returns-clause-put : goal.returns-clause-put
returns-clause-put g c =
    let s = c.args.self.now in
    tasks_last g.N.Walk.tree s.frames.items s.here c.push.new.self.items s.nodes.items c.args.node c.in_ok-push.ensures.items s.rises
    (omega (arith, s.top, s.nodes.ok.0))

pub returns-clause-room : goal.returns-clause-room
returns-clause-room g c =
    let s = c.args.self.now in (
      omega (arith, c.push.ensures.capacity),
      omega (
        arith,
        ap length (returns-clause-put g c),
        length-stack_of g.N.Walk.tree s,
        s.nodes.ok.0,
        c.in_ok-push.ensures.len,
        c.push.new.self.ok.1,
      ),
    )
