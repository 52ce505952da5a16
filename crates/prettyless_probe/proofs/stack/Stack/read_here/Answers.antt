use Rattle.std.proofs.Common.{◌-◌, take, arith}
use Rattle.std.proofs.lemmas.List.{length-take-le}
use Rattle.prettyless_probe.proofs.Frames.{take_last}
use Rattle.prettyless_probe.proofs.Stacks.{tasks_last}
use Rattle.prettyless_probe.proofs.stack.Stack.read_here.Goals as goal

pub returns-clause-unread : goal.returns-clause-unread
returns-clause-unread g c =
    let s = c.args.self.now in
    let ns = s.nodes.items in
    let old = c.args.cursor.now in
    let node = c.index.result.now in
    let reads = c.requires in
    let whole = take_last ns old.nodes node (omega (arith, c.if-cursor.false, reads.covers.top)) reads.nodes c.index.ensures in
    tasks_last g.N.Walk.tree (take old.frames s.frames.items) old.here (take old.nodes ns) (take (old.nodes - 1) ns) node whole
    reads.covers.rises
    (omega (arith, c.if-cursor.false, reads.covers.top, reads.nodes, length-take-le (old.nodes - 1) ns (omega (arith, reads.nodes))))
