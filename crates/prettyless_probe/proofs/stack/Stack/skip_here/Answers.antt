use Rattle.std.proofs.Common.{◌∙◌, take, arith, ap, sym}
use Rattle.std.proofs.lemmas.List.{length-take-le, take-take}
use Rattle.prettyless_probe.specs.Stack.{framed_tasks}
use Rattle.prettyless_probe.proofs.Stacks.{tasks_bottom}
use Rattle.prettyless_probe.proofs.stack.Stack.skip_here.Goals as goal

pub returns-clause-unread : goal.returns-clause-unread
returns-clause-unread g c =
    let f = g.N.Walk.tree in
    let s = c.args.self.now in
    let old = c.args.cursor.now in
    let reads = c.requires.of_this in
    let long = length-take-le old.nodes s.nodes.items reads.nodes in
    ap (framed_tasks f (take old.frames s.frames.items) old.here) (sym (take-take c.args.left old.nodes s.nodes.items c.requires.left))
    ∙ tasks_bottom f
    (record {
      bottom = reads.covers.bottom;
      rises = reads.covers.rises;
      within = omega (arith, reads.covers.top, long);
      kept = c.requires.below;
    }) (omega (arith, c.requires.left, long))
