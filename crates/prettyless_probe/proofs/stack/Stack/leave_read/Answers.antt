use Rattle.std.proofs.Common.{◌-◌, ◌∙◌, take, arith}
use Rattle.std.proofs.lemmas.List.{length-take-le}
use Rattle.prettyless_probe.proofs.Frames.{lowest_left, rises_under, take_last}
use Rattle.prettyless_probe.proofs.Stacks.{tasks_left}
use Rattle.prettyless_probe.proofs.stack.Stack.leave_read.Goals as goal

pub returns-clause-of_this : goal.returns-clause-of_this
returns-clause-of_this g c =
    let xs = c.args.self.now.frames.items in
    let old = c.args.cursor.now in
    let frame = c.index.result.now in
    let reads = c.requires.of_this in
    let whole = take_last xs old.frames frame (omega (arith, c.if-cursor-eq0.false)) reads.frames c.index.ensures in
    let under = rises_under (take old.frames xs) (take (old.frames - 1) xs) frame old.here whole reads.covers.rises in
    record {
      frames = omega (arith, reads.frames);
      nodes = reads.nodes;
      covers = record {
        bottom = lowest_left (take old.frames xs) (take (old.frames - 1) xs) frame old.here whole ∙ reads.covers.bottom;
        rises = under.0;
        top = omega (arith, under.1, reads.covers.top);
      };
    }

pub returns-clause-same : goal.returns-clause-same
returns-clause-same g c =
    let s = c.args.self.now in
    let xs = s.frames.items in
    let old = c.args.cursor.now in
    let frame = c.index.result.now in
    let reads = c.requires.of_this in
    let whole = take_last xs old.frames frame (omega (arith, c.if-cursor-eq0.false)) reads.frames c.index.ensures in
    tasks_left g.N.Walk.tree (take old.frames xs) (take (old.frames - 1) xs) frame old.here (take old.nodes s.nodes.items) whole
    (omega (arith, c.requires.read, length-take-le old.nodes s.nodes.items reads.nodes))

pub returns-clause-more : goal.returns-clause-more
returns-clause-more g c more =
    let xs = c.args.self.now.frames.items in
    let old = c.args.cursor.now in
    let frame = c.index.result.now in
    let reads = c.requires.of_this in
    let whole = take_last xs old.frames frame (omega (arith, c.if-cursor-eq0.false)) reads.frames c.index.ensures in
    omega (arith, (rises_under (take old.frames xs) (take (old.frames - 1) xs) frame old.here whole reads.covers.rises).1, c.requires.read)
