use Rattle.std.proofs.Common.{◌≡◌, ◌≤◌}
use Rattle.prettyless_probe.specs.Stack.{IsCursor, unread}
use Rattle.prettyless_probe.specs.Sums.{bottom}
use Rattle.prettyless_probe.proofs.stack.Stack.skip_to.Given as goal

abbrev pub invariant-frames : goal.invariant-frames
invariant-frames g l = record {
  of_this : IsCursor l.self l.cursor;
  left : l.left ≤ l.cursor.nodes;
  same : bottom l.left (unread g.N.Walk.tree l.self l.cursor) ≡ bottom l.left (unread g.N.Walk.tree l.self l.fn.cursor);
}

abbrev pub decreases-frames : goal.decreases-frames
decreases-frames g l = l.cursor.here.below
