use Rattle.std.proofs.Common.{◌≡◌, ◌++◌, ◌+◌, ◌-◌, ◌*◌, ◌^◌, ◌<◌, ◌≤◌, length, min, IsTrue, true, false}
use Rattle.prettyless_probe.specs.Probing.{OneLeft, fits_on, nodes_next, pace}
use Rattle.prettyless_probe.specs.Reads.{reads_below, reads_on}
use Rattle.prettyless_probe.specs.Stack.{IsCursor, in_break, nodes, stack_of, unread}
use Rattle.prettyless_probe.specs.Sums.{AreSums}
use Rattle.prettyless_probe.proofs.summed.read_rest.Given as goal

abbrev pub invariant-read : goal.invariant-read
invariant-read g l = record {
  of_this : IsCursor l.commands l.below;
  summed : AreSums l.commands.sums.items (unread g.N.Walk.tree l.commands l.below);
  same : fits_on g.N.Walk.tree l.width l.fn.first
      (stack_of g.N.Walk.tree l.fn.stack ++ in_break (unread g.N.Walk.tree l.commands l.fn.cursor)) l.fn.start.column l.fn.start.pending
      ≡ fits_on g.N.Walk.tree l.width l.read
      (stack_of g.N.Walk.tree l.stack ++ in_break (unread g.N.Walk.tree l.commands l.below)) l.line.column l.line.pending;
  rises : l.fn.probes ≤ l.probes;
  fits : l.fn.probes ≤ 2 ^ 64 - 1 → l.probes ≤ 2 ^ 64 - 1;
  counted : l.probes + (nodes_next g.N.Walk.tree
      l.read + (nodes (stack_of g.N.Walk.tree l.stack) + nodes (unread g.N.Walk.tree l.commands l.below)))
      ≤ l.fn.probes + (nodes_next g.N.Walk.tree
      l.fn.first + (nodes (stack_of g.N.Walk.tree l.fn.stack) + nodes (unread g.N.Walk.tree l.commands l.fn.cursor)));
  few : OneLeft g.N.Walk.tree l.fn.first (stack_of g.N.Walk.tree l.fn.stack) (unread g.N.Walk.tree l.commands l.fn.cursor)
      l.commands.sums.items
      → OneLeft g.N.Walk.tree l.read (stack_of g.N.Walk.tree l.stack) (unread g.N.Walk.tree l.commands l.below) l.commands.sums.items
      × (l.probes ≤ l.fn.probes + (1 - nodes (unread g.N.Walk.tree l.commands l.below)));
  long : length (unread g.N.Walk.tree l.commands l.below) ≤ length (unread g.N.Walk.tree l.commands l.fn.cursor);
  reads : IsTrue g.N.Walk.HAS_SUMMARIES → length (unread g.N.Walk.tree l.commands l.fn.cursor) ≤ length l.commands.sums.items
      → nodes_next g.N.Walk.tree l.fn.first + (nodes (stack_of g.N.Walk.tree l.fn.stack)
      + nodes (unread g.N.Walk.tree l.commands l.fn.cursor)) < 2 ^ 32
      → min (l.probes + reads_on g.N.Walk.tree true l.width l.read (stack_of g.N.Walk.tree l.stack)
      (reads_below true l.width false (unread g.N.Walk.tree l.commands l.below)) l.line.column l.line.pending) (2 ^ 64 - 1)
      ≡ min (l.fn.probes + reads_on g.N.Walk.tree true l.width l.fn.first (stack_of g.N.Walk.tree l.fn.stack)
      (reads_below true l.width false (unread g.N.Walk.tree l.commands l.fn.cursor)) l.fn.start.column l.fn.start.pending) (2 ^ 64 - 1);
}

abbrev pub decreases-read : goal.decreases-read
decreases-read g l =
    pace g.N.Walk.tree l.read + 2 * (nodes (stack_of g.N.Walk.tree l.stack) + nodes (unread g.N.Walk.tree l.commands l.below))
