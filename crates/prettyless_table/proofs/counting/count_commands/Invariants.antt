use Rattle.std.proofs.Common.{◌≡◌, ◌+◌, ◌++◌, length}
use Rattle.prettyless_probe.specs.Stack.{IsCursor, nodes, stack_of, trees, unread}
use Rattle.prettyless_table.specs.Owners.{all_owners, task_trees}
use Rattle.prettyless_table.proofs.counting.count_commands.Given as goal

abbrev pub invariant-commands : goal.invariant-commands
invariant-commands g l = record {
  of_this : IsCursor l.commands l.below;
  counted : l.left + nodes (stack_of g.N.Walk.tree l.commands) ≡ l.room + nodes (unread g.N.Walk.tree l.commands l.below);
  listed : trees g.N.Walk.tree l.owners.items ++ all_owners (task_trees (unread g.N.Walk.tree l.commands l.below))
      ≡ trees g.N.Walk.tree l.fn.owners.items ++ all_owners (task_trees (stack_of g.N.Walk.tree l.commands));
}

abbrev pub decreases-commands : goal.decreases-commands
decreases-commands g l = length (unread g.N.Walk.tree l.commands l.below)
