use Rattle.std.proofs.Common.{◌≡◌, ◌∷◌, ap, arith}
use Rattle.prettyless_probe.specs.Stack.{nodes, stack_of, task, trees, unread}
use Rattle.prettyless_table.specs.Owners.{all_owners, task_trees}
use Rattle.prettyless_table.proofs.Listing.{lists_next}
use Rattle.prettyless_table.proofs.counting.count_commands.Goals as goal

pub commands-preserved : goal.commands-preserved
commands-preserved g c =
    let f = g.N.Walk.tree in
    let commands = c.args.commands.now in
    let later = unread f commands c.read_down.new.cursor in
    let left = unread f commands c.commands.below in
    let read : left ≡ task f c.in-Some.command ∷ later = c.in-Some.ensures.unread in
    let counted = rw c.in-Some-2.is at c.in_ok-less.ensures.counted in
    let listed = rw c.in-Some-2.is at c.in_ok-less.ensures.listed in
    record {
      of_this = c.in-Some.ensures.of_this;
      counted = omega (arith, c.commands.invariant.counted, ap nodes read, counted);
      listed = lists_next (trees f c.commands.owners.items) (trees f c.count_one.new.owners.items)
          (all_owners (task_trees (stack_of f commands))) (task_trees left) (trees f c.args.owners.now.items) (f c.in-Some.command.node)
          (task_trees later) listed (ap task_trees read) c.commands.invariant.listed;
    }
