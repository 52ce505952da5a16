use Rattle.std.proofs.Common.{◌≡◌, ◌≤◌, drop, length, map, true}
use Rattle.prettyless_probe.specs.Stack.{stack_of, task}
use Rattle.prettyless_probe.specs.Sums.{IsSummed}
use Rattle.prettyless_table.specs.Cells.{tree_at}
use Rattle.prettyless_shift.proofs.shift.placed_commands.Given as goal

abbrev pub invariant-places : goal.invariant-places
invariant-places g l = record {
  within : l.k ≤ length l.places;
  tasks : stack_of (λ p. g.N.Walk.tree p.node) l.commands
      ≡ map (task (tree_at g.N.Walk.tree l.table.cells.items)) (drop l.k l.places);
  summed : IsSummed true (λ p. g.N.Walk.tree p.node) l.commands;
}

abbrev pub decreases-places : goal.decreases-places
decreases-places g l = l.k
