use Rattle.std.proofs.Common.{◌≡◌, ◌+◌, ◌++◌, List, length}
use Rattle.prettyless_model.specs.Tree.{Tree}
use Rattle.prettyless_probe.specs.Stack.{IsCursor, stack_of, unread}
use Rattle.prettyless_table.specs.Cells.{CellsGrow}
use Rattle.prettyless_table.specs.Owners.{Stand, task_trees}
use Rattle.prettyless_shift.proofs.Shifting.{FirstCommands}
use Rattle.prettyless_shift.proofs.shift.store_commands.Given as goal

abbrev pub invariant-commands : goal.invariant-commands
invariant-commands g l = record {
  of_this : IsCursor l.commands l.below;
  grows : CellsGrow g.N.Walk.tree l.fn.table.cells.items l.table.cells.items;
  first : FirstCommands g.N.Walk.tree l.table.cells.items l.places.items
      (unread g.N.Walk.tree l.commands l.below) (stack_of g.N.Walk.tree l.commands);
  count : length l.table.cells.items + length (unread g.N.Walk.tree l.commands l.below)
      ≡ length l.fn.table.cells.items + length (stack_of g.N.Walk.tree l.commands);
  stand : (later : List Tree)
      → Stand l.fn.table.cells.items (task_trees (stack_of g.N.Walk.tree l.commands) ++ later) l.fn.waiting.items
      → Stand l.table.cells.items (task_trees (unread g.N.Walk.tree l.commands l.below) ++ later) l.waiting.items;
}

abbrev pub decreases-commands : goal.decreases-commands
decreases-commands g l = length (unread g.N.Walk.tree l.commands l.below)
