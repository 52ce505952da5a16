use Rattle.std.proofs.Common.{◌≡◌, ◌+◌, ◌++◌, ◌-◌, ◌≤◌, List, drop, length}
use Rattle.prettyless_model.specs.Tree.{Tree}
use Rattle.prettyless_probe.specs.Stack.{trees}
use Rattle.prettyless_table.specs.Cells.{CellsGrow}
use Rattle.prettyless_table.specs.Owners.{Stand}
use Rattle.prettyless_shift.proofs.Shifting.{FirstNodes}
use Rattle.prettyless_shift.proofs.shift.store_nodes.Given as goal

abbrev pub invariant-roots : goal.invariant-roots
invariant-roots g l = record {
  within : l.k ≤ length l.roots;
  grows : CellsGrow g.N.Walk.tree l.fn.table.cells.items l.table.cells.items;
  first : FirstNodes g.N.Walk.tree l.table.cells.items l.places.items
      (trees g.N.Walk.tree (drop l.k l.roots)) (trees g.N.Walk.tree l.roots);
  count : length l.table.cells.items ≡ length l.fn.table.cells.items + l.k;
  stand : (later : List Tree) → Stand l.fn.table.cells.items (trees g.N.Walk.tree l.roots ++ later) l.fn.waiting.items
      → Stand l.table.cells.items (trees g.N.Walk.tree (drop l.k l.roots) ++ later) l.waiting.items;
}

abbrev pub decreases-roots : goal.decreases-roots
decreases-roots g l = length l.roots - l.k
