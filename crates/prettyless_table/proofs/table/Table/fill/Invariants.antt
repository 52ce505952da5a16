use Rattle.std.proofs.Common.{◌≡◌, ◌+◌, ◌≤◌, drop, length, map, reverse}
use Rattle.prettyless_table.specs.Cells.{CellsGrow}
use Rattle.prettyless_table.specs.Owners.{WaitsInTable}
use Rattle.prettyless_table.proofs.Owners.{waiting}
use Rattle.prettyless_table.proofs.table.Table.fill.Given as goal

abbrev pub invariant-owners : goal.invariant-owners
invariant-owners g l = record {
  within : l.k ≤ length l.owners.items;
  count : length l.self.cells.items + l.k ≡ length l.fn.self.cells.items + length l.owners.items;
  grows : CellsGrow g.N.Walk.tree l.fn.self.cells.items l.self.cells.items;
  waits : WaitsInTable l.self.cells.items (waiting (map g.N.Walk.tree (drop l.k l.owners.items))) (reverse l.waiting.items);
}

abbrev pub decreases-owners : goal.decreases-owners
decreases-owners g l = l.k
