use Rattle.std.proofs.Common.{◌≡◌, ◌-◌, ◌≤◌, take, length}
use Rattle.prettyless_probe.specs.Stack.{trees}
use Rattle.prettyless_table.specs.Cells.{tree_at}
use Rattle.prettyless_shift.proofs.shift.placed_queue.Given as goal

abbrev pub invariant-places : goal.invariant-places
invariant-places g l = record {
  within : l.k ≤ length l.places;
  nodes : trees (λ p. g.N.Walk.tree p.node) l.placed.nodes.items
      ≡ trees (tree_at g.N.Walk.tree l.table.cells.items) (take l.k l.places);
}

abbrev pub decreases-places : goal.decreases-places
decreases-places g l = length l.places - l.k
