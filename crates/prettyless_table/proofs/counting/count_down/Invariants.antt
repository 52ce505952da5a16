use Rattle.std.proofs.Common.{◌≡◌, ◌+◌, ◌++◌, ◌≤◌}
use Rattle.std.specs.List.{sum_by}
use Rattle.prettyless_model.specs.Tree.{size}
use Rattle.prettyless_probe.specs.Stack.{trees}
use Rattle.prettyless_table.specs.Owners.{owners_of, waiting_owners}
use Rattle.prettyless_table.proofs.counting.count_down.Given as goal

abbrev pub invariant-down : goal.invariant-down
invariant-down g l = record {
  less : l.left ≤ l.room;
  counted : l.left + size (g.N.Walk.tree l.fn.node) + sum_by (λ n. size (g.N.Walk.tree n)) l.fn.waiting.items
      ≡ l.room + sum_by (λ n. size (g.N.Walk.tree n)) l.waiting.items + size (g.N.Walk.tree l.next);
  listed : trees g.N.Walk.tree l.owners.items ++ (owners_of (g.N.Walk.tree l.next) ++ waiting_owners g.N.Walk.tree l.waiting.items)
      ≡ trees g.N.Walk.tree l.fn.owners.items ++ (owners_of (g.N.Walk.tree l.fn.node) ++ waiting_owners g.N.Walk.tree l.fn.waiting.items);
}

abbrev pub decreases-down : goal.decreases-down
decreases-down g l = l.left
