use Rattle.std.proofs.Common.{◌≡◌, ◌+◌, ◌++◌}
use Rattle.std.specs.List.{sum_by}
use Rattle.prettyless_model.specs.Tree.{size}
use Rattle.prettyless_probe.specs.Stack.{trees}
use Rattle.prettyless_table.specs.Owners.{owners_of, waiting_owners}
use Rattle.prettyless_table.proofs.counting.count_one.Given as goal

abbrev pub invariant-waiting : goal.invariant-waiting
invariant-waiting g l = record {
  counted : l.left + size (g.N.Walk.tree l.fn.root) ≡ l.room + sum_by (λ n. size (g.N.Walk.tree n)) l.waiting.items;
  listed : trees g.N.Walk.tree l.owners.items ++ waiting_owners g.N.Walk.tree l.waiting.items
      ≡ trees g.N.Walk.tree l.fn.owners.items ++ owners_of (g.N.Walk.tree l.fn.root);
}

abbrev pub decreases-waiting : goal.decreases-waiting
decreases-waiting g l = l.left
