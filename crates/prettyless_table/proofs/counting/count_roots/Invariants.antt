use Rattle.std.proofs.Common.{◌≡◌, ◌+◌, ◌++◌, ◌-◌, ◌≤◌, drop, length}
use Rattle.std.specs.List.{sum_by}
use Rattle.prettyless_model.specs.Tree.{size}
use Rattle.prettyless_probe.specs.Stack.{trees}
use Rattle.prettyless_table.specs.Owners.{all_owners}
use Rattle.prettyless_table.proofs.counting.count_roots.Given as goal

abbrev pub invariant-roots : goal.invariant-roots
invariant-roots g l = record {
  within : l.k ≤ length l.roots;
  counted : l.left + sum_by (λ n. size (g.N.Walk.tree n)) l.roots ≡ l.room + sum_by (λ n. size (g.N.Walk.tree n)) (drop l.k l.roots);
  listed : trees g.N.Walk.tree l.owners.items ++ all_owners (trees g.N.Walk.tree (drop l.k l.roots))
      ≡ trees g.N.Walk.tree l.fn.owners.items ++ all_owners (trees g.N.Walk.tree l.roots);
}

abbrev pub decreases-roots : goal.decreases-roots
decreases-roots g l = length l.roots - l.k
