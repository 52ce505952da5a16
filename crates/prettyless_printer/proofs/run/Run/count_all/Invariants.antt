use Rattle.std.proofs.Common.{◌≡◌, ◌+◌, ◌++◌, ◌-◌, ◌≤◌, drop, length}
use Rattle.std.specs.List.{sum_by}
use Rattle.prettyless_model.specs.Tree.{size}
use Rattle.prettyless_probe.specs.Stack.{trees}
use Rattle.prettyless_table.specs.Owners.{all_owners}
use Rattle.prettyless_shift.specs.Shift.{documents_left, nodes_left}
use Rattle.prettyless_printer.specs.Open.{all_held, seconds}
use Rattle.prettyless_printer.proofs.run.Run.count_all.Given as goal

abbrev pub invariant-trials : goal.invariant-trials
invariant-trials g l =
    let f = g.N.Walk.tree in
    let all = l.self.trials.open.items in
    record {
      within : l.k ≤ length all;
      counted : l.counted ≤ l.most;
      rest : l.counted + sum_by size (seconds (all_held f (drop l.k all))) ≡ nodes_left f l.self.printer + sum_by size
          (seconds (all_held f all));
      listed : trees f l.owners.items ++ all_owners (seconds (all_held f (drop l.k all)))
          ≡ trees f l.fn.owners.items ++ all_owners (documents_left f l.self.printer ++ seconds (all_held f all));
    }

abbrev pub decreases-trials : goal.decreases-trials
decreases-trials g l = length l.self.trials.open.items - l.k
