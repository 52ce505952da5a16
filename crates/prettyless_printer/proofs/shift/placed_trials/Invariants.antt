use Rattle.std.proofs.Common.{◌≡◌, ◌++◌, ◌-◌, ◌≤◌, drop, length}
use Rattle.prettyless_probe.specs.Stack.{trees}
use Rattle.prettyless_table.specs.Cells.{tree_at}
use Rattle.prettyless_printer.specs.Open.{all_held, seconds}
use Rattle.prettyless_printer.proofs.shift.placed_trials.Given as goal

abbrev pub invariant-trials : goal.invariant-trials
invariant-trials g l =
    let f = g.N.Walk.tree in
    let all = l.trials.open.items in
    record {
      within : l.k ≤ length all;
      left : trees (tree_at f l.table.cells.items) (drop l.k l.places) ≡ seconds (all_held f (drop l.k all));
      same : all_held (λ p. f p.node) l.placed.open.items ++ all_held f (drop l.k all) ≡ all_held f all;
    }

abbrev pub decreases-trials : goal.decreases-trials
decreases-trials g l = length l.trials.open.items - l.k
