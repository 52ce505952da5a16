use Rattle.std.proofs.Common.{◌≡◌, ◌+◌, ◌-◌, ◌≤◌, drop, length}
use Rattle.prettyless_table.specs.Cells.{CellsGrow}
use Rattle.prettyless_table.specs.Owners.{Stand}
use Rattle.prettyless_shift.proofs.Shifting.{FirstNodes}
use Rattle.prettyless_printer.specs.Open.{all_held, seconds}
use Rattle.prettyless_printer.proofs.shift.store_seconds.Given as goal

abbrev pub invariant-trials : goal.invariant-trials
invariant-trials g l =
    let f = g.N.Walk.tree in
    let all = l.trials.open.items in
    record {
      within : l.k ≤ length all;
      count : length l.table.cells.items ≡ length l.fn.table.cells.items + l.k;
      grows : CellsGrow f l.fn.table.cells.items l.table.cells.items;
      first : FirstNodes f l.table.cells.items l.places.items (seconds (all_held f (drop l.k all))) (seconds (all_held f all));
      stand : Stand l.table.cells.items (seconds (all_held f (drop l.k all))) l.waiting.items;
    }

abbrev pub decreases-trials : goal.decreases-trials
decreases-trials g l = length l.trials.open.items - l.k
