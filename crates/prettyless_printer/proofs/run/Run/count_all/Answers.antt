use Rattle.std.proofs.Common.{◌≡◌, ◌+◌, ◌++◌, ◌∷◌, ◌∙◌, ◌<◌, ap, append_assoc, arith, drop, length, sym}
use Rattle.std.specs.List.{sum_by}
use Rattle.std.proofs.lemmas.List.{drop_more}
use Rattle.std.proofs.lemmas.List.Sums.{sum_by-cons}
use Rattle.prettyless_model.specs.Tree.{size}
use Rattle.prettyless_probe.specs.Stack.{trees}
use Rattle.prettyless_table.specs.Owners.{all_owners}
use Rattle.prettyless_shift.specs.Shift.{documents_left}
use Rattle.prettyless_table.proofs.Listing.{all_owners-append, lists_next}
use Rattle.prettyless_printer.specs.Open.{all_held, seconds}
use Rattle.prettyless_printer.proofs.run.Run.count_all.Goals as goal

pub trials-init : goal.trials-init
trials-init g c =
    let f = g.N.Walk.tree in
    let old = trees f c.args.owners.now.items in
    let left = documents_left f c.args.self.now.printer in
    let branches = seconds (all_held f c.args.self.now.trials.open.items) in
    let counted = rw c.in-Some.is at c.in_ok-counted.ensures.counted in
    let listed = rw c.in-Some.is at c.in_ok-counted.ensures.listed in
    record {
      within = omega arith;
      counted = counted.1;
      rest = omega (arith, counted.0);
      listed = ap (λ ds. ds ++ all_owners branches) listed ∙ append_assoc old (all_owners left) (all_owners branches)
          ∙ ap (λ ds. old ++ ds) (sym (all_owners-append left branches));
    }

pub trials-preserved : goal.trials-preserved
trials-preserved g c =
    let f = g.N.Walk.tree in
    let all = c.args.self.now.trials.open.items in
    let trial = c.index.result.now in
    let left = drop c.trials.k all in
    let later = drop (c.trials.k + 1) all in
    let within : c.trials.k < length all = omega (arith, c.trials-test.true, c.len.ensures) in
    let read : left ≡ trial ∷ later = drop_more all c.trials.k trial within ∙ ap (λ u. u ∷ later) (sym c.index.ensures) in
    let counted = rw c.in-Some-2.is at c.in_ok-more.ensures.counted in
    let listed = rw c.in-Some-2.is at c.in_ok-more.ensures.listed in
    record {
      within = omega (arith, within);
      counted = omega (arith, c.trials.invariant.counted, counted.1);
      rest = omega (
        arith,
        c.trials.invariant.rest,
        counted.0,
        ap (λ us. sum_by size (seconds (all_held f us))) read,
        sum_by-cons size (f trial.second) (seconds (all_held f later)),
      );
      listed = lists_next (trees f c.trials.owners.items) (trees f c.count.new.owners.items)
          (all_owners (documents_left f c.args.self.now.printer ++ seconds (all_held f all))) (seconds (all_held f left))
          (trees f c.args.owners.now.items) (f trial.second) (seconds (all_held f later)) listed
          (ap (λ us. seconds (all_held f us)) read) c.trials.invariant.listed;
    }
