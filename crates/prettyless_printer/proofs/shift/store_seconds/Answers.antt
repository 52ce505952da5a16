use Rattle.std.proofs.Common.{◌≡◌, ◌+◌, ◌<◌, ◌∷◌, ◌∙◌, ap, arith, drop, length, subst, sym}
use Rattle.std.proofs.lemmas.List.{drop_more}
use Rattle.prettyless_table.specs.Owners.{Stand}
use Rattle.prettyless_table.proofs.Trees.{grows_then}
use Rattle.prettyless_shift.proofs.Shifting.{node_more}
use Rattle.prettyless_printer.specs.Open.{all_held, seconds}
use Rattle.prettyless_printer.proofs.shift.store_seconds.Goals as goal

pub add-requires : goal.add-requires
add-requires g c =
    let f = g.N.Walk.tree in
    let all = c.args.trials.now.open.items in
    let trial = c.index.result.now in
    let later = drop (c.trials.k + 1) all in
    let within : c.trials.k < length all = omega (arith, c.trials-test.true, c.len.ensures) in
    let read : drop c.trials.k all ≡ trial ∷ later = drop_more all c.trials.k trial within ∙ ap (λ u. u ∷ later) (sym c.index.ensures) in
    record {
      sound = c.trials.invariant.grows.sound c.requires.sound;
      room = omega (arith, c.trials.invariant.count, c.requires.room, within);
      stands = (
        seconds (all_held f later),
        subst (λ us. Stand c.trials.table.cells.items (seconds (all_held f us)) c.trials.waiting.items) read c.trials.invariant.stand,
      );
    }

pub trials-preserved : goal.trials-preserved
trials-preserved g c =
    let f = g.N.Walk.tree in
    let old = c.trials.table.cells.items in
    let new = c.add.new.self.cells.items in
    let all = c.args.trials.now.open.items in
    let trial = c.index.result.now in
    let left = drop c.trials.k all in
    let later = drop (c.trials.k + 1) all in
    let within : c.trials.k < length all = omega (arith, c.trials-test.true, c.len.ensures) in
    let read : left ≡ trial ∷ later = drop_more all c.trials.k trial within ∙ ap (λ u. u ∷ later) (sym c.index.ensures) in
    record {
      within = omega (arith, within);
      count = omega (arith, c.trials.invariant.count, c.in_ok-add.ensures.count);
      grows = grows_then f c.args.table.now.cells.items old new c.trials.invariant.grows c.add.ensures.grows;
      first = node_more f c.add.ensures.grows c.in_ok-add.ensures.stored c.in_ok-push.ensures.items
          (ap (λ us. seconds (all_held f us)) read) c.trials.invariant.first;
      stand = c.in_ok-add.ensures.later (seconds (all_held f later))
          (subst (λ us. Stand old (seconds (all_held f us)) c.trials.waiting.items) read c.trials.invariant.stand);
    }
