use Rattle.std.proofs.Common.{◌≡◌, ◌+◌, ◌++◌, ◌∷◌, ◌∙◌, ap, arith, drop, subst, sym}
use Rattle.std.proofs.lemmas.List.{drop_more}
use Rattle.prettyless_probe.specs.Stack as step
use Rattle.prettyless_table.specs.Owners.{Stand}
use Rattle.prettyless_table.proofs.Trees.{grows_then}
use Rattle.prettyless_shift.proofs.Shifting.{node_more}
use Rattle.prettyless_shift.proofs.shift.store_nodes.Goals as goal

pub roots-preserved : goal.roots-preserved
roots-preserved g c =
    let f = g.N.Walk.tree in
    let old = c.roots.table.cells.items in
    let new = c.add.new.self.cells.items in
    let roots = c.args.roots.now in
    let node = c.index-roots-k.result in
    let left = drop c.roots.k roots in
    let later = drop (c.roots.k + 1) roots in
    let read : left ≡ node ∷ later = drop_more roots c.roots.k node c.roots-test.true ∙ ap (λ n. n ∷ later) (sym c.index-roots-k.is) in
    record {
      within = omega (arith, c.roots-test.true);
      grows = grows_then f c.args.table.now.cells.items old new c.roots.invariant.grows c.add.ensures.grows;
      first = node_more f c.add.ensures.grows c.in_ok-add.ensures.stored c.in_ok-push.ensures.items
          (ap (step.trees f) read) c.roots.invariant.first;
      count = omega (arith, c.roots.invariant.count, c.in_ok-add.ensures.count);
      stand = λ more h.
          c.in_ok-add.ensures.later (step.trees f later ++ more)
          (subst (λ ns. Stand old (step.trees f ns ++ more) c.roots.waiting.items) read (c.roots.invariant.stand more h));
    }

pub add-requires : goal.add-requires
add-requires g c =
    let f = g.N.Walk.tree in
    let old = c.roots.table.cells.items in
    let roots = c.args.roots.now in
    let node = c.index-roots-k.result in
    let later = drop (c.roots.k + 1) roots in
    let read : drop c.roots.k roots ≡ node ∷ later =
    drop_more roots c.roots.k node c.roots-test.true ∙ ap (λ n. n ∷ later) (sym c.index-roots-k.is) in
    let more = c.requires.stand.0 in
    record {
      sound = c.roots.invariant.grows.sound c.requires.sound;
      room = omega (arith, c.roots.invariant.count, c.requires.room, c.roots-test.true);
      stands = (
        step.trees f later ++ more,
        subst (λ ns. Stand old (step.trees f ns ++ more) c.roots.waiting.items) read (c.roots.invariant.stand more c.requires.stand.1),
      );
    }
