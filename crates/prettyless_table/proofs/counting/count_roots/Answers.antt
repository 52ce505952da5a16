use Rattle.std.proofs.Common.{◌≡◌, ◌+◌, ◌∷◌, ◌∙◌, ap, arith, drop, sym}
use Rattle.std.specs.List.{sum_by}
use Rattle.std.proofs.lemmas.List.{drop_more}
use Rattle.std.proofs.lemmas.List.Sums.{sum_by-cons}
use Rattle.prettyless_model.specs.Tree.{size}
use Rattle.prettyless_probe.specs.Stack.{trees}
use Rattle.prettyless_table.specs.Owners.{all_owners}
use Rattle.prettyless_table.proofs.Listing.{lists_next}
use Rattle.prettyless_table.proofs.counting.count_roots.Goals as goal

pub roots-preserved : goal.roots-preserved
roots-preserved g c =
    let f = g.N.Walk.tree in
    let roots = c.args.roots.now in
    let node = c.index-roots-k.result in
    let left = drop c.roots.k roots in
    let later = drop (c.roots.k + 1) roots in
    let read : left ≡ node ∷ later = drop_more roots c.roots.k node c.roots-test.true ∙ ap (λ n. n ∷ later) (sym c.index-roots-k.is) in
    let counted = rw c.in-Some.is at c.in_ok-less.ensures.counted in
    let listed = rw c.in-Some.is at c.in_ok-less.ensures.listed in
    record {
      within = omega (arith, c.roots-test.true);
      counted = omega (
        arith,
        c.roots.invariant.counted,
        counted,
        ap (sum_by (λ n. size (f n))) read,
        sum_by-cons (λ n. size (f n)) node later,
      );
      listed = lists_next (trees f c.roots.owners.items) (trees f c.count_one.new.owners.items) (all_owners (trees f roots)) (trees f left)
          (trees f c.args.owners.now.items) (f node) (trees f later) listed (ap (trees f) read) c.roots.invariant.listed;
    }
