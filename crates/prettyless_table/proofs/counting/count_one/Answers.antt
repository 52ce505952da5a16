use Rattle.std.proofs.Common.{◌≡◌, ◌++◌, ◌∷◌, ◌∙◌, [], ap, arith, sym}
use Rattle.std.specs.List.{sum_by}
use Rattle.std.proofs.lemmas.List.Sums.{sum_by-cons, sum_by_push}
use Rattle.prettyless_model.specs.Tree.{size}
use Rattle.prettyless_probe.specs.Stack.{trees}
use Rattle.prettyless_table.specs.Owners.{waiting_owners}
use Rattle.prettyless_table.proofs.Listing.{waiting_push}
use Rattle.prettyless_table.proofs.counting.count_one.Goals as goal

pub waiting-init : goal.waiting-init
waiting-init g c =
    let f = g.N.Walk.tree in
    let old = trees f c.args.owners.now.items in
    let items : c.push.new.list.items ≡ c.args.root ∷ [] =
    c.in_ok-push.ensures.items ∙ ap (λ ns. ns ++ c.args.root ∷ []) c.clear.ensures.items in
    record {
      counted = omega (arith, ap (sum_by (λ n. size (f n))) items, sum_by-cons (λ n. size (f n)) c.args.root []);
      listed = ap (λ ns. old ++ waiting_owners f ns) items;
    }

pub waiting-preserved : goal.waiting-preserved
waiting-preserved g c =
    let f = g.N.Walk.tree in
    let old = trees f c.waiting.owners.items in
    let waiting = c.pop.new.self.items in
    let counted = rw c.in-Some-2.is at c.in_ok-less.ensures.counted in
    let listed = rw c.in-Some-2.is at c.in_ok-less.ensures.listed in
    record {
      counted = omega (
        arith,
        c.waiting.invariant.counted,
        counted.0,
        ap (sum_by (λ n. size (f n))) c.in-Some.ensures.items,
        sum_by_push (λ n. size (f n)) waiting c.in-Some.next,
      );
      listed = listed ∙ ap (λ ds. old ++ ds) (sym (waiting_push f waiting c.in-Some.next))
          ∙ ap (λ ns. old ++ waiting_owners f ns) (sym c.in-Some.ensures.items)
          ∙ c.waiting.invariant.listed;
    }
