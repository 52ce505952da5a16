use Rattle.std.proofs.Common.{◌≡◌, ◌++◌, ◌∙◌, ap, arith, sym}
use Rattle.std.proofs.lemmas.List.Sums.{sum_by_push}
use Rattle.prettyless_model.specs.Tree.{size}
use Rattle.prettyless_probe.specs.Stack.{trees}
use Rattle.prettyless_probe.proofs.Sizes.{size_positive}
use Rattle.prettyless_table.specs.Parts.{small}
use Rattle.prettyless_table.specs.Owners.{owners_of, waiting_owners}
use Rattle.prettyless_table.proofs.AtOnce.{counted_all, counted_at_most}
use Rattle.prettyless_table.proofs.Owners.{size_one, size_two}
use Rattle.prettyless_table.proofs.Listing.{lists_one, lists_two, small_counted, small_owners, waiting_push}
use Rattle.prettyless_table.proofs.counting.count_down.Goals as goal
use Rattle.prettyless_table.proofs.counting.count_down.Goals.{then-at_once-eq0+in_ok-push-in-Two, else-at_once-eq0}

pub returns-then-at_once-left : goal.returns-then-at_once-left
returns-then-at_once-left g c =
    let f = g.N.Walk.tree in
    omega (
      arith,
      c.down.invariant.counted,
      size_two (f c.down.next) (f c.in-Two.first) (f c.in-Two.second) c.in-Two.ensures,
      counted_at_most (small (f c.in-Two.second)) (size (f c.in-Two.second)) c.count_small-at_once.result c.count_small-at_once.ensures,
      c.if-at_once-left.true,
      size_positive (f c.in-Two.first),
    )

pub down-preserved : goal.down-preserved
down-preserved g c =
    let f = g.N.Walk.tree in
    let two = size_two (f c.down.next) (f c.in-Two.first) (f c.in-Two.second) c.in-Two.ensures in
    let old = trees f c.down.owners.items in
    let new = trees f c.list_own.new.owners.items in
    let waiting = waiting_owners f c.down.waiting.items in
    let more : new ++ (owners_of (f c.in-Two.first) ++ (owners_of (f c.in-Two.second) ++ waiting))
    ≡ old ++ (owners_of (f c.down.next) ++ waiting) =
    lists_two (f c.down.next) (f c.in-Two.first) (f c.in-Two.second) old new waiting c.in-Two.ensures c.in_ok-list_own.ensures in
    record {
      listed = elim c.if-at_once-eq0.branch [
        | then-at_once-eq0+in_ok-push-in-Two w ↦
            ap (λ ns. new ++ (owners_of (f c.in-Two.first) ++ waiting_owners f ns))
            (ap (λ v. v.items) w.waiting-is ∙ w.in_ok-push-in-Two.ensures.items)
            ∙ ap (λ ds. new ++ (owners_of (f c.in-Two.first) ++ ds)) (waiting_push f c.down.waiting.items c.in-Two.second)
            ∙ more ∙ c.down.invariant.listed
        | else-at_once-eq0 w ↦
            let little = small_counted (small (f c.in-Two.second)) (size (f c.in-Two.second)) c.count_small-at_once.result
            c.count_small-at_once.ensures w.if-at_once-eq0.false in
            ap (λ v. new ++ (owners_of (f c.in-Two.first) ++ waiting_owners f v.items)) w.waiting-is
            ∙ ap (λ ds. new ++ (owners_of (f c.in-Two.first) ++ (ds ++ waiting))) (sym (small_owners (f c.in-Two.second) little))
            ∙ more ∙ c.down.invariant.listed
      ];
      less = omega (arith, c.down.invariant.less);
      counted = elim c.if-at_once-eq0.branch [
        | then-at_once-eq0+in_ok-push-in-Two w ↦ rw w.waiting-is (rw w.in_ok-push-in-Two.ensures.items (omega (
          arith,
          c.down.invariant.counted,
          two,
          w.if-at_once-eq0.true,
          sum_by_push (λ n. size (f n)) c.down.waiting.items c.in-Two.second,
        )))
        | else-at_once-eq0 w ↦ rw w.waiting-is (omega (
          arith,
          c.down.invariant.counted,
          two,
          c.if-at_once-left.false,
          counted_all (small (f c.in-Two.second)) (size (f c.in-Two.second)) c.count_small-at_once.result c.count_small-at_once.ensures
              w.if-at_once-eq0.false,
        ))
      ];
    }

pub returns : goal.returns
returns g c = omega (arith, c.down.invariant.counted, c.down-test.false, size_positive (g.N.Walk.tree c.down.next))

pub down-preserved-in-One : goal.down-preserved-in-One
down-preserved-in-One g c =
    let f = g.N.Walk.tree in
    let old = trees f c.down.owners.items in
    let new = trees f c.list_own.new.owners.items in
    record {
      less = omega (arith, c.down.invariant.less);
      counted = omega (arith, c.down.invariant.counted, c.down-test.true, size_one (f c.down.next) (f c.in-One.inner) c.in-One.ensures);
      listed = lists_one (f c.down.next) (f c.in-One.inner) old new (waiting_owners f c.down.waiting.items) c.in-One.ensures
          c.in_ok-list_own.ensures ∙ c.down.invariant.listed;
    }
