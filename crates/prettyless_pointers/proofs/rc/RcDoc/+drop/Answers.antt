-- Where a front gave its first pointer, less is left to drop than before.
use Rattle.std.proofs.Common.{◌+◌, ◌*◌, ◌<◌, ◌≤◌, subst, sym, arith}
use Rattle.prettyless_pointers.proofs.CountedWeight.{rc_weight, take_less}
use Rattle.prettyless_pointers.proofs.Weight.{weight_of}
use Rattle.prettyless_pointers.proofs.rc.RcDoc.+drop.Goals as goal

pub loop-rest-smaller-in-Ok : goal.loop-rest-smaller-in-Ok
loop-rest-smaller-in-Ok t c =
    let less = take_less c.in-Two.front c.take_first.new.self c.in-Ok.first c.in-Two.back c.in-Ok.ensures.first c.in-Ok.ensures.moved in
    subst (λ r. 2 * rc_weight c.in-Ok.first + rc_weight c.take_first.new.self + 1 < weight_of rc_weight r) (sym c.in-Two.is)
    (omega (arith, less))

pub loop-rest-preserved-in-Ok : goal.loop-rest-preserved-in-Ok
loop-rest-preserved-in-Ok t c =
    let less = take_less c.in-Two.front c.take_first.new.self c.in-Ok.first c.in-Two.back c.in-Ok.ensures.first c.in-Ok.ensures.moved in
    let before = subst (λ r. weight_of rc_weight r ≤ rc_weight c.args.self) c.in-Two.is c.loop-rest.invariant in
    omega (arith, less, before)
