use Rattle.std.proofs.Common.{◌≡◌, ◌+◌, subst, arith}
use Rattle.json_lexemes.proofs.Places.{IsInside, inside_far, inside_more, inside_escape, closes_here, never_closes}
use Rattle.json_lexemes.proofs.cut.string_end.Goals as goal

pub returns-in-34-clause-cut : goal.returns-in-34-clause-cut
returns-in-34-clause-cut c =
    closes_here c.args.bytes.now c.args.from c.loop-place.place c.loop-place.invariant.after
    (omega arith) c.in-34.is c.loop-place.invariant.inside

pub loop-place-preserved-in-92 : goal.loop-place-preserved-in-92
loop-place-preserved-in-92 c =
    record {
      after = omega arith;
      near = omega arith;
      inside = inside_escape c.args.bytes.now c.args.from c.loop-place.place c.loop-place.invariant.after
          (omega arith) c.in-92.is c.loop-place.invariant.inside;
    }

pub loop-place-preserved : goal.loop-place-preserved
loop-place-preserved c =
    let d = c.args.bytes.now in
    let from = c.args.from in
    let place = c.loop-place.place in
    let i = c.loop-place.invariant in
    let k = c.plain_len.result in
    let one = inside_more d from place i.after (omega arith) (λ e. omega arith) (λ e. omega arith) i.inside in
    let next : place + 1 + k ≡ place + (1 + k) = omega arith in
    record {
      after = omega arith;
      near = omega (arith, c.plain_len.ensures.bounds);
      inside = subst (IsInside d from) next
          (inside_far d from (place + 1) k (omega arith) c.plain_len.ensures.bounds c.plain_len.ensures.goes_on one);
    }

pub returns-clause-cut : goal.returns-clause-cut
returns-clause-cut c = never_closes c.args.bytes.now c.args.from c.loop-place.place c.loop-place.invariant.after c.requires
    (omega arith) c.loop-place.invariant.inside
