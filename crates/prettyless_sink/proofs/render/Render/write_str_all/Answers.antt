use Rattle.std.proofs.Common.{ap, arith, rules, take, ◌++◌, ◌∙◌}
use Rattle.std.proofs.lemmas.Grind.{common_steps}
use Rattle.prettyless_sink.specs.Sink.{rise, IsFairCount}
use Rattle.prettyless_sink.proofs.Beginnings.{on_err, beginning_of_rest, appended_on, split_on}
use Rattle.prettyless_sink.proofs.render.Render.write_str_all.Goals as goal

pub returns-in_err-count-clause-err : goal.returns-in_err-count-clause-err
returns-in_err-count-clause-err g c =
    let kept = c.loop-rest.invariant in
    on_err
    c.from_residual.result
    (λ is_known.
    let before = kept.accepted is_known in
    let failed = c.in_err-count.ensures.err before.0 in
    (failed.0, (beginning_of_rest _ _ _ _ _ _ kept.split before.1.0 failed.1.0, failed.1.1 ∙ ap rise before.1.1)))

pub returns-then-not-is_fair_count-clause-err : goal.returns-then-not-is_fair_count-clause-err
returns-then-not-is_fair_count-clause-err g c =
    let kept = c.loop-rest.invariant in
    λ is_known.
    let before = kept.accepted is_known in
    let took = c.in_ok-count.ensures.ok before.0 in (
      took.0,
      (
        beginning_of_rest _ _ _ _ _ _ kept.split before.1.0 took.1.0.1,
        took.1.1.1 (λ fair. cc (c.if-not-is_fair_count.ensures.1 fair)) ∙ ap rise before.1.1,
      ),
    )

pub loop-rest-preserved : goal.loop-rest-preserved
loop-rest-preserved g c =
    let kept = c.loop-rest.invariant in
    let rest = c.loop-rest.rest.now in
    let count = c.in_ok-count.count in
    let fair : IsFairCount rest count = search rules in
    record {
      is_text = search rules;
      same_lender = c.write_str.ensures.same_lender ∙ kept.same_lender;
      done = kept.done ++ take count rest;
      split = rw c.range_from-rest.ensures.value (split_on _ _ rest count kept.split);
      accepted = λ is_known.
          let before = kept.accepted is_known in
          let took = c.in_ok-count.ensures.ok before.0 in
          (took.0, (appended_on _ _ _ _ _ before.1.0 (took.1.0.0 fair.0.0), took.1.1.0 fair ∙ before.1.1));
    }

pub returns-clause-ok : goal.returns-clause-ok
returns-clause-ok g c = grind (arith, common_steps)
