use Rattle.std.proofs.Common.{◌∙◌, arith, sym, true, false}
use Rattle.prettyless_probe.specs.Reads.{reads_below}
use Rattle.prettyless_probe.specs.Stack.{in_break, unread}
use Rattle.prettyless_probe.proofs.Counting.{if_ok, on_ok_from, one_read}
use Rattle.prettyless_probe.proofs.summed.visit_by_parts.Goals as goal

pub returns-clause-answer : goal.returns-clause-answer
returns-clause-answer g c =
    let under = in_break (unread g.N.Walk.tree c.args.commands.now c.args.cursor) in
    if_ok c.read_rest.result _ _ (λ fits same. same ∙ sym (c.in_ok-read.ensures.answer under)) c.read_rest.ensures.answer

pub returns-clause-visits : goal.returns-clause-visits
returns-clause-visits g c =
    let next = reads_below true c.args.width false (unread g.N.Walk.tree c.args.commands.now c.args.cursor) in
    let rest = c.read_rest.ensures.visits in
    let read = c.in_ok-read.ensures in
    record {
      rises = omega (arith, c.one_more.ensures.rises, rest.rises);
      counted = omega (arith, c.one_more.ensures.at_most, read.smaller, rest.counted);
      asked = on_ok_from c.read_rest.result (omega (arith, c.one_more.ensures.one, rest.rises));
      reads = λ short.
          let one = one_read _ _ _ _ c.one_more.ensures.one (read.reads next short.on (omega (arith, short.small))) in
          if_ok c.read_rest.result _ _ (λ fits exact. exact ∙ one) (rest.reads (
            omega (arith, c.one_more.ensures.one),
            record { on = short.on; long = short.long; small = omega (arith, short.small, read.smaller) },
          ));
      reads_at_most = λ short. omega (
        arith,
        c.one_more.ensures.at_most,
        read.reads next short.on (omega (arith, short.small)),
        rest.reads_at_most (
          omega (arith, c.one_more.ensures.one),
          record { on = short.on; long = short.long; small = omega (arith, short.small, read.smaller) },
        ),
      );
    }
