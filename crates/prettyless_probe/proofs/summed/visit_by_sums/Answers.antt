use Rattle.std.proofs.Common.{ℕ, ◌++◌, ◌+◌, ◌∙◌, ap, arith, sym, true, false}
use Rattle.prettyless_probe.specs.Reads.{reads_below}
use Rattle.prettyless_probe.specs.Stack.{in_break, stack_of, unread}
use Rattle.prettyless_probe.proofs.Counting.{if_ok, on_ok_from, one_read}
use Rattle.prettyless_probe.proofs.summed.visit_by_sums.Goals as goal

pub returns-clause-answer : goal.returns-clause-answer
returns-clause-answer g c =
    let f = g.N.Walk.tree in
    let after = stack_of f c.args.stack.now ++ in_break (unread f c.args.commands.now c.args.cursor) in
    if_ok c.read_rest.result _ _ (λ fits same. same ∙ sym (c.read_by-read.ensures.answer after)) c.read_rest.ensures.answer

pub returns-clause-few : goal.returns-clause-few
returns-clause-few g c none long whole =
    omega (
      arith,
      c.read_rest.ensures.few
          (record { next = c.read_by-read.ensures.nodes; own = none; whole = whole; long = long }),
      c.one_more.ensures.at_most,
    )

pub returns-clause-visits : goal.returns-clause-visits
returns-clause-visits g c =
    let mine = stack_of g.N.Walk.tree c.args.stack.now in
    let next = reads_below true c.args.width false (unread g.N.Walk.tree c.args.commands.now c.args.cursor) in
    let rest = c.read_rest.ensures.visits in
    let read = c.read_by-read.ensures in
    record {
      rises = omega (arith, c.one_more.ensures.rises, rest.rises);
      counted = omega (arith, c.one_more.ensures.at_most, read.nodes, rest.counted);
      asked = on_ok_from c.read_rest.result (omega (arith, c.one_more.ensures.one, rest.rises));
      reads = λ short.
          let one = one_read _ _ _ _ c.one_more.ensures.one (ap (λ (n : ℕ). 1 + n) (read.reads mine next)) in
          if_ok c.read_rest.result _ _ (λ fits exact. exact ∙ one) (rest.reads (
            omega (arith, c.one_more.ensures.one),
            record { on = short.on; long = short.long; small = omega (arith, short.small, read.nodes) },
          ));
      reads_at_most = λ short. omega (
        arith,
        c.one_more.ensures.at_most,
        read.reads mine next,
        rest.reads_at_most (
          omega (arith, c.one_more.ensures.one),
          record { on = short.on; long = short.long; small = omega (arith, short.small, read.nodes) },
        ),
      );
    }
