use Rattle.std.proofs.Common.{◌≡◌, ℕ, [], ◌∷◌, ◌++◌, ◌+◌, ◌-◌, ◌^◌, ◌∙◌, ap, arith, length, length-drop, List, min, rules, subst, sym}
use Rattle.std.proofs.Common.{take, true, false}
use Rattle.prettyless_model.proofs.Looks.{answer-each}
use Rattle.prettyless_model.specs.declared.mode.Mode.TheVariants.{Break}
use Rattle.prettyless_summary.specs.Summary.{look_by}
use Rattle.prettyless_probe.specs.Probing.{ReadsAs}
use Rattle.prettyless_probe.specs.Reads.{read_after, reads_all, reads_below, reads_on}
use Rattle.prettyless_probe.specs.Stack.{Task, in_break, make_task, nodes, stack_of, task, tasks_fit, unread}
use Rattle.prettyless_probe.specs.Sums.{HaveSum, below_run, bottom}
use Rattle.prettyless_probe.proofs.Counting.{one_read, reads_unknown}
use Rattle.prettyless_probe.proofs.Sums.{bottom_none, nodes_bottom, over_bottom, run_stops, sum_fits, sum_whole, sums_less}
use Rattle.prettyless_probe.proofs.SumsRead.{sum_reads}
use Rattle.prettyless_probe.proofs.summed.read_on.Goals as goal

pub returns-in-Some-sum_of-clause-summed : goal.returns-in-Some-sum_of-clause-summed
returns-in-Some-sum_of-clause-summed g c =
    let ts = unread g.N.Walk.tree c.args.commands.now c.args.below.now in
    let over : List Task = take (length ts - c.in-Some-sum_of.sum.left) ts in
    sums_less c.args.commands.now.sums.items ts over (unread g.N.Walk.tree c.args.commands.now c.skip_to.new.cursor)
    (over_bottom c.in-Some-sum_of.sum.left ts ∙ ap (λ (z : List Task). over ++ z) (sym c.skip_to.ensures.unread)) c.requires.summed

pub returns-in-Some-sum_of-clause-answer : goal.returns-in-Some-sum_of-clause-answer
returns-in-Some-sum_of-clause-answer g c =
    let f = g.N.Walk.tree in
    let w = c.args.width in
    let line = c.args.line.now in
    let new = c.read_by.new.line in
    let sum = c.in-Some-sum_of.sum in
    let ts = unread f c.args.commands.now c.args.below.now in
    let under = unread f c.args.commands.now c.skip_to.new.cursor in
    let after : List Task = stack_of f c.pop.new.self ++ in_break under in
    let none = c.in_default.ensures.popped in
    let left = ap (λ (z : List Task). z ++ in_break under) none.1 ∙ ap in_break c.skip_to.ensures.unread in
    subst (λ x. ReadsAs f w c.read_by.result x after new.column new.pending)
    (sym (ap (λ (z : List Task). tasks_fit w (z ++ in_break ts) line.column line.pending) none.0
    ∙ sum_fits c.in-Some-sum_of.ensures.0 w line.column line.pending
    ∙ answer-each (look_by w sum.sum line.column line.pending) (λ e q. tasks_fit w (in_break (bottom sum.left ts)) e q)
    (λ e q. tasks_fit w after e q) (λ e q. ap (λ (z : List Task). tasks_fit w z e q) (sym left))))
    (c.read_by.ensures.answer after)

pub returns-in-Some-sum_of-clause-smaller : goal.returns-in-Some-sum_of-clause-smaller
returns-in-Some-sum_of-clause-smaller g c =
    let ts = unread g.N.Walk.tree c.args.commands.now c.args.below.now in
    omega (
      arith,
      c.read_by.ensures.pace,
      ap nodes c.in_default.ensures.popped.1,
      ap nodes c.skip_to.ensures.unread,
      nodes_bottom c.in-Some-sum_of.sum.left ts c.in-Some-sum_of.ensures.1,
    )

pub returns-in-Some-sum_of-clause-shorter : goal.returns-in-Some-sum_of-clause-shorter
returns-in-Some-sum_of-clause-shorter g c =
    let ts = unread g.N.Walk.tree c.args.commands.now c.args.below.now in
    omega (arith, ap length c.skip_to.ensures.unread, length-drop (length ts - c.in-Some-sum_of.sum.left) ts)

pub returns-in-Some-sum_of-clause-visits : goal.returns-in-Some-sum_of-clause-visits
returns-in-Some-sum_of-clause-visits g c =
    let f = g.N.Walk.tree in
    let w = c.args.width in
    let line = c.args.line.now in
    let new = c.read_by.new.line in
    let sum = c.in-Some-sum_of.sum in
    let ts = unread f c.args.commands.now c.args.below.now in
    let next = reads_below true w false (unread f c.args.commands.now c.skip_to.new.cursor) in
    let popped = c.in_default.ensures.popped in
    record {
      rises = omega (arith, c.one_more.ensures.rises);
      counted = omega (
        arith,
        c.one_more.ensures.at_most,
        c.read_by.ensures.nodes,
        ap nodes popped.1,
        ap nodes c.skip_to.ensures.unread,
        nodes_bottom sum.left ts c.in-Some-sum_of.ensures.1,
      );
      few = λ before one.
          let none = c.skip_to.ensures.unread ∙ bottom_none sum.left ts (sum_whole c.in-Some-sum_of.ensures.0 one.whole) in (
            record {
              next = c.read_by.ensures.nodes;
              own = popped.1;
              whole = subst (λ (z : List Task). HaveSum z) (sym none) (tt, omega arith);
              long = omega (arith, ap length none);
            },
            none,
            c.one_more.ensures.at_most,
          );
      fits = λ small. omega (arith, c.one_more.ensures.one);
      reads = λ long few. one_read _ _ _ _ c.one_more.ensures.one
          (ap (λ (z : List Task). reads_all true w z (reads_below true w false ts) line.column line.pending) popped.0
          ∙ sum_reads ts c.in-Some-sum_of.ensures.0 few c.in-Some-sum_of.ensures.1 w line.column line.pending
          ∙ ap (λ (z : List Task). 1 + read_after (look_by w sum.sum line.column line.pending) (reads_below true w false z))
          (sym c.skip_to.ensures.unread)
          ∙ ap (λ (n : ℕ). 1 + n) (c.read_by.ensures.reads [] next)
          ∙ ap (λ (z : List Task). 1 + reads_on f true w c.read_by.result z next new.column new.pending) (sym popped.1));
    }

pub returns-in-Some-read_down-clause-visits : goal.returns-in-Some-read_down-clause-visits
returns-in-Some-read_down-clause-visits g c =
    let f = g.N.Walk.tree in
    let w = c.args.width in
    let line = c.args.line.now in
    let t = task f c.in-Some-read_down.next in
    let under = unread f c.args.commands.now c.read_down.new.cursor in
    let popped = c.in_default.ensures.popped in
    let step = c.in-Some-read_down.ensures.unread in
    record {
      rises = omega arith;
      counted = omega (arith, ap nodes popped.0, ap nodes popped.1, ap nodes step);
      few = λ before one. search rules;
      fits = λ small. small;
      reads = λ long few.
          let unknown = run_stops t under
          (subst (λ (z : List Task). below_run z ≡ z) step ((c.in_default-sum_of.ensures long).1 few)) in
          ap (λ (n : ℕ). min (c.args.probes.now + n) (2 ^ 64 - 1))
          (sym (ap (λ (z : List Task). reads_all true w z (reads_below true w false (unread f c.args.commands.now c.args.below.now))
          line.column line.pending) popped.0
          ∙ ap (λ (z : List Task). reads_below true w false z line.column line.pending) step
          ∙ reads_unknown w t under line.column line.pending unknown
          ∙ ap (λ (z : List Task). reads_all true w (make_task t.indent Break t.tree ∷ z) (reads_below true w false under) line.column
          line.pending) (sym popped.1)));
    }

pub returns-in-Some-read_down-clause-summed : goal.returns-in-Some-read_down-clause-summed
returns-in-Some-read_down-clause-summed g c =
    let f = g.N.Walk.tree in
    sums_less c.args.commands.now.sums.items (unread f c.args.commands.now c.args.below.now) (task f c.in-Some-read_down.next ∷ [])
    (unread f c.args.commands.now c.read_down.new.cursor) c.in-Some-read_down.ensures.unread c.requires.summed

pub returns-in-None-clause-summed : goal.returns-in-None-clause-summed
returns-in-None-clause-summed g c =
    let f = g.N.Walk.tree in
    sums_less c.args.commands.now.sums.items (unread f c.args.commands.now c.args.below.now) []
    (unread f c.args.commands.now c.read_down.new.cursor) (c.in-None.ensures.unread.0 ∙ sym c.in-None.ensures.unread.1)
    c.requires.summed
