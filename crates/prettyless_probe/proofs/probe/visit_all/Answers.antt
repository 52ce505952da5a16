use Rattle.std.proofs.Common.{◌+◌, ◌∙◌, ap, arith, false, List, sym}
use Rattle.prettyless_probe.specs.Stack.{Task, in_break, tasks_fit, unread}
use Rattle.prettyless_probe.specs.Reads.{reads_below}
use Rattle.prettyless_probe.proofs.Counting.{last_read, one_read}
use Rattle.prettyless_probe.proofs.Sizes.{size_positive}
use Rattle.prettyless_probe.proofs.probe.visit_all.Goals as goal

pub returns-in_default-clause-visits : goal.returns-in_default-clause-visits
returns-in_default-clause-visits g c =
    let f = g.N.Walk.tree in
    let line = c.visit_one.new.line in
    let next = reads_below false c.args.width false (unread f c.args.commands.now c.read.below) in
    let read = rw c.in-Silent.is at c.in_ok-answer.ensures.reads next in
    let left = rw c.in_default.is at c.in_ok-next-in-Silent.ensures.reads c.args.width line.column line.pending in
    let exact = last_read _ _ _ c.one_more.ensures.one (read ∙ ap (λ n. 1 + n) left) ∙ c.read.invariant.reads in
    record {
      rises = omega arith;
      counted = omega (arith, c.read.invariant.counted, c.one_more.ensures.at_most, size_positive (f c.read.node));
      asked = omega (arith, c.read.invariant.rises, c.one_more.ensures.one);
      reads = λ small. exact;
      reads_at_most = λ small. omega (arith, exact);
    }

pub read-preserved : goal.read-preserved
read-preserved g c =
    let f = g.N.Walk.tree in
    let w = c.args.width in
    let line = c.visit_one.new.line in
    let under = unread f c.args.commands.now c.read.below in
    let d = f c.args.first.node in
    let one = rw c.in-Silent.is at c.in_ok-answer.ensures in
    let next = rw c.in-Some.is at c.in_ok-next-in-Silent.ensures in
    let read = one.reads (reads_below false w false under) in
    let left = next.reads w line.column line.pending in
    record {
      of_this = c.next_unread.ensures.of_this;
      same = sym (ap (λ (ts : List Task). tasks_fit w ts line.column line.pending) next.ahead) ∙ sym (one.answer (in_break under))
          ∙ c.read.invariant.same;
      texts = λ flag none.
          let still = one.texts flag in
          let known = c.read.invariant.texts still.0 none in
          (known.0, next.texts d (still.1 d known.1));
      waiting = λ flag none.
          omega (
            arith,
            c.read.invariant.waiting (one.texts flag).0 none,
            one.waiting flag,
            one.room,
            next.waiting,
            next.room,
          );
      rises = omega (arith, c.read.invariant.rises, c.one_more.ensures.rises);
      counted = omega (arith, c.read.invariant.counted, c.one_more.ensures.at_most, one.smaller, next.left);
      reads = one_read _ _ _ _ c.one_more.ensures.one (read ∙ ap (λ n. 1 + n) left) ∙ c.read.invariant.reads;
    }
