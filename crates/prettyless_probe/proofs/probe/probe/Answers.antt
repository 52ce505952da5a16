use Rattle.std.proofs.Common.{◌≡◌, ℕ, ◌+◌, ◌≤◌, ◌∙◌, ◌&&◌, nat_lt, false, true, List, OnOk, ap, arith, length, rules, subst, sym}
use Rattle.prettyless_summary.specs.Summary.{has_summary}
use Rattle.prettyless_probe.specs.Probing.{is_fit}
use Rattle.prettyless_probe.specs.Reads.{IsFew, RisesTo, parts_read}
use Rattle.prettyless_probe.specs.Stack.{Task, nodes, stack_of, unread}
use Rattle.prettyless_probe.specs.Sums.{AreSums, HaveSum}
use Rattle.prettyless_probe.proofs.Counting.{known_none, no_answer, no_summary, only_first, reads_by_nodes, reads_by_summary, sums_few}
use Rattle.prettyless_probe.proofs.Counting.{sums_none}
use Rattle.prettyless_probe.proofs.Probes.{fit_found, summary_fits}
use Rattle.prettyless_probe.proofs.Sizes.{size_positive}
use Rattle.prettyless_probe.proofs.Stacks.{length-stack_of}
use Rattle.prettyless_probe.proofs.Sums.{long_all}
use Rattle.prettyless_probe.proofs.probe.probe.Goals as goal

pub visit_by_sums-requires-clause-summed : goal.visit_by_sums-requires-clause-summed
visit_by_sums-requires-clause-summed g c =
    subst (λ (ts : List Task). AreSums c.args.commands.now.sums.items ts) (sym c.cursor-below.ensures.unread) c.requires.sums

pub visit_by_parts-requires-clause-summed : goal.visit_by_parts-requires-clause-summed
visit_by_parts-requires-clause-summed g c =
    subst (λ (ts : List Task). AreSums c.args.commands.now.sums.items ts) (sym c.cursor-below.ensures.unread) c.requires.sums

pub returns-in-Next-clause-answer : goal.returns-in-Next-clause-answer
returns-in-Next-clause-answer g c =
    let f = g.N.Walk.tree in
    let s = c.args.commands.now in
    let line = c.args.start in
    ap is_fit c.found.ensures
    ∙ fit_found _
    ∙ c.in_ok-fits-in-Next.ensures.answer
    ∙ summary_fits c.args.width c.args.indent c.args.mode c.in-Next.summary (f c.args.node) (stack_of f c.clear.new.self)
    (unread f s c.cursor-below.result) (stack_of f s) line.column line.pending (c.in-Next.ensures c.args.indent).1.known c.clear.ensures
    c.cursor-below.ensures.unread

pub returns-in-Next-clause-visits : goal.returns-in-Next-clause-visits
returns-in-Next-clause-visits g c =
    let f = g.N.Walk.tree in
    let has = g.N.Walk.HAS_SUMMARIES in
    let d = f c.args.node in
    let s = c.args.commands.now in
    let line = c.args.start in
    let same = c.cursor-below.ensures.unread in
    let sum = c.in-Next.ensures c.args.indent in
    let on = sum.0 in
    let long = long_all has (length s.sums.items) (length s.nodes.items) on c.requires.long in
    let under : length (unread f s c.cursor-below.result) ≤ length s.sums.items =
    omega (arith, ap length same, length-stack_of f s, long) in
    let part = c.visit_by_sums.ensures.visits in
    let size = size_positive d in
    let exact = λ (few : IsFew has d (stack_of f s)).
    subst (λ (k : ℕ). RisesTo k c.args.probes.now c.visit_by_sums.new.probes)
    (reads_by_summary has c.args.probes.now c.args.width c.args.indent c.args.mode c.in-Next.summary d (stack_of f c.clear.new.self)
    (unread f s c.cursor-below.result) (stack_of f s) line.column line.pending on (sum.1.has (omega (arith, few on))) sum.1.known
    c.clear.ensures same)
    (c.in_ok-fits-in-Next.ensures.visits.reads
    (record { on = on; long = under; small = omega (arith, few on, ap nodes same, ap nodes c.clear.ensures, size) })) in
    record {
      rises = part.rises;
      counted = omega (arith, part.counted, ap nodes same, ap nodes c.clear.ensures, size);
      asked = c.in_ok-fits-in-Next.ensures.visits.asked;
      few = λ all. c.visit_by_sums.ensures.few c.clear.ensures under (subst (λ (ts : List Task). HaveSum ts) (sym same) all.below);
      reads = exact;
      reads_at_most = λ few. omega (arith, exact few);
    }

pub returns-in_err-fits-in-Next-clause-visits : goal.returns-in_err-fits-in-Next-clause-visits
returns-in_err-fits-in-Next-clause-visits g c =
    let f = g.N.Walk.tree in
    let has = g.N.Walk.HAS_SUMMARIES in
    let d = f c.args.node in
    let s = c.args.commands.now in
    let line = c.args.start in
    let same = c.cursor-below.ensures.unread in
    let sum = c.in-Next.ensures c.args.indent in
    let on = sum.0 in
    let long = long_all has (length s.sums.items) (length s.nodes.items) on c.requires.long in
    let under : length (unread f s c.cursor-below.result) ≤ length s.sums.items =
    omega (arith, ap length same, length-stack_of f s, long) in
    let part = c.visit_by_sums.ensures.visits in
    let size = size_positive d in
    record {
      rises = part.rises;
      counted = omega (arith, part.counted, ap nodes same, ap nodes c.clear.ensures, size);
      asked = search rules;
      few = λ all. c.visit_by_sums.ensures.few c.clear.ensures under (subst (λ (ts : List Task). HaveSum ts) (sym same) all.below);
      reads = λ few. search rules;
      reads_at_most = λ few. subst (λ (k : ℕ). c.visit_by_sums.new.probes ≤ c.args.probes.now + k)
          (reads_by_summary has c.args.probes.now c.args.width c.args.indent c.args.mode c.in-Next.summary d (stack_of f c.clear.new.self)
          (unread f s c.cursor-below.result) (stack_of f s) line.column line.pending on (sum.1.has (omega (arith, few on))) sum.1.known
          c.clear.ensures same)
          (part.reads_at_most
          (record { on = on; long = under; small = omega (arith, few on, ap nodes same, ap nodes c.clear.ensures, size) }));
    }

pub returns-then-reads_parts-clause-visits : goal.returns-then-reads_parts-clause-visits
returns-then-reads_parts-clause-visits g c =
    let f = g.N.Walk.tree in
    let has = g.N.Walk.HAS_SUMMARIES in
    let d = f c.args.node in
    let s = c.args.commands.now in
    let line = c.args.start in
    let same = c.cursor-below.ensures.unread in
    let none = c.in-Silent.ensures c.args.indent in
    let some : (has && nat_lt c.args.probes.now parts_read) ≡ true = cc in
    let on = only_first has (nat_lt c.args.probes.now parts_read) some in
    let long = long_all has (length s.sums.items) (length s.nodes.items) on c.requires.long in
    let under : length (unread f s c.cursor-below.result) ≤ length s.sums.items =
    omega (arith, ap length same, length-stack_of f s, long) in
    let part = c.visit_by_parts.ensures.visits in
    let exact = λ (few : IsFew has d (stack_of f s)).
    let before = no_answer has c.args.width c.args.indent c.args.mode d line.column line.pending none (λ has. omega (arith, few has)) in
    subst (λ (k : ℕ). RisesTo k c.args.probes.now c.visit_by_parts.new.probes)
    (reads_by_nodes true has c.args.probes.now c.args.width c.args.indent c.args.mode d (stack_of f c.clear.new.self)
    (unread f s c.cursor-below.result) (stack_of f s) line.column line.pending before
    (sums_few has (has_summary d c.args.mode) (nat_lt c.args.probes.now parts_read) some) c.clear.ensures same)
    (c.in_ok-within.ensures.visits.reads
    (record { on = on; long = under; small = omega (arith, few on, ap nodes same, ap nodes c.clear.ensures) })) in
    record {
      rises = part.rises;
      counted = omega (arith, part.counted, ap nodes same, ap nodes c.clear.ensures);
      asked = c.in_ok-within.ensures.visits.asked;
      few = λ all. known_none d c.args.mode all.own (none all.summaries all.small).has;
      reads = exact;
      reads_at_most = λ few. omega (arith, exact few);
    }

pub returns-in_err-within-clause-visits : goal.returns-in_err-within-clause-visits
returns-in_err-within-clause-visits g c =
    let f = g.N.Walk.tree in
    let has = g.N.Walk.HAS_SUMMARIES in
    let d = f c.args.node in
    let s = c.args.commands.now in
    let line = c.args.start in
    let same = c.cursor-below.ensures.unread in
    let none = c.in-Silent.ensures c.args.indent in
    let some : (has && nat_lt c.args.probes.now parts_read) ≡ true = cc in
    let on = only_first has (nat_lt c.args.probes.now parts_read) some in
    let long = long_all has (length s.sums.items) (length s.nodes.items) on c.requires.long in
    let under : length (unread f s c.cursor-below.result) ≤ length s.sums.items =
    omega (arith, ap length same, length-stack_of f s, long) in
    let part = c.visit_by_parts.ensures.visits in
    record {
      rises = part.rises;
      counted = omega (arith, part.counted, ap nodes same, ap nodes c.clear.ensures);
      asked = search rules;
      few = λ all. known_none d c.args.mode all.own (none all.summaries all.small).has;
      reads = λ few. search rules;
      reads_at_most = λ few.
          let before = no_answer has c.args.width c.args.indent c.args.mode d line.column line.pending none
          (λ has. omega (arith, few has)) in
          subst (λ (k : ℕ). c.visit_by_parts.new.probes ≤ c.args.probes.now + k)
          (reads_by_nodes true has c.args.probes.now c.args.width c.args.indent c.args.mode d (stack_of f c.clear.new.self)
          (unread f s c.cursor-below.result) (stack_of f s) line.column line.pending before
          (sums_few has (has_summary d c.args.mode) (nat_lt c.args.probes.now parts_read) some) c.clear.ensures same)
          (part.reads_at_most
          (record { on = on; long = under; small = omega (arith, few on, ap nodes same, ap nodes c.clear.ensures) }));
    }

pub returns-clause-visits : goal.returns-clause-visits
returns-clause-visits g c =
    let f = g.N.Walk.tree in
    let has = g.N.Walk.HAS_SUMMARIES in
    let d = f c.args.node in
    let s = c.args.commands.now in
    let line = c.args.start in
    let same = c.cursor-below.ensures.unread in
    let none = c.in-Silent.ensures c.args.indent in
    let part = c.visit_all-fit.ensures.visits in
    let many : (has && nat_lt c.args.probes.now parts_read) ≡ false = cc in
    let same_reads = λ (few : IsFew has d (stack_of f s)).
    reads_by_nodes false has c.args.probes.now c.args.width c.args.indent c.args.mode d (stack_of f c.clear.new.self)
    (unread f s c.cursor-below.result) (stack_of f s) line.column line.pending
    (no_answer has c.args.width c.args.indent c.args.mode d line.column line.pending none (λ on. omega (arith, few on)))
    (sums_none has (has_summary d c.args.mode) (nat_lt c.args.probes.now parts_read)
    (no_summary has c.args.width c.args.indent c.args.mode d line.column line.pending none (λ on. omega (arith, few on))) many)
    c.clear.ensures same in
    record {
      rises = part.rises;
      counted = omega (arith, part.counted, ap nodes same, ap nodes c.clear.ensures);
      asked = part.asked;
      few = λ all. known_none d c.args.mode all.own (none all.summaries all.small).has;
      reads = λ few. subst (λ (k : ℕ). OnOk c.visit_all-fit.result (RisesTo k c.args.probes.now c.visit_all-fit.new.probes))
          (same_reads few) (part.reads tt);
      reads_at_most = λ few. subst (λ (k : ℕ). c.visit_all-fit.new.probes ≤ c.args.probes.now + k) (same_reads few) (part.reads_at_most tt);
    }
