use Rattle.std.proofs.Common.{◌≡◌, ◌+◌, ◌<◌, ◌^◌, ap, arith, length}
use Rattle.prettyless_model.specs.Tree.{size}
use Rattle.prettyless_model.specs.declared.mode.Mode.TheVariants.{Break}
use Rattle.prettyless_summary.specs.Summary.{has_summary}
use Rattle.prettyless_summary.proofs.Has.{found_begins, found_whole}
use Rattle.prettyless_probe.specs.Stack.{make_task, nodes, stack_of}
use Rattle.prettyless_probe.proofs.Stacks.{length-stack_of}
use Rattle.prettyless_probe.proofs.Sums.{long_all, run_more, run_of_none, sum_nothing, sum_own, sum_then, sum_top}
use Rattle.prettyless_probe.proofs.stack.Stack.sum_with.Goals as goal

pub returns-in_default : goal.returns-in_default
returns-in_default g c i m h =
    let f = g.N.Walk.tree in
    let has = g.N.Walk.HAS_SUMMARIES in
    let s = c.args.self.now in
    let d = f c.args.node.now in
    sum_nothing c.nothing.result (c.len-height.result + 1) (make_task i m d) (stack_of f s)
    (omega (arith, length-stack_of f s, s.nodes.ok.0, c.len-height.ensures)) c.nothing.ensures.reads c.nothing.ensures.small
    (λ few. found_begins (has_summary d Break) c.in_default.field-0 d Break (c.in_default.ensures.found c.requires few))

pub returns-in_default-last : goal.returns-in_default-last
returns-in_default-last g c i m h =
    let f = g.N.Walk.tree in
    let has = g.N.Walk.HAS_SUMMARIES in
    let s = c.args.self.now in
    let d = f c.args.node.now in
    let none : length (stack_of f s) ≡ 0 = omega (
      arith,
      long_all has (length s.sums.items) (length s.nodes.items) c.requires h.long,
      ap length c.deref.ensures.value,
      c.in_default-last.ensures.item.3,
      length-stack_of f s,
    ) in
    sum_own c.in-Whole.own c.len-height.result i m d (stack_of f s)
    (omega (arith, length-stack_of f s, s.nodes.ok.0, c.len-height.ensures)) c.in-Whole.ensures.known
    (λ few.
    let own = found_whole (has_summary d Break) c.in-Whole.own d Break (c.in-Whole.ensures.found c.requires (omega (arith, few))) in
    let more = run_more (make_task i m d) (stack_of f s) own.0 in (
      omega (arith, ap length more, run_of_none (stack_of f s) none, none, length-stack_of f s, s.nodes.ok.0, c.len-height.ensures),
      own.1,
    ))

pub returns-in-Some-then : goal.returns-in-Some-then
returns-in-Some-then g c i m h =
    let f = g.N.Walk.tree in
    let has = g.N.Walk.HAS_SUMMARIES in
    let s = c.args.self.now in
    let d = f c.args.node.now in
    let b = c.in-Some.below.now in
    let item = c.in-Some.ensures.item in
    let under = sum_top has f s c.deref.result.now b h c.deref.ensures.value item.3.0 item.1 in
    let own = λ (few : size d < 2 ^ 32).
    found_whole (has_summary d Break) c.in-Whole.own d Break (c.in-Whole.ensures.found c.requires few) in
    sum_then c.in-Whole.own i m d (stack_of f s) c.in-Whole.ensures.known under c.in-Some-then.ensures.reads
    (λ few. (own few).0)
    (λ few small. c.in-Some-then.ensures.small (size d) (nodes (stack_of f s)) few (own (omega (arith, few))).1 small)

pub returns-in-None : goal.returns-in-None
returns-in-None g c i m h =
    let f = g.N.Walk.tree in
    let has = g.N.Walk.HAS_SUMMARIES in
    let s = c.args.self.now in
    let d = f c.args.node.now in
    let b = c.in-Some.below.now in
    let item = c.in-Some.ensures.item in
    let under = sum_top has f s c.deref.result.now b h c.deref.ensures.value item.3.0 item.1 in
    sum_own c.in-Whole.own c.len-height.result i m d (stack_of f s) (omega (arith, length-stack_of f s, s.nodes.ok.0, c.len-height.ensures))
    c.in-Whole.ensures.known
    (λ few. absurd (c.in-None.ensures.small (size d) (nodes (stack_of f s)) few
    (found_whole (has_summary d Break) c.in-Whole.own d Break (c.in-Whole.ensures.found c.requires (omega (arith, few)))).1
    (under.run (omega (arith, few))).1))
