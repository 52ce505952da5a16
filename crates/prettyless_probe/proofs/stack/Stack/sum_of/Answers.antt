use Rattle.std.proofs.Common.{◌≡◌, [], ◌∙◌, ◌-◌, ◌<◌, ap, arith, get_or, length, sym}
use Rattle.std.proofs.lemmas.List.{nil_from_length}
use Rattle.prettyless_probe.specs.Stack.{unread}
use Rattle.prettyless_probe.specs.Sums.{below_run}
use Rattle.prettyless_probe.proofs.Stacks.{length-unread}
use Rattle.prettyless_probe.proofs.Sums.{run_whole, sum_whole, sums_at}
use Rattle.prettyless_probe.proofs.stack.Stack.sum_of.Goals as goal
use Rattle.prettyless_probe.proofs.stack.Stack.sum_of.Goals.{then-height-eq0-via-then-height-eq0}
use Rattle.prettyless_probe.proofs.stack.Stack.sum_of.Goals.{then-height-eq0-via-else-height-eq0+then-height-len}

pub returns-then-height-eq0 : goal.returns-then-height-eq0
returns-then-height-eq0 g c long =
    let s = c.args.self.now in
    let ts = unread g.N.Walk.tree s c.args.cursor.now in
    let all = length-unread g.N.Walk.tree s c.args.cursor.now c.requires.of_this in
    let none : ts ≡ [] = elim c.then-height-eq0.branch [
      | then-height-eq0-via-then-height-eq0 w ↦ nil_from_length ts (omega (arith, all, w.if-height-eq0.true))
      | then-height-eq0-via-else-height-eq0+then-height-len w ↦ absurd
          (omega (arith, all, long, w.if-height-len.true, w.len.ensures, s.sums.ok.0))
    ] in
    (λ whole. none, λ few. ap below_run none ∙ sym none)

pub returns-else-below-height : goal.returns-else-below-height
returns-else-below-height g c long =
    let f = g.N.Walk.tree in
    let s = c.args.self.now in
    let cursor = c.args.cursor.now in
    let b = c.index-below.result.now in
    let all = length-unread f s cursor c.requires.of_this in
    let some : 0 < length (unread f s cursor) = omega (arith, all, c.if-height-eq0.false) in
    let sum = sums_at s.sums.items (unread f s cursor) b c.requires.summed some long
    (c.index-below.ensures ∙ ap (λ k. get_or s.sums.items (k - 1) b) (omega (arith, all))) in (
      λ whole. absurd (omega (arith, sum_whole sum whole, c.if-below-height.false, all, some)),
      λ few. run_whole (unread f s cursor) (omega (arith, (sum.run few).0, c.if-below-height.false, all)),
    )

pub returns-then-below-height : goal.returns-then-below-height
returns-then-below-height g c =
    let f = g.N.Walk.tree in
    let s = c.args.self.now in
    let cursor = c.args.cursor.now in
    let b = c.index-below.result.now in
    let long = length-unread f s cursor c.requires.of_this in (
      sums_at s.sums.items (unread f s cursor) b c.requires.summed (omega (arith, long, c.if-height-eq0.false))
          (omega (arith, long, c.if-height-len.false, c.len.ensures, s.sums.ok.0))
          (c.index-below.ensures ∙ ap (λ k. get_or s.sums.items (k - 1) b) (omega (arith, long))),
      omega (arith, long, c.if-below-height.true),
    )
