use Rattle.std.proofs.Common.{◌∙◌, ◌++◌, length, ap, arith, sym, drop, take, List, if◌then◌else◌}
use Rattle.std.proofs.lemmas.List.{length-take}
use Rattle.prettyless_probe.specs.Frames.{spread}
use Rattle.prettyless_probe.specs.Stack.{Task, downwards, framed_tasks, stack_of, task}
use Rattle.prettyless_probe.proofs.Stacks.{kept_below, kept_at_most, stack_keeps, tasks_above}
use Rattle.prettyless_probe.proofs.Sums.{summed_cut}
use Rattle.prettyless_probe.proofs.stack.Stack.keep.Goals as goal

pub returns-clause-below : goal.returns-clause-below
returns-clause-below g c above below e l =
    let f = g.N.Walk.tree in
    let s = c.args.self.now in
    let w = kept_below f (stack_keeps s c.args.kept c.requires) above below e l in
    (w.0, ap (stack_of f) c.cut_sums.ensures.others ∙ ap (framed_tasks f s.frames.items s.here) c.truncate.ensures.items ∙ w.1)

pub returns-clause-at_most : goal.returns-clause-at_most
returns-clause-at_most g c =
    let f = g.N.Walk.tree in
    let s = c.args.self.now in
    omega (
      arith,
      ap (λ u. length (stack_of f u)) c.cut_sums.ensures.others,
      ap (λ ns. length (framed_tasks f s.frames.items s.here ns))
          c.truncate.ensures.items,
      kept_at_most f (stack_keeps s c.args.kept c.requires),
    )

pub returns-clause-summed : goal.returns-clause-summed
returns-clause-summed g c =
    let f = g.N.Walk.tree in
    let s = c.args.self.now in
    let u = c.cut_sums.new.self in
    let k = c.args.kept in
    let above : List Task = downwards (task f) (drop k (spread s.frames.items s.here s.nodes.items)) in
    let same = ap (λ z. length z.nodes.items) c.cut_sums.ensures.others in
    summed_cut g.N.Walk.HAS_SUMMARIES f s u above
    (tasks_above f (stack_keeps s k c.requires)
    ∙ ap (λ (z : List Task). above ++ z)
    (sym (ap (stack_of f) c.cut_sums.ensures.others ∙ ap (framed_tasks f s.frames.items s.here) c.truncate.ensures.items)))
    (omega (arith, same, ap length c.truncate.ensures.items, length-take k s.nodes.items))
    (c.cut_sums.ensures.sums ∙ ap (λ n. if g.N.Walk.HAS_SUMMARIES then take n s.sums.items else s.sums.items)
    (c.truncate.new.self.ok.0 ∙ sym same))
