use Rattle.std.proofs.Common.{◌∷◌, [], ◌∙◌, ap, arith, length, length-append, sym, take, if◌then◌else◌}
use Rattle.prettyless_probe.specs.Stack.{make_task, stack_of}
use Rattle.prettyless_probe.proofs.Stacks.{tasks_last}
use Rattle.prettyless_probe.proofs.Sums.{summed_cut}
use Rattle.prettyless_probe.proofs.stack.Stack.take_here.Goals as goal

pub returns-clause-taken : goal.returns-clause-taken
returns-clause-taken g c =
    let f = g.N.Walk.tree in
    let s = c.args.self.now in
    let r = c.pop.new.self in
    tasks_last f s.frames.items s.here s.nodes.items r.items c.in-Some.node c.in-Some.ensures.items s.rises
    (omega (arith, c.requires, s.top, s.nodes.ok.0, r.ok.0, c.in-Some.ensures.len))
    ∙ sym (ap (λ z. make_task z.here.indent z.here.mode (f c.in-Some.node) ∷ stack_of f z) c.cut_sums.ensures.others)

pub returns-clause-summed : goal.returns-clause-summed
returns-clause-summed g c =
    let f = g.N.Walk.tree in
    let s = c.args.self.now in
    let r = c.pop.new.self in
    let u = c.cut_sums.new.self in
    let same = ap (λ z. length z.nodes.items) c.cut_sums.ensures.others in
    summed_cut g.N.Walk.HAS_SUMMARIES f s u (make_task u.here.indent u.here.mode (f c.in-Some.node) ∷ [])
    (returns-clause-taken g c)
    (omega (arith, same, ap length c.in-Some.ensures.items, length-append r.items (c.in-Some.node ∷ [])))
    (c.cut_sums.ensures.sums ∙ ap (λ n. if g.N.Walk.HAS_SUMMARIES then take n s.sums.items else s.sums.items) (r.ok.0 ∙ sym same))
