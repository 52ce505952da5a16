use Rattle.std.proofs.Common.{◌∙◌, arith, refl}
use Rattle.prettyless_probe.proofs.Frames.{lowest_left, rises_under}
use Rattle.prettyless_probe.proofs.Stacks.{tasks_left}
use Rattle.prettyless_probe.proofs.Sums.{summed_same}
use Rattle.prettyless_probe.proofs.stack.Stack.leave.Goals as goal

pub invariant_of-self : goal.invariant_of-self
invariant_of-self g c =
    let s = c.args.self.now in
    let under = rises_under s.frames.items c.pop.new.self.items c.in-Some.frame s.here c.in-Some.ensures.items s.rises in
    record {
      bottom = lowest_left s.frames.items c.pop.new.self.items c.in-Some.frame s.here c.in-Some.ensures.items ∙ s.bottom;
      rises = under.0;
      top = omega (arith, under.1, s.top);
    }

pub returns-in-Some-clause-same : goal.returns-in-Some-clause-same
returns-in-Some-clause-same g c =
    let s = c.args.self.now in
    tasks_left g.N.Walk.tree s.frames.items c.pop.new.self.items c.in-Some.frame s.here s.nodes.items c.in-Some.ensures.items
    (omega (arith, c.requires, s.nodes.ok.0))

pub returns-in-Some-clause-more : goal.returns-in-Some-clause-more
returns-in-Some-clause-more g c more =
    let s = c.args.self.now in
    omega (arith, (rises_under s.frames.items c.pop.new.self.items c.in-Some.frame s.here c.in-Some.ensures.items s.rises).1, c.requires)

pub returns-in-Some-clause-summed : goal.returns-in-Some-clause-summed
returns-in-Some-clause-summed g c =
    summed_same g.N.Walk.HAS_SUMMARIES g.N.Walk.tree c.args.self.now _ (returns-in-Some-clause-same g c) refl refl
