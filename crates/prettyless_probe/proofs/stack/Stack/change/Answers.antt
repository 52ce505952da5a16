use Rattle.std.proofs.Common.{◌∙◌, arith, refl}
use Rattle.prettyless_probe.specs.declared.command.Frame.{Frame}
use Rattle.prettyless_probe.proofs.Frames.{lowest_at, rises_at}
use Rattle.prettyless_probe.proofs.Stacks.{tasks_at}
use Rattle.prettyless_probe.proofs.Sums.{summed_same}
use Rattle.prettyless_probe.proofs.stack.Stack.change.Goals as goal

pub invariant_of-self : goal.invariant_of-self
invariant_of-self g c =
    let s = c.args.self.now in
    let other : Frame = record { indent = c.args.indent; mode = c.args.mode; below = s.here.below } in
    record {
      bottom = lowest_at s.frames.items s.here other refl ∙ s.bottom;
      rises = rises_at s.frames.items s.here other refl s.rises;
      top = s.top;
    }

pub returns-clause-same : goal.returns-clause-same
returns-clause-same g c =
    let s = c.args.self.now in
    let other : Frame = record { indent = c.args.indent; mode = c.args.mode; below = s.here.below } in
    tasks_at g.N.Walk.tree s.frames.items s.here other s.nodes.items
    (omega (arith, s.top, s.nodes.ok.0, c.if-self-len.false, c.len.ensures)) refl

pub returns-clause-summed : goal.returns-clause-summed
returns-clause-summed g c =
    summed_same g.N.Walk.HAS_SUMMARIES g.N.Walk.tree c.args.self.now _ (returns-clause-same g c) refl refl
