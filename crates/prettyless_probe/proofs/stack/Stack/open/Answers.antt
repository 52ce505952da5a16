use Rattle.std.proofs.Common.{◌∙◌, arith, refl, sym, subst}
use Rattle.prettyless_probe.specs.Frames.{Rises}
use Rattle.prettyless_probe.specs.declared.command.Frame.{Frame}
use Rattle.prettyless_probe.proofs.Frames.{lowest_left, rises_open}
use Rattle.prettyless_probe.proofs.Stacks.{tasks_left}
use Rattle.prettyless_probe.proofs.Sums.{summed_same}
use Rattle.prettyless_probe.proofs.stack.Stack.open.Goals as goal

pub invariant_of-self-2 : goal.invariant_of-self-2
invariant_of-self-2 g c =
    let s = c.args.self.now in
    let new : Frame = record { indent = c.args.indent; mode = c.args.mode; below = c.len.result } in
    let items = c.in_ok-push.ensures.items in
    record {
      bottom = sym (lowest_left c.push.new.self.items s.frames.items s.here new items) ∙ s.bottom;
      rises = subst (λ xs. Rises xs new) (sym items)
          (rises_open s.frames.items s.here new s.rises (omega (arith, c.requires, c.len.ensures)));
      top = omega (arith, c.len.ensures);
    }

pub returns-clause-same : goal.returns-clause-same
returns-clause-same g c =
    let s = c.args.self.now in
    let new : Frame = record { indent = c.args.indent; mode = c.args.mode; below = c.len.result } in
    sym (tasks_left g.N.Walk.tree c.push.new.self.items s.frames.items s.here new s.nodes.items c.in_ok-push.ensures.items
    (omega (arith, c.len.ensures, s.nodes.ok.0)))

pub returns-clause-summed : goal.returns-clause-summed
returns-clause-summed g c =
    summed_same g.N.Walk.HAS_SUMMARIES g.N.Walk.tree c.args.self.now _ (returns-clause-same g c) refl refl
