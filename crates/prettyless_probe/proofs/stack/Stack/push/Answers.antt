use Rattle.std.proofs.Common.{◌∷◌, ◌∙◌, List, ap, arith, length, subst, sym, if◌then◌else◌}
use Rattle.prettyless_probe.specs.Stack.{Task, make_task, stack_of}
use Rattle.prettyless_probe.specs.Sums.{AreSums}
use Rattle.prettyless_probe.specs.declared.stack.Below.{Below}
use Rattle.prettyless_probe.proofs.Stacks.{length-stack_of}
use Rattle.prettyless_probe.proofs.Sums.{long_push}
use Rattle.prettyless_probe.proofs.stack.Stack.push.Goals as goal

pub returns-clause-pushed : goal.returns-clause-pushed
returns-clause-pushed g c =
    let f = g.N.Walk.tree in
    c.in_ok-put.ensures.put
    ∙ ap (λ z. make_task c.args.indent c.args.mode (f c.args.node) ∷ stack_of f z) c.in_ok-push_sum.ensures.others

pub returns-clause-summed : goal.returns-clause-summed
returns-clause-summed g c h =
    let f = g.N.Walk.tree in
    let has = g.N.Walk.HAS_SUMMARIES in
    let s = c.args.self.now in
    let u = c.push_sum.new.self in
    let v = c.put.new.self in
    let pushed = returns-clause-pushed g c in
    let t = make_task c.args.indent c.args.mode (f c.args.node) in
    let same = ap (λ z. z.items) c.in_ok-put.ensures.sums in
    record {
      long = ap length same
          ∙ long_push has (length u.sums.items) (length s.sums.items) (length s.nodes.items) h.long c.in_ok-push_sum.ensures.long
          ∙ ap (λ k. if has then k else 0) (omega (arith, ap length pushed, length-stack_of f s, length-stack_of f v));
      sums = subst (λ (z : List Below). AreSums z (stack_of f v)) (sym same)
          (subst (λ (z : List Task). AreSums u.sums.items z) (sym pushed)
          (c.in_ok-push_sum.ensures.sums c.args.indent c.args.mode h));
    }
