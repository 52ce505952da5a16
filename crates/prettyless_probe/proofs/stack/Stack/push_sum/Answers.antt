use Rattle.std.proofs.Common.{◌≡◌, ◌∷◌, ◌∙◌, ap, Bool, List, length, sym, subst, true, if◌then◌else◌}
use Rattle.prettyless_probe.specs.Stack.{make_task, stack_of}
use Rattle.prettyless_probe.specs.Sums.{AreSums}
use Rattle.prettyless_probe.specs.declared.stack.Below.{Below}
use Rattle.prettyless_probe.proofs.Stacks.{length-stack_of}
use Rattle.prettyless_probe.proofs.Sums.{sums_push}
use Rattle.prettyless_probe.proofs.stack.Stack.push_sum.Goals as goal

pub returns-in_ok-push-clause-sums : goal.returns-in_ok-push-clause-sums
returns-in_ok-push-clause-sums g c i m h =
    let f = g.N.Walk.tree in
    let s = c.args.self.now in
    let on : g.N.Walk.HAS_SUMMARIES ≡ true = cc in
    let t = make_task i m (f c.args.node.now) in
    subst (λ (z : List Below). AreSums z (t ∷ stack_of f s)) (sym c.in_ok-push.ensures.items)
    (sums_push s.sums.items (stack_of f s) c.sum_with-sum.result t (h.long ∙ ap (λ (has : Bool). if has then length s.nodes.items else 0) on
    ∙ sym (length-stack_of f s)) h.sums (c.sum_with-sum.ensures i m h))
