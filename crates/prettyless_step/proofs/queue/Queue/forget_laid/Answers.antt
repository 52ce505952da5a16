use Rattle.std.proofs.Common.{◌≡◌, ℕ, ◌∙◌, ap, arith, drop}
use Rattle.prettyless_step.proofs.queue.Queue.forget_laid.Goals as goal

-- nothing was laid: all of them are pending
pub returns-else-self-gt0-clause-forgotten : goal.returns-else-self-gt0-clause-forgotten
returns-else-self-gt0-clause-forgotten g c = λ none.
    let queue = c.args.self.now in
    let begins : 0 ≡ queue.start = omega (arith, c.if-self-gt0.false) in
    ap (λ (n : ℕ). drop n queue.nodes.items) begins ∙ none
