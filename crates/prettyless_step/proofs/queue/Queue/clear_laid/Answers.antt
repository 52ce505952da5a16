use Rattle.std.proofs.Common.{ap, arith, length, length-drop}
use Rattle.prettyless_step.proofs.queue.Queue.clear_laid.Goals as goal

-- some are pending
pub returns-else-self-len-clause-forgotten : goal.returns-else-self-len-clause-forgotten
returns-else-self-len-clause-forgotten g c = λ none.
    let queue = c.args.self.now in
    absurd (omega (
      arith,
      ap length none,
      length-drop queue.start queue.nodes.items,
      queue.in_range,
      queue.nodes.ok.0,
      c.len.ensures,
      c.if-self-len.false,
    ))
