use Rattle.std.proofs.Common.{◌≡◌, ◌++◌, List, length}
use Rattle.prettyless_probe.specs.Stack.{Task, stack_of}
use Rattle.prettyless_probe.specs.Sums.{IsSummed}
use Rattle.prettyless_probe.proofs.stack.Stack.cut.Given as goal

abbrev pub invariant-frames : goal.invariant-frames
invariant-frames g l = record {
  kept : (above below : List Task) → stack_of g.N.Walk.tree l.fn.self ≡ above ++ below → length below ≡ l.kept → (rest : List Task)
      × (stack_of g.N.Walk.tree l.self ≡ rest ++ below);
  summed : IsSummed g.N.Walk.HAS_SUMMARIES g.N.Walk.tree l.fn.self → IsSummed g.N.Walk.HAS_SUMMARIES g.N.Walk.tree l.self;
}

abbrev pub decreases-frames : goal.decreases-frames
decreases-frames g l = l.self.here.below
