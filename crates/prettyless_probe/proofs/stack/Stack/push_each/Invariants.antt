use Rattle.std.proofs.Common.{◌≡◌, ◌++◌, ◌≤◌, length, drop}
use Rattle.prettyless_probe.specs.Stack.{stack_of, tasks, trees}
use Rattle.prettyless_probe.specs.Sums.{IsSummed}
use Rattle.prettyless_probe.proofs.stack.Stack.push_each.Given as goal

abbrev pub invariant-loop-k : goal.invariant-loop-k
invariant-loop-k g l = record {
  within : l.k ≤ length l.nodes;
  pushed : stack_of g.N.Walk.tree l.self
      ≡ tasks l.fn.indent l.mode (trees g.N.Walk.tree (drop l.k l.nodes)) ++ stack_of g.N.Walk.tree l.fn.self;
  summed : IsSummed g.N.Walk.HAS_SUMMARIES g.N.Walk.tree l.fn.self → IsSummed g.N.Walk.HAS_SUMMARIES g.N.Walk.tree l.self;
}

abbrev pub decreases-loop-k : goal.decreases-loop-k
decreases-loop-k g l = l.k
