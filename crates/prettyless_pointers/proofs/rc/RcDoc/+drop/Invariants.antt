-- Each step of the loop leaves less to drop, and never more than the document that is dropped.
use Rattle.std.proofs.Common.{◌≤◌}
use Rattle.prettyless_pointers.proofs.CountedWeight.{rc_weight}
use Rattle.prettyless_pointers.proofs.Weight.{weight_of}
use Rattle.prettyless_pointers.proofs.rc.RcDoc.+drop.Given as goal

abbrev pub decreases-drop : goal.decreases-drop
decreases-drop a = rc_weight a.self

abbrev pub invariant-loop-rest : goal.invariant-loop-rest
invariant-loop-rest l = weight_of rc_weight l.rest ≤ rc_weight l.fn.self

abbrev pub decreases-loop-rest : goal.decreases-loop-rest
decreases-loop-rest l = weight_of rc_weight l.rest
