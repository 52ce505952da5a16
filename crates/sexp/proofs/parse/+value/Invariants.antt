use Rattle.std.proofs.Common.{◌+◌, ◌*◌, length}
use Rattle.sexp.specs.View.{values_in}
use Rattle.sexp.proofs.Fronts.{IsUnderWay}
use Rattle.sexp.proofs.parse.+value.Given as goal

-- a list is above its values, and a value above the list that it opens
abbrev pub decreases-list : goal.decreases-list
decreases-list l = 2 * l.levels + 1

abbrev pub decreases-value : goal.decreases-value
decreases-value l = 2 * l.levels

abbrev pub invariant-list-loop-items : goal.invariant-list-loop-items
invariant-list-loop-items l = IsUnderWay l.levels l.bytes (values_in l.items.items) l.rest

abbrev pub decreases-list-loop-items : goal.decreases-list-loop-items
decreases-list-loop-items l = length l.rest
