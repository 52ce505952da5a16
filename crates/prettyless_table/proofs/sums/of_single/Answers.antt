use Rattle.std.proofs.Common.{inl, inr}
use Rattle.prettyless_table.proofs.Summing.{sums_flatten, sums_group, sums_indented}
use Rattle.prettyless_table.proofs.sums.of_single.Goals as goal

pub returns-in-Flatten : goal.returns-in-Flatten
returns-in-Flatten c = λ d h. rw c.in-Flatten.is (sums_flatten c.args.inner d h)

pub returns-in-Indented : goal.returns-in-Indented
returns-in-Indented c = λ d h. elim c.in-Indented.is [
  | inl indented ↦ rw indented.1 (sums_indented c.args.inner _ d h)
  | inr group ↦ rw group (sums_group c.args.inner d h)
]
