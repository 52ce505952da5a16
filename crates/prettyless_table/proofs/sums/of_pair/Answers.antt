use Rattle.std.proofs.Common.{inl, inr}
use Rattle.prettyless_table.proofs.Summing.{sums_break_or_flat, sums_partial_union, sums_union}
use Rattle.prettyless_table.proofs.sums.of_pair.Goals as goal

pub returns-in-Append : goal.returns-in-Append
returns-in-Append c = λ d e h k. rw c.in-Append.is (record {
  flat = c.appended.ensures d e _ h.flat k.flat;
  broken = c.appended-in-Append.ensures d e _ h.broken k.broken;
})

pub returns-in-BreakOrFlat : goal.returns-in-BreakOrFlat
returns-in-BreakOrFlat c = λ d e h k. rw c.in-BreakOrFlat.is (sums_break_or_flat c.args.first c.args.second d e h k)

pub returns-in-Union : goal.returns-in-Union
returns-in-Union c = λ d e h k. elim c.in-Union.is [
  | inl union ↦ rw union (sums_union c.args.first c.args.second d e h k)
  | inr partial ↦ rw partial (sums_partial_union c.args.first c.args.second d e h k)
]
