use Rattle.std.proofs.Common.{length, ◌-◌, ◌+◌, ◌≤◌}
use Rattle.json_lexemes.proofs.Places.{IsInside}
use Rattle.json_lexemes.proofs.cut.string_end.Given as goal

-- the bytes so far are in the string; an escape at the end of the text leads one place past it
abbrev pub invariant-loop-place : goal.invariant-loop-place
invariant-loop-place l = record {
  after : l.from ≤ l.place;
  near : l.place ≤ length l.bytes + 1;
  inside : IsInside l.bytes l.from l.place;
}

abbrev pub decreases-loop-place : goal.decreases-loop-place
decreases-loop-place l = length l.bytes - l.place
