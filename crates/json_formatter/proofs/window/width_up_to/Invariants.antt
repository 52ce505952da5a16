use Rattle.std.proofs.Common.{◌+◌, ◌-◌, ◌≤◌, length}
use Rattle.json_formatter.specs.Window.{IsUnclosed}
use Rattle.json_formatter.proofs.window.width_up_to.Given as goal

-- so many columns were passed, and each list that is open inside took one at least
abbrev pub invariant-loop-piece : goal.invariant-loop-piece
invariant-loop-piece l = record {
  room : l.room ≤ l.most;
  inner : l.inner + l.room ≤ l.most;
  passed : IsUnclosed l.compact l.initial.pieces 0 (l.most - l.room) (l.inner + 1) l.pieces;
}

abbrev pub decreases-loop-piece : goal.decreases-loop-piece
decreases-loop-piece l = length l.pieces
