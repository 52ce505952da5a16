use Rattle.std.proofs.Common.{◌≡◌, length}
use Rattle.json_formatter.specs.Gaps.{all_fill}
use Rattle.json_formatter.proofs.gaps.all_fill.Given as goal

-- what is left decides
abbrev pub invariant-loop-piece : goal.invariant-loop-piece
invariant-loop-piece l = all_fill l.fill l.fn.pieces ≡ all_fill l.fill l.pieces

abbrev pub decreases-loop-piece : goal.decreases-loop-piece
decreases-loop-piece l = length l.pieces
