use Rattle.std.proofs.Common.{◌≤◌, ◌-◌, length}
use Rattle.json_lexemes.specs.Words.{WordGoesOn}
use Rattle.json_lexemes.proofs.cut.word_end.Given as goal

-- no byte so far ends the word
abbrev pub invariant-loop-place : goal.invariant-loop-place
invariant-loop-place l = (l.from ≤ l.place) × (l.place ≤ length l.bytes) × WordGoesOn l.bytes l.from l.place

abbrev pub decreases-loop-place : goal.decreases-loop-place
decreases-loop-place l = length l.bytes - l.place
