use Rattle.std.proofs.Common.{take}
use Rattle.text_lexemes.specs.Places.{IsPlace}
use Rattle.text_lexemes.proofs.place.place_at.Given as goal

-- the place after the bytes so far
abbrev pub invariant-loop-byte : goal.invariant-loop-byte
invariant-loop-byte l = IsPlace (take l.byte-index l.bytes) l.place
