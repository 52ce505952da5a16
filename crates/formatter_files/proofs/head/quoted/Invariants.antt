use Rattle.std.proofs.Common.{◌≡◌, ◌∷◌, take}
use Rattle.std.specs.List.{flat_map}
use Rattle.formatter_files.specs.Heads.{escape}
use Rattle.formatter_files.proofs.head.quoted.Given as goal

-- the quote, and the bytes so far
abbrev pub invariant-loop-byte : goal.invariant-loop-byte
invariant-loop-byte l = l.written.items ≡ 0x22 ∷ flat_map escape (take l.byte-index l.name)
