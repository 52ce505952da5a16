use Rattle.std.proofs.Common.{◌≡◌, take, false}
use Rattle.std.specs.List.{list_any}
use Rattle.formatter_files.specs.Heads.{is_escaped}
use Rattle.formatter_files.proofs.head.has_escaped.Given as goal

-- none so far
abbrev pub invariant-loop-byte : goal.invariant-loop-byte
invariant-loop-byte l = list_any is_escaped (take l.byte-index l.name) ≡ false
