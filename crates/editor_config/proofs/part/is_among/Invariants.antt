use Rattle.std.proofs.Common.{◌≡◌, take, false}
use Rattle.std.specs.List.{list_any}
use Rattle.editor_config.specs.Patterns.{is_in}
use Rattle.editor_config.proofs.part.is_among.Given as goal

-- none so far
abbrev pub invariant-loop-range : goal.invariant-loop-range
invariant-loop-range l = list_any (is_in l.c) (take l.range-index l.ranges) ≡ false
