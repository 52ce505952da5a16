use Rattle.std.proofs.Common.{map, take}
use Rattle.jsonfmt.specs.Lines.{LaysEachLine}
use Rattle.jsonfmt.proofs.lines.lay_lines.Given as goal

-- the lines so far came out so
abbrev pub invariant-loop-lines_before : goal.invariant-loop-lines_before
invariant-loop-lines_before g l = LaysEachLine l.style (map (λ s. s.now) (take l.lines_before l.line-items)) l.refused l.layout.items
