-- Documents with line suffixes and without unions: how many visits of the printer they take. It visits each node once, and once more,
-- for each line suffix, the break before which that is laid.
use Rattle.std.specs.Prelude.{◌≡◌, ℕ, ◌+◌, ◌≤◌}
use Rattle.prettyless_model.specs.Tree.{Tree, Append, LineSuffix, Indented, Flatten, BreakOrFlat, Group, Union, PartialUnion, Chosen, size}
use Rattle.prettyless_model.specs.Levels.{suffixes}
use Rattle.prettyless_summary.specs.Summary.{HasSummaries}

-- how many unions a tree has; a partial union is none
abbrev pub unions : Tree → ℕ
unions (Append l r) = unions l + unions r
unions (LineSuffix d) = unions d
unions (Indented how d) = unions d
unions (Flatten d) = unions d
unions (BreakOrFlat b f) = unions b + unions f
unions (Group d) = unions d
unions (Union l r) = unions l + unions r + 1
unions (PartialUnion l r) = unions l + unions r
unions (Chosen test y n) = unions y + unions n
unions _ = 0

-- how many visits of the printer a document without unions takes at most, which are fewer than two for each node
abbrev pub most_visits : Tree → ℕ
most_visits d = size d + suffixes d

-- A document whose probes a table bounds, though it has line suffixes.
pub record IsLinearButSuffixes (d : Tree) : Type 0 where
  -- it has no union
  pub unions : unions d ≡ 0
  -- it has no choice by column or nesting
  pub have : HasSummaries d
  -- a table can have a node for each visit of the printer
  pub visits : most_visits d ≤ 4294967294
