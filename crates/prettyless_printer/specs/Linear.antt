-- Documents whose probes a table bounds, and how.
use Rattle.std.specs.Prelude.{◌≡◌, ℕ, ◌+◌, ◌*◌, ◌-◌, ◌^◌, ◌≤◌, ◌<◌, []}
use Rattle.prettyless_sink.specs.declared.visits.Visits.{Visits}
use Rattle.prettyless_model.specs.Tree.{Tree, size}
use Rattle.prettyless_model.specs.Content.{suffix_depth}
use Rattle.prettyless_summary.specs.Summary.{HasSummaries}
use Rattle.prettyless_probe.specs.Stack.{nodes}
use Rattle.prettyless_probe.specs.Sums.{HaveSummaries}
use Rattle.prettyless_printer.specs.Points.{Standing}
use Rattle.prettyless_printer.specs.Visits.{Plain}

-- A document whose probes a table bounds.
pub record IsLinear (d : Tree) : Type 0 where
  -- it has no line suffix
  pub plain : suffix_depth d ≡ 0
  -- it has no choice by column or nesting
  pub have : HasSummaries d
  -- a table can have its nodes
  pub size : size d ≤ 4294967294

-- A printer stands before nodes whose probes a table bounds: no line suffix is among them, all of them have summaries, and a table can
-- have them.
pub record IsLinearStart (p : Standing) : Type 0 where
  pub plain : Plain p
  pub queue : p.queue ≡ []
  pub have : HaveSummaries p.tasks
  pub size : nodes p.tasks ≤ 4294967294

-- probes visited so many times n nodes at most, and so many more, where the printer's count has room for n
abbrev pub IsLinearBound : ℕ → ℕ → ℕ → Visits → Visits → Type 0
IsLinearBound factor more n v w = v.printer + n < 2 ^ 64 - 1 → w.probes ≤ v.probes + (factor * n + more)

-- Where a table has all nodes of a document from the first one on, and none was refused memory, probes visit at most two nodes for each.
-- So many tables were refused memory.
abbrev pub BoundedByTable : Tree → ℕ → Visits → Visits → Type 0
BoundedByTable d refused v w = IsLinear d → size d ≤ 1048576 → refused ≡ 0 → IsLinearBound 2 0 (size d) v w
