-- How many nodes the probe of a step reads.
use Rattle.std.specs.Prelude.{ℕ, Bool, List}
use Rattle.prettyless_model.specs.Tree as t
use Rattle.prettyless_model.specs.Tree.{Tree}
use Rattle.prettyless_model.specs.Layout.{State, some_pending}
use Rattle.prettyless_model.specs.Look.{by_mode}
use Rattle.prettyless_model.specs.declared.mode.Mode.{Mode}
use Rattle.prettyless_model.specs.declared.mode.Mode.TheVariants.{Break, Flat}
use Rattle.prettyless_model.specs.declared.options.RenderOptions.{RenderOptions}
use Rattle.prettyless_probe.specs.Reads.{probe_reads}
use Rattle.prettyless_probe.specs.Stack.{Task}

-- Of a document at an indent in a mode, where the printer is in a state and has these tasks left. `has` says whether nodes have summaries,
-- `old` how many nodes probes visited before.
abbrev pub reads_here : Bool → ℕ → RenderOptions → Tree → ℕ → Mode → List Task → State → ℕ
reads_here has old o d i m ts st = probe_reads has old o.width d i m ts st.column (some_pending st.pending)

-- Of the visit of a node. Only that of a group and of a partial union in Break starts a probe.
abbrev pub step_reads : Bool → ℕ → RenderOptions → Tree → ℕ → Mode → List Task → State → ℕ
step_reads has old o (t.Group d) i m ts st = by_mode m (reads_here has old o d i Flat ts st) 0
step_reads has old o (t.PartialUnion l r) i m ts st = by_mode m (reads_here has old o l i Break ts st) 0
step_reads has old o d i m ts st = 0
