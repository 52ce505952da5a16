-- What probes cost: how many nodes they visited before and after a call.
use Rattle.std.specs.Prelude.{◌≡◌, ℕ, ◌+◌, ◌-◌, ◌^◌, ◌<◌, ◌≤◌, min, Bool, IsTrue, true, false, List, [], length, Result, OnOk}
use Rattle.prettyless_model.specs.Tree.{Tree, size}
use Rattle.prettyless_probe.specs.Stack.{Task, nodes}
use Rattle.prettyless_probe.specs.Probing.{Few, OneLeft, RisesBy, nodes_next}
use Rattle.prettyless_probe.specs.Reads.{IsFew, RisesTo, reads_all, reads_below, reads_on}
use Rattle.prettyless_probe.specs.declared.line.ProbeLine.{ProbeLine}
use Rattle.prettyless_probe.specs.declared.command.Command.{Command}
use Rattle.prettyless_probe.specs.declared.visit.ProbeStep.{ProbeStep}
use Rattle.prettyless_probe.specs.declared.stack.Below.{Below}

-- What a probe of a document costs, which tasks follow: `exact` nodes are read of them. Nodes have summaries or not, as `has` says.
pub record ProbeCosts {T E : Type 0} (result : Result T E) (has : Bool) (d : Tree) (ts : List Task) (exact old new : ℕ) : Type 0 where
  -- No count falls.
  pub rises : old ≤ new
  -- No node is visited twice.
  pub counted : new ≤ old + (size d + nodes ts)
  -- `Ok`: one node is visited at least.
  pub asked : OnOk result (RisesBy 1 old new)
  -- Where all is summed up, two are at most.
  pub few : Few has d ts 1 old new
  -- `Ok`: so many are counted as are read, unless there are too many for sums.
  pub reads : IsFew has d ts → OnOk result (RisesTo exact old new)
  -- `Err`: no more are.
  pub reads_at_most : IsFew has d ts → new ≤ old + exact

-- What a part of a probe costs that has so many nodes left, and reads `exact` of them where `small` holds; it visits k at least.
pub record PartCosts {T E : Type 0} (result : Result T E) (small : Type 0) (k left exact old new : ℕ) : Type 0 where
  -- No count falls.
  pub rises : old ≤ new
  -- No node is visited twice.
  pub counted : new ≤ old + left
  -- `Ok`: k nodes are visited at least.
  pub asked : OnOk result (RisesBy k old new)
  -- `Ok`: so many are counted as are read.
  pub reads : small → OnOk result (RisesTo exact old new)
  -- `Err`: no more are.
  pub reads_at_most : small → new ≤ old + exact

-- What is left of a probe is small enough for sums: k nodes, those of its own tasks, and those of the printer's tasks under them.
pub record IsShort (has : Bool) (k : ℕ) (own under : List Task) (sums : List Below) : Type 0 where
  pub on : IsTrue has
  pub long : length under ≤ length sums
  pub small : k + (nodes own + nodes under) < 2 ^ 32

-- Where a probe stands: its own tasks, those of the printer under them, and the line.
pub record ProbePoint : Type 0 where
  pub own : List Task
  pub under : List Task
  pub line : ProbeLine

-- a point of these parts
abbrev pub probe_point : List Task → List Task → ProbeLine → ProbePoint
probe_point own under line = record { own = own; under = under; line = line }

-- what a probe by sums has still to read, from a result on
abbrev pub left_at : {N : Type 0} → (N → Tree) → ℕ → ProbeStep (Command N) → ProbePoint → ℕ
left_at f width read at = reads_on f true width read at.own (reads_below true width false at.under) at.line.column at.line.pending

-- What it costs a probe by sums to go on with nothing, from one point to another, where it has this result.
pub record GoesOnCosts {N : Type 0} (f : N → Tree) (width : ℕ) (sums : List Below) (read : ProbeStep (Command N)) (a b : ProbePoint) (old new : ℕ)
    : Type 0 where
  -- No count falls.
  pub rises : old ≤ new
  -- No node is visited twice.
  pub counted : new + (nodes_next f read + (nodes b.own + nodes b.under)) ≤ old + (nodes a.own + nodes a.under)
  -- Where a sum is all that is left, it is read, and nothing is left then.
  pub few : (before : ProbeStep (Command N)) → OneLeft f before a.own a.under sums
      → OneLeft f read b.own b.under sums × (b.under ≡ []) × (new ≤ old + 1)
  -- A count stays a count.
  pub fits : old ≤ 2 ^ 64 - 1 → new ≤ 2 ^ 64 - 1
  -- What is counted and what is still to be read are what was to be read, up to the greatest count.
  pub reads : length a.under ≤ length sums → nodes a.under < 2 ^ 32 → min (new + left_at f width read b) (2 ^ 64 - 1)
      ≡ min (old + reads_all true width a.own (reads_below true width false a.under) a.line.column a.line.pending) (2 ^ 64 - 1)
