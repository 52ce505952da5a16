-- What the visit of one node costs: the visits that are counted before and after it.
use Rattle.std.specs.Prelude.{◌≡◌, ℕ, ◌+◌, ◌^◌, ◌<◌, ◌≤◌, Bool, List, Result, IfOk}
use Rattle.prettyless_model.specs.Tree.{Tree}
use Rattle.prettyless_model.specs.Counts.{each_probe}
use Rattle.prettyless_model.specs.Layout.{State}
use Rattle.prettyless_model.specs.declared.mode.Mode.{Mode}
use Rattle.prettyless_model.specs.declared.options.RenderOptions.{RenderOptions}
use Rattle.prettyless_sink.specs.declared.visits.Visits.{Visits}
use Rattle.prettyless_probe.specs.Costs.{ProbeCosts}
use Rattle.prettyless_probe.specs.Probing as probing
use Rattle.prettyless_probe.specs.Probing.{Few, RisesBy}
use Rattle.prettyless_probe.specs.Reads.{IsFew, RisesTo}
use Rattle.prettyless_probe.specs.Stack.{Task, nodes}
use Rattle.prettyless_step.specs.Steps.{counted_payload, rejects_payload}
use Rattle.prettyless_step.specs.Printing.{IsStepped, IsSteppedOrRefused, IsStopped, state_of, tasks_of}
use Rattle.prettyless_step.specs.Reads.{reads_here, step_reads}
use Rattle.prettyless_step.specs.declared.printer.Printer.{Printer}
use Rattle.prettyless_step.specs.declared.printer.StepResult.{StepResult}

-- What the visit of a document at an indent in a mode costs, before tasks and in a state, where probes are not to pass a limit. Nodes have
-- summaries or not, as `has` says. The document itself is not counted.
pub record StepCosts {N E : Type 0} (result : Result (StepResult N) E) (has : Bool) (o : RenderOptions) (d : Tree) (i : ℕ) (m : Mode)
    (ts : List Task) (st : State) (limit : ℕ) (old new : Visits) : Type 0 where
  -- The printer visits the payload that is rejected, if there is one.
  pub printer : new.printer ≡ counted_payload (rejects_payload o d m st) old.printer
  -- No count falls.
  pub rises : old.probes ≤ new.probes
  -- A probe visits no node twice.
  pub counted : new.probes ≤ old.probes + probing.asked d m (nodes ts)
  -- Where the step was taken, each probe that it needs visits one node at least.
  pub asked : IfOk result (λ taken. IsStepped taken → RisesBy (each_probe d m) old.probes new.probes)
  -- Where it was not, probes were past the limit, and nothing is counted.
  pub past : IfOk result (λ taken. IsStopped taken → (limit < old.probes) × (old.probes < 2 ^ 64) × (new ≡ old))
  -- Where it was taken or refused memory, and needs a probe, they were not.
  pub within : IsSteppedOrRefused result → 0 < each_probe d m → old.probes ≤ limit
  -- Where all is summed up, each probe visits two nodes at most.
  pub few : Few has d ts (each_probe d m) old.probes new.probes
  -- Where the step was taken, so many are counted as the probe reads, unless there are too many for sums.
  pub reads : 0 < each_probe d m → IsFew has d ts
      → IfOk result (λ taken. IsStepped taken → RisesTo (step_reads has old.probes o d i m ts st) old.probes new.probes)
  -- Where it was not, no more are.
  pub reads_at_most : IsFew has d ts → new.probes ≤ old.probes + step_reads has old.probes o d i m ts st

-- the same where the printer stands
abbrev pub StepCostsHere : {N E : Type 0} → (N → Tree) → Result (StepResult N) E → Bool → Tree → ℕ → Mode → Printer N → ℕ → Visits → Visits
    → Type 0
StepCostsHere f result has d i m p limit old new = StepCosts result has p.options d i m (tasks_of f p) (state_of f p) limit old new

-- what a probe of a document at an indent in a mode costs there
abbrev pub ProbeCostsHere : {N T E : Type 0} → (N → Tree) → Result T E → Bool → Tree → ℕ → Mode → Printer N → ℕ → ℕ → Type 0
ProbeCostsHere f result has d i m p old new =
    ProbeCosts result has d (tasks_of f p) (reads_here has old p.options d i m (tasks_of f p) (state_of f p)) old new
