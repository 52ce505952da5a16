-- The course of a run: which nodes it visits, which trials it opens, keeps and rejects, and what probes have read by then. It says nothing
-- of the code.
use Rattle.std.specs.Prelude.{◌≡◌, ℕ, ◌+◌, ◌≤◌, ◌<◌, ◌⊎◌, Bool, true, false, List, [], ◌∷◌, ◌++◌, length}
use Rattle.prettyless_sink.specs.Sink.{rise}
use Rattle.prettyless_model.specs.declared.options.RenderOptions.{RenderOptions}
use Rattle.prettyless_model.specs.declared.mode.Mode.TheVariants.{Break}
use Rattle.prettyless_model.specs.Tree.{Tree}
use Rattle.prettyless_model.specs.Column.{padding_fits}
use Rattle.prettyless_model.specs.Counts.{each_probe}
use Rattle.prettyless_model.specs.Layout.{State, flushed, in_trial, some_pending}
use Rattle.prettyless_probe.specs.Probing.{asked}
use Rattle.prettyless_probe.specs.Reads.{IsFew, RisesTo}
use Rattle.prettyless_probe.specs.Stack.{Task, follow, make_task, nodes, tasks}
use Rattle.prettyless_step.specs.Reads.{step_reads}
use Rattle.prettyless_step.specs.Steps.{Step, Move, Stuck, Choose, step_of}

-- A trial that is open: the second branch waits at its indent, and after it the tasks that follow both, in the state before the trial.
pub record Waiting : Type 0 where
  pub indent : ℕ
  pub second : Tree
  pub tasks : List Task
  pub state : State

-- What the visit of a node leaves alone.
pub record Around : Type 0 where
  -- the trials that are open, the innermost first
  pub trials : List Waiting
  -- whether nodes have summaries, as those of a table do
  pub has : Bool
  -- how many tables were refused
  pub refused : ℕ

-- Where a run is, whatever the type of its nodes.
pub record RunPlace : Type 0 where
  -- what is still to be laid, the next task first, and the state before it
  pub tasks : List Task
  pub state : State
  -- how many nodes probes have read
  pub probes : ℕ
  pub around : Around

-- a place of these parts
abbrev pub place : List Task → State → ℕ → Around → RunPlace
place ts st probes u = record { tasks = ts; state = st; probes = probes; around = u }

-- what happens next in a run
pub data Event : Type 0 where
  Visit : Event
  TryBranch : Event
  KeepBranch : Event
  TakeSecond : Event
  FlushEnd : Event
  GoOverTable : Event
  RefuseTable : Event

-- ---- What probes read

-- What the visit of a task adds to the count of probes: nothing where it needs none, and else what its probe reads, as long as no number
-- of a sum can pass 32 bits.
pub record Asks (has : Bool) (o : RenderOptions) (t : Task) (ts : List Task) (st : State) (old new : ℕ) : Type 0 where
  pub rises : old ≤ new
  pub most : new ≤ old + asked t.tree t.mode (nodes ts)
  pub exact : 0 < each_probe t.tree t.mode → IsFew has t.tree ts → RisesTo (step_reads has old o t.tree t.indent t.mode ts st) old new

-- The same where the visit was refused memory: no more than all of that.
pub record AsksInPart (has : Bool) (o : RenderOptions) (t : Task) (ts : List Task) (st : State) (old new : ℕ) : Type 0 where
  pub rises : old ≤ new
  pub most : new ≤ old + asked t.tree t.mode (nodes ts)
  pub at_most : IsFew has t.tree ts → new ≤ old + step_reads has old o t.tree t.indent t.mode ts st

-- ---- What may come next

-- the step of a task with others after it
abbrev pub step_next : RenderOptions → Task → List Task → State → Step
step_next o t ts st = step_of o t.tree t.indent t.mode (follow ts) st

-- a step leads from the tasks after its own to these tasks and this state
abbrev pub StepLeadsTo : Step → List Task → List Task → State → Type 0
StepLeadsTo (Move b pushed u) ts us v = (us ≡ pushed ++ ts) × (v ≡ u)
StepLeadsTo Stuck ts us v = ⊥
StepLeadsTo (Choose i x y) ts us v = ⊥

-- the innermost trial, if one is open, has tasks of its own left
abbrev pub HasOwn : List Waiting → List Task → Type 0
HasOwn [] ts = Unit {0}
HasOwn (w ∷ ws) ts = length w.tasks < length ts

-- nothing of it went past the width
abbrev pub TrialIsWithin : List Waiting → State → Type 0
TrialIsWithin [] st = Unit {0}
TrialIsWithin (w ∷ ws) st = st.within ≡ true

-- The next node was visited. Past the width no trial starts a probe.
pub record NodeVisited (o : RenderOptions) (a b : RunPlace) : Type 0 where
  pub task : Task
  pub below : List Task
  pub next : a.tasks ≡ task ∷ below
  pub own : HasOwn a.around.trials a.tasks
  pub within : 0 < each_probe task.tree task.mode → TrialIsWithin a.around.trials a.state
  pub leads : StepLeadsTo (step_next o task below a.state) below b.tasks b.state
  pub asks : Asks a.around.has o task below a.state a.probes b.probes
  pub same : b.around ≡ a.around

-- The next node fails.
pub record NextFails (o : RenderOptions) (a : RunPlace) : Type 0 where
  pub task : Task
  pub below : List Task
  pub next : a.tasks ≡ task ∷ below
  pub own : HasOwn a.around.trials a.tasks
  pub fails : step_next o task below a.state ≡ Stuck

-- The next node is a union of two branches at an indent, of which the first is to be tried, with these tasks after it.
pub record NextChooses (o : RenderOptions) (a : RunPlace) (i : ℕ) (x y : Tree) (below : List Task) : Type 0 where
  pub task : Task
  pub next : a.tasks ≡ task ∷ below
  pub own : HasOwn a.around.trials a.tasks
  pub within : TrialIsWithin a.around.trials a.state
  pub chooses : step_next o task below a.state ≡ Choose i x y

-- a place with these trials open
abbrev pub with_trials : List Waiting → RunPlace → RunPlace
with_trials ws a = record a { around = record a.around { trials = ws } }

-- A trial of the first branch began.
pub record Tried (o : RenderOptions) (a b : RunPlace) : Type 0 where
  pub indent : ℕ
  pub first : Tree
  pub second : Tree
  pub below : List Task
  pub union : NextChooses o a indent first second below
  pub goes : b ≡ place (make_task indent Break first ∷ below) (in_trial a.state) a.probes
      (record a.around { trials = record { indent = indent; second = second; tasks = below; state = a.state } ∷ a.around.trials })

-- whether the padding fits where a trial comes to its end
abbrev pub end_fits : RenderOptions → State → Bool
end_fits o st = padding_fits o.width (some_pending st.pending) st.column

-- The innermost trial is over, and its branch is kept: nothing of it went past the width.
pub record Kept (o : RenderOptions) (a b : RunPlace) : Type 0 where
  pub trial : Waiting
  pub outer : List Waiting
  pub trials : a.around.trials ≡ trial ∷ outer
  pub ended : a.tasks ≡ trial.tasks
  pub within : a.state.within ≡ true
  pub fits : end_fits o a.state ≡ true
  pub goes : b ≡ place a.tasks (record a.state { within = trial.state.within }) a.probes (record a.around { trials = outer })

-- the branch of the innermost trial is rejected: it fails, it went past the width, or the padding does not fit at its end
abbrev pub IsRejected : RenderOptions → Waiting → RunPlace → Type 0
IsRejected o w a = NextFails o a ⊎ ((a.state.within ≡ false) ⊎ ((a.tasks ≡ w.tasks) × (end_fits o a.state ≡ false)))

-- It is undone, and the second branch comes next.
pub record SecondTaken (o : RenderOptions) (a b : RunPlace) : Type 0 where
  pub trial : Waiting
  pub outer : List Waiting
  pub trials : a.around.trials ≡ trial ∷ outer
  pub rejected : IsRejected o trial a
  pub goes : b ≡ place (make_task trial.indent Break trial.second ∷ trial.tasks) trial.state a.probes (record a.around { trials = outer })

-- No task is left, and what is pending at the end comes next.
pub record FlushedEnd (o : RenderOptions) (a b : RunPlace) : Type 0 where
  pub alone : a.around.trials ≡ []
  pub ended : a.tasks ≡ []
  pub some : some_pending a.state.pending ≡ true
  pub goes : b ≡ place (tasks 0 Break a.state.pending) (flushed o a.state) a.probes a.around

-- one thing happened from a place to another
abbrev pub Follows : RenderOptions → Event → RunPlace → RunPlace → Type 0
Follows o Visit a b = NodeVisited o a b
Follows o TryBranch a b = Tried o a b
Follows o KeepBranch a b = Kept o a b
Follows o TakeSecond a b = SecondTaken o a b
Follows o FlushEnd a b = FlushedEnd o a b
Follows o GoOverTable a b = b ≡ record a { around = record a.around { has = true } }
Follows o RefuseTable a b = b ≡ record a { around = record a.around { refused = rise a.around.refused } }

-- these things happened from a place to another, one after another
abbrev pub Course : RenderOptions → List Event → RunPlace → RunPlace → Type 0
Course o [] a b = b ≡ a
Course o (e ∷ es) a b = (c : RunPlace) × Follows o e a c × Course o es c b

-- A run has come from a place to another.
pub record Comes (o : RenderOptions) (a b : RunPlace) : Type 0 where
  pub events : List Event
  pub course : Course o events a b
