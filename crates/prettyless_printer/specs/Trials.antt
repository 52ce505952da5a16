-- What a trial of a branch leaves, and how it goes.
use Rattle.std.specs.Prelude.{◌≡◌, ℕ, ◌+◌, ◌*◌, ◌<◌, ◌≤◌, List, [], ◌++◌, length, take, Bool, true, ◌∷◌, Result, Ok, Err, IfOk, OnOk}
use Rattle.std.specs.Prelude.{IsSome}
use Rattle.prettyless_sink.specs.Sink.{known}
use Rattle.prettyless_model.specs.Tree.{Tree, size}
use Rattle.prettyless_model.specs.Column.{padding_fits}
use Rattle.prettyless_model.specs.Content.{suffix_depth}
use Rattle.prettyless_model.specs.Layout.{Outcome, accept, lay, some_pending, in_trial}
use Rattle.prettyless_model.specs.Levels.{settle}
use Rattle.prettyless_model.specs.declared.mode.Mode.TheVariants.{Break}
use Rattle.prettyless_probe.specs.Stack.{Task, follow, make_task}
use Rattle.prettyless_step.specs.Steps.{pending_work}
use Rattle.prettyless_printer.specs.Visits.{Plain, Rise, CountsAtMost, RunCountsAtMost}
use Rattle.prettyless_printer.specs.AtLeast.{TrialCountsAtLeast, trial_tally}
use Rattle.prettyless_printer.specs.Points.{Standing, state_at, QueueGrows, Seen, Point, work_at}
use Rattle.prettyless_printer.specs.Paths.{Aim, BeganPlain, Path, PathToChoice}
use Rattle.prettyless_printer.specs.Progress.{Decides}
use Rattle.prettyless_printer.specs.declared.answer.TrialState.{TrialState}
use Rattle.prettyless_printer.specs.declared.answer.TrialState.TheVariants.{Running, Complete, Rejected, Choice, Shift}
use Rattle.prettyless_printer.specs.Turns.{IsPastLimit}
use Rattle.prettyless_printer.specs.declared.trial.Mark.{Mark}

-- where a printer is and how much was written, to go back to
pub record Marks (m : Mark) (p : Standing) (s : Seen) : Type 0 where
  pub commands : m.commands ≡ length p.tasks
  pub queued : m.queue.len ≡ length p.queue
  pub start : m.queue.start ≡ p.start
  pub column : m.column ≡ p.column
  pub within : m.within ≡ p.within
  pub written : m.written ≡ length (known s.bytes)

-- the printer is back where the mark was set
abbrev pub Restores : Mark → Standing → Standing → Type 0
Restores m p q =
    ((above below : List Task) → p.tasks ≡ above ++ below → length below ≡ m.commands → q.tasks ≡ below)
    × (q.queue ≡ take m.queue.len p.queue)
    × (q.start ≡ m.queue.start) × (q.column ≡ m.column) × (q.within ≡ m.within) × (q.options ≡ p.options)

-- A trial of a branch: what follows is still on the stack and the flag is as before; kept, its bytes are written and its
-- state has come; rejected, all is as before.
abbrev pub TrialDecides : Standing → Standing → ℕ → Tree → List ℕ → List ℕ → Bool → Type 0
TrialDecides p q i d old new kept =
    (q.tasks ≡ p.tasks) × (q.options ≡ p.options) × QueueGrows p q × (q.within ≡ p.within)
    × (pending_work (state_at q).pending ≤ 2 * size d + pending_work (state_at p).pending)
    × Decides kept p.options (lay p.options (settle p.options) d i Break (follow p.tasks) (in_trial (state_at p))) p.within old new
    (state_at p) (state_at q)

-- A trial of a branch at an indent, from one point to another. It writes to the buffer as its sink.
pub record Tries {E : Type 0} (i : ℕ) (d : Tree) (a b : Point) (r : Result Bool E) : Type 0 where
  -- the branch is kept or not
  pub decided : IfOk r (TrialDecides a.printer b.printer i d (known a.sink.bytes) (known b.sink.bytes))
  -- the buffer did not fail
  pub failures : OnOk r (b.sink.failures ≡ a.sink.failures)
  -- no count of visits fell
  pub rise : Rise a.visits b.visits
  -- without line suffixes, a visit is counted at most once for each node of the branch
  pub at_most : Plain a.printer → suffix_depth d ≡ 0 → RunCountsAtMost (make_task i Break d ∷ a.printer.tasks) b.printer a.visits b.visits r
  -- what a branch that is kept lays is counted
  pub at_least : IfOk r (TrialCountsAtLeast a.printer i d a.visits b.visits)

-- what a trial of d at i from p lays
abbrev pub trial_of : Standing → ℕ → Tree → Outcome
trial_of p i d = lay p.options (settle p.options) d i Break (follow p.tasks) (in_trial (state_at p))

-- the most work that it takes
abbrev pub work_limit : Standing → Tree → ℕ
work_limit p d = 2 * size d + pending_work (state_at p).pending

-- A trial: where it began, and its branch at an indent.
pub record Trial : Type 0 where
  pub start : Point
  pub indent : ℕ
  pub branch : Tree

-- a trial of these parts
abbrev pub make_trial : Point → ℕ → Tree → Trial
make_trial a i d = record { start = a; indent = i; branch = d }

-- The aim of a trial of a branch at an indent, which is a run.
abbrev pub trial_run : Trial → Aim
trial_run t = record {
  start = t.start;
  whole = trial_of t.start.printer t.indent t.branch;
  limit = work_limit t.start.printer t.branch;
  first = make_task t.indent Break t.branch ∷ t.start.printer.tasks;
  below = t.start.printer.tasks;
  queue = t.start.printer.queue;
  tally = trial_tally t.start.printer t.indent t.branch;
}

-- A trial has reached a point, with this many commands below its branch, and nothing of it is past the width.
pub record TrialRunning (t : Trial) (below : ℕ) (b : Point) : Type 0 where
  pub is_known : IsSome t.start.sink.bytes
  pub path : Path (trial_run t) b
  pub within : b.printer.within ≡ true
  pub height : below ≡ length t.start.printer.tasks

-- A trial has reached a point where it is clear that its branch is rejected.
pub record TrialRejected (t : Trial) (b : Point) : Type 0 where
  -- the tasks below are there, and the queue only grew
  pub above : List Task
  pub stack : b.printer.tasks ≡ above ++ t.start.printer.tasks
  pub options : b.printer.options ≡ t.start.printer.options
  pub grows : QueueGrows t.start.printer b.printer
  -- the sink writes through the same reference
  pub same_lender : b.sink.lender ≡ t.start.sink.lender
  -- what was written before is there, and the sink did not fail
  pub is_known : IsSome b.sink.bytes
  pub bytes : List ℕ
  pub wrote : known b.sink.bytes ≡ known t.start.sink.bytes ++ bytes
  pub failures : b.sink.failures ≡ t.start.sink.failures
  -- the outcome is not accepted
  pub rejected : (other : Outcome) → accept t.start.printer.options t.start.printer.within
      (trial_of t.start.printer t.indent t.branch) other ≡ other
  -- no count of visits fell; without line suffixes, the nodes that left allow for the visits
  pub rise : Rise t.start.visits b.visits
  pub at_most : BeganPlain (trial_run t) → CountsAtMost (make_task t.indent Break t.branch ∷ t.start.printer.tasks) b.printer.tasks
      t.start.visits b.visits

-- A trial has reached its end, and its branch is to be kept.
pub record TrialComplete (t : Trial) (b : Point) : Type 0 where
  pub is_known : IsSome t.start.sink.bytes
  pub path : Path (trial_run t) b
  pub within : b.printer.within ≡ true
  pub ended : length b.printer.tasks ≤ length t.start.printer.tasks
  pub fits : padding_fits t.start.printer.options.width (some_pending (state_at b.printer).pending) b.printer.column ≡ true

-- A trial has reached a choice between two branches at an indent, and nothing of it is past the width.
pub record AtChoice (t : Trial) (i : ℕ) (x y : Tree) (b : Point) : Type 0 where
  pub is_known : IsSome b.sink.bytes
  pub waiting : PathToChoice (trial_run t) i x y b
  pub within : b.printer.within ≡ true

-- A trial that ended in an error.
pub record TrialError (t : Trial) (b : Point) : Type 0 where
  pub rise : Rise t.start.visits b.visits
  pub at_most : BeganPlain (trial_run t) → CountsAtMost (make_task t.indent Break t.branch ∷ t.start.printer.tasks) []
      t.start.visits b.visits

-- where a trial has gone from one point to another by a turn, or at its end
abbrev pub TrialTurn : {N E : Type 0} → (N → Tree) → ℕ → Point → Point → Trial → Result (TrialState N) E → Type 0
TrialTurn f below a b t (Ok Running) = TrialRunning t below b × (work_at b < work_at a)
TrialTurn f below a b t (Ok Complete) = TrialComplete t b × (work_at b ≤ work_at a)
TrialTurn f below a b t (Ok Rejected) = TrialRejected t b
TrialTurn f below a b t (Ok (Choice c)) =
    AtChoice t c.indent (f c.first) (f c.second) b × (2 * (size (f c.first) + size (f c.second)) + work_at b < work_at a)
TrialTurn f below a b t (Ok Shift) = TrialRunning t below b
TrialTurn f below a b t (Err e) = TrialError t b

-- the same for each trial that was there, with this many commands below its branch
abbrev pub TrialTurns : {N E : Type 0} → (N → Tree) → ℕ → Point → Point → Result (TrialState N) E → Type 0
TrialTurns f below a b r = (t : Trial) → TrialRunning t below a → TrialTurn f below a b t r

-- a trial stopped only where probes were past the limit
abbrev pub TrialStopsPast : {N : Type 0} → ℕ → ℕ → TrialState N → Type 0
TrialStopsPast limit probes Running = Unit {0}
TrialStopsPast limit probes Complete = Unit {0}
TrialStopsPast limit probes Rejected = Unit {0}
TrialStopsPast limit probes (Choice c) = Unit {0}
TrialStopsPast limit probes Shift = IsPastLimit limit probes
