-- Open trials, each inside the one before it: how they stand in one another, over trees, and what becomes of them.
use Rattle.std.specs.Prelude.{◌≡◌, ℕ, ◌+◌, List, [], ◌∷◌, ◌++◌, map, Result, Ok, Err, IsSome, true, false}
use Rattle.std.specs.List.{sum_by}
use Rattle.std.specs.Str.{IsUtf8}
use Rattle.prettyless_sink.specs.Sink.{known}
use Rattle.prettyless_model.specs.Tree.{Tree, size}
use Rattle.prettyless_model.specs.Layout.{in_trial}
use Rattle.prettyless_model.specs.declared.mode.Mode.TheVariants.{Break}
use Rattle.prettyless_probe.specs.Stack.{make_task}
use Rattle.prettyless_shift.specs.Shift.{documents_left, nodes_left}
use Rattle.prettyless_printer.specs.declared.trial.Mark.{Mark}
use Rattle.prettyless_printer.specs.declared.trial.OpenTrial.{OpenTrial}
use Rattle.prettyless_printer.specs.declared.run.Run.{Run}
use Rattle.prettyless_printer.specs.declared.answer.TrialResult.{TrialResult}
use Rattle.prettyless_printer.specs.declared.answer.TrialResult.TheVariants as trial_result
use Rattle.prettyless_printer.specs.Points.{Standing, state_at, QueueGrows, Seen, Point, point_at}
use Rattle.prettyless_printer.specs.Turns.{IsPastLimit}
use Rattle.prettyless_printer.specs.Trials.{Trial, AtChoice, Marks, TrialRunning, TrialError, Tries}

-- What is held of an open trial: its mark, and the second branch at its indent.
pub record Held : Type 0 where
  pub mark : Mark
  pub indent : ℕ
  pub second : Tree

-- an open trial of nodes
abbrev pub held : {N : Type 0} → (N → Tree) → OpenTrial N → Held
held f u = record { mark = u.mark; indent = u.indent; second = f u.second }

-- open trials of nodes
abbrev pub all_held : {N : Type 0} → (N → Tree) → List (OpenTrial N) → List Held
all_held f us = map (held f) us

-- the open trials of a run of nodes
abbrev pub held_of : {N : Type 0} → (N → Tree) → Run N → List Held
held_of f r = all_held f r.trials.open.items

-- their second branches
abbrev pub seconds : List Held → List Tree
seconds us = map (λ u. u.second) us

-- how many nodes a run has left, with the second branches of its open trials, and in which documents
abbrev pub run_nodes : {N : Type 0} → (N → Tree) → Run N → ℕ
run_nodes f r = nodes_left f r.printer + sum_by size (seconds (held_of f r))

abbrev pub run_documents : {N : Type 0} → (N → Tree) → Run N → List Tree
run_documents f r = documents_left f r.printer ++ seconds (held_of f r)

-- A mark was set at a point whose bytes are known, and are text.
pub record Marked (m : Mark) (a : Point) : Type 0 where
  pub marks : Marks m a.printer a.sink
  pub is_known : IsSome a.sink.bytes
  pub text : IsUtf8 (known a.sink.bytes)

-- This is held of a trial, with this second branch.
pub record HoldsTrial (u : Held) (t : Trial) (y : Tree) : Type 0 where
  pub indent : u.indent ≡ t.indent
  pub second : u.second ≡ y
  pub marked : Marked u.mark t.start

-- A trial of which this is held began inside another one, at a choice.
pub record Link (o : Trial) (u : Held) (t : Trial) : Type 0 where
  pub holds : HoldsTrial u t u.second
  pub choice : AtChoice o t.indent t.branch u.second t.start

-- from a trial inwards, along the list, to another one
abbrev pub Chain : Trial → List Held → Trial → Type 0
Chain o [] t = t ≡ o
Chain o (u ∷ us) t = (c : Trial) × Link o u c × Chain c us t

-- how many commands are below the branch of the last of open trials
abbrev pub below_last : Held → List Held → ℕ
below_last u [] = u.mark.commands
below_last u (v ∷ vs) = below_last v vs

abbrev pub below_all : List Held → ℕ
below_all [] = 0
below_all (u ∷ us) = below_last u us

-- Trials are open from the outermost one inwards, the first of them and then along a list, and a run has reached a point of the
-- innermost. If the outermost one is rejected, this branch comes next.
pub record OpenFrom (s : Trial) (y : Tree) (u : Held) (us : List Held) (b : Point) : Type 0 where
  pub holds : HoldsTrial u s y
  pub trial : Trial
  pub chain : Chain s us trial
  pub on : TrialRunning trial (below_last u us) b

-- the same along a list of all of them, which is not empty
abbrev pub Open : Trial → Tree → List Held → Point → Type 0
Open s y [] b = ⊥
Open s y (u ∷ us) b = OpenFrom s y u us b

-- One trial more is open, which began at a standing.
pub record Opens {N : Type 0} (f : N → Tree) (i : ℕ) (y : Tree) (p : Standing) (s : Seen) (us vs : List Held) : Type 0 where
  pub mark : Mark
  pub marks : Marks mark p s
  pub more : vs ≡ us ++ record { mark = mark; indent = i; second = y } ∷ []

-- A trial of a branch at an indent begins: the branch comes next, and the flag is set.
pub record BeginsTrial (i : ℕ) (d : Tree) (p q : Standing) : Type 0 where
  pub tasks : q.tasks ≡ make_task i Break d ∷ p.tasks
  pub state : state_at q ≡ in_trial (state_at p)
  pub options : q.options ≡ p.options
  pub grows : QueueGrows p q

-- A trial of a branch at an indent was undone, and the second branch comes next.
pub record Undone (E : Type 0) (s : Trial) (y : Tree) (b : Point) : Type 0 where
  pub back : Standing
  pub tries : Tries {E = E} s.indent s.branch s.start (point_at back b.sink b.visits) (Ok false)
  pub tasks : b.printer.tasks ≡ make_task s.indent Break y ∷ back.tasks
  pub state : state_at b.printer ≡ state_at back
  pub options : b.printer.options ≡ back.options
  pub grows : QueueGrows back b.printer

-- the result of open trials, and those that are open then
abbrev pub TrialsEnd : {E : Type 0} → ℕ → Trial → Tree → Point → List Held → Result TrialResult E → Type 0
TrialsEnd {E} limit s y b us (Ok trial_result.Kept) = (us ≡ []) × Tries {E = E} s.indent s.branch s.start b (Ok true)
TrialsEnd {E} limit s y b us (Ok trial_result.Rejected) = (us ≡ []) × Undone E s y b
TrialsEnd {E} limit s y b us (Ok trial_result.Shift) = Open s y us b × IsPastLimit limit b.visits.probes
TrialsEnd {E} limit s y b us (Err e) = TrialError s b
