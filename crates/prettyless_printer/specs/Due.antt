-- What is due: what a run without unions has still to lay, and how many visits that takes at most. The printer visits each node once,
-- and once more, for each line suffix, the break before which that is laid. A probe is started only where the count is within a limit,
-- and visits no more nodes than visits of the printer are due; where all is summed up, it visits two.
use Rattle.std.specs.Prelude.{◌≡◌, ℕ, ◌+◌, ◌-◌, ◌^◌, ◌≤◌, ◌<◌, IsTrue, true, List, [], ◌∷◌, Result, Ok, Err}
use Rattle.prettyless_sink.specs.declared.visits.Visits.{Visits}
use Rattle.prettyless_model.specs.Tree.{Tree}
use Rattle.prettyless_model.specs.Layout.{some_pending}
use Rattle.prettyless_probe.specs.Stack.{Task}
use Rattle.prettyless_probe.specs.Sums.{HaveSummaries, TreesHaveSummaries}
use Rattle.prettyless_printer.specs.Points.{Standing, standing, state_at}
use Rattle.prettyless_printer.specs.Spending.{Capped, Rule, TwoEach, rule_of}
use Rattle.prettyless_printer.specs.ShiftPolicy.{probe_factor, probe_grace}
use Rattle.prettyless_printer.specs.Linear.{IsLinearBound}
use Rattle.prettyless_printer.specs.Suffixes.{most_visits, unions}
use Rattle.prettyless_printer.specs.declared.run.Run.{Run}
use Rattle.prettyless_printer.specs.declared.answer.TurnResult.{TurnResult}
use Rattle.prettyless_printer.specs.declared.answer.TurnResult.TheVariants.{Complete, Failed, Choice, Shift}

-- how many visits of the printer tasks take at most
abbrev pub task_visits : List Task → ℕ
task_visits [] = 0
task_visits (t ∷ ts) = most_visits t.tree + task_visits ts

-- the same of line suffixes that are pending, with a visit more for each: that of the break before which it is laid
abbrev pub pending_visits : List Tree → ℕ
pending_visits [] = 0
pending_visits (d ∷ ds) = most_visits d + 1 + pending_visits ds

-- how many unions tasks have
abbrev pub task_unions : List Task → ℕ
task_unions [] = 0
task_unions (t ∷ ts) = unions t.tree + task_unions ts

-- how many unions documents have
abbrev pub pending_unions : List Tree → ℕ
pending_unions [] = 0
pending_unions (d ∷ ds) = unions d + pending_unions ds

-- What is due: tasks, and the line suffixes that are pending; and the visits so far.
pub record Due : Type 0 where
  pub tasks : List Task
  pub pending : List Tree
  pub visits : Visits

-- what is due where a printer stands
abbrev pub due : Standing → Visits → Due
due p v = record { tasks = p.tasks; pending = (state_at p).pending; visits = v }

-- what is due of a run of nodes
abbrev pub due_of : {N : Type 0} → (N → Tree) → Run N → Due
due_of f r = due (standing f r.printer) r.visits

-- nothing is due
abbrev pub nothing_due : Visits → Due
nothing_due v = record { tasks = []; pending = []; visits = v }

-- how many visits of the printer are due at most
abbrev pub visits_due : Due → ℕ
visits_due l = task_visits l.tasks + pending_visits l.pending

-- how many unions are due
abbrev pub unions_due : Due → ℕ
unions_due l = task_unions l.tasks + pending_unions l.pending

-- all nodes that are due have summaries
abbrev pub DueHasSummaries : Due → Type 0
DueHasSummaries l = HaveSummaries l.tasks × TreesHaveSummaries l.pending

-- A run without unions, from what was due to what is due.
pub record Pays (r : Rule) (a b : Due) : Type 0 where
  pub unions : unions_due b ≡ 0
  -- each visit of the printer was due
  pub due : visits_due b ≤ visits_due a
  pub printer : b.visits.printer + visits_due b ≤ a.visits.printer + visits_due a
  -- each probe was started within the limit, and visited no more nodes than visits were due
  pub capped : Capped r.limit (visits_due a) a.visits.probes b.visits.probes
  -- summaries lead to summaries
  pub have : DueHasSummaries a → DueHasSummaries b
  -- where all is summed up, a probe visits two nodes
  pub few : IsTrue r.has → visits_due a < 2 ^ 32 → DueHasSummaries a → TwoEach a.visits b.visits

-- what a turn leaves without unions: it reaches no choice, and after an error nothing is due
abbrev pub PaysTurn : {N E : Type 0} → Rule → Due → Standing → Visits → Result (TurnResult N) E → Type 0
PaysTurn r a q w (Ok Complete) = Pays r a (due q w)
PaysTurn r a q w (Ok Shift) = Pays r a (due q w)
PaysTurn r a q w (Ok Failed) = Pays r a (due q w)
PaysTurn r a q w (Ok (Choice c)) = ⊥
PaysTurn r a q w (Err e) = Pays r a (nothing_due w)

-- no line suffix that was laid is left in the queue, if none was
abbrev pub StaysClear : {N : Type 0} → Run N → Run N → Type 0
StaysClear p q = p.printer.queue.start ≡ 0 → q.printer.queue.start ≡ 0

-- what a run leaves without unions: no trial is open, and after an error nothing is due
abbrev pub PaysRun : {N A E : Type 0} → (N → Tree) → Rule → Run N → Run N → Result A E → Type 0
PaysRun f r p q (Ok x) = (q.trials.open.items ≡ []) × Pays r (due_of f p) (due_of f q) × StaysClear p q
PaysRun f r p q (Err e) = Pays r (due_of f p) (nothing_due q.visits)

-- the start of the queue after a turn: it stays where a line suffix is pending, and where the turn stopped
abbrev pub StartStaysBy : {N E : Type 0} → Standing → Standing → Result (TurnResult N) E → Type 0
StartStaysBy p q (Ok Complete) = some_pending (state_at q).pending ≡ true → q.start ≡ p.start
StartStaysBy p q (Ok Shift) = q.start ≡ p.start
StartStaysBy p q (Ok Failed) = Unit {0}
StartStaysBy p q (Ok (Choice c)) = Unit {0}
StartStaysBy p q (Err e) = Unit {0}

-- a run of which no trial was open has gone on over a table to its end
abbrev pub PaysOverTable : {N : Type 0} → (N → Tree) → Run N → Visits → Type 0
PaysOverTable f p w =
    p.trials.open.items ≡ [] → unions_due (due_of f p) ≡ 0 → Pays (rule_of true (2 ^ 64 - 1)) (due_of f p) (nothing_due w)

-- what is due has summaries, and no more visits than a table can have nodes
abbrev pub IsLinearDue : Due → Type 0
IsLinearDue a = DueHasSummaries a × (visits_due a ≤ 4294967294)

-- A run without unions to the end, of which this was due; so often tables were refused memory.
pub record PaysToEnd (a : Due) (refused : ℕ) (w : Visits) : Type 0 where
  pub printer : w.printer ≤ a.visits.printer + visits_due a
  -- where a table bounds the probes, they visit at most sixteen nodes for each visit of the printer that was due, and a thousand
  pub few : IsLinearDue a → refused ≡ 0 → IsLinearBound probe_factor probe_grace (visits_due a) a.visits w
