-- How many nodes probes visit while nodes leave. A probe is started only where their count is within a limit, and visits no more nodes
-- than are left; where all is summed up, it visits two.
use Rattle.std.specs.Prelude.{◌≡◌, ℕ, ◌+◌, ◌*◌, ◌-◌, ◌^◌, ◌≤◌, ◌<◌, Bool, true, IsTrue, List, [], ◌∷◌, Result, Ok, Err}
use Rattle.std.specs.List.{sum_by}
use Rattle.prettyless_sink.specs.declared.error.RenderError.{RenderError}
use Rattle.prettyless_sink.specs.declared.visits.Visits.{Visits}
use Rattle.prettyless_model.specs.Tree.{Tree, size}
use Rattle.prettyless_model.specs.Content.{suffix_depth}
use Rattle.prettyless_model.specs.declared.mode.Mode.TheVariants.{Break}
use Rattle.prettyless_probe.specs.Stack.{Task, make_task, nodes}
use Rattle.prettyless_probe.specs.Probing.{RisesBy}
use Rattle.prettyless_probe.specs.Sums.{HaveSummaries, TreesHaveSummaries}
use Rattle.prettyless_printer.specs.Points.{Point, Seen, Standing, standing}
use Rattle.prettyless_printer.specs.Visits.{Plain}
use Rattle.prettyless_printer.specs.Trials.{Trial}
use Rattle.prettyless_printer.specs.Open.{held_of, seconds}
use Rattle.prettyless_printer.specs.Renders.{EndsAnywhere}
use Rattle.prettyless_printer.specs.declared.run.Run.{Run}
use Rattle.prettyless_printer.specs.declared.answer.TrialState.{TrialState}
use Rattle.prettyless_printer.specs.declared.answer.TrialState.TheVariants as trial_state
use Rattle.prettyless_printer.specs.declared.answer.TurnResult.{TurnResult}
use Rattle.prettyless_printer.specs.declared.answer.TurnResult.TheVariants.{Complete, Failed, Choice, Shift}

-- What a run has left: its tasks, the second branches of open trials, and the line suffixes that were visited; and the visits so far.
pub record Left : Type 0 where
  pub tasks : List Task
  pub seconds : List Tree
  pub queue : List Tree
  pub visits : Visits

-- what is left where a printer stands
abbrev pub left : Standing → List Tree → Visits → Left
left p ds v = record { tasks = p.tasks; seconds = ds; queue = p.queue; visits = v }

-- what a run of nodes has left
abbrev pub left_of : {N : Type 0} → (N → Tree) → Run N → Left
left_of f r = left (standing f r.printer) (seconds (held_of f r)) r.visits

-- the same without its open trials
abbrev pub left_alone : {N : Type 0} → (N → Tree) → Run N → Left
left_alone f r = left (standing f r.printer) [] r.visits

-- nothing is left
abbrev pub none_left : Visits → Left
none_left v = record { tasks = []; seconds = []; queue = []; visits = v }

-- how many nodes are left
abbrev pub left_nodes : Left → ℕ
left_nodes l = nodes l.tasks + sum_by size l.seconds

-- all nodes that are left have summaries
abbrev pub AllHaveSummaries : Left → Type 0
AllHaveSummaries l = HaveSummaries l.tasks × TreesHaveSummaries l.seconds

-- What bounds the probes of a run: whether its nodes have summaries, and the count past which none is started.
pub record Rule : Type 0 where
  pub has : Bool
  pub limit : ℕ

-- the rule of a run, whose nodes have summaries or not, which stops at a limit
abbrev pub rule_of : Bool → ℕ → Rule
rule_of has limit = record { has = has; limit = limit }

-- a count is no more than it was, or than n more than a limit
abbrev pub Capped : ℕ → ℕ → ℕ → ℕ → Type 0
Capped limit n old new = (most : ℕ) → old ≤ most → limit + n ≤ most → new ≤ most

-- probes visited two nodes at most for each visit of the printer, whose count may have reached its greatest value
abbrev pub TwoEach : Visits → Visits → Type 0
TwoEach v w = (k : ℕ) × (w.probes ≤ v.probes + 2 * k) × RisesBy k v.printer w.printer

-- A run without line suffixes, from what it had left to what it has left.
pub record Spends (r : Rule) (a b : Left) : Type 0 where
  -- nodes only leave, one at least for each visit of the printer
  pub nodes : left_nodes b ≤ left_nodes a
  pub printer : b.visits.printer + left_nodes b ≤ a.visits.printer + left_nodes a
  -- no line suffix is visited
  pub queue : a.queue ≡ [] → b.queue ≡ []
  -- each probe was started within the limit, and visited no more nodes than were left
  pub capped : Capped r.limit (left_nodes a) a.visits.probes b.visits.probes
  -- summaries lead to summaries
  pub have : AllHaveSummaries a → AllHaveSummaries b
  -- where all is summed up, a probe visits two nodes
  pub few : IsTrue r.has → left_nodes a < 2 ^ 32 → AllHaveSummaries a → TwoEach a.visits b.visits

-- what a run leaves: after an error, nothing is left
abbrev pub SpendsAs : {A E : Type 0} → Rule → Left → Left → Result A E → Type 0
SpendsAs r a b (Ok x) = Spends r a b
SpendsAs r a b (Err e) = Spends r a (none_left b.visits)

-- what is left where a choice between two branches at an indent comes next, outside of trials
abbrev pub left_choice : ℕ → Tree → Tree → Standing → Visits → Left
left_choice i x y p v = record (left p [] v) { tasks = make_task i Break x ∷ make_task i Break y ∷ p.tasks }

-- what a turn leaves: where it reaches a choice, both branches
abbrev pub after_turn : {N E : Type 0} → (N → Tree) → Standing → Visits → Result (TurnResult N) E → Left
after_turn f q w (Ok Complete) = left q [] w
after_turn f q w (Ok Shift) = left q [] w
after_turn f q w (Ok Failed) = left q [] w
after_turn f q w (Ok (Choice c)) = left_choice c.indent (f c.first) (f c.second) q w
after_turn f q w (Err e) = none_left w

-- the same of a turn of a trial, or of its end
abbrev pub after_trial_turn : {N E : Type 0} → (N → Tree) → Standing → Visits → Result (TrialState N) E → Left
after_trial_turn f q w (Ok trial_state.Running) = left q [] w
after_trial_turn f q w (Ok trial_state.Complete) = left q [] w
after_trial_turn f q w (Ok trial_state.Rejected) = left q [] w
after_trial_turn f q w (Ok trial_state.Shift) = left q [] w
after_trial_turn f q w (Ok (trial_state.Choice c)) = left_choice c.indent (f c.first) (f c.second) q w
after_trial_turn f q w (Err e) = none_left w

-- No line suffix is among what a choice between two branches leads to, and none is pending.
pub record IsPlainChoice (p : Standing) (x y : Tree) : Type 0 where
  pub plain : Plain p
  pub first : suffix_depth x ≡ 0
  pub second : suffix_depth y ≡ 0

-- the same of a trial, with this second branch
abbrev pub IsPlainTrial : Trial → Tree → Type 0
IsPlainTrial s y = IsPlainChoice s.start.printer s.branch y

-- A run that began at a point and had this left has gone on over a table to its end.
pub record EndsOverTable {A E : Type 0} (fails : E → Type 0) (a : Point) (l : Left) (s : Seen) (v : Visits) (r : Result A (RenderError E))
    : Type 0 where
  pub ends : EndsAnywhere fails a s v r
  pub spends : Plain a.printer → Spends (rule_of true (2 ^ 64 - 1)) l (none_left v)
