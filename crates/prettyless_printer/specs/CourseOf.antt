-- What the course of a run says of the run, by the way that it ends.
use Rattle.std.specs.Prelude.{◌≡◌, ℕ, ◌<◌, ◌⊎◌, Bool, true, List, [], ◌∷◌, ◌++◌, length, Result, Ok, Err}
use Rattle.prettyless_model.specs.declared.options.RenderOptions.{RenderOptions}
use Rattle.prettyless_sink.specs.Sink.{rise}
use Rattle.prettyless_sink.specs.declared.visits.RenderCost.{RenderCost}
use Rattle.prettyless_sink.specs.declared.error.RenderError.{RenderError}
use Rattle.prettyless_sink.specs.declared.error.RenderError.TheVariants.{Document, Sink, Memory}
use Rattle.prettyless_model.specs.Column.{saturating_add}
use Rattle.prettyless_model.specs.Tree.{Tree, Append, BreakOrFlat, Group, Nest, Text}
use Rattle.prettyless_model.specs.Counts.{each_probe}
use Rattle.prettyless_model.specs.Layout.{Outcome, Done, Failed, State, initial, lay_text}
use Rattle.prettyless_model.specs.declared.mode.Mode.TheVariants.{Break}
use Rattle.prettyless_probe.specs.Stack.{Task, make_task}
use Rattle.prettyless_printer.specs.declared.answer.TurnResult.{TurnResult}
use Rattle.prettyless_printer.specs.declared.answer.TurnResult.TheVariants as turn_result
use Rattle.prettyless_printer.specs.declared.answer.TrialState.{TrialState}
use Rattle.prettyless_printer.specs.declared.answer.TrialState.TheVariants as trial_state
use Rattle.prettyless_printer.specs.declared.answer.TrialResult.{TrialResult}
use Rattle.prettyless_printer.specs.declared.answer.TrialResult.TheVariants as trial_result
use Rattle.prettyless_printer.specs.declared.answer.RunResult.{RunResult}
use Rattle.prettyless_printer.specs.declared.answer.RunResult.TheVariants as run_result
use Rattle.prettyless_printer.specs.Points.{Point, Standing, point_at, state_at}
use Rattle.prettyless_printer.specs.Trials.{Trial, make_trial}
use Rattle.prettyless_printer.specs.Open.{Chain, Held, Open}
use Rattle.prettyless_printer.specs.Runs.{InChoice, Station}
use Rattle.prettyless_printer.specs.Course.{Around, AsksInPart, Comes, HasOwn, IsRejected, NextChooses, NextFails}
use Rattle.prettyless_printer.specs.Course.{RunPlace, TrialIsWithin, Waiting, place}

-- where a printer stands, as a place
abbrev pub place_at : Standing → ℕ → Around → RunPlace
place_at p probes u = place p.tasks (state_at p) probes u

-- the same with one task more, the next one
abbrev pub place_with : Task → Standing → ℕ → Around → RunPlace
place_with t p probes u = place (t ∷ p.tasks) (state_at p) probes u

-- the innermost trial, if one is open, goes on
abbrev pub TrialGoesOn : Around → List Task → State → Type 0
TrialGoesOn u ts st = HasOwn u.trials ts × TrialIsWithin u.trials st

-- A run has come to a place of some kind, where probes have read so many nodes and so many tables were refused.
pub record StopsWhere (P : RunPlace → Type 0) (o : RenderOptions) (a : RunPlace) (probes refused : ℕ) : Type 0 where
  pub at : RunPlace
  pub comes : Comes o a at
  pub there : P at
  pub read : at.probes ≡ probes
  pub refusals : at.around.refused ≡ refused

-- The visit of the next node was refused memory.
pub record NextInPart (o : RenderOptions) (a : RunPlace) (probes : ℕ) : Type 0 where
  pub task : Task
  pub below : List Task
  pub next : a.tasks ≡ task ∷ below
  pub own : HasOwn a.around.trials a.tasks
  pub within : 0 < each_probe task.tree task.mode → TrialIsWithin a.around.trials a.state
  pub asks : AsksInPart a.around.has o task below a.state a.probes probes

-- A run was refused memory: at a place, or in the visit of the next node.
pub record StopsInPart (o : RenderOptions) (a : RunPlace) (probes refused : ℕ) : Type 0 where
  pub at : RunPlace
  pub comes : Comes o a at
  pub part : (probes ≡ at.probes) ⊎ NextInPart o at probes
  pub refusals : at.around.refused ≡ refused

-- ---- Turns

-- the next node fails, in these trials
abbrev pub FailsIn : RenderOptions → Around → RunPlace → Type 0
FailsIn o u a = NextFails o a × (a.around ≡ u)

-- wherever it is
abbrev pub Anywhere : RunPlace → Type 0
Anywhere a = Unit {0}

-- A union comes next, with a printer's tasks after it.
pub record ComesToChoice (o : RenderOptions) (a : RunPlace) (u : Around) (i : ℕ) (x y : Tree) (q : Standing) (probes : ℕ) : Type 0 where
  pub task : Task
  pub comes : Comes o a (place_with task q probes u)
  pub chooses : NextChooses o (place_with task q probes u) i x y q.tasks

-- the course of a turn
abbrev pub TurnCourse : {N E : Type 0} → (N → Tree) → RenderOptions → RunPlace → Around → Standing → ℕ
    → Result (TurnResult N) (RenderError E)
    → Type 0
TurnCourse f o a u q probes (Ok turn_result.Complete) = Comes o a (place_at q probes u)
TurnCourse f o a u q probes (Ok turn_result.Shift) = Comes o a (place_at q probes u)
TurnCourse f o a u q probes (Ok turn_result.Failed) = StopsWhere (FailsIn o u) o a probes u.refused
TurnCourse f o a u q probes (Ok (turn_result.Choice c)) = ComesToChoice o a u c.indent (f c.first) (f c.second) q probes
TurnCourse f o a u q probes (Err (Document e)) = ⊥
TurnCourse f o a u q probes (Err (Sink e)) = StopsWhere Anywhere o a probes u.refused
TurnCourse f o a u q probes (Err (Memory e)) = StopsInPart o a probes u.refused

-- ---- Trials

-- these trials are open, over such nodes, after so many refusals
abbrev pub around : List Waiting → Bool → ℕ → Around
around ws has refused = record { trials = ws; has = has; refused = refused }

-- A printer is in the trial that waits, with so many tasks below its branch, and nothing of it went past the width.
pub record IsIn (w : Waiting) (below : ℕ) (p : Standing) : Type 0 where
  pub height : below ≡ length w.tasks
  pub within : p.within ≡ true
  pub above : List Task
  pub stack : p.tasks ≡ above ++ w.tasks

-- the innermost trial is rejected here
abbrev pub RejectedIn : RenderOptions → Waiting → Around → RunPlace → Type 0
RejectedIn o w u a = IsRejected o w a × (a.around ≡ u)

-- the course of a turn of a trial, or of its end
abbrev pub TrialCourse : {N E : Type 0} → (N → Tree) → RenderOptions → RunPlace → Waiting → Around → Standing → ℕ → Result (TrialState N) E
    → Type 0
TrialCourse f o a w u q probes (Ok trial_state.Running) = Comes o a (place_at q probes u)
TrialCourse f o a w u q probes (Ok trial_state.Complete) = Comes o a (place_at q probes u)
TrialCourse f o a w u q probes (Ok trial_state.Shift) = Comes o a (place_at q probes u)
TrialCourse f o a w u q probes (Ok trial_state.Rejected) = StopsWhere (RejectedIn o w u) o a probes u.refused
TrialCourse f o a w u q probes (Ok (trial_state.Choice c)) = ComesToChoice o a u c.indent (f c.first) (f c.second) q probes
TrialCourse f o a w u q probes (Err e) = StopsInPart o a probes u.refused

-- the same for each trial that it may be in, inside of others
abbrev pub TrialCourses : {N E : Type 0} → (N → Tree) → ℕ → Bool → Point → Point → Result (TrialState N) E → Type 0
TrialCourses f below has a b r =
    (w : Waiting) (ws : List Waiting) (refused : ℕ) → IsIn w below a.printer →
    TrialCourse f a.printer.options (place_at a.printer a.visits.probes (around (w ∷ ws) has refused)) w (around (w ∷ ws) has refused)
    b.printer b.visits.probes r

-- a trial that is open, and its second branch
abbrev pub waiting_of : Trial → Tree → Waiting
waiting_of t y = record { indent = t.indent; second = y; tasks = t.start.printer.tasks; state = state_at t.start.printer }

-- trials from one inwards, before these
abbrev pub chain_waits : (o : Trial) (us : List Held) (t : Trial) → Chain o us t → List Waiting → List Waiting
chain_waits o [] t h ws = ws
chain_waits o (u ∷ us) t h ws = chain_waits h.0 us t h.2 (waiting_of h.0 u.second ∷ ws)

-- all that are open, the innermost first
abbrev pub open_waits : (s : Trial) (y : Tree) (us : List Held) (b : Point) → Open s y us b → List Waiting
open_waits s y [] b h = []
open_waits s y (u ∷ us) b h = chain_waits s us h.trial h.chain (waiting_of s y ∷ [])

-- A run has come from a place to a point in open trials.
pub record ComesInTrials (o : RenderOptions) (a : RunPlace) (has : Bool) (refused : ℕ) (s : Trial) (y : Tree) (us : List Held) (b : Point)
    : Type 0 where
  pub trials : Open s y us b
  pub comes : Comes o a (place_at b.printer b.visits.probes (around (open_waits s y us b trials) has refused))

-- the course of open trials
abbrev pub TrialsCourse : {E : Type 0} → RenderOptions → RunPlace → Bool → ℕ → Trial → Tree → Point → List Held → Result TrialResult E
    → Type 0
TrialsCourse o a has refused s y b us (Ok trial_result.Kept) = Comes o a (place_at b.printer b.visits.probes (around [] has refused))
TrialsCourse o a has refused s y b us (Ok trial_result.Rejected) = Comes o a (place_at b.printer b.visits.probes (around [] has refused))
TrialsCourse o a has refused s y b us (Ok trial_result.Shift) = ComesInTrials o a has refused s y us b
TrialsCourse o a has refused s y b us (Err e) = StopsInPart o a b.visits.probes refused

-- ---- Runs

-- the trials of a choice that are open, the innermost first
abbrev pub choice_waits : (i : ℕ) (x y : Tree) (a : Point) (z : Station) → InChoice i x y a z → List Waiting
choice_waits i x y a z h =
    open_waits (make_trial (point_at a.printer h.before a.visits) i x) y z.held (point_at z.point.printer z.buffer z.point.visits) h.trials

-- A run has come from a place to a station in a choice.
pub record ComesInChoice (o : RenderOptions) (b : RunPlace) (has : Bool) (refused i : ℕ) (x y : Tree) (a : Point) (z : Station)
    : Type 0 where
  pub choice : InChoice i x y a z
  pub comes : Comes o b (place_at z.point.printer z.point.visits.probes (around (choice_waits i x y a z choice) has refused))

-- the course of a run that ended in an error
abbrev pub ErrorCourse : {E : Type 0} → RenderOptions → RunPlace → ℕ → ℕ → RenderError E → Type 0
ErrorCourse o b probes refused (Document e) = StopsWhere (NextFails o) o b probes refused
ErrorCourse o b probes refused (Sink e) = StopsWhere Anywhere o b probes refused
ErrorCourse o b probes refused (Memory e) = StopsInPart o b probes refused

-- no document has failed
abbrev pub NoneFails : {A E : Type 0} → Result A (RenderError E) → Type 0
NoneFails (Ok x) = Unit {0}
NoneFails (Err (Document e)) = ⊥
NoneFails (Err (Sink e)) = Unit {0}
NoneFails (Err (Memory e)) = Unit {0}

-- a run has come from a place to a station outside of trials
abbrev pub ComesAlone : RenderOptions → RunPlace → Bool → ℕ → Station → Type 0
ComesAlone o b has refused z = Comes o b (place_at z.point.printer z.point.visits.probes (around [] has refused))

-- the course of a choice
abbrev pub ChoiceCourse : {E : Type 0} → RenderOptions → RunPlace → Bool → ℕ → ℕ → Tree → Tree → Point → Station
    → Result RunResult (RenderError E) → Type 0
ChoiceCourse o b has refused i x y a z (Ok run_result.Finished) = ComesAlone o b has refused z
ChoiceCourse o b has refused i x y a z (Ok run_result.Shift) = ComesInChoice o b has refused i x y a z
ChoiceCourse o b has refused i x y a z (Err e) = ErrorCourse o b z.point.visits.probes refused e

-- The trials of a choice wait at a station.
pub record WaitsInChoice (z : Station) (ws : List Waiting) : Type 0 where
  pub indent : ℕ
  pub first : Tree
  pub second : Tree
  pub start : Point
  pub choice : InChoice indent first second start z
  pub are : ws ≡ choice_waits indent first second start z choice

-- these trials wait at a station
abbrev pub WaitWith : List Held → Station → List Waiting → Type 0
WaitWith [] z ws = ws ≡ []
WaitWith (u ∷ us) z ws = WaitsInChoice z ws

-- A run has come from a place to a station, where these trials wait.
pub record ComesToStation (o : RenderOptions) (b : RunPlace) (has : Bool) (refused : ℕ) (z : Station) : Type 0 where
  pub waiting : List Waiting
  pub are : WaitWith z.held z waiting
  pub comes : Comes o b (place_at z.point.printer z.point.visits.probes (around waiting has refused))

-- the course of a run of commands
abbrev pub CommandsCourse : {E : Type 0} → RenderOptions → RunPlace → Bool → ℕ → Station → Result RunResult (RenderError E) → Type 0
CommandsCourse o b has refused z (Ok run_result.Finished) = ComesAlone o b has refused z
CommandsCourse o b has refused z (Ok run_result.Shift) = ComesToStation o b has refused z
CommandsCourse o b has refused z (Err e) = ErrorCourse o b z.point.visits.probes refused e

-- Nothing is left.
pub record IsDone (a : RunPlace) : Type 0 where
  pub tasks : a.tasks ≡ []
  pub pending : a.state.pending ≡ []
  pub alone : a.around.trials ≡ []

-- the course of a run to the end
abbrev pub EndCourse : {A E : Type 0} → RenderOptions → RunPlace → ℕ → ℕ → Result A (RenderError E) → Type 0
EndCourse o b probes refused (Ok x) = StopsWhere IsDone o b probes refused
EndCourse o b probes refused (Err e) = ErrorCourse o b probes refused e

-- the same of a run that may stop
abbrev pub EndCourseOrStop : {E : Type 0} → RenderOptions → RunPlace → Bool → ℕ → Station → Result RunResult (RenderError E) → Type 0
EndCourseOrStop o b has refused z (Ok run_result.Finished) = StopsWhere IsDone o b z.point.visits.probes refused
EndCourseOrStop o b has refused z (Ok run_result.Shift) = ComesToStation o b has refused z
EndCourseOrStop o b has refused z (Err e) = ErrorCourse o b z.point.visits.probes refused e

-- the course of a run to the end, whichever trials wait where it begins
abbrev pub EndCourses : {A E : Type 0} → Bool → Station → ℕ → Result A (RenderError E) → Type 0
EndCourses has z probes r =
    (ws : List Waiting) (refused : ℕ) → WaitWith z.held z ws →
    EndCourse z.point.printer.options (place_at z.point.printer z.point.visits.probes (around ws has refused)) probes refused r

-- how many tables were refused, with those before, in a count that stays at its greatest value
abbrev pub refused_after : ℕ → ℕ → ℕ
refused_after before refused = saturating_add before refused

-- a table was refused, of a size for which there was room, or none was
abbrev pub RefusedOnce : ℕ → ℕ → ℕ → Type 0
RefusedOnce room old new = (new ≡ old) ⊎ ((0 < room) × (new ≡ rise old))

-- the course of a render of a document, over nodes that have summaries or not: from its first node on, with the costs before and after
abbrev pub RenderCourse : {A E : Type 0} → Bool → RenderOptions → Tree → RenderCost → RenderCost → Result A (RenderError E) → Type 0
RenderCourse has o d v w r =
    EndCourse o (place (make_task 0 Break d ∷ []) initial v.visits.probes (around [] has v.refused)) w.visits.probes w.refused r

-- ---- Texts

-- the state after an outcome that is done
abbrev pub state_then : State → Outcome → State
state_then st (Done b u) = u
state_then st (Failed b) = st

-- the state after a document was laid flat that is its texts alone
abbrev pub after_texts : RenderOptions → Tree → State → State
after_texts o (Text s) st = state_then st (lay_text o (length s) s st)
after_texts o (Append l r) st = after_texts o r (after_texts o l st)
after_texts o (Nest k d) st = after_texts o d st
after_texts o (BreakOrFlat b f) st = after_texts o f st
after_texts o (Group d) st = after_texts o d st
after_texts o _ st = st

-- the same of documents one after another
abbrev pub after_all : RenderOptions → List Tree → State → State
after_all o [] st = st
after_all o (d ∷ ds) st = after_all o ds (after_texts o d st)
