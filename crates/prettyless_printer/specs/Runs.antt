-- Runs that may stop before a node, outside of trials or in one, and go on from there with nodes of whatever type.
use Rattle.std.specs.Prelude.{◌≡◌, ℕ, List, [], ◌∷◌, Result, Ok, Err}
use Rattle.prettyless_sink.specs.Sink.{known}
use Rattle.prettyless_sink.specs.declared.error.RenderError.{RenderError}
use Rattle.prettyless_sink.specs.declared.visits.Visits.{Visits}
use Rattle.prettyless_model.specs.Tree.{Tree}
use Rattle.prettyless_printer.specs.declared.answer.RunResult.{RunResult}
use Rattle.prettyless_printer.specs.declared.answer.RunResult.TheVariants as run_result
use Rattle.prettyless_printer.specs.declared.run.Run.{Run}
use Rattle.prettyless_printer.specs.Points.{Seen, Point, Standing, buffer_seen, point_at, standing}
use Rattle.prettyless_printer.specs.Turns.{IsPastLimit}
use Rattle.prettyless_printer.specs.Trials.{make_trial}
use Rattle.prettyless_printer.specs.Paths.{Chooses, PathToChoice, run_of}
use Rattle.prettyless_printer.specs.Renders.{Continues, RunsToEnd, RunsCommands}
use Rattle.prettyless_printer.specs.Open.{Held, Open, held_of}

-- Where a run is with its open trials: at a point, with what is held of them, and what they wrote.
pub record Station : Type 0 where
  pub point : Point
  pub held : List Held
  pub buffer : Seen

-- a station of these parts
abbrev pub station_at : Standing → Seen → Visits → List Held → Seen → Station
station_at p s v us b = record { point = point_at p s v; held = us; buffer = b }

-- where a run of nodes is, with its sink
abbrev pub station_of : {N : Type 0} → (N → Tree) → Run N → Seen → Station
station_of f r s = station_at (standing f r.printer) s r.visits (held_of f r) (buffer_seen r.buffer)

-- A choice between two branches at an indent came next at a, and trials are open from there to a station. They write to a buffer, which
-- was empty, and nothing was written to the sink.
pub record InChoice (i : ℕ) (x y : Tree) (a : Point) (z : Station) : Type 0 where
  pub before : Seen
  pub empty : known before.bytes ≡ []
  pub trials : Open (make_trial (point_at a.printer before a.visits) i x) y z.held (point_at z.point.printer z.buffer z.point.visits)
  pub sink : z.point.sink ≡ a.sink

-- a choice that came next at a was made, or its trials are still open
abbrev pub ChoosesOrStops : {E : Type 0} → ℕ → ℕ → Tree → Tree → Point → Station → Result RunResult (RenderError E) → Type 0
ChoosesOrStops {E} limit i x y a z (Ok run_result.Finished) =
    (z.held ≡ []) × Chooses {A = RunResult} {E = E} i x y a z.point (Ok run_result.Finished)
ChoosesOrStops {E} limit i x y a z (Ok run_result.Shift) = InChoice i x y a z × IsPastLimit limit z.point.visits.probes
ChoosesOrStops {E} limit i x y a z (Err e) = Chooses {A = RunResult} {E = E} i x y a z.point (Err e)

-- A run has come from a to a station at which trials are open.
pub record RunReachesChoice (a : Point) (z : Station) : Type 0 where
  -- it reached c, whatever the type of nodes there
  pub c : Point
  pub continues : Continues a c
  -- the commands were laid from there to a choice between two branches at an indent
  pub indent : ℕ
  pub first : Tree
  pub second : Tree
  pub at : Point
  pub waiting : PathToChoice (run_of c) indent first second at
  -- which is not made yet
  pub choice : InChoice indent first second at z

-- a run has come from a to a station at which these trials are open
abbrev pub ReachesWith : List Held → Point → Station → Type 0
ReachesWith [] a z = Continues a z.point
ReachesWith (u ∷ us) a z = RunReachesChoice a z

-- a run has come from a to a station
abbrev pub RunReaches : Point → Station → Type 0
RunReaches a z = ReachesWith z.held a z

-- A run stopped at a station before a node, since probes were past a limit.
pub record StopsPastLimit (limit : ℕ) (a : Point) (z : Station) : Type 0 where
  pub comes : RunReaches a z
  pub past : IsPastLimit limit z.point.visits.probes

-- a run until no command is left, or probes are past a limit
abbrev pub RunsCommandsOrStops : {E : Type 0} → (E → Type 0) → ℕ → Point → Station → Result RunResult (RenderError E) → Type 0
RunsCommandsOrStops fails limit a z (Ok run_result.Finished) = (z.held ≡ []) × RunsCommands fails a z.point (Ok run_result.Finished)
RunsCommandsOrStops fails limit a z (Ok run_result.Shift) = StopsPastLimit limit a z
RunsCommandsOrStops fails limit a z (Err e) = RunsCommands {A = RunResult} fails a z.point (Err e)

-- a run to the end, or until probes are past a limit
abbrev pub RunsToEndOrStops : {E : Type 0} → (E → Type 0) → ℕ → Point → Station → Result RunResult (RenderError E) → Type 0
RunsToEndOrStops fails limit a z (Ok run_result.Finished) = RunsToEnd fails a z.point (Ok run_result.Finished)
RunsToEndOrStops fails limit a z (Ok run_result.Shift) = StopsPastLimit limit a z
RunsToEndOrStops fails limit a z (Err e) = RunsToEnd {A = RunResult} fails a z.point (Err e)
