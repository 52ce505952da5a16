-- What a turn does to the work: it takes some of it away, and carries it on inside every whole that it was inside of.
use Rattle.std.specs.Prelude.{◌≡◌, ℕ, ◌+◌, ◌*◌, ◌^◌, ◌<◌, ◌≤◌, List, [], ◌∷◌, ◌++◌, length, Result, Ok, Err, IfOk, OnOk}
use Rattle.prettyless_sink.specs.Sink.{AppendsBeginning, IfKnown, rise}
use Rattle.prettyless_model.specs.declared.options.RenderOptions.{RenderOptions}
use Rattle.prettyless_sink.specs.declared.error.RenderError.{RenderError}
use Rattle.prettyless_sink.specs.declared.error.RenderError.TheVariants.{Document, Sink, Memory}
use Rattle.prettyless_model.specs.Tree.{Tree, size}
use Rattle.prettyless_model.specs.Layout as layout
use Rattle.prettyless_model.specs.Layout.{Outcome, Done}
use Rattle.prettyless_probe.specs.Stack.{Task}
use Rattle.prettyless_printer.specs.Points.{QueueGrows, Point, Standing, state_at, work_at}
use Rattle.prettyless_printer.specs.Visits.{Plain, Rise, TurnCountsAtMost}
use Rattle.prettyless_printer.specs.AtLeast.{TurnCountsAtLeast}
use Rattle.prettyless_printer.specs.Progress.{Inside, ChoiceNext}
use Rattle.prettyless_printer.specs.declared.answer.TurnResult.{TurnResult}
use Rattle.prettyless_printer.specs.declared.answer.TurnResult.TheVariants.{Complete, Failed, Choice, Shift}

-- the bytes of an outcome, done or not
abbrev pub bytes_before : Outcome → List ℕ
bytes_before (Done b st) = b
bytes_before (layout.Failed b) = b

-- for every whole that the printer's work was inside of
abbrev pub ForWholes : Standing → List ℕ → (Outcome → ℕ → List Task → List ℕ → Type 0) → Type 0
ForWholes p out goal =
    (whole : Outcome) (limit : ℕ) (below : List Task) (old : List ℕ) → length below < length p.tasks →
    Inside p.options whole limit below old p.tasks (state_at p) out → goal whole limit below old

-- what holds after a turn: the work is inside the whole, or the whole fails after what was written, or a choice comes next
abbrev pub TurnHolds : {N : Type 0} → (N → Tree) → RenderOptions → Standing → List ℕ → TurnResult N → Outcome → ℕ → List Task
    → List ℕ → Type 0
TurnHolds f o q out Complete whole limit below old = Inside o whole limit below old q.tasks (state_at q) out
TurnHolds f o q out Failed whole limit below old =
    (bytes : List ℕ) × (above : List Task) × (out ≡ old ++ bytes) × (whole ≡ layout.Failed bytes) × (q.tasks ≡ above ++ below)
TurnHolds f o q out (Choice c) whole limit below old =
    ChoiceNext o whole limit below old c.indent (f c.first) (f c.second) q.tasks (state_at q) out
TurnHolds f o q out Shift whole limit below old = Inside o whole limit below old q.tasks (state_at q) out

-- work is taken away, or none is added where a turn stopped
abbrev pub WorkFalls : {N : Type 0} → (N → Tree) → Point → Point → TurnResult N → Type 0
WorkFalls f a b Complete = work_at b < work_at a
WorkFalls f a b Failed = Unit {0}
WorkFalls f a b (Choice c) =
    (2 * (size (f c.first) + size (f c.second)) + work_at b < work_at a) × (b.printer.within ≡ a.printer.within)
WorkFalls f a b Shift = (work_at b ≤ work_at a) × (b.printer.within ≡ a.printer.within)

-- how many nodes the next task has
abbrev pub next_size : List Task → ℕ
next_size [] = 0
next_size (t ∷ ts) = size t.tree

-- what a turn leaves in a sink whose bytes are known
abbrev pub Advanced : {N E : Type 0} → (N → Tree) → Standing → Standing → List ℕ → List ℕ → ℕ → ℕ → Result (TurnResult N) (RenderError E) →
    Type 0
Advanced f p q out new n m (Ok r) = ForWholes p out (TurnHolds f p.options q new r) × (m ≡ n)
Advanced f p q out new n m (Err (Document e)) = ⊥
Advanced f p q out new n m (Err (Sink e)) =
    ForWholes p out (λ whole limit below old. AppendsBeginning old new (bytes_before whole)) × (m ≡ rise n)
Advanced f p q out new n m (Err (Memory e)) = (new ≡ out) × (m ≡ n)

-- the next node is a visit, unless the turn stopped or was refused memory
abbrev pub VisitsNext : {N E : Type 0} → ℕ → ℕ → Result (TurnResult N) (RenderError E) → Type 0
VisitsNext n m (Ok Complete) = rise n ≤ m
VisitsNext n m (Ok Failed) = rise n ≤ m
VisitsNext n m (Ok (Choice c)) = rise n ≤ m
VisitsNext n m (Ok Shift) = n ≤ m
VisitsNext n m (Err (Document e)) = rise n ≤ m
VisitsNext n m (Err (Sink e)) = rise n ≤ m
VisitsNext n m (Err (Memory e)) = n ≤ m

-- probes have visited more nodes than the limit, in a count of 64 bits
abbrev pub IsPastLimit : ℕ → ℕ → Type 0
IsPastLimit limit probes = (limit < probes) × (probes < 2 ^ 64)

-- a turn stopped only where probes were past the limit
abbrev pub StopsPast : {N : Type 0} → ℕ → ℕ → TurnResult N → Type 0
StopsPast limit probes Complete = Unit {0}
StopsPast limit probes Failed = Unit {0}
StopsPast limit probes (Choice c) = Unit {0}
StopsPast limit probes Shift = IsPastLimit limit probes

-- A turn, from one point to another.
pub record Advances {N E : Type 0} (f : N → Tree) (a b : Point) (r : Result (TurnResult N) (RenderError E)) : Type 0 where
  -- the options are the same
  pub options : OnOk r (b.printer.options ≡ a.printer.options)
  -- the queue of line suffixes only grows
  pub grows : OnOk r (QueueGrows a.printer b.printer)
  -- there is less work left
  pub work_falls : IfOk r (WorkFalls f a b)
  -- the sink writes through the same reference
  pub same_lender : b.sink.lender ≡ a.sink.lender
  -- where the sink's bytes are known, they go on in every whole that the work was inside of
  pub bytes : IfKnown a.sink.bytes b.sink.bytes
      (λ before after. Advanced f a.printer b.printer before after a.sink.failures b.sink.failures r)
  -- the next node is a visit, and no more nodes are than its document has
  pub least : VisitsNext a.visits.printer b.visits.printer r
  pub most : b.visits.printer ≤ a.visits.printer + next_size a.printer.tasks
  -- no count of visits fell
  pub rise : Rise a.visits b.visits
  -- without line suffixes, the nodes that leave allow for the visits
  pub at_most : Plain a.printer → TurnCountsAtMost f a.printer b.printer a.visits b.visits r
  -- what the nodes lay is counted
  pub at_least : TurnCountsAtLeast f a.printer b.printer a.visits b.visits r
