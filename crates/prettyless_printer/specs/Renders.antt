-- How a render ends, against the layout.
use Rattle.std.specs.Prelude.{◌≡◌, ℕ, ◌+◌, ◌≤◌, List, [], ◌∷◌, ◌++◌, Option, Some, None, Result, Ok, Err, OnOk}
use Rattle.prettyless_sink.specs.Sink.{AppendsBeginning, IfKnown, rise}
use Rattle.prettyless_sink.specs.declared.error.RenderError.{RenderError}
use Rattle.prettyless_sink.specs.declared.error.RenderError.TheVariants.{Document, Sink, Memory}
use Rattle.prettyless_sink.specs.declared.visits.RenderCost.{RenderCost}
use Rattle.prettyless_sink.specs.declared.visits.Visits.{Visits}
use Rattle.prettyless_model.specs.declared.options.RenderOptions.{RenderOptions}
use Rattle.prettyless_model.specs.declared.mode.Mode.TheVariants.{Break}
use Rattle.prettyless_model.specs.Tree.{Tree, size}
use Rattle.prettyless_model.specs.Spaces.{spaces}
use Rattle.prettyless_model.specs.Column.{gap}
use Rattle.prettyless_model.specs.Layout.{Outcome, Done, Failed, Bytes, Whole, Cut, after_bytes, bytes_in, bytes_of, and_then, flushed}
use Rattle.prettyless_model.specs.Layout.{initial, layout}
use Rattle.prettyless_model.specs.Levels.{settle, settle_end}
use Rattle.prettyless_probe.specs.Stack.{make_task, tasks}
use Rattle.prettyless_step.specs.Steps.{lay_all, pending_work, work}
use Rattle.prettyless_printer.specs.Points.{Standing, state_at, Seen, Point, point_at}
use Rattle.prettyless_printer.specs.Visits.{CountsAtMost, Plain, Rise, RunCountsAtMost, Visited}
use Rattle.prettyless_printer.specs.AtLeast.{CountsAtLeast, VisitedAtLeast, nothing_left, stack_tally}
use Rattle.prettyless_printer.specs.Suffixes.{IsLinearButSuffixes, most_visits, unions}
use Rattle.prettyless_printer.specs.ShiftPolicy.{probe_factor, probe_grace}
use Rattle.prettyless_printer.specs.Linear.{IsLinearBound, IsLinear}
use Rattle.prettyless_printer.specs.Turns.{bytes_before}

-- what the commands that are left lay
abbrev pub rest_of : Standing → Outcome
rest_of p = lay_all p.options (settle p.options) p.tasks [] (state_at p)

-- a run that stopped, with its bytes from old to new and its failures from n to m
abbrev pub Stopped : {E : Type 0} → (E → Type 0) → Outcome → List ℕ → List ℕ → ℕ → ℕ → RenderError E → Type 0
Stopped fails o old new n m (Document e) = (bytes : List ℕ) × (o ≡ Failed bytes) × (new ≡ old ++ bytes) × (m ≡ n) × fails e
Stopped fails o old new n m (Sink e) = AppendsBeginning old new (bytes_before o) × (m ≡ rise n)
Stopped fails o old new n m (Memory e) = AppendsBeginning old new (bytes_before o) × (m ≡ n)

-- the commands are laid: their bytes are written, and none is left
abbrev pub CommandsLaid : {A E : Type 0} → Standing → Standing → (E → Type 0) → List ℕ → List ℕ → ℕ → ℕ → Result A (RenderError E) → Type 0
CommandsLaid p q fails old new n m (Ok r) =
    (bytes : List ℕ) × (rest_of p ≡ Done bytes (state_at q)) × (new ≡ old ++ bytes) × (m ≡ n)
CommandsLaid p q fails old new n m (Err e) = Stopped fails (rest_of p) old new n m e

-- the gap at the end is written
abbrev pub Flushed : {A E : Type 0} → Standing → List ℕ → List ℕ → ℕ → ℕ → Result A (RenderError E) → Type 0
Flushed p old new n m (Ok r) = (new ≡ old ++ spaces (gap p.column)) × (m ≡ n)
Flushed p old new n m (Err (Document e)) = ⊥
Flushed p old new n m (Err (Sink e)) = AppendsBeginning old new (spaces (gap p.column)) × (m ≡ rise n)
Flushed p old new n m (Err (Memory e)) = (new ≡ old) × (m ≡ n)

-- A render: the layout's bytes on success; the bytes before the failing node where the document fails, with an error
-- that says so; a beginning where the sink fails, which raises its failures, or memory is refused, which does not.
abbrev pub Rendered : {A E : Type 0} → (E → Type 0) → Bytes → List ℕ → List ℕ → ℕ → ℕ → Result A (RenderError E) → Type 0
Rendered fails y old new n m (Ok r) = (bytes : List ℕ) × (y ≡ Whole bytes) × (new ≡ old ++ bytes) × (m ≡ n)
Rendered fails y old new n m (Err (Document e)) = (bytes : List ℕ) × (y ≡ Cut bytes) × (new ≡ old ++ bytes) × (m ≡ n) × fails e
Rendered fails y old new n m (Err (Sink e)) = AppendsBeginning old new (bytes_in y) × (m ≡ rise n)
Rendered fails y old new n m (Err (Memory e)) = AppendsBeginning old new (bytes_in y) × (m ≡ n)

-- what the commands that are left lay, and then the end
abbrev pub to_end : Standing → Outcome
to_end p = and_then (rest_of p) (settle_end p.options)

-- the commands and the rounds of the end are laid
abbrev pub LaidToEnd : {A E : Type 0} → Standing → (E → Type 0) → List ℕ → List ℕ → ℕ → ℕ → Result A (RenderError E) → Type 0
LaidToEnd p fails old new n m r = Rendered fails (bytes_of (to_end p)) old new n m r

-- What was written since `old`, and then what the commands and the end lay, is the whole.
pub record Finishing (whole : Outcome) (p : Standing) (old out : List ℕ) : Type 0 where
  pub bytes : List ℕ
  pub out_is : out ≡ old ++ bytes
  pub same : after_bytes bytes (to_end p) ≡ whole

-- A run has come from one point to another, whatever the type of nodes that its printer has there: what was written and what is
-- left are the whole.
pub record Continues (a b : Point) : Type 0 where
  -- the options are the same
  pub options : b.printer.options ≡ a.printer.options
  -- the sink writes through the same reference
  pub same_lender : b.sink.lender ≡ a.sink.lender
  -- where the sink's bytes are known, what was written and what is left to the end are the whole, and the sink did not fail
  pub bytes : IfKnown a.sink.bytes b.sink.bytes (λ old out. Finishing (to_end a.printer) b.printer old out
      × (b.sink.failures ≡ a.sink.failures))
  -- no count of visits fell
  pub rise : Rise a.visits b.visits
  -- without line suffixes, the nodes that left allow for the visits
  pub at_most : Plain a.printer → Plain b.printer × CountsAtMost a.printer.tasks b.printer.tasks a.visits b.visits
  -- what was laid is counted
  pub at_least : CountsAtLeast (stack_tally a.printer 0) (stack_tally b.printer 0) a.visits b.visits

-- A run until no command is left.
pub record RunsCommands {A E : Type 0} (fails : E → Type 0) (a b : Point) (r : Result A (RenderError E)) : Type 0 where
  -- the options are the same
  pub options : OnOk r (b.printer.options ≡ a.printer.options)
  -- no command is left
  pub done : OnOk r (b.printer.tasks ≡ [])
  -- what is pending is no more work than there was
  pub work_falls : OnOk r (pending_work (state_at b.printer).pending ≤ work a.printer.tasks (state_at a.printer))
  -- the sink writes through the same reference
  pub same_lender : b.sink.lender ≡ a.sink.lender
  -- where the sink's bytes are known, what the commands lay was written, as far as the result says
  pub bytes : IfKnown a.sink.bytes b.sink.bytes
      (λ before after. CommandsLaid a.printer b.printer fails before after a.sink.failures b.sink.failures r)
  -- no count of visits fell
  pub rise : Rise a.visits b.visits
  -- without line suffixes, a visit is counted at most once for each node
  pub at_most : Plain a.printer → RunCountsAtMost a.printer.tasks b.printer a.visits b.visits r
  -- what was laid is counted
  pub at_least : OnOk r (CountsAtLeast (stack_tally a.printer 0) nothing_left a.visits b.visits)

-- The pending documents become the commands at the end, and the gap before them is written.
pub record FlushesEnd {A E : Type 0} (p q : Standing) (s t : Seen) (r : Result A (RenderError E)) : Type 0 where
  -- the options are the same
  pub options : OnOk r (q.options ≡ p.options)
  -- what was pending is to be laid next, from the root and in Break
  pub stack : OnOk r (q.tasks ≡ tasks 0 Break (state_at p).pending)
  -- nothing is pending any more
  pub state : OnOk r (state_at q ≡ flushed p.options (state_at p))
  -- the sink writes through the same reference
  pub same_lender : t.lender ≡ s.lender
  -- where the sink's bytes are known, the gap was written, as far as the result says
  pub bytes : IfKnown s.bytes t.bytes (λ before after. Flushed p before after s.failures t.failures r)

-- A run of the commands, and then of what is pending at the end, round by round.
pub record RunsToEnd {A E : Type 0} (fails : E → Type 0) (a b : Point) (r : Result A (RenderError E)) : Type 0 where
  -- the sink writes through the same reference
  pub same_lender : b.sink.lender ≡ a.sink.lender
  -- where the sink's bytes are known, what the commands and the end lay was written, as far as the result says
  pub bytes : IfKnown a.sink.bytes b.sink.bytes (λ before after. LaidToEnd a.printer fails before after a.sink.failures b.sink.failures r)
  -- no count of visits fell
  pub rise : Rise a.visits b.visits
  -- without line suffixes, a visit is counted at most once for each node
  pub at_most : Plain a.printer → RunCountsAtMost a.printer.tasks b.printer a.visits b.visits r
  -- what was laid is counted
  pub at_least : OnOk r (CountsAtLeast (stack_tally a.printer 0) nothing_left a.visits b.visits)

-- A run to the end from a point, by whatever printer.
abbrev pub EndsAnywhere : {A E : Type 0} → (E → Type 0) → Point → Seen → Visits → Result A (RenderError E) → Type 0
EndsAnywhere fails a s v r = (q : Standing) × RunsToEnd fails a (point_at q s v) r

-- A printer stands before a document: that is its only task, from the root and in Break, and nothing is laid or put off yet.
pub record Begins (o : RenderOptions) (d : Tree) (p : Standing) : Type 0 where
  pub options : p.options ≡ o
  pub tasks : p.tasks ≡ make_task 0 Break d ∷ []
  pub state : state_at p ≡ initial
  pub queue : p.queue ≡ []

-- A render of a document to a sink, seen before and after, with the cost before and after.
pub record Renders {A E : Type 0} (fails : E → Type 0) (o : RenderOptions) (d : Tree) (s t : Seen) (v w : RenderCost)
    (r : Result A (RenderError E)) : Type 0 where
  -- the sink writes through the same reference
  pub same_lender : t.lender ≡ s.lender
  -- where the sink's bytes are known, the layout's bytes were appended, as far as the result says
  pub bytes : IfKnown s.bytes t.bytes (λ before after. Rendered fails (layout o d) before after s.failures t.failures r)
  -- no count of visits fell
  pub rise : Rise v.visits w.visits
  -- without line suffixes, the printer visits each node at most once, and probes at most once for each node that needs one
  pub visited : Visited d v.visits w.visits
  -- refusals of memory for a table are counted
  pub refused : v.refused ≤ w.refused
  -- where a table bounds the probes, and none was refused memory, they visit at most sixteen nodes for each node, and a thousand
  pub few : IsLinear d → w.refused ≡ 0 → IsLinearBound probe_factor probe_grace (size d) v.visits w.visits
  -- without unions, the printer visits each node once at most, and once more, for each line suffix, the break before which it is laid
  pub with_suffixes : unions d ≡ 0 → w.visits.printer ≤ v.visits.printer + most_visits d
  -- where a table bounds the probes too, and none was refused memory, they visit at most sixteen nodes for each of these visits of the
  -- printer, and a thousand
  pub few_with_suffixes : IsLinearButSuffixes d → w.refused ≡ 0 → IsLinearBound probe_factor probe_grace (most_visits d) v.visits w.visits
  -- on success, at least the nodes that the layout lays are counted, and the probes that it needs
  pub at_least : OnOk r (VisitedAtLeast o d v.visits w.visits)

-- The same where no failures are seen: what a render appended.
abbrev pub RendersInto : {A E : Type 0} → (E → Type 0) → Bytes → List ℕ → List ℕ → Result A (RenderError E) → Type 0
RendersInto fails y old new (Ok r) = (bytes : List ℕ) × (y ≡ Whole bytes) × (new ≡ old ++ bytes)
RendersInto fails y old new (Err (Document e)) = (bytes : List ℕ) × (y ≡ Cut bytes) × (new ≡ old ++ bytes) × fails e
RendersInto fails y old new (Err (Sink e)) = AppendsBeginning old new (bytes_in y)
RendersInto fails y old new (Err (Memory e)) = AppendsBeginning old new (bytes_in y)

-- The same into a writer whose bytes may be known: known bytes stay known.
abbrev pub RendersKnown : {A E : Type 0} → (E → Type 0) → Bytes → Option (List ℕ) → Option (List ℕ) → Result A (RenderError E) → Type 0
RendersKnown fails y None new r = Unit {0}
RendersKnown fails y (Some old) None r = ⊥
RendersKnown fails y (Some old) (Some new) r = RendersInto fails y old new r
