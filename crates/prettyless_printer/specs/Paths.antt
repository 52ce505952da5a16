-- Paths of a run: what holds from where it began to where it is.
use Rattle.std.specs.Prelude.{◌≡◌, ℕ, ◌+◌, ◌*◌, ◌≤◌, ◌<◌, List, [], ◌∷◌, length, Result, Ok, Err, OnOk}
use Rattle.prettyless_sink.specs.Sink.{IfKnown}
use Rattle.prettyless_sink.specs.declared.error.RenderError.{RenderError}
use Rattle.prettyless_model.specs.Tree.{Tree, size}
use Rattle.prettyless_model.specs.Layout.{Outcome}
use Rattle.prettyless_model.specs.Content.{suffix_depth}
use Rattle.prettyless_model.specs.Counts.{Weight}
use Rattle.prettyless_model.specs.declared.mode.Mode.TheVariants.{Break}
use Rattle.prettyless_probe.specs.Stack.{Task, make_task, nodes}
use Rattle.prettyless_step.specs.Steps.{work}
use Rattle.prettyless_printer.specs.Points.{state_at, QueueBegins, Point}
use Rattle.prettyless_printer.specs.Progress.{Inside, ChoiceNext}
use Rattle.prettyless_printer.specs.Visits.{Plain, Rise, CountsAtMost, suffix_depths}
use Rattle.prettyless_printer.specs.AtLeast.{CountsAtLeast, stack_tally, choice_tally}
use Rattle.prettyless_printer.specs.Renders.{Stopped, rest_of}

-- The aim of a run: where it began, and what it is to do.
pub record Aim : Type 0 where
  -- where it began
  pub start : Point
  -- what it lays, if it comes to its end
  pub whole : Outcome
  -- the most work that it takes
  pub limit : ℕ
  -- the tasks that it began with
  pub first : List Task
  -- those of them that it leaves alone
  pub below : List Task
  -- the line suffixes that it leaves in the queue
  pub queue : List Tree
  -- what it is to count
  pub tally : Weight → ℕ

-- That of a run of all commands. No trial is undone past its beginning, so it need not keep what its queue has.
abbrev pub run_of : Point → Aim
run_of a = record {
  start = a;
  whole = rest_of a.printer;
  limit = work a.printer.tasks (state_at a.printer);
  first = a.printer.tasks;
  below = [];
  queue = [];
  tally = stack_tally a.printer 0;
}

-- no line suffix is among the first tasks, and none was pending
abbrev pub BeganPlain : Aim → Type 0
BeganPlain r = (suffix_depths r.first ≡ 0) × ((state_at r.start.printer).pending ≡ [])

-- A run has reached a point.
pub record Path (r : Aim) (b : Point) : Type 0 where
  -- the options are the same
  pub options : b.printer.options ≡ r.start.printer.options
  -- the line suffixes that it leaves in the queue are there
  pub queue : QueueBegins r.queue b.printer
  -- the sink writes through the same reference
  pub same_lender : b.sink.lender ≡ r.start.sink.lender
  -- there is no more work than it may take, and that of the tasks below
  pub less : work b.printer.tasks (state_at b.printer) ≤ r.limit + 2 * nodes r.below
  -- where the sink's bytes are known, what was written and what is left are the whole, and the sink did not fail
  pub bytes : IfKnown r.start.sink.bytes b.sink.bytes (λ old out.
      Inside r.start.printer.options r.whole r.limit r.below old b.printer.tasks (state_at b.printer) out
      × (b.sink.failures ≡ r.start.sink.failures))
  -- no count of visits fell
  pub rise : Rise r.start.visits b.visits
  -- without line suffixes, the nodes that left allow for the visits
  pub at_most : BeganPlain r → Plain b.printer × CountsAtMost r.first b.printer.tasks r.start.visits b.visits
  -- what was laid is counted
  pub at_least : CountsAtLeast r.tally (stack_tally b.printer (length r.below)) r.start.visits b.visits

-- The same, where a choice between two branches at an indent comes next.
pub record PathToChoice (r : Aim) (i : ℕ) (x y : Tree) (b : Point) : Type 0 where
  -- the options are the same
  pub options : b.printer.options ≡ r.start.printer.options
  -- the line suffixes that it leaves in the queue are there
  pub queue : QueueBegins r.queue b.printer
  -- the sink writes through the same reference
  pub same_lender : b.sink.lender ≡ r.start.sink.lender
  -- with both branches there is less work than it may take, and that of the tasks below
  pub less : 2 * (size x + size y) + work b.printer.tasks (state_at b.printer) < r.limit + 2 * nodes r.below
  -- the tasks below are there
  pub long : length r.below ≤ length b.printer.tasks
  -- where the sink's bytes are known, what was written, the choice and what is left are the whole, and the sink did not fail
  pub bytes : IfKnown r.start.sink.bytes b.sink.bytes (λ old out.
      ChoiceNext r.start.printer.options r.whole r.limit r.below old i x y b.printer.tasks (state_at b.printer) out
      × (b.sink.failures ≡ r.start.sink.failures))
  -- no count of visits fell
  pub rise : Rise r.start.visits b.visits
  -- without line suffixes, the nodes that left allow for the visits
  pub at_most : BeganPlain r → Plain b.printer × (suffix_depth x ≡ 0) × (suffix_depth y ≡ 0)
      × CountsAtMost r.first (make_task i Break x ∷ make_task i Break y ∷ b.printer.tasks) r.start.visits b.visits
  -- what was laid is counted
  pub at_least : CountsAtLeast r.tally (choice_tally b.printer (length r.below) i x y) r.start.visits b.visits

-- A run that ended in an error.
pub record RunError {E : Type 0} (fails : E → Type 0) (r : Aim) (e : RenderError E) (b : Point) : Type 0 where
  -- the sink writes through the same reference
  pub same_lender : b.sink.lender ≡ r.start.sink.lender
  -- where the sink's bytes are known, a beginning of the whole was written, as the error says
  pub bytes : IfKnown r.start.sink.bytes b.sink.bytes (λ old new. Stopped fails r.whole old new r.start.sink.failures b.sink.failures e)
  -- no count of visits fell
  pub rise : Rise r.start.visits b.visits
  -- without line suffixes, the nodes that it began with allow for the visits
  pub at_most : BeganPlain r → CountsAtMost r.first [] r.start.visits b.visits

-- A run goes on, or ends in an error.
abbrev pub PathOrError : {A E : Type 0} → (E → Type 0) → Aim → Point → Result A (RenderError E) → Type 0
PathOrError fails r b (Ok x) = Path r b
PathOrError fails r b (Err e) = RunError fails r e b

-- A choice between two branches at an indent, from one point to another.
pub record Chooses {A E : Type 0} (i : ℕ) (x y : Tree) (a b : Point) (r : Result A (RenderError E)) : Type 0 where
  -- there is no more work than with both branches
  pub work_falls : OnOk r (work b.printer.tasks (state_at b.printer) ≤ 2 * (size x + size y) + work a.printer.tasks (state_at a.printer))
  -- each run in which it comes next goes on, or ends in an error; no document fails by it
  pub runs : (run : Aim) → PathToChoice run i x y a → PathOrError (λ _. ⊥) run b r
