-- Where a run is.
use Rattle.std.specs.Prelude.{◌≡◌, ℕ, Bool, List, ◌++◌, drop, Option, None, Some}
use Rattle.std.specs.Borrow.{GName}
use Rattle.std.specs.String.{string_bytes}
use Rattle.prettyless_sink.specs.declared.render.Render.{Ghosts}
use Rattle.prettyless_sink.specs.declared.visits.Visits.{Visits}
use Rattle.prettyless_model.specs.declared.column.Column.{Column}
use Rattle.prettyless_model.specs.declared.options.RenderOptions.{RenderOptions}
use Rattle.prettyless_model.specs.Tree.{Tree}
use Rattle.prettyless_model.specs.Layout.{State}
use Rattle.prettyless_probe.specs.Stack.{Task, trees}
use Rattle.prettyless_step.specs.Steps.{work}
use Rattle.prettyless_step.specs.Printing.{tasks_of}
use Rattle.prettyless_step.specs.declared.printer.Printer.{Printer}
use Rattle.prettyless_printer.specs.declared.buffer.Buffer.{Buffer}
use Rattle.prettyless_printer.specs.declared.run.Run.{Run}

-- Where a printer stands, whatever the type of its nodes.
pub record Standing : Type 0 where
  pub options : RenderOptions
  pub column : Column
  -- whether, since the open trial began, nothing went past the width
  pub within : Bool
  -- what is still to be laid, the next task first
  pub tasks : List Task
  -- the line suffixes that were visited, the oldest first: those from the start on are pending
  pub queue : List Tree
  pub start : ℕ

-- where a printer of nodes stands
abbrev pub standing : {N : Type 0} → (N → Tree) → Printer N → Standing
standing f p = record {
  options = p.options;
  column = p.column;
  within = p.within;
  tasks = tasks_of f p;
  queue = trees f p.queue.nodes.items;
  start = p.queue.start;
}

-- the state between two nodes
abbrev pub state_at : Standing → State
state_at s = record { column = s.column; pending = drop s.start s.queue; within = s.within }

-- the queue begins with these line suffixes
abbrev pub QueueBegins : List Tree → Standing → Type 0
QueueBegins ds p = (more : List Tree) × (p.queue ≡ ds ++ more)

-- the queue only grows
abbrev pub QueueGrows : Standing → Standing → Type 0
QueueGrows s t = QueueBegins s.queue t

-- What is seen of a sink.
pub record Seen : Type 0 where
  -- its bytes, where they are known
  pub bytes : Option (List ℕ)
  -- how often it failed
  pub failures : ℕ
  -- the reference that it writes through, if it has one
  pub lender : Option GName

-- a sink, seen by the ghost members of its type
abbrev pub seen : {S : Type 0} → (S → Option (List ℕ)) → (S → ℕ) → (S → Option GName) → S → Seen
seen bytes failures lender out = record { bytes = bytes out; failures = failures out; lender = lender out }

abbrev pub seen_by : {S E : Type 0} → Ghosts S E → S → Seen
seen_by g out = seen g.bytes g.failures g.lender out

-- the buffer of trials as a sink
abbrev pub buffer_seen : Buffer → Seen
buffer_seen b = record { bytes = Some (string_bytes b.text); failures = b.failures; lender = None }

-- Where a run is: where its printer stands, its sink and the visits so far.
pub record Point : Type 0 where
  pub printer : Standing
  pub sink : Seen
  pub visits : Visits

-- a point of these parts
abbrev pub point_at : Standing → Seen → Visits → Point
point_at p s v = record { printer = p; sink = s; visits = v }

-- a point of a printer of nodes
abbrev pub point : {N : Type 0} → (N → Tree) → Printer N → Seen → Visits → Point
point f p s v = point_at (standing f p) s v

-- where a run of nodes is, with its sink
abbrev pub point_of : {N : Type 0} → (N → Tree) → Run N → Seen → Point
point_of f r s = point f r.printer s r.visits

-- where its trials are, whose sink is its buffer
abbrev pub trial_point : {N : Type 0} → (N → Tree) → Run N → Point
trial_point f r = point_of f r (buffer_seen r.buffer)

-- the work that a point has left
abbrev pub work_at : Point → ℕ
work_at a = work a.printer.tasks (state_at a.printer)
