-- A document that is laid as its texts, in one turn: what holds from where the turn began to where it is.
use Rattle.std.specs.Prelude.{◌≡◌, ℕ, ◌+◌, ◌<◌, ◌≤◌, ◌&&◌, nat_le, Bool, true, false, List, [], ◌++◌, length}
use Rattle.std.specs.Prelude.{Result, Ok, Err}
use Rattle.prettyless_sink.specs.Sink.{IfKnown, rise}
use Rattle.prettyless_sink.specs.declared.error.RenderError.{RenderError}
use Rattle.prettyless_sink.specs.declared.error.RenderError.TheVariants.{Sink}
use Rattle.prettyless_probe.specs.Stack.{Task, nodes}
use Rattle.prettyless_step.specs.Steps.{work}
use Rattle.prettyless_printer.specs.Points.{QueueGrows, Point, Standing, state_at, work_at}
use Rattle.prettyless_printer.specs.Progress.{Inside}
use Rattle.prettyless_printer.specs.Turns.{ForWholes, next_size}
use Rattle.prettyless_printer.specs.Visits.{CountsAtMost, Plain, Rise, suffix_depths}
use Rattle.prettyless_printer.specs.declared.answer.TurnResult.{TurnResult}
use Rattle.prettyless_printer.specs.declared.answer.TurnResult.TheVariants.{Complete}
use Rattle.prettyless_printer.specs.AtLeast.{CountsAtLeast, stack_tally, tally_above}

-- A turn that began at one point has reached another, with tasks above the stack; a node at least was visited.
pub record Laying (a : Point) (us : List Task) (b : Point) : Type 0 where
  -- the options are the same, and the queue only grew
  pub options : b.printer.options ≡ a.printer.options
  pub grows : QueueGrows a.printer b.printer
  -- the sink writes through the same reference
  pub same_lender : b.sink.lender ≡ a.sink.lender
  -- the tasks below the next one are there
  pub long : length a.printer.tasks ≤ length b.printer.tasks + 1
  -- there is less work
  pub less : work (us ++ b.printer.tasks) (state_at b.printer) < work_at a
  -- where the sink's bytes are known, they go on in every whole that the work was inside of
  pub bytes : IfKnown a.sink.bytes b.sink.bytes (λ out new.
      ForWholes a.printer out (λ whole limit below old. Inside a.printer.options whole limit below old
      (us ++ b.printer.tasks) (state_at b.printer) new)
      × (b.sink.failures ≡ a.sink.failures))
  -- a node was visited, no count fell, and the next task's document has a node for each visit of the printer and each
  -- that is left of it
  pub least : rise a.visits.printer ≤ b.visits.printer
  pub rise : Rise a.visits b.visits
  pub most : b.visits.printer + nodes us ≤ a.visits.printer + next_size a.printer.tasks
  -- without line suffixes, the nodes that left allow for the visits
  pub at_most : Plain a.printer → ((suffix_depths (us ++ b.printer.tasks) ≡ 0) × ((state_at b.printer).pending ≡ []))
      × CountsAtMost a.printer.tasks (us ++ b.printer.tasks) a.visits b.visits
  -- what was laid is counted
  pub at_least : (n : ℕ) → n < length a.printer.tasks →
      CountsAtLeast (stack_tally a.printer n)
      (tally_above a.printer.options n (us ++ b.printer.tasks) (state_at b.printer)) a.visits b.visits

-- how a turn ends whose document was laid as its texts
abbrev pub ends_turn : {N A E : Type 0} → Result A E → Result (TurnResult N) (RenderError E)
ends_turn (Ok r) = Ok Complete
ends_turn (Err e) = Err (Sink e)

-- where a printer stands once texts were laid up to a position, if one of them was not empty
abbrev pub laid_to : Standing → Bool → ℕ → Standing
laid_to p false position = p
laid_to p true position = record p {
  column = record { position = position; indent = 0; padding = 0; fresh = false };
  within = p.within && nat_le position p.options.width;
}
