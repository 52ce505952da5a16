use Rattle.std.proofs.Common.{◌≡◌, [], ◌∷◌}
use Rattle.prettyless_probe.specs.Stack.{make_task}
use Rattle.prettyless_step.specs.Steps.{work}
use Rattle.prettyless_probe.specs.Sums.{IsSummed}
use Rattle.prettyless_step.specs.Printing.{state_of, tasks_of}
use Rattle.prettyless_printer.specs.Points.{point, seen, standing, state_at}
use Rattle.prettyless_printer.specs.Course.{Around}
use Rattle.prettyless_printer.specs.CourseOf.{TrialGoesOn, place_at}
use Rattle.prettyless_printer.specs.Visits.{Plain, visited_more}
use Rattle.prettyless_printer.specs.Spending.{Spends, left, rule_of}
use Rattle.prettyless_printer.proofs.Courses.{InCourse}
use Rattle.prettyless_printer.specs.Due.{Pays, due, unions_due}
use Rattle.prettyless_printer.proofs.Descends.{InHand}
use Rattle.prettyless_printer.proofs.Paying.{due_with}
use Rattle.prettyless_printer.proofs.Spending.{left_with}
use Rattle.prettyless_printer.proofs.turn.turn.Given as goal

abbrev pub invariant-down : goal.invariant-down
invariant-down g l =
    let f = g.N.Walk.tree in
    let sink = seen g.W.Render.bytes g.W.Render.failures g.W.Render.lender in
    record {
      hand : InHand (point f l.fn.printer (sink l.fn.out) l.fn.visits) (make_task l.indent l.mode (f l.node))
          (point f l.printer (sink l.out) (visited_more l.count l.visits));
      summed : IsSummed g.N.Walk.HAS_SUMMARIES f l.printer.commands;
      spends : Plain (standing f l.fn.printer) → Spends (rule_of g.N.Walk.HAS_SUMMARIES l.limit)
          (left (standing f l.fn.printer) [] l.fn.visits)
          (left_with (make_task l.indent l.mode (f l.node)) (standing f l.printer) (visited_more l.count l.visits));
      course : (u : Around) → u.has ≡ g.N.Walk.HAS_SUMMARIES
          → TrialGoesOn u (tasks_of f l.fn.printer) (state_at (standing f l.fn.printer))
          → InCourse l.fn.printer.options (place_at (standing f l.fn.printer) l.fn.visits.probes u) u
          (make_task l.indent l.mode (f l.node)) (standing f l.printer) l.visits.probes;
      pays : unions_due (due (standing f l.fn.printer) l.fn.visits) ≡ 0 → Pays (rule_of g.N.Walk.HAS_SUMMARIES l.limit)
          (due (standing f l.fn.printer) l.fn.visits)
          (due_with (make_task l.indent l.mode (f l.node)) (standing f l.printer) (visited_more l.count l.visits));
      start : l.printer.queue.start ≡ l.fn.printer.queue.start;
    }

abbrev pub decreases-down : goal.decreases-down
decreases-down g l =
    let f = g.N.Walk.tree in
    work (make_task l.indent l.mode (f l.node) ∷ tasks_of f l.printer) (state_of f l.printer)
