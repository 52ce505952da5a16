use Rattle.std.proofs.Common.{◌≡◌, [], ℕ}
use Rattle.prettyless_step.specs.Printing.{tasks_of}
use Rattle.prettyless_step.specs.Steps.{work}
use Rattle.prettyless_probe.specs.Sums.{IsSummed}
use Rattle.prettyless_printer.specs.Points.{point_of, seen_by, standing, state_at}
use Rattle.prettyless_printer.specs.Visits.{Plain}
use Rattle.prettyless_printer.specs.Spending.{Spends, left_alone, rule_of}
use Rattle.prettyless_printer.specs.Course.{Comes}
use Rattle.prettyless_printer.specs.CourseOf.{around, place_at}
use Rattle.prettyless_printer.specs.Due.{Pays, due_of, unions_due, StaysClear}
use Rattle.prettyless_printer.specs.Renders.{Continues}
use Rattle.prettyless_printer.proofs.run.Run.run_to_end.Given as goal

abbrev pub invariant-rounds : goal.invariant-rounds
invariant-rounds g l =
    let f = g.N.Walk.tree in
    let sink = seen_by g.W.Render in
    record {
      continues : Continues (point_of f l.fn.self (sink l.fn.out)) (point_of f l.self (sink l.out));
      none : l.self.trials.open.items ≡ [];
      spends : Plain (standing f l.fn.self.printer) →
          Spends (rule_of g.N.Walk.HAS_SUMMARIES l.limit) (left_alone f l.fn.self) (left_alone f l.self);
      course : (refused : ℕ) → Comes l.fn.self.printer.options
          (place_at (standing f l.fn.self.printer) l.fn.self.visits.probes (around [] g.N.Walk.HAS_SUMMARIES refused))
          (place_at (standing f l.self.printer) l.self.visits.probes (around [] g.N.Walk.HAS_SUMMARIES refused));
      pays : unions_due (due_of f l.fn.self) ≡ 0 → Pays (rule_of g.N.Walk.HAS_SUMMARIES l.limit) (due_of f l.fn.self) (due_of f l.self);
      clear : unions_due (due_of f l.fn.self) ≡ 0 → StaysClear l.fn.self l.self;
      summed : IsSummed g.N.Walk.HAS_SUMMARIES f l.self.printer.commands;
    }

abbrev pub decreases-rounds : goal.decreases-rounds
decreases-rounds g l = work (tasks_of g.N.Walk.tree l.self.printer) (state_at (standing g.N.Walk.tree l.self.printer))
