use Rattle.std.proofs.Common.{◌≡◌, ℕ, ◌-◌, ◌^◌, ◌≤◌, ◌<◌, []}
use Rattle.prettyless_probe.specs.Stack.{nodes}
use Rattle.prettyless_step.specs.Printing.{tasks_of}
use Rattle.prettyless_probe.specs.Sums.{IsSummed}
use Rattle.prettyless_printer.specs.Points.{point_of, seen_by, standing}
use Rattle.prettyless_printer.specs.Runs.{RunReaches, station_of}
use Rattle.prettyless_printer.specs.CourseOf.{ComesToStation, around, place_at, refused_after}
use Rattle.prettyless_printer.specs.ShiftPolicy.{probe_limit}
use Rattle.prettyless_printer.specs.Linear.{IsLinearStart}
use Rattle.prettyless_printer.specs.Due.{due_of, unions_due}
use Rattle.prettyless_printer.proofs.DueRounds.{DueRound}
use Rattle.prettyless_printer.proofs.ShiftSpending.{Round}
use Rattle.prettyless_printer.proofs.run.Run.run_with_shift.Given as goal

abbrev pub invariant-rounds : goal.invariant-rounds
invariant-rounds g l =
    let f = g.N.Walk.tree in
    let sink = seen_by g.W.Render in
    let n = nodes (tasks_of f l.fn.self.printer) in
    record {
      comes : RunReaches (point_of f l.fn.self (sink l.fn.out)) (station_of f l.self (sink l.out));
      low : l.self.visits.probes ≤ probe_limit l.policy l.self.visits;
      start : l.policy.start ≡ l.fn.self.visits;
      course : (before : ℕ)
          → ComesToStation l.fn.self.printer.options
          (place_at (standing f l.fn.self.printer) l.fn.self.visits.probes
          (around [] g.N.Walk.HAS_SUMMARIES (refused_after before l.fn.refused)))
          g.N.Walk.HAS_SUMMARIES (refused_after before l.refused) (station_of f l.self (sink l.out));
      rises : l.fn.refused ≤ l.refused;
      round : IsLinearStart (standing f l.fn.self.printer) → l.refused ≡ 0 → Round f n l.room l.fn.self.visits l.policy l.self;
      first : IsLinearStart (standing f l.fn.self.printer) → l.refused ≡ 0 → 0 < l.fn.room_at_first → n ≤ l.fn.room_at_first
          → (l.room ≡ l.fn.room_at_first) × (l.self ≡ l.fn.self);
      pays : unions_due (due_of f l.fn.self) ≡ 0 → l.fn.self.printer.queue.start ≡ 0
          → DueRound f l.fn.self l.self l.refused l.room l.policy;
      summed : IsSummed g.N.Walk.HAS_SUMMARIES f l.self.printer.commands;
    }

-- each run that stops has visited more nodes by probes
abbrev pub decreases-rounds : goal.decreases-rounds
decreases-rounds g l = 2 ^ 64 - l.self.visits.probes
