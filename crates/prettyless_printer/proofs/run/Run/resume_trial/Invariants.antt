use Rattle.std.proofs.Common.{ℕ}
use Rattle.prettyless_model.specs.Tree.{Tree}
use Rattle.prettyless_probe.specs.Sums.{IsSummed}
use Rattle.prettyless_printer.specs.Points.{standing, trial_point}
use Rattle.prettyless_printer.specs.CourseOf.{ComesInTrials, around, open_waits, place_at}
use Rattle.prettyless_printer.specs.Trials.{Trial}
use Rattle.prettyless_printer.specs.Open.{Open, held_of}
use Rattle.prettyless_printer.specs.Spending.{IsPlainTrial, Spends, left_of, rule_of}
use Rattle.prettyless_printer.proofs.Costs.{left_at}
use Rattle.prettyless_printer.proofs.run.Run.resume_trial.Given as goal

abbrev pub invariant-work : goal.invariant-work
invariant-work g l =
    let f = g.N.Walk.tree in
    let start = trial_point f l.fn.self in
    let now = trial_point f l.self in
    record {
      trials : (s : Trial) (y : Tree) → Open s y (held_of f l.fn.self) start → Open s y (held_of f l.self) now;
      some : (s : Trial) × (y : Tree) × Open s y (held_of f l.self) now;
      spends : (s : Trial) (y : Tree) → Open s y (held_of f l.fn.self) start → IsPlainTrial s y →
          Spends (rule_of g.N.Walk.HAS_SUMMARIES l.limit) (left_of f l.fn.self) (left_of f l.self);
      course : (s : Trial) (y : Tree) (h : Open s y (held_of f l.fn.self) start) (refused : ℕ) →
          ComesInTrials l.fn.self.printer.options (place_at (standing f l.fn.self.printer) l.fn.self.visits.probes
          (around (open_waits s y (held_of f l.fn.self) start h) g.N.Walk.HAS_SUMMARIES refused)) g.N.Walk.HAS_SUMMARIES refused s y
          (held_of f l.self) now;
      summed : IsSummed g.N.Walk.HAS_SUMMARIES f l.self.printer.commands;
    }

abbrev pub decreases-work : goal.decreases-work
decreases-work g l = left_at (trial_point g.N.Walk.tree l.self) (held_of g.N.Walk.tree l.self)
