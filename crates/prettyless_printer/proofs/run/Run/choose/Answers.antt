use Rattle.std.proofs.Common.{ap, subst, sym}
use Rattle.prettyless_probe.specs.Stack.{trees}
use Rattle.prettyless_step.specs.declared.queue.Queue.{Queue}
use Rattle.prettyless_printer.specs.declared.run.Run.{Run}
use Rattle.prettyless_printer.specs.Points.{point_of, seen_by, standing}
use Rattle.prettyless_printer.specs.Open.{all_held}
use Rattle.prettyless_printer.specs.Spending.{Spends, left_choice, left_of, rule_of}
use Rattle.prettyless_model.specs.declared.options.RenderOptions.{RenderOptions}
use Rattle.prettyless_printer.specs.CourseOf.{ChoiceCourse, around, choice_waits, place_at}
use Rattle.prettyless_printer.specs.Runs.{station_of}
use Rattle.prettyless_printer.proofs.Courses.{refused_here}
use Rattle.prettyless_printer.proofs.OpenCourses.{part_at}
use Rattle.prettyless_printer.proofs.RunCourses.{choice_after, choice_begins}
use Rattle.prettyless_printer.proofs.Choosing.{choice_opens}
use Rattle.prettyless_printer.proofs.RunSpending.{opens_spends, spends_then_as}
use Rattle.prettyless_printer.proofs.run.Run.choose.Goals as goal

-- the trial is open
pub resume_choice-requires-clause-open : goal.resume_choice-requires-clause-open
resume_choice-requires-clause-open g c =
    let f = g.N.Walk.tree in
    let old = c.args.self.now in
    let cleared = record old { buffer = record old.buffer { text = c.clear.new.self } } in
    let choice = c.args.choice in (
      choice.indent,
      f choice.first,
      f choice.second,
      point_of f old (seen_by g.W.Render c.args.out.now),
      choice_opens cleared c.open_trial.new.self (ap (all_held f) c.requires.none) c.clear.ensures.bytes c.open_trial.ensures.others
          c.in-Ok.ensures.held c.in-Ok.ensures.begun,
    )

pub returns-in-Ok-clause-settles : goal.returns-in-Ok-clause-settles
returns-in-Ok-clause-settles g c =
    let f = g.N.Walk.tree in
    let old = c.args.self.now in
    let cleared = record old { buffer = record old.buffer { text = c.clear.new.self } } in
    let choice = c.args.choice in
    c.resume_choice.ensures.settles choice.indent (f choice.first) (f choice.second)
    (point_of f old (seen_by g.W.Render c.args.out.now))
    (choice_opens cleared c.open_trial.new.self (ap (all_held f) c.requires.none) c.clear.ensures.bytes c.open_trial.ensures.others
    c.in-Ok.ensures.held c.in-Ok.ensures.begun)

-- its trial is opened, and what is left then
pub returns-in-Ok-clause-spends : goal.returns-in-Ok-clause-spends
returns-in-Ok-clause-spends g c = λ plain.
    let f = g.N.Walk.tree in
    let old = c.args.self.now in
    let cleared = record old { buffer = record old.buffer { text = c.clear.new.self } } in
    let choice = c.args.choice in
    let none = ap (all_held f) c.requires.none in
    let before = left_choice choice.indent (f choice.first) (f choice.second) (standing f old.printer) old.visits in
    spends_then_as _ c.resume_choice.result
    (subst (λ (r : Run _). Spends (rule_of g.N.Walk.HAS_SUMMARIES c.args.limit) before (left_of f r)) (sym c.open_trial.ensures.others)
    (opens_spends none c.in-Ok.ensures.held c.in-Ok.ensures.begun (ap (λ (z : Queue _). trees f z.nodes.items) c.open_trial.ensures.queue)))
    (c.resume_choice.ensures.spends choice.indent (f choice.first) (f choice.second)
    (point_of f old (seen_by g.W.Render c.args.out.now))
    (choice_opens cleared c.open_trial.new.self none c.clear.ensures.bytes c.open_trial.ensures.others
    c.in-Ok.ensures.held c.in-Ok.ensures.begun) plain)

-- ---- Where it has come in the course of the run

pub returns-in-Ok-clause-course : goal.returns-in-Ok-clause-course
returns-in-Ok-clause-course g c = λ b refused waits.
    let f = g.N.Walk.tree in
    let has = g.N.Walk.HAS_SUMMARIES in
    let old = c.args.self.now in
    let sink = seen_by g.W.Render in
    let cleared = record old { buffer = record old.buffer { text = c.clear.new.self } } in
    let choice = c.args.choice in
    let start = point_of f old (sink c.args.out.now) in
    let opened = choice_begins (sink c.args.out.now) cleared c.open_trial.new.self (ap (all_held f) c.requires.none) c.clear.ensures.bytes
    c.open_trial.ensures.others c.in-Ok.ensures.held c.in-Ok.ensures.begun waits in
    let resumed = c.resume_choice.ensures.course choice.indent (f choice.first) (f choice.second) start opened.choice refused in
    let z = station_of f c.resume_choice.new.self (sink c.resume_choice.new.out) in
    choice_after has refused choice.indent (f choice.first) (f choice.second) start z c.resume_choice.result opened.comes
    (subst (λ (o : RenderOptions). ChoiceCourse o (place_at (standing f c.open_trial.new.self.printer) c.open_trial.new.self.visits.probes
    (around (choice_waits choice.indent (f choice.first) (f choice.second) start (station_of f c.open_trial.new.self (sink c.args.out.now))
    opened.choice) has refused)) has refused choice.indent (f choice.first) (f choice.second) start z c.resume_choice.result)
    c.in-Ok.ensures.begun.options resumed)

pub returns-in-Err-clause-course : goal.returns-in-Err-clause-course
returns-in-Err-clause-course g c = λ b refused waits.
    part_at (ap (λ (r : Run _). r.visits.probes) c.open_trial.ensures.others) (refused_here waits.comes)
