use Rattle.prettyless_printer.specs.Points.{point_at, seen_by}
use Rattle.prettyless_printer.specs.Runs.{station_of}
use Rattle.prettyless_printer.proofs.Courses.{stops_here}
use Rattle.prettyless_printer.proofs.RunCourses.{in_choice}
use Rattle.prettyless_printer.specs.Trials.{make_trial}
use Rattle.prettyless_printer.proofs.Choosing.{chooses_error, chooses_kept, chooses_other, chooses_unwritten}
use Rattle.prettyless_printer.proofs.run.Run.resume_choice.Goals as goal

-- the first branch is kept, and written
pub returns-in-Ok-clause-settles : goal.returns-in-Ok-clause-settles
returns-in-Ok-clause-settles g c = λ i x y a h.
    let ends = (rw c.in-Ok-Kept.field-0-is at c.in-Ok-Kept.ensures.ends)
    (make_trial (point_at a.printer h.before a.visits) i x) y h.trials in (
      ends.0,
      chooses_kept h.empty ends.1 h.sink c.write_gap_and_text.ensures.same_lender (rw c.as_str.ensures.value at c.in-Ok.ensures.ok),
    )

-- the sink fails at it
pub returns-in-Err-write_gap_and_text-clause-settles : goal.returns-in-Err-write_gap_and_text-clause-settles
returns-in-Err-write_gap_and_text-clause-settles g c = λ i x y a h.
    let ends = (rw c.in-Ok-Kept.field-0-is at c.in-Ok-Kept.ensures.ends) (make_trial (point_at a.printer h.before a.visits) i x) y
    h.trials in
    chooses_unwritten h.empty ends.1 h.sink c.write_gap_and_text.ensures.same_lender
    (rw c.as_str.ensures.value at c.in-Err-write_gap_and_text.ensures.err)

-- it is rejected
pub returns-in-Ok-Rejected-clause-settles : goal.returns-in-Ok-Rejected-clause-settles
returns-in-Ok-Rejected-clause-settles g c = λ i x y a h.
    let ends = (rw c.in-Ok-Rejected.field-0-is at c.in-Ok-Rejected.ensures.ends)
    (make_trial (point_at a.printer h.before a.visits) i x) y h.trials in (
      ends.0,
      chooses_other ends.1 h.sink,
    )

-- memory is refused
pub returns-in-Err-clause-settles : goal.returns-in-Err-clause-settles
returns-in-Err-clause-settles g c = λ i x y a h.
    chooses_error (c.in-Err.ensures.ends (make_trial (point_at a.printer h.before a.visits) i x) y h.trials) h.sink

-- ---- Where it has come in the course of the run

pub returns-in-Ok-clause-course : goal.returns-in-Ok-clause-course
returns-in-Ok-clause-course g c = λ i x y a h refused.
    (rw c.in-Ok-Kept.field-0-is at c.in-Ok-Kept.ensures.course) (make_trial (point_at a.printer h.before a.visits) i x) y h.trials refused

pub returns-in-Err-write_gap_and_text-clause-course : goal.returns-in-Err-write_gap_and_text-clause-course
returns-in-Err-write_gap_and_text-clause-course g c = λ i x y a h refused.
    stops_here ((rw c.in-Ok-Kept.field-0-is at c.in-Ok-Kept.ensures.course) (make_trial (point_at a.printer h.before a.visits) i x)
    y h.trials
    refused)

pub returns-in-Ok-Rejected-clause-course : goal.returns-in-Ok-Rejected-clause-course
returns-in-Ok-Rejected-clause-course g c = λ i x y a h refused.
    (rw c.in-Ok-Rejected.field-0-is at c.in-Ok-Rejected.ensures.course) (make_trial (point_at a.printer h.before a.visits) i x)
    y h.trials refused

pub returns-in-Ok-Shift-clause-course : goal.returns-in-Ok-Shift-clause-course
returns-in-Ok-Shift-clause-course g c = λ i x y a h refused.
    in_choice (station_of g.N.Walk.tree c.resume_trial.new.self (seen_by g.W.Render c.args.out.now)) h h.sink
    ((rw c.in-Ok-Shift.field-0-is at c.in-Ok-Shift.ensures.course) (make_trial (point_at a.printer h.before a.visits) i x)
    y h.trials refused)

pub returns-in-Err-clause-course : goal.returns-in-Err-clause-course
returns-in-Err-clause-course g c = λ i x y a h refused.
    c.in-Err.ensures.course (make_trial (point_at a.printer h.before a.visits) i x) y h.trials refused
