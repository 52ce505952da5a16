use Rattle.std.proofs.Common.{List, ap, subst, sym, arith, length}
use Rattle.std.proofs.lemmas.List.{nil_from_length}
use Rattle.std.proofs.lemmas.Result.{err_from_is_err_and}
use Rattle.prettyless_printer.specs.Course.{Waiting}
use Rattle.prettyless_printer.specs.CourseOf.{ComesAlone, ComesInChoice, EndCourseOrStop, ErrorCourse, around, place_at}
use Rattle.prettyless_printer.proofs.RunCourses.{end_then, resumed_options, station_in_choice, waits_alone, waits_in_choice}
use Rattle.prettyless_printer.specs.Points.{point_of, seen_by, standing}
use Rattle.prettyless_printer.specs.Open.{all_held, held_of}
use Rattle.prettyless_printer.specs.Runs.{station_of}
use Rattle.prettyless_printer.specs.Spending.{left_of}
use Rattle.prettyless_printer.proofs.Shifts.{came_alone, came_in_choice, choice_continues, choice_stopped, comes_in_choice, none_open}
use Rattle.prettyless_printer.proofs.Shifts.{runs_then, some_open}
use Rattle.prettyless_printer.proofs.OpenSpending.{spends_error_as}
use Rattle.prettyless_printer.proofs.RunSpending.{came_plain, seconds_none, spends_then_as}
use Rattle.prettyless_printer.proofs.run.Run.resume.Goals as goal

-- no trial is open
pub returns-then-is_empty-clause-runs : goal.returns-then-is_empty-clause-runs
returns-then-is_empty-clause-runs g c = λ a h.
    let f = g.N.Walk.tree in
    let sink = seen_by g.W.Render in
    let fails = g.W.Render.document_errors c.run_to_end.new.out in
    let old = c.args.self.now in
    let none = ap (all_held f) (nil_from_length old.trials.open.items (c.is_empty.ensures.none c.if-is_empty.true)) in
    runs_then fails c.args.limit a (point_of f old (sink c.args.out.now))
    (station_of f c.run_to_end.new.self (sink c.run_to_end.new.out)) c.run_to_end.result
    (came_alone a (station_of f old (sink c.args.out.now)) none h) c.run_to_end.ensures.runs

-- some are, in a choice
pub resume_choice-requires-clause-open : goal.resume_choice-requires-clause-open
resume_choice-requires-clause-open g c =
    let f = g.N.Walk.tree in
    let old = c.args.self.now in
    let some = some_open f old.trials.open.items (c.is_empty.ensures.some c.if-is_empty.false) in
    let came = came_in_choice c.requires.comes.0 (station_of f old (seen_by g.W.Render c.args.out.now)) some c.requires.comes.1 in
    (came.indent, came.first, came.second, came.at, came.choice)

-- it ended in an error
pub returns-in_err-resume_choice-clause-runs : goal.returns-in_err-resume_choice-clause-runs
returns-in_err-resume_choice-clause-runs g c =
    let residual = err_from_is_err_and c.from_residual.result c.from_residual.ensures.1 in
    rw (residual.1, residual.2)
    λ a h.
    let f = g.N.Walk.tree in
    let old = c.args.self.now in
    let fails = g.W.Render.document_errors c.resume_choice.new.out in
    let some = some_open f old.trials.open.items (c.is_empty.ensures.some c.if-is_empty.false) in
    let came = came_in_choice a (station_of f old (seen_by g.W.Render c.args.out.now)) some h in
    choice_stopped fails came.indent came.first came.second c.in_err-resume_choice.field-0.0 came.continues came.waiting
    (c.in_err-resume_choice.ensures.settles came.indent came.first came.second came.at came.choice)

-- the choice is made
pub run_to_end-requires-in-Finished-clause-none : goal.run_to_end-requires-in-Finished-clause-none
run_to_end-requires-in-Finished-clause-none g c =
    let f = g.N.Walk.tree in
    let old = c.args.self.now in
    let some = some_open f old.trials.open.items (c.is_empty.ensures.some c.if-is_empty.false) in
    let came = came_in_choice c.requires.comes.0 (station_of f old (seen_by g.W.Render c.args.out.now)) some c.requires.comes.1 in
    none_open f c.resume_choice.new.self.trials.open.items
    ((rw c.in-Finished.is at c.in_ok-resume_choice.ensures.settles) came.indent came.first came.second came.at came.choice).0

pub returns-in-Finished-clause-runs : goal.returns-in-Finished-clause-runs
returns-in-Finished-clause-runs g c = λ a h.
    let f = g.N.Walk.tree in
    let old = c.args.self.now in
    let sink = seen_by g.W.Render in
    let fails = g.W.Render.document_errors c.run_to_end-in-Finished.new.out in
    let some = some_open f old.trials.open.items (c.is_empty.ensures.some c.if-is_empty.false) in
    let came = came_in_choice a (station_of f old (sink c.args.out.now)) some h in
    let settled = (rw c.in-Finished.is at c.in_ok-resume_choice.ensures.settles) came.indent came.first came.second came.at came.choice in
    runs_then fails c.args.limit a (point_of f c.resume_choice.new.self (sink c.resume_choice.new.out))
    (station_of f c.run_to_end-in-Finished.new.self (sink c.run_to_end-in-Finished.new.out)) c.run_to_end-in-Finished.result
    (choice_continues came.indent came.first came.second came.continues came.waiting settled.1) c.run_to_end-in-Finished.ensures.runs

-- it stops in the choice again
pub returns-in-Shift-clause-runs : goal.returns-in-Shift-clause-runs
returns-in-Shift-clause-runs g c = λ a h.
    let f = g.N.Walk.tree in
    let old = c.args.self.now in
    let sink = seen_by g.W.Render in
    let some = some_open f old.trials.open.items (c.is_empty.ensures.some c.if-is_empty.false) in
    let came = came_in_choice a (station_of f old (sink c.args.out.now)) some h in
    let settled = (rw c.in-Shift.is at c.in_ok-resume_choice.ensures.settles) came.indent came.first came.second came.at came.choice in
    record {
      comes = comes_in_choice (station_of f c.resume_choice.new.self (sink c.resume_choice.new.out)) came.continues came.waiting settled.0;
      past = settled.1;
    }

-- what is left where it ends
pub returns-in_err-resume_choice-clause-spends : goal.returns-in_err-resume_choice-clause-spends
returns-in_err-resume_choice-clause-spends g c = λ a h plain.
    let f = g.N.Walk.tree in
    let old = c.args.self.now in
    let some = some_open f old.trials.open.items (c.is_empty.ensures.some c.if-is_empty.false) in
    let came = came_in_choice a (station_of f old (seen_by g.W.Render c.args.out.now)) some h in
    spends_error_as (left_of f c.resume_choice.new.self) c.from_residual.result c.from_residual.ensures.0
    (c.in_err-resume_choice.ensures.spends came.indent came.first came.second came.at came.choice (came_plain came plain))

pub returns-in-Shift-clause-spends : goal.returns-in-Shift-clause-spends
returns-in-Shift-clause-spends g c = λ a h plain.
    let f = g.N.Walk.tree in
    let old = c.args.self.now in
    let some = some_open f old.trials.open.items (c.is_empty.ensures.some c.if-is_empty.false) in
    let came = came_in_choice a (station_of f old (seen_by g.W.Render c.args.out.now)) some h in
    c.in_ok-resume_choice.ensures.spends came.indent came.first came.second came.at came.choice (came_plain came plain)

pub returns-in-Finished-clause-spends : goal.returns-in-Finished-clause-spends
returns-in-Finished-clause-spends g c = λ a h plain.
    let f = g.N.Walk.tree in
    let old = c.args.self.now in
    let some = some_open f old.trials.open.items (c.is_empty.ensures.some c.if-is_empty.false) in
    let came = came_in_choice a (station_of f old (seen_by g.W.Render c.args.out.now)) some h in
    let settled = (rw c.in-Finished.is at c.in_ok-resume_choice.ensures.settles) came.indent came.first came.second came.at came.choice in
    let continues = choice_continues came.indent came.first came.second came.continues came.waiting settled.1 in
    spends_then_as _ c.run_to_end-in-Finished.result
    (seconds_none f c.resume_choice.new.self settled.0
    (c.in_ok-resume_choice.ensures.spends came.indent came.first came.second came.at came.choice (came_plain came plain)))
    (c.run_to_end-in-Finished.ensures.spends (continues.at_most plain).0)

-- ---- Where it has come in its course

pub returns-then-is_empty-clause-course : goal.returns-then-is_empty-clause-course
returns-then-is_empty-clause-course g c = λ ws refused are.
    let f = g.N.Walk.tree in
    let old = c.args.self.now in
    let sink = seen_by g.W.Render in
    let none = ap (all_held f) (nil_from_length old.trials.open.items (c.is_empty.ensures.none c.if-is_empty.true)) in
    let alone = waits_alone (held_of f old) (station_of f old (sink c.args.out.now)) ws none are in
    subst (λ (v : List Waiting). EndCourseOrStop old.printer.options
    (place_at (standing f old.printer) old.visits.probes (around v g.N.Walk.HAS_SUMMARIES refused)) g.N.Walk.HAS_SUMMARIES refused
    (station_of f c.run_to_end.new.self (sink c.run_to_end.new.out)) c.run_to_end.result) (sym alone) (c.run_to_end.ensures.course refused)

pub returns-in_err-resume_choice-clause-course : goal.returns-in_err-resume_choice-clause-course
returns-in_err-resume_choice-clause-course g c =
    let residual = err_from_is_err_and c.from_residual.result c.from_residual.ensures.1 in
    rw (residual.1, residual.2)
    λ ws refused are.
    let f = g.N.Walk.tree in
    let old = c.args.self.now in
    let sink = seen_by g.W.Render in
    let some = some_open f old.trials.open.items (c.is_empty.ensures.some c.if-is_empty.false) in
    let came = waits_in_choice (held_of f old) (station_of f old (sink c.args.out.now)) ws some are in
    subst (λ (v : List Waiting). ErrorCourse old.printer.options
    (place_at (standing f old.printer) old.visits.probes (around v g.N.Walk.HAS_SUMMARIES refused))
    c.resume_choice.new.self.visits.probes refused c.in_err-resume_choice.field-0.0) (sym came.are)
    (c.in_err-resume_choice.ensures.course came.indent came.first came.second came.start came.choice refused)

pub returns-in-Finished-clause-course : goal.returns-in-Finished-clause-course
returns-in-Finished-clause-course g c = λ ws refused are.
    let f = g.N.Walk.tree in
    let old = c.args.self.now in
    let sink = seen_by g.W.Render in
    let some = some_open f old.trials.open.items (c.is_empty.ensures.some c.if-is_empty.false) in
    let came = waits_in_choice (held_of f old) (station_of f old (sink c.args.out.now)) ws some are in
    let reached = came_in_choice c.requires.comes.0 (station_of f old (sink c.args.out.now)) some c.requires.comes.1 in
    let z = station_of f c.run_to_end-in-Finished.new.self (sink c.run_to_end-in-Finished.new.out) in
    let chose = (rw c.in-Finished.is at c.in_ok-resume_choice.ensures.course) came.indent came.first came.second came.start came.choice
    refused in
    let settled = (rw c.in-Finished.is at c.in_ok-resume_choice.ensures.settles) reached.indent reached.first reached.second reached.at
    reached.choice in
    end_then g.N.Walk.HAS_SUMMARIES refused z c.run_to_end-in-Finished.result
    (resumed_options (station_of f old (sink c.args.out.now)) reached settled.1)
    (subst (λ (v : List Waiting). ComesAlone old.printer.options
    (place_at (standing f old.printer) old.visits.probes (around v g.N.Walk.HAS_SUMMARIES refused)) g.N.Walk.HAS_SUMMARIES refused
    (station_of f c.resume_choice.new.self (sink c.resume_choice.new.out))) (sym came.are) chose)
    (c.run_to_end-in-Finished.ensures.course refused)

pub returns-in-Shift-clause-course : goal.returns-in-Shift-clause-course
returns-in-Shift-clause-course g c = λ ws refused are.
    let f = g.N.Walk.tree in
    let old = c.args.self.now in
    let sink = seen_by g.W.Render in
    let some = some_open f old.trials.open.items (c.is_empty.ensures.some c.if-is_empty.false) in
    let came = waits_in_choice (held_of f old) (station_of f old (sink c.args.out.now)) ws some are in
    station_in_choice (station_of f c.resume_choice.new.self (sink c.resume_choice.new.out))
    (subst (λ (v : List Waiting). ComesInChoice old.printer.options
    (place_at (standing f old.printer) old.visits.probes (around v g.N.Walk.HAS_SUMMARIES refused)) g.N.Walk.HAS_SUMMARIES refused
    came.indent came.first came.second came.start (station_of f c.resume_choice.new.self (sink c.resume_choice.new.out))) (sym came.are)
    ((rw c.in-Shift.is at c.in_ok-resume_choice.ensures.course) came.indent came.first came.second came.start came.choice refused))

-- without open trials no choice is resumed
pub returns-in_err-resume_choice-clause-pays : goal.returns-in_err-resume_choice-clause-pays
returns-in_err-resume_choice-clause-pays g c = λ none free.
    absurd (omega (arith, c.is_empty.ensures.some c.if-is_empty.false, ap length none))

pub returns-in-Shift-clause-pays : goal.returns-in-Shift-clause-pays
returns-in-Shift-clause-pays g c = λ none free.
    absurd (omega (arith, c.is_empty.ensures.some c.if-is_empty.false, ap length none))

pub returns-in-Finished-clause-pays : goal.returns-in-Finished-clause-pays
returns-in-Finished-clause-pays g c = λ none free.
    absurd (omega (arith, c.is_empty.ensures.some c.if-is_empty.false, ap length none))
