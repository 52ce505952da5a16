use Rattle.std.proofs.Common.{◌<◌, ◌≤◌, ◌∙◌, [], Err, Ok, length, ap, arith}
use Rattle.std.proofs.lemmas.Result.{err_from_is_err_and}
use Rattle.prettyless_step.specs.Printing.{tasks_of}
use Rattle.prettyless_printer.specs.declared.answer.RunResult.TheVariants as run_result
use Rattle.prettyless_printer.specs.declared.answer.TurnResult.TheVariants as turn_result
use Rattle.prettyless_printer.specs.CourseOf.{around, place_at}
use Rattle.prettyless_printer.proofs.Courses.{come_same, come_then, stops_after}
use Rattle.prettyless_printer.proofs.RunCourses.{comes_at, course_forgets, error_after, error_at, fails_alone, in_choice_at, station_alone}
use Rattle.prettyless_printer.proofs.RunCourses.{station_in_choice, took_turn, turn_error, waits_after}
use Rattle.prettyless_printer.specs.Points.{point_of, seen_by, standing}
use Rattle.prettyless_printer.proofs.PathSteps.{run_begins, run_ends, run_error, goes_on, stops, path_to_choice, breaks_off}
use Rattle.prettyless_printer.proofs.PathSteps.{fails_there}
use Rattle.prettyless_printer.proofs.PathSteps.{error_anyhow}
use Rattle.prettyless_printer.specs.Open.{all_held}
use Rattle.prettyless_printer.specs.Paths.{run_of}
use Rattle.prettyless_printer.specs.Runs.{station_of}
use Rattle.prettyless_printer.specs.Spending.{left_of}
use Rattle.prettyless_printer.proofs.Shifts.{comes_alone, comes_in_choice, continues_same, none_open, path_continues}
use Rattle.prettyless_printer.proofs.Spending.{spends_all, spends_same}
use Rattle.prettyless_printer.proofs.OpenSpending.{spends_error_as}
use Rattle.prettyless_printer.proofs.Forgetting.{path_forgets, spends_forgets, work_forgets}
use Rattle.prettyless_printer.proofs.RunSpending.{none_seconds, path_spends, seconds_none, waiting_spends}
use Rattle.prettyless_printer.proofs.DueQueues.{turn_clear}
use Rattle.prettyless_printer.proofs.Paying.{pays_all, pays_error_as, pays_forgets, pays_same, pays_then}
use Rattle.prettyless_printer.proofs.run.Run.run_commands.Goals as goal

pub work-init : goal.work-init
work-init g c = record {
  path = run_begins (point_of g.N.Walk.tree c.args.self.now (seen_by g.W.Render c.args.out.now));
  none = c.requires.none;
  spends = λ plain. spends_same _ _;
  course = λ refused. come_same _ _;
  pays = λ free. pays_same _ _ free;
  clear = λ free start. start;
  summed = c.requires.summed;
}

pub work-smaller-in-Complete : goal.work-smaller-in-Complete
work-smaller-in-Complete g c =
    let turned = rw c.in-Complete.is at c.in_ok-turn.ensures.advances in
    omega (
      arith,
      work_forgets g.N.Walk.tree c.turn.new.printer c.forget_laid.new.self c.forget_laid.ensures.pending,
      turned.work_falls,
    )

pub work-smaller : goal.work-smaller
work-smaller g c =
    let turned = rw c.in-Choice.is at c.in_ok-turn.ensures.advances in
    let settled = rw c.in-Finished.is at c.in_ok-choose-in-Choice.ensures.settles in
    let forgotten = c.forget_laid-in-Finished in
    omega (
      arith,
      work_forgets g.N.Walk.tree c.choose.new.self.printer forgotten.new.self forgotten.ensures.pending,
      settled.1.work_falls,
      turned.work_falls.0,
    )

pub work-preserved-in-Complete : goal.work-preserved-in-Complete
work-preserved-in-Complete g c =
    let f = g.N.Walk.tree in
    let l : 0 < length (tasks_of f c.work.self.printer) = omega (arith, c.work-test.true, c.len.ensures) in
    let turned = rw c.in-Complete.is at c.in_ok-turn.ensures.advances in
    let visits = c.turn.new.visits in
    record {
      path = path_forgets f c.turn.new.printer c.forget_laid.new.self _ visits c.forget_laid.ensures.pending
          (goes_on f c.work.invariant.path l turned);
      spends = λ plain.
          spends_forgets f c.turn.new.printer c.forget_laid.new.self visits c.forget_laid.ensures.forgotten
          (path_spends c.work.invariant.path plain (c.work.invariant.spends plain) (rw c.in-Complete.is at c.in_ok-turn.ensures.spends));
      pays = λ free.
          let before = c.work.invariant.pays free in
          pays_forgets f c.turn.new.printer c.forget_laid.new.self visits c.forget_laid.ensures.pending
          (pays_then before ((rw c.in-Complete.is at c.in_ok-turn.ensures.pays) before.unions));
      clear = λ free start. turn_clear f c.turn.new.printer c.forget_laid.new.self c.work.self.printer.queue.start
          (rw c.in-Complete.is at c.in_ok-turn.ensures.start) (c.work.invariant.clear free start) c.forget_laid.ensures.start
          c.forget_laid.ensures.forgotten;
      none = c.work.invariant.none;
      course = λ refused. course_forgets f c.turn.new.printer c.forget_laid.new.self c.forget_laid.ensures.pending
          (come_then (c.work.invariant.course refused)
          (took_turn g.row.W-Error.Denot f g.N.Walk.HAS_SUMMARIES refused c.work.self.printer c.turn.new.printer c.work.self.visits.probes
          c.turn.new.visits.probes (Ok turn_result.Complete)
          c.work.invariant.path.options (rw c.in-Complete.is at c.in_ok-turn.ensures.course)));
      summed = c.in_ok-turn.ensures.summed;
    }

pub work-preserved : goal.work-preserved
work-preserved g c =
    let f = g.N.Walk.tree in
    let l : 0 < length (tasks_of f c.work.self.printer) = omega (arith, c.work-test.true, c.len.ensures) in
    let start = point_of f c.args.self.now (seen_by g.W.Render c.args.out.now) in
    let turned = rw c.in-Choice.is at c.in_ok-turn.ensures.advances in
    let waiting = path_to_choice f c.in-Choice.choice c.work.invariant.path l turned (omega arith) in
    let settled = rw c.in-Finished.is at c.in_ok-choose-in-Choice.ensures.settles in
    let q = c.choose.new.self in
    let forgotten = c.forget_laid-in-Finished in
    record {
      path = path_forgets f q.printer forgotten.new.self _ q.visits forgotten.ensures.pending (settled.1.runs (run_of start) waiting);
      spends = λ plain.
          spends_forgets f q.printer forgotten.new.self q.visits forgotten.ensures.forgotten
          (seconds_none f q settled.0
          (waiting_spends waiting plain
          (path_spends c.work.invariant.path plain (c.work.invariant.spends plain) (rw c.in-Choice.is at c.in_ok-turn.ensures.spends))
          c.in_ok-choose-in-Choice.ensures.spends));
      pays = λ free. absurd ((rw c.in-Choice.is at c.in_ok-turn.ensures.pays) (c.work.invariant.pays free).unions);
      clear = λ free. absurd ((rw c.in-Choice.is at c.in_ok-turn.ensures.pays) (c.work.invariant.pays free).unions);
      none = none_open f q.trials.open.items settled.0;
      course = λ refused.
          let same = turned.options ∙ c.work.invariant.path.options in
          let waits = waits_after same (c.work.invariant.course refused)
          (took_turn g.row.W-Error.Denot f g.N.Walk.HAS_SUMMARIES refused c.work.self.printer c.turn.new.printer c.work.self.visits.probes
          c.turn.new.visits.probes
          (Ok (turn_result.Choice c.in-Choice.choice)) c.work.invariant.path.options (rw c.in-Choice.is at c.in_ok-turn.ensures.course)) in
          course_forgets f q.printer forgotten.new.self forgotten.ensures.pending
          (comes_at same ((rw c.in-Finished.is at c.in_ok-choose-in-Choice.ensures.course) _ refused waits));
      summed = c.in_ok-choose-in-Choice.ensures.summed;
    }

-- it stops before a node
pub returns-in-Shift : goal.returns-in-Shift
returns-in-Shift g c =
    let f = g.N.Walk.tree in
    let sink = seen_by g.W.Render in
    let start = point_of f c.args.self.now (sink c.args.out.now) in
    let l : 0 < length (tasks_of f c.work.self.printer) = omega (arith, c.work-test.true, c.len.ensures) in
    let next = record c.work.self { printer = c.turn.new.printer; visits = c.turn.new.visits } in
    let none = ap (all_held f) c.work.invariant.none in
    record {
      works = record {
        comes = comes_alone start (station_of f next (sink c.turn.new.out)) none
            (path_continues (stops f c.work.invariant.path l (rw c.in-Shift.is at c.in_ok-turn.ensures.advances)));
        past = rw c.in-Shift.is at c.in_ok-turn.ensures.past;
      };
      spends = λ plain.
          none_seconds f next none
          (path_spends c.work.invariant.path plain (c.work.invariant.spends plain) (rw c.in-Shift.is at c.in_ok-turn.ensures.spends));
      course = λ refused.
          station_alone (station_of f next (sink c.turn.new.out)) none
          (come_then (c.work.invariant.course refused)
          (took_turn g.row.W-Error.Denot f g.N.Walk.HAS_SUMMARIES refused c.work.self.printer c.turn.new.printer
          c.work.self.visits.probes c.turn.new.visits.probes (Ok turn_result.Shift) c.work.invariant.path.options
          (rw c.in-Shift.is at c.in_ok-turn.ensures.course)));
      pays = λ free.
          let before = c.work.invariant.pays free in (
            c.work.invariant.none,
            pays_then before ((rw c.in-Shift.is at c.in_ok-turn.ensures.pays) before.unions),
            λ some. (rw c.in-Shift.is at c.in_ok-turn.ensures.start) ∙ c.work.invariant.clear free some,
          );
      summed = c.in_ok-turn.ensures.summed;
    }

-- a node fails
pub returns-in-Failed : goal.returns-in-Failed
returns-in-Failed g c =
    let f = g.N.Walk.tree in
    let fails = g.W.Render.document_errors c.turn.new.out in
    let l : 0 < length (tasks_of f c.work.self.printer) = omega (arith, c.work-test.true, c.len.ensures) in
    record {
      works = run_error fails _ (fails_there f fails c.fail_doc.result c.work.invariant.path l
          (rw c.in-Failed.is at c.in_ok-turn.ensures.advances) c.fail_doc.ensures);
      spends = λ plain. spends_all
          (path_spends c.work.invariant.path plain (c.work.invariant.spends plain) (rw c.in-Failed.is at c.in_ok-turn.ensures.spends));
      course = λ refused.
          stops_after (c.work.invariant.course refused) (fails_alone
          (took_turn g.row.W-Error.Denot f g.N.Walk.HAS_SUMMARIES refused c.work.self.printer c.turn.new.printer
          c.work.self.visits.probes c.turn.new.visits.probes (Ok turn_result.Failed) c.work.invariant.path.options
          (rw c.in-Failed.is at c.in_ok-turn.ensures.course)));
      pays = λ free.
          let before = c.work.invariant.pays free in
          pays_all (pays_then before ((rw c.in-Failed.is at c.in_ok-turn.ensures.pays) before.unions));
      summed = tt;
    }

-- a turn ends in an error
pub returns-in_err-turn-clause-works : goal.returns-in_err-turn-clause-works
returns-in_err-turn-clause-works g c =
    let residual = err_from_is_err_and c.from_residual.result c.from_residual.ensures.1 in
    rw (residual.1, residual.2)
    let f = g.N.Walk.tree in
    let fails = g.W.Render.document_errors c.turn.new.out in
    let l : 0 < length (tasks_of f c.work.self.printer) = omega (arith, c.work-test.true, c.len.ensures) in
    run_error fails c.in_err-turn.field-0.0
    (breaks_off f fails c.in_err-turn.field-0.0 c.work.invariant.path l c.in_err-turn.ensures.advances)

pub returns-in_err-turn-clause-spends : goal.returns-in_err-turn-clause-spends
returns-in_err-turn-clause-spends g c = λ plain.
    let next = record c.work.self { printer = c.turn.new.printer; visits = c.turn.new.visits } in
    spends_error_as (left_of g.N.Walk.tree next) c.from_residual.result c.from_residual.ensures.0
    (path_spends c.work.invariant.path plain (c.work.invariant.spends plain) c.in_err-turn.ensures.spends)

pub returns-in_err-turn-clause-course : goal.returns-in_err-turn-clause-course
returns-in_err-turn-clause-course g c =
    let residual = err_from_is_err_and c.from_residual.result c.from_residual.ensures.1 in
    rw (residual.1, residual.2)
    λ refused.
    let f = g.N.Walk.tree in
    let has = g.N.Walk.HAS_SUMMARIES in
    let e = c.in_err-turn.field-0.0 in
    let start = place_at (standing f c.work.self.printer) c.work.self.visits.probes (around [] has refused) in
    error_after c.turn.new.visits.probes refused e (c.work.invariant.course refused)
    (turn_error f c.args.self.now.printer.options start (around [] has refused) (standing f c.turn.new.printer) c.turn.new.visits.probes e
    (took_turn g.row.W-Error.Denot f has refused c.work.self.printer c.turn.new.printer c.work.self.visits.probes c.turn.new.visits.probes
    (Err e) c.work.invariant.path.options c.in_err-turn.ensures.course))

pub returns-in_err-turn-clause-pays : goal.returns-in_err-turn-clause-pays
returns-in_err-turn-clause-pays g c = λ free.
    let f = g.N.Walk.tree in
    let next = record c.work.self { printer = c.turn.new.printer; visits = c.turn.new.visits } in
    let before = c.work.invariant.pays free in
    pays_error_as f c.args.self.now next c.from_residual.result c.from_residual.ensures.0
    (pays_then before (c.in_err-turn.ensures.pays before.unions))

-- all is done
pub returns : goal.returns
returns g c =
    let f = g.N.Walk.tree in
    let l : length (tasks_of f c.work.self.printer) ≤ 0 = omega (arith, c.work-test.false, c.len.ensures) in
    let none = ap (all_held f) c.work.invariant.none in
    record {
      works = (none, run_ends (g.W.Render.document_errors c.work.out) run_result.Finished c.work.invariant.path l);
      spends = λ plain. none_seconds f c.work.self none (c.work.invariant.spends plain);
      course = c.work.invariant.course;
      pays = λ free. (c.work.invariant.none, c.work.invariant.pays free, c.work.invariant.clear free);
      summed = c.work.invariant.summed;
    }

-- it stops in a choice
pub returns-in-Shift-2 : goal.returns-in-Shift-2
returns-in-Shift-2 g c =
    let f = g.N.Walk.tree in
    let sink = seen_by g.W.Render in
    let start = point_of f c.args.self.now (sink c.args.out.now) in
    let l : 0 < length (tasks_of f c.work.self.printer) = omega (arith, c.work-test.true, c.len.ensures) in
    let turned = rw c.in-Choice.is at c.in_ok-turn.ensures.advances in
    let same = turned.options ∙ c.work.invariant.path.options in
    let waiting = path_to_choice f c.in-Choice.choice c.work.invariant.path l turned (omega arith) in
    let settled = rw c.in-Shift-2.is at c.in_ok-choose-in-Choice.ensures.settles in
    let there = station_of f c.choose.new.self (sink c.choose.new.out) in
    record {
      works = record { comes = comes_in_choice there (continues_same start) waiting settled.0; past = settled.1 };
      spends = λ plain.
          waiting_spends waiting plain
          (path_spends c.work.invariant.path plain (c.work.invariant.spends plain) (rw c.in-Choice.is at c.in_ok-turn.ensures.spends))
          c.in_ok-choose-in-Choice.ensures.spends;
      course = λ refused.
          let waits = waits_after same (c.work.invariant.course refused)
          (took_turn g.row.W-Error.Denot f g.N.Walk.HAS_SUMMARIES refused c.work.self.printer c.turn.new.printer c.work.self.visits.probes
          c.turn.new.visits.probes (Ok (turn_result.Choice c.in-Choice.choice)) c.work.invariant.path.options
          (rw c.in-Choice.is at c.in_ok-turn.ensures.course)) in
          station_in_choice there (in_choice_at same ((rw c.in-Shift-2.is at c.in_ok-choose-in-Choice.ensures.course) _ refused waits));
      pays = λ free. absurd ((rw c.in-Choice.is at c.in_ok-turn.ensures.pays) (c.work.invariant.pays free).unions);
      summed = c.in_ok-choose-in-Choice.ensures.summed;
    }

-- a choice ends in an error
pub returns-in_err-choose-in-Choice-clause-works : goal.returns-in_err-choose-in-Choice-clause-works
returns-in_err-choose-in-Choice-clause-works g c =
    let residual = err_from_is_err_and c.from_residual-in_err-choose-in-Choice.result c.from_residual-in_err-choose-in-Choice.ensures.1 in
    rw (residual.1, residual.2)
    let f = g.N.Walk.tree in
    let fails = g.W.Render.document_errors c.choose.new.out in
    let e = c.in_err-choose-in-Choice.field-0.0 in
    let l : 0 < length (tasks_of f c.work.self.printer) = omega (arith, c.work-test.true, c.len.ensures) in
    let waiting = path_to_choice f c.in-Choice.choice c.work.invariant.path l
    (rw c.in-Choice.is at c.in_ok-turn.ensures.advances) (omega arith) in
    run_error fails e
    (error_anyhow fails e (c.in_err-choose-in-Choice.ensures.settles.runs
    (run_of (point_of f c.args.self.now (seen_by g.W.Render c.args.out.now))) waiting))

pub returns-in_err-choose-in-Choice-clause-spends : goal.returns-in_err-choose-in-Choice-clause-spends
returns-in_err-choose-in-Choice-clause-spends g c = λ plain.
    let f = g.N.Walk.tree in
    let l : 0 < length (tasks_of f c.work.self.printer) = omega (arith, c.work-test.true, c.len.ensures) in
    let waiting = path_to_choice f c.in-Choice.choice c.work.invariant.path l
    (rw c.in-Choice.is at c.in_ok-turn.ensures.advances) (omega arith) in
    spends_error_as (left_of f c.choose.new.self) c.from_residual-in_err-choose-in-Choice.result
    c.from_residual-in_err-choose-in-Choice.ensures.0
    (waiting_spends waiting plain
    (path_spends c.work.invariant.path plain (c.work.invariant.spends plain) (rw c.in-Choice.is at c.in_ok-turn.ensures.spends))
    c.in_err-choose-in-Choice.ensures.spends)

pub returns-in_err-choose-in-Choice-clause-course : goal.returns-in_err-choose-in-Choice-clause-course
returns-in_err-choose-in-Choice-clause-course g c =
    let residual = err_from_is_err_and c.from_residual-in_err-choose-in-Choice.result c.from_residual-in_err-choose-in-Choice.ensures.1 in
    rw (residual.1, residual.2)
    λ refused.
    let f = g.N.Walk.tree in
    let e = c.in_err-choose-in-Choice.field-0.0 in
    let advanced = rw c.in-Choice.is at c.in_ok-turn.ensures.advances in
    let same = advanced.options ∙ c.work.invariant.path.options in
    let waits = waits_after same (c.work.invariant.course refused)
    (took_turn g.row.W-Error.Denot f g.N.Walk.HAS_SUMMARIES refused c.work.self.printer c.turn.new.printer c.work.self.visits.probes
    c.turn.new.visits.probes
    (Ok (turn_result.Choice c.in-Choice.choice)) c.work.invariant.path.options (rw c.in-Choice.is at c.in_ok-turn.ensures.course)) in
    error_at _ c.choose.new.self.visits.probes refused e same (c.in_err-choose-in-Choice.ensures.course _ refused waits)

pub returns-in_err-choose-in-Choice-clause-pays : goal.returns-in_err-choose-in-Choice-clause-pays
returns-in_err-choose-in-Choice-clause-pays g c = λ free.
    absurd ((rw c.in-Choice.is at c.in_ok-turn.ensures.pays) (c.work.invariant.pays free).unions)
