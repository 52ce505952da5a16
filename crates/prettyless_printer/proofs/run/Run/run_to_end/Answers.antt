use Rattle.std.proofs.Common.{◌∙◌, arith, sym}
use Rattle.std.proofs.lemmas.Result.{err_from_is_err_and}
use Rattle.prettyless_step.proofs.Queues.{length_some, length_none}
use Rattle.prettyless_printer.specs.Points.{point_of, seen_by, standing, state_at}
use Rattle.prettyless_printer.specs.Runs.{station_of}
use Rattle.prettyless_printer.specs.Spending.{left_of}
use Rattle.prettyless_printer.specs.declared.answer.RunResult.TheVariants as run_result
use Rattle.std.proofs.lemmas.List.{nil_from_length}
use Rattle.prettyless_printer.proofs.Courses.{come_same, come_then}
use Rattle.prettyless_printer.proofs.RunCourses.{comes_at, done_here, error_after, error_at, flush_comes, flush_error, station_after}
use Rattle.prettyless_printer.proofs.Standings.{pending_stands}
use Rattle.prettyless_printer.proofs.Shifts.{continues_same, continues_then, continues_to_end, none_open, stops_then, round_continues}
use Rattle.prettyless_printer.proofs.Shifts.{round_work_falls, round_stopped, work_ends, work_stopped}
use Rattle.prettyless_printer.proofs.Spending.{spends_same, spends_then}
use Rattle.prettyless_printer.proofs.OpenSpending.{spends_error_as}
use Rattle.prettyless_printer.proofs.RunSpending.{nothing_pending}
use Rattle.prettyless_printer.proofs.Paying.{pays_all, pays_error_as, pays_flushed, pays_same, pays_then}
use Rattle.prettyless_printer.proofs.run.Run.run_to_end.Goals as goal

pub rounds-init : goal.rounds-init
rounds-init g c = record {
  continues = continues_same (point_of g.N.Walk.tree c.args.self.now (seen_by g.W.Render c.args.out.now));
  none = c.requires.none;
  spends = λ plain. spends_same _ _;
  course = λ refused. come_same _ _;
  pays = λ free. pays_same _ _ free;
  clear = λ free start. start;
  summed = c.requires.summed;
}

-- the commands ended in an error
pub returns-in_err-run_commands-clause-runs : goal.returns-in_err-run_commands-clause-runs
returns-in_err-run_commands-clause-runs g c =
    let residual = err_from_is_err_and c.from_residual.result c.from_residual.ensures.1 in
    rw (residual.1, residual.2)
    let fails = g.W.Render.document_errors c.run_commands.new.out in
    continues_to_end fails _ c.rounds.invariant.continues (work_stopped fails _ c.in_err-run_commands.ensures.works)

-- they are not all laid: probes are past the limit
pub returns-in-Shift-clause-runs : goal.returns-in-Shift-clause-runs
returns-in-Shift-clause-runs g c =
    let f = g.N.Walk.tree in
    let sink = seen_by g.W.Render in
    stops_then c.args.limit (point_of f c.args.self.now (sink c.args.out.now)) (point_of f c.rounds.self (sink c.rounds.out))
    (station_of f c.run_commands.new.self (sink c.run_commands.new.out)) c.rounds.invariant.continues
    (rw c.in-Shift.is at c.in_ok-run_commands.ensures.works)

-- nothing waits
pub returns-then-not-is_pending-clause-runs : goal.returns-then-not-is_pending-clause-runs
returns-then-not-is_pending-clause-runs g c =
    let f = g.N.Walk.tree in
    let p = c.run_commands.new.self.printer in
    let fails = g.W.Render.document_errors c.run_commands.new.out in
    let none = length_none (state_at (standing f p)).pending
    (sym (pending_stands f p) ∙ sym c.is_pending.ensures ∙ c.if-not-is_pending.true) in
    continues_to_end fails _ c.rounds.invariant.continues
    (work_ends fails run_result.Finished run_result.Finished ((rw c.in-Finished.is at c.in_ok-run_commands.ensures.works).1) none)

-- what waits is laid next
pub rounds-smaller : goal.rounds-smaller
rounds-smaller g c =
    let f = g.N.Walk.tree in
    let p = c.run_commands.new.self.printer in
    let fails = g.W.Render.document_errors c.run_commands.new.out in
    let some = length_some (state_at (standing f p)).pending
    (sym (pending_stands f p) ∙ sym c.is_pending.ensures ∙ c.if-not-is_pending.false) in
    round_work_falls fails run_result.Finished tt ((rw c.in-Finished.is at c.in_ok-run_commands.ensures.works).1)
    c.in_ok-flush_end-in-Finished.ensures.flushes some

pub rounds-preserved : goal.rounds-preserved
rounds-preserved g c =
    let f = g.N.Walk.tree in
    let p = c.run_commands.new.self.printer in
    let fails = g.W.Render.document_errors c.run_commands.new.out in
    let some = length_some (state_at (standing f p)).pending
    (sym (pending_stands f p) ∙ sym c.is_pending.ensures ∙ c.if-not-is_pending.false) in
    record {
      continues = continues_then c.rounds.invariant.continues
          (round_continues fails run_result.Finished tt ((rw c.in-Finished.is at c.in_ok-run_commands.ensures.works).1)
          c.in_ok-flush_end-in-Finished.ensures.flushes some);
      none = none_open f c.run_commands.new.self.trials.open.items (rw c.in-Finished.is at c.in_ok-run_commands.ensures.works).0;
      spends = λ plain. absurd (nothing_pending fails run_result.Finished c.rounds.invariant.continues plain
          ((rw c.in-Finished.is at c.in_ok-run_commands.ensures.works).1) some);
      course = λ refused.
          let before = c.rounds.invariant.continues.options in
          let ran = (rw c.in-Finished.is at c.in_ok-run_commands.ensures.works).1 in
          let flushed = c.in_ok-flush_end-in-Finished.ensures.flushes in
          come_then (c.rounds.invariant.course refused)
          (come_then (comes_at before ((rw c.in-Finished.is at c.in_ok-run_commands.ensures.course) refused))
          (flush_comes (standing f p) (standing f c.flush_end.new.printer) c.run_commands.new.self.visits.probes g.N.Walk.HAS_SUMMARIES
          refused
          (ran.options ∙ before) ran.done
          (sym (pending_stands f p) ∙ sym c.is_pending.ensures ∙ c.if-not-is_pending.false) flushed.stack flushed.state));
      pays = λ free.
          let before = c.rounds.invariant.pays free in
          let flushes = c.in_ok-flush_end-in-Finished.ensures.flushes in
          pays_flushed (standing f p) (standing f c.flush_end.new.printer) c.run_commands.new.self.visits
          ((rw c.in-Finished.is at c.in_ok-run_commands.ensures.works).1).done flushes.stack flushes.state
          (pays_then before (c.in_ok-run_commands.ensures.pays before.unions).1);
      clear = λ free start. c.in_ok-flush_end-in-Finished.ensures.start;
      summed = c.in_ok-flush_end-in-Finished.ensures.summed;
    }

-- its gap ended in an error
pub returns-in_err-flush_end-in-Finished-clause-runs : goal.returns-in_err-flush_end-in-Finished-clause-runs
returns-in_err-flush_end-in-Finished-clause-runs g c =
    let residual = err_from_is_err_and c.from_residual-in_err-flush_end-in-Finished.result
    c.from_residual-in_err-flush_end-in-Finished.ensures.1 in
    rw (residual.1, residual.2)
    let f = g.N.Walk.tree in
    let p = c.run_commands.new.self.printer in
    let fails = g.W.Render.document_errors c.flush_end.new.out in
    let some = length_some (state_at (standing f p)).pending
    (sym (pending_stands f p) ∙ sym c.is_pending.ensures ∙ c.if-not-is_pending.false) in
    continues_to_end fails _ c.rounds.invariant.continues
    (round_stopped fails (g.W.Render.document_errors c.run_commands.new.out) run_result.Finished _
    ((rw c.in-Finished.is at c.in_ok-run_commands.ensures.works).1) c.in_err-flush_end-in-Finished.ensures.flushes some)

-- what is left where it ends
pub returns-in_err-run_commands-clause-spends : goal.returns-in_err-run_commands-clause-spends
returns-in_err-run_commands-clause-spends g c = λ plain.
    spends_error_as (left_of g.N.Walk.tree c.run_commands.new.self) c.from_residual.result c.from_residual.ensures.0
    (spends_then (c.rounds.invariant.spends plain)
    (c.in_err-run_commands.ensures.spends (c.rounds.invariant.continues.at_most plain).0))

pub returns-in-Shift-clause-spends : goal.returns-in-Shift-clause-spends
returns-in-Shift-clause-spends g c = λ plain. spends_then (c.rounds.invariant.spends plain)
    (c.in_ok-run_commands.ensures.spends (c.rounds.invariant.continues.at_most plain).0)

pub returns-then-not-is_pending-clause-spends : goal.returns-then-not-is_pending-clause-spends
returns-then-not-is_pending-clause-spends g c = λ plain. spends_then (c.rounds.invariant.spends plain)
    (c.in_ok-run_commands.ensures.spends (c.rounds.invariant.continues.at_most plain).0)

pub returns-in_err-flush_end-in-Finished-clause-spends : goal.returns-in_err-flush_end-in-Finished-clause-spends
returns-in_err-flush_end-in-Finished-clause-spends g c = λ plain.
    let f = g.N.Walk.tree in
    let p = c.run_commands.new.self.printer in
    let fails = g.W.Render.document_errors c.run_commands.new.out in
    let some = length_some (state_at (standing f p)).pending
    (sym (pending_stands f p) ∙ sym c.is_pending.ensures ∙ c.if-not-is_pending.false) in
    absurd (nothing_pending fails run_result.Finished c.rounds.invariant.continues plain
    ((rw c.in-Finished.is at c.in_ok-run_commands.ensures.works).1) some)

-- ---- Where it has come in its course

pub returns-in_err-run_commands-clause-course : goal.returns-in_err-run_commands-clause-course
returns-in_err-run_commands-clause-course g c =
    let residual = err_from_is_err_and c.from_residual.result c.from_residual.ensures.1 in
    rw (residual.1, residual.2)
    λ refused.
    let e = c.in_err-run_commands.field-0.0 in
    let probes = c.run_commands.new.self.visits.probes in
    error_after probes refused e (c.rounds.invariant.course refused)
    (error_at _ probes refused e c.rounds.invariant.continues.options (c.in_err-run_commands.ensures.course refused))

pub returns-in-Shift-clause-course : goal.returns-in-Shift-clause-course
returns-in-Shift-clause-course g c = λ refused.
    station_after (station_of g.N.Walk.tree c.run_commands.new.self (seen_by g.W.Render c.run_commands.new.out))
    c.rounds.invariant.continues.options
    (c.rounds.invariant.course refused) ((rw c.in-Shift.is at c.in_ok-run_commands.ensures.course) refused)

pub returns-then-not-is_pending-clause-course : goal.returns-then-not-is_pending-clause-course
returns-then-not-is_pending-clause-course g c = λ refused.
    let f = g.N.Walk.tree in
    let p = c.run_commands.new.self.printer in
    let before = c.rounds.invariant.continues.options in
    let ran = (rw c.in-Finished.is at c.in_ok-run_commands.ensures.works).1 in
    let none = length_none (state_at (standing f p)).pending
    (sym (pending_stands f p) ∙ sym c.is_pending.ensures ∙ c.if-not-is_pending.true) in
    done_here (standing f p) c.run_commands.new.self.visits.probes g.N.Walk.HAS_SUMMARIES refused
    (come_then (c.rounds.invariant.course refused)
    (comes_at before ((rw c.in-Finished.is at c.in_ok-run_commands.ensures.course) refused)))
    ran.done (nil_from_length (state_at (standing f p)).pending (omega (arith, none)))

pub returns-in_err-flush_end-in-Finished-clause-course : goal.returns-in_err-flush_end-in-Finished-clause-course
returns-in_err-flush_end-in-Finished-clause-course g c =
    let residual = err_from_is_err_and c.from_residual-in_err-flush_end-in-Finished.result
    c.from_residual-in_err-flush_end-in-Finished.ensures.1 in
    rw (residual.1, residual.2)
    λ refused.
    flush_error (Unit {0}) c.in_err-flush_end-in-Finished.field-0.0 c.in_err-flush_end-in-Finished.ensures.none
    (come_then (c.rounds.invariant.course refused)
    (comes_at c.rounds.invariant.continues.options ((rw c.in-Finished.is at c.in_ok-run_commands.ensures.course) refused)))

-- without unions
pub returns-in_err-run_commands-clause-pays : goal.returns-in_err-run_commands-clause-pays
returns-in_err-run_commands-clause-pays g c = λ free.
    let before = c.rounds.invariant.pays free in
    pays_error_as g.N.Walk.tree c.args.self.now c.run_commands.new.self c.from_residual.result c.from_residual.ensures.0
    (pays_then before (c.in_err-run_commands.ensures.pays before.unions))

pub returns-in-Shift-clause-pays : goal.returns-in-Shift-clause-pays
returns-in-Shift-clause-pays g c = λ free.
    let before = c.rounds.invariant.pays free in
    let after = c.in_ok-run_commands.ensures.pays before.unions in
    (after.0, pays_then before after.1, λ start. after.2 (c.rounds.invariant.clear free start))

pub returns-then-not-is_pending-clause-pays : goal.returns-then-not-is_pending-clause-pays
returns-then-not-is_pending-clause-pays g c = λ free.
    let before = c.rounds.invariant.pays free in
    let after = c.in_ok-run_commands.ensures.pays before.unions in
    (after.0, pays_then before after.1, λ start. after.2 (c.rounds.invariant.clear free start))

pub returns-in_err-flush_end-in-Finished-clause-pays : goal.returns-in_err-flush_end-in-Finished-clause-pays
returns-in_err-flush_end-in-Finished-clause-pays g c = λ free.
    let before = c.rounds.invariant.pays free in
    pays_error_as g.N.Walk.tree c.args.self.now (record c.run_commands.new.self { printer = c.flush_end.new.printer })
    c.from_residual-in_err-flush_end-in-Finished.result
    c.from_residual-in_err-flush_end-in-Finished.ensures.0
    (pays_all (pays_then before (c.in_ok-run_commands.ensures.pays before.unions).1))
