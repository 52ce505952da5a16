use Rattle.std.proofs.Common.{◌≡◌, ◌≤◌, ◌-◌, ◌^◌, ◌∙◌, ℕ, [], true, ap, arith, refl, subst, sym}
use Rattle.std.proofs.lemmas.Result.{err_from_is_err_and}
use Rattle.prettyless_probe.specs.Sums.{IsSummed}
use Rattle.prettyless_printer.specs.declared.run.Run.{Run}
use Rattle.prettyless_printer.specs.Points.{point_of, seen_by, standing}
use Rattle.prettyless_printer.specs.Open.{all_held, held_of}
use Rattle.prettyless_printer.specs.declared.answer.RunResult.TheVariants as run_result
use Rattle.prettyless_printer.specs.declared.shift_policy.ShiftPolicy.{ShiftPolicy}
use Rattle.prettyless_printer.specs.ShiftPolicy.{probe_limit}
use Rattle.prettyless_printer.specs.Spending.{Spends, left_of, none_left, rule_of}
use Rattle.prettyless_printer.proofs.Shifts.{error_anyhow, done_anyhow}
use Rattle.prettyless_printer.specs.CourseOf.{EndCourse, around, place_at, refused_after}
use Rattle.prettyless_printer.specs.Runs.{station_of}
use Rattle.prettyless_printer.proofs.Courses.{come_same, stops_after}
use Rattle.prettyless_printer.proofs.RunCourses.{error_after, error_at, reaches_options, station_alone, station_ends, station_refuses}
use Rattle.prettyless_printer.proofs.RunCourses.{station_still, station_stops, stops_at_options}
use Rattle.prettyless_printer.proofs.Shifted.{comes_first, comes_still}
use Rattle.prettyless_printer.proofs.ShiftSpending.{all_over, always_room, goes_on_without, next_within}
use Rattle.prettyless_printer.proofs.ShiftSpending.{within_few, within_over, within_start}
use Rattle.prettyless_printer.proofs.RunSpending.{from_none}
use Rattle.prettyless_printer.proofs.DueRounds.{DueNoTable, round_begins, round_done, round_over, round_stops, still_none, still_unions}
use Rattle.prettyless_printer.specs.Due.{due_of, nothing_due}
use Rattle.prettyless_printer.proofs.run.Run.run_with_shift.Goals as goal

pub rounds-init : goal.rounds-init
rounds-init g c =
    let f = g.N.Walk.tree in
    let old = c.args.self.now in
    let first = c.new-policy.ensures.first in
    let start = ap (λ (x : ShiftPolicy). x.start) first in
    record {
      comes = comes_first f old (seen_by g.W.Render c.args.out.now) c.requires.none;
      low = c.new-policy.ensures.within;
      start = start;
      course = λ before.
          station_alone (station_of f old (seen_by g.W.Render c.args.out.now)) (ap (all_held f) c.requires.none) (come_same _ _);
      rises = omega arith;
      round = λ linear none. record {
        within = within_start (standing f old.printer) (held_of f old) old.visits (ap (all_held f) c.requires.none) linear;
        next = omega (arith, ap (λ (x : ShiftPolicy). x.next_try) first);
        start = start;
      };
      first = λ linear none some small. (refl, refl);
      pays = λ free clear. round_begins f old _ _ _ c.requires.none clear free first;
      summed = c.requires.summed;
    }

pub try_shift-requires : goal.try_shift-requires
try_shift-requires g c =
    record { comes = (point_of g.N.Walk.tree c.args.self.now (seen_by g.W.Render c.args.out.now), c.rounds.invariant.comes) }

-- it goes on over a table to the end
pub returns-in-Some-clause-ends : goal.returns-in-Some-clause-ends
returns-in-Some-clause-ends g c =
    let start = point_of g.N.Walk.tree c.args.self.now (seen_by g.W.Render c.args.out.now) in
    (c.in-Some.ensures.ended start c.rounds.invariant.comes).ends

pub returns-in-Some-clause-few : goal.returns-in-Some-clause-few
returns-in-Some-clause-few g c = λ linear none.
    let start = point_of g.N.Walk.tree c.args.self.now (seen_by g.W.Render c.args.out.now) in
    within_over (c.rounds.invariant.round linear (omega (arith, none, c.try_shift.ensures.rises))).within
    ((c.in-Some.ensures.ended start c.rounds.invariant.comes).spends linear.plain) linear.size

-- from the first node on
pub returns-in-Some-clause-twice : goal.returns-in-Some-clause-twice
returns-in-Some-clause-twice g c = λ linear none some small.
    let f = g.N.Walk.tree in
    let old = c.args.self.now in
    let first = c.rounds.invariant.first linear (omega (arith, none, c.try_shift.ensures.rises)) some small in
    all_over linear
    (from_none f old (ap (all_held f) c.requires.none)
    (subst (λ (r : Run _). Spends (rule_of true (2 ^ 64 - 1)) (left_of f r) (none_left c.try_shift.new.self.visits)) first.1
    ((c.in-Some.ensures.ended (point_of f old (seen_by g.W.Render c.args.out.now)) c.rounds.invariant.comes).spends linear.plain)))

-- no table was made, and the run goes on as it was
pub resume-requires-clause-comes : goal.resume-requires-clause-comes
resume-requires-clause-comes g c =
    let f = g.N.Walk.tree in
    let start = point_of f c.args.self.now (seen_by g.W.Render c.args.out.now) in
    (start, comes_still f g.W.Render start c.in_default.ensures.none c.rounds.invariant.comes)

pub resume-requires-clause-summed : goal.resume-requires-clause-summed
resume-requires-clause-summed g c =
    subst (λ (r : Run _). IsSummed g.N.Walk.HAS_SUMMARIES g.N.Walk.tree r.printer.commands) (sym c.in_default.ensures.none.1)
    c.rounds.invariant.summed

-- it is done
pub returns-in-Finished-clause-ends : goal.returns-in-Finished-clause-ends
returns-in-Finished-clause-ends g c =
    let f = g.N.Walk.tree in
    let start = point_of f c.args.self.now (seen_by g.W.Render c.args.out.now) in
    let comes = comes_still f g.W.Render start c.in_default.ensures.none c.rounds.invariant.comes in (
      standing f c.resume.new.self.printer,
      done_anyhow (g.W.Render.document_errors c.resume.new.out) run_result.Finished tt
          ((rw c.in-Finished.is at c.in_ok-resume.ensures.runs) start comes),
    )

pub returns-in-Finished-clause-few : goal.returns-in-Finished-clause-few
returns-in-Finished-clause-few g c = λ linear none.
    let f = g.N.Walk.tree in
    let start = point_of f c.args.self.now (seen_by g.W.Render c.args.out.now) in
    let comes = comes_still f g.W.Render start c.in_default.ensures.none c.rounds.invariant.comes in
    within_few
    (goes_on_without (c.rounds.invariant.round linear (omega (arith, none, c.try_shift.ensures.rises)))
    (record { size = linear.size; large = λ room. c.in_default.ensures.large room none })
    g.N.Walk.HAS_SUMMARIES c.limit-limit.result c.in_default.ensures.none.1 c.limit-limit.ensures
    (c.in_ok-resume.ensures.spends start comes linear.plain))

pub returns-in-Finished-clause-twice : goal.returns-in-Finished-clause-twice
returns-in-Finished-clause-twice g c = λ linear none some small.
    let old : c.rounds.refused ≡ 0 = omega (arith, none, c.try_shift.ensures.rises) in
    absurd (always_room (c.rounds.invariant.round linear old)
    (record { size = linear.size; large = λ room. c.in_default.ensures.large room none })
    (c.rounds.invariant.first linear old some small).0 some small)

-- it ended in an error
pub returns-in_err-resume-clause-ends : goal.returns-in_err-resume-clause-ends
returns-in_err-resume-clause-ends g c =
    let residual = err_from_is_err_and c.from_residual.result c.from_residual.ensures.1 in
    rw (residual.1, residual.2)
    let f = g.N.Walk.tree in
    let start = point_of f c.args.self.now (seen_by g.W.Render c.args.out.now) in
    let comes = comes_still f g.W.Render start c.in_default.ensures.none c.rounds.invariant.comes in (
      standing f c.resume.new.self.printer,
      error_anyhow (g.W.Render.document_errors c.resume.new.out) _ (c.in_err-resume.ensures.runs start comes),
    )

pub returns-in_err-resume-clause-few : goal.returns-in_err-resume-clause-few
returns-in_err-resume-clause-few g c = λ linear none.
    let f = g.N.Walk.tree in
    let start = point_of f c.args.self.now (seen_by g.W.Render c.args.out.now) in
    let comes = comes_still f g.W.Render start c.in_default.ensures.none c.rounds.invariant.comes in
    within_few
    (goes_on_without (c.rounds.invariant.round linear (omega (arith, none, c.try_shift.ensures.rises)))
    (record { size = linear.size; large = λ room. c.in_default.ensures.large room none })
    g.N.Walk.HAS_SUMMARIES c.limit-limit.result c.in_default.ensures.none.1 c.limit-limit.ensures
    (c.in_err-resume.ensures.spends start comes linear.plain))

pub returns-in_err-resume-clause-twice : goal.returns-in_err-resume-clause-twice
returns-in_err-resume-clause-twice g c = λ linear none some small.
    let old : c.rounds.refused ≡ 0 = omega (arith, none, c.try_shift.ensures.rises) in
    absurd (always_room (c.rounds.invariant.round linear old)
    (record { size = linear.size; large = λ room. c.in_default.ensures.large room none })
    (c.rounds.invariant.first linear old some small).0 some small)

-- it stopped
pub rounds-smaller : goal.rounds-smaller
rounds-smaller g c =
    let f = g.N.Walk.tree in
    let start = point_of f c.args.self.now (seen_by g.W.Render c.args.out.now) in
    let comes = comes_still f g.W.Render start c.in_default.ensures.none c.rounds.invariant.comes in
    let stopped = (rw c.in-Shift.is at c.in_ok-resume.ensures.runs) start comes in
    let low : c.rounds.self.visits.probes ≤ c.limit-limit.result =
    subst (λ (n : ℕ). c.rounds.self.visits.probes ≤ n)
    (ap (λ (r : Run _). probe_limit c.rounds.policy r.visits) (sym c.in_default.ensures.none.1) ∙ sym c.limit-limit.ensures)
    c.rounds.invariant.low in
    omega (arith, stopped.past.0, stopped.past.1, low)

pub rounds-preserved : goal.rounds-preserved
rounds-preserved g c =
    let f = g.N.Walk.tree in
    let start = point_of f c.args.self.now (seen_by g.W.Render c.args.out.now) in
    let comes = comes_still f g.W.Render start c.in_default.ensures.none c.rounds.invariant.comes in
    record {
      comes = ((rw c.in-Shift.is at c.in_ok-resume.ensures.runs) start comes).comes;
      low = c.next_room-room.ensures.within;
      start = c.next_room-room.ensures.start ∙ c.rounds.invariant.start;
      course = λ before.
          let sink = seen_by g.W.Render in
          let z = station_of f c.try_shift.new.self (sink c.try_shift.new.out) in
          let here = station_refuses before (station_still f g.W.Render c.in_default.ensures.none) c.try_shift.ensures.refuses
          (c.rounds.invariant.course before) in
          station_stops z (station_of f c.resume.new.self (sink c.resume.new.out)) (reaches_options start z comes) here
          ((rw c.in-Shift.is at c.in_ok-resume.ensures.course) here.waiting (refused_after before c.try_shift.new.refused) here.are);
      rises = omega (arith, c.rounds.invariant.rises, c.try_shift.ensures.rises);
      round = λ linear none.
          let before = c.rounds.invariant.round linear (omega (arith, none, c.try_shift.ensures.rises)) in
          record {
            within = goes_on_without before
                (record { size = linear.size; large = λ room. c.in_default.ensures.large room none })
                g.N.Walk.HAS_SUMMARIES c.limit-limit.result c.in_default.ensures.none.1
                c.limit-limit.ensures (c.in_ok-resume.ensures.spends start comes linear.plain);
            next = omega (
              arith,
              c.next_room-room.ensures.next,
              next_within before (record { size = linear.size; large = λ room. c.in_default.ensures.large room none }),
            );
            start = c.next_room-room.ensures.start ∙ c.rounds.invariant.start;
          };
      first = λ linear none some small.
          let old : c.rounds.refused ≡ 0 = omega (arith, none, c.try_shift.ensures.rises) in
          absurd (always_room (c.rounds.invariant.round linear old)
          (record { size = linear.size; large = λ room. c.in_default.ensures.large room none })
          (c.rounds.invariant.first linear old some small).0 some small);
      pays = λ free clear.
          let before = c.rounds.invariant.pays free clear in
          let no_table : DueNoTable f c.rounds.self c.try_shift.new.self c.rounds.refused c.try_shift.new.refused c.rounds.room =
          record { same = c.in_default.ensures.none.1; rises = c.try_shift.ensures.rises; large = c.in_default.ensures.large } in
          round_stops before no_table g.N.Walk.HAS_SUMMARIES c.limit-limit.result _ _ c.limit-limit.ensures
          (c.in_ok-resume.ensures.pays (still_none before no_table) (still_unions before no_table))
          c.next_room-room.ensures.start c.next_room-room.ensures.next;
      summed = c.in_ok-resume.ensures.summed;
    }

-- ---- Where it has come in its course

pub returns-in-Some-clause-course : goal.returns-in-Some-clause-course
returns-in-Some-clause-course g c = λ before.
    let f = g.N.Walk.tree in
    let sink = seen_by g.W.Render in
    let start = point_of f c.args.self.now (sink c.args.out.now) in
    let z = station_of f c.rounds.self (sink c.rounds.out) in
    subst (λ (n : ℕ). EndCourse c.args.self.now.printer.options
    (place_at (standing f c.args.self.now.printer) c.args.self.now.visits.probes
    (around [] g.N.Walk.HAS_SUMMARIES (refused_after before c.args.refused.now)))
    c.try_shift.new.self.visits.probes (refused_after before n) c.in-Some.ended) (sym c.in-Some.ensures.made)
    (station_ends c.try_shift.new.self.visits.probes z c.in-Some.ended (reaches_options start z c.rounds.invariant.comes)
    (c.rounds.invariant.course before) c.in-Some.ensures.course)

pub returns-in-Finished-clause-course : goal.returns-in-Finished-clause-course
returns-in-Finished-clause-course g c = λ before.
    let f = g.N.Walk.tree in
    let sink = seen_by g.W.Render in
    let start = point_of f c.args.self.now (sink c.args.out.now) in
    let z = station_of f c.try_shift.new.self (sink c.try_shift.new.out) in
    let unmoved = station_still f g.W.Render c.in_default.ensures.none in
    let here = station_refuses before unmoved c.try_shift.ensures.refuses (c.rounds.invariant.course before) in
    let same = reaches_options start z (comes_still f g.W.Render start c.in_default.ensures.none c.rounds.invariant.comes) in
    stops_after here.comes (stops_at_options same
    ((rw c.in-Finished.is at c.in_ok-resume.ensures.course) here.waiting (refused_after before c.try_shift.new.refused) here.are))

pub returns-in_err-resume-clause-course : goal.returns-in_err-resume-clause-course
returns-in_err-resume-clause-course g c =
    let residual = err_from_is_err_and c.from_residual.result c.from_residual.ensures.1 in
    rw (residual.1, residual.2)
    (λ before.
    let f = g.N.Walk.tree in
    let sink = seen_by g.W.Render in
    let start = point_of f c.args.self.now (sink c.args.out.now) in
    let z = station_of f c.try_shift.new.self (sink c.try_shift.new.out) in
    let unmoved = station_still f g.W.Render c.in_default.ensures.none in
    let here = station_refuses before unmoved c.try_shift.ensures.refuses (c.rounds.invariant.course before) in
    let same = reaches_options start z (comes_still f g.W.Render start c.in_default.ensures.none c.rounds.invariant.comes) in
    let e = c.in_err-resume.field-0.0 in
    let probes = c.resume.new.self.visits.probes in
    let refused = refused_after before c.try_shift.new.refused in
    error_after probes refused e here.comes (error_at _ probes refused e same (c.in_err-resume.ensures.course here.waiting refused
    here.are)))

-- without unions
pub returns-in-Some-clause-pays : goal.returns-in-Some-clause-pays
returns-in-Some-clause-pays g c = λ free clear.
    let before = c.rounds.invariant.pays free clear in
    round_over before c.try_shift.ensures.rises (c.in-Some.ensures.pays before.none before.unions)

pub returns-in-Finished-clause-pays : goal.returns-in-Finished-clause-pays
returns-in-Finished-clause-pays g c = λ free clear.
    let f = g.N.Walk.tree in
    let before = c.rounds.invariant.pays free clear in
    let no_table : DueNoTable f c.rounds.self c.try_shift.new.self c.rounds.refused c.try_shift.new.refused c.rounds.room =
    record { same = c.in_default.ensures.none.1; rises = c.try_shift.ensures.rises; large = c.in_default.ensures.large } in
    round_done before no_table {b = due_of f c.resume.new.self} g.N.Walk.HAS_SUMMARIES c.limit-limit.result c.limit-limit.ensures
    (c.in_ok-resume.ensures.pays (still_none before no_table) (still_unions before no_table)).1

pub returns-in_err-resume-clause-pays : goal.returns-in_err-resume-clause-pays
returns-in_err-resume-clause-pays g c = λ free clear.
    let f = g.N.Walk.tree in
    let before = c.rounds.invariant.pays free clear in
    let no_table : DueNoTable f c.rounds.self c.try_shift.new.self c.rounds.refused c.try_shift.new.refused c.rounds.room =
    record { same = c.in_default.ensures.none.1; rises = c.try_shift.ensures.rises; large = c.in_default.ensures.large } in
    round_done before no_table {b = nothing_due c.resume.new.self.visits} g.N.Walk.HAS_SUMMARIES c.limit-limit.result
    c.limit-limit.ensures (c.in_err-resume.ensures.pays (still_none before no_table) (still_unions before no_table))
