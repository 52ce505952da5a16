use Rattle.std.proofs.Common.{◌∷◌, refl, Bool, arith, ap, sym, ◌∙◌, rules}
use Rattle.prettyless_model.specs.Column.{padding_fits}
use Rattle.prettyless_printer.specs.Points.{standing}
use Rattle.prettyless_printer.specs.CourseOf.{around}
use Rattle.prettyless_printer.proofs.Courses.{come_same}
use Rattle.prettyless_printer.proofs.OpenCourses.{error_in_part, goes_in, rejected_at_end, rejected_failed, rejected_past}
use Rattle.prettyless_printer.proofs.Standings.{pending_stands}
use Rattle.prettyless_printer.proofs.TrialSteps.{trial_end_complete, trial_end_exceeds, trial_turn_running, trial_turn_exceeds}
use Rattle.prettyless_printer.proofs.TrialSteps.{trial_turn_choice, trial_turn_failed, trial_turn_shift}
use Rattle.prettyless_printer.proofs.run.Run.advance.Goals as goal

-- at the end of the branch the padding fits
pub returns-then-padding_fits-clause-courses : goal.returns-then-padding_fits-clause-courses
returns-then-padding_fits-clause-courses g c = λ t on.
    let p = c.args.self.now.printer in
    let fits = ap (λ (x : Bool). padding_fits p.options.width x p.column) (sym (pending_stands g.N.Walk.tree p) ∙ sym c.is_pending.ensures)
    ∙ sym c.padding_fits.ensures ∙ c.if-padding_fits.true in
    trial_end_complete on (omega (arith, c.if-len-below.true, c.len.ensures, c.below.ensures)) fits

-- at its end the padding does not fit
pub returns-then-len-below-clause-courses : goal.returns-then-len-below-clause-courses
returns-then-len-below-clause-courses g c = λ t on.
    let p = c.args.self.now.printer in
    let unfit = ap (λ (x : Bool). padding_fits p.options.width x p.column) (sym (pending_stands g.N.Walk.tree p) ∙ sym c.is_pending.ensures)
    ∙ sym c.padding_fits.ensures ∙ c.if-padding_fits.false in
    trial_end_exceeds on (omega (arith, c.if-len-below.true, c.len.ensures, c.below.ensures)) unfit

-- a turn goes on
pub returns-then-self-clause-courses : goal.returns-then-self-clause-courses
returns-then-self-clause-courses g c = λ t on.
    trial_turn_running g.N.Walk.tree on (omega (arith, c.if-len-below.false, c.len.ensures, c.below.ensures))
    (rw c.in-Ok-Complete.field-0-is at c.in-Ok-Complete.ensures.advances) c.if-self.true

-- a text ends past the width
pub returns-else-self-clause-courses : goal.returns-else-self-clause-courses
returns-else-self-clause-courses g c = λ t on.
    trial_turn_exceeds g.N.Walk.tree on (omega (arith, c.if-len-below.false, c.len.ensures, c.below.ensures))
    (rw c.in-Ok-Complete.field-0-is at c.in-Ok-Complete.ensures.advances) c.if-self.false

-- two branches are to be chosen from
pub returns-in-Ok-Choice-clause-courses : goal.returns-in-Ok-Choice-clause-courses
returns-in-Ok-Choice-clause-courses g c = λ t on.
    trial_turn_choice g.N.Walk.tree c.in-Ok-Choice.choice on
    (omega (arith, c.if-len-below.false, c.len.ensures, c.below.ensures))
    (rw c.in-Ok-Choice.field-0-is at c.in-Ok-Choice.ensures.advances)

-- a turn stops
pub returns-in-Ok-Shift-clause-courses : goal.returns-in-Ok-Shift-clause-courses
returns-in-Ok-Shift-clause-courses g c = λ t on.
    trial_turn_shift g.N.Walk.tree on (omega (arith, c.if-len-below.false, c.len.ensures, c.below.ensures))
    (rw c.in-Ok-Shift.field-0-is at c.in-Ok-Shift.ensures.advances)

-- a node fails
pub returns-in-Ok-Failed-clause-courses : goal.returns-in-Ok-Failed-clause-courses
returns-in-Ok-Failed-clause-courses g c = λ t on.
    trial_turn_failed g.N.Walk.tree on (omega (arith, c.if-len-below.false, c.len.ensures, c.below.ensures))
    (rw c.in-Ok-Failed.field-0-is at c.in-Ok-Failed.ensures.advances)

pub returns-in-Err-clause-courses : goal.returns-in-Err-clause-courses
returns-in-Err-clause-courses g c = search rules

-- ---- Where it has come in the course of a run

-- at the end of the branch, the padding fits
pub returns-then-padding_fits-clause-course : goal.returns-then-padding_fits-clause-course
returns-then-padding_fits-clause-course g c = λ w ws refused within. come_same _ _

-- the padding does not fit
pub returns-then-len-below-clause-course : goal.returns-then-len-below-clause-course
returns-then-len-below-clause-course g c = λ w ws refused within.
    let p = c.args.self.now.printer in
    let unfit = ap (λ (x : Bool). padding_fits p.options.width x p.column) (sym (pending_stands g.N.Walk.tree p) ∙ sym c.is_pending.ensures)
    ∙ sym c.padding_fits.ensures ∙ c.if-padding_fits.false in
    rejected_at_end within (omega (arith, c.if-len-below.true, c.len.ensures, c.below.ensures)) unfit

-- a turn goes on
pub returns-then-self-clause-course : goal.returns-then-self-clause-course
returns-then-self-clause-course g c = λ w ws refused within.
    (rw c.in-Ok-Complete.field-0-is at c.in-Ok-Complete.ensures.course) (around (w ∷ ws) g.N.Walk.HAS_SUMMARIES refused) refl
    (goes_in ws g.N.Walk.HAS_SUMMARIES refused within (omega (arith, c.if-len-below.false, c.len.ensures, c.below.ensures)))

-- a text ends past the width
pub returns-else-self-clause-course : goal.returns-else-self-clause-course
returns-else-self-clause-course g c = λ w ws refused within.
    rejected_past (standing g.N.Walk.tree c.turn.new.printer)
    ((rw c.in-Ok-Complete.field-0-is at c.in-Ok-Complete.ensures.course) (around (w ∷ ws) g.N.Walk.HAS_SUMMARIES refused) refl
    (goes_in ws g.N.Walk.HAS_SUMMARIES refused within (omega (arith, c.if-len-below.false, c.len.ensures, c.below.ensures))))
    c.if-self.false

-- two branches are to be chosen from
pub returns-in-Ok-Choice-clause-course : goal.returns-in-Ok-Choice-clause-course
returns-in-Ok-Choice-clause-course g c = λ w ws refused within.
    (rw c.in-Ok-Choice.field-0-is at c.in-Ok-Choice.ensures.course) (around (w ∷ ws) g.N.Walk.HAS_SUMMARIES refused) refl
    (goes_in ws g.N.Walk.HAS_SUMMARIES refused within (omega (arith, c.if-len-below.false, c.len.ensures, c.below.ensures)))

-- a turn stops
pub returns-in-Ok-Shift-clause-course : goal.returns-in-Ok-Shift-clause-course
returns-in-Ok-Shift-clause-course g c = λ w ws refused within.
    (rw c.in-Ok-Shift.field-0-is at c.in-Ok-Shift.ensures.course) (around (w ∷ ws) g.N.Walk.HAS_SUMMARIES refused) refl
    (goes_in ws g.N.Walk.HAS_SUMMARIES refused within (omega (arith, c.if-len-below.false, c.len.ensures, c.below.ensures)))

-- a node fails
pub returns-in-Ok-Failed-clause-course : goal.returns-in-Ok-Failed-clause-course
returns-in-Ok-Failed-clause-course g c = λ w ws refused within.
    rejected_failed ((rw c.in-Ok-Failed.field-0-is at c.in-Ok-Failed.ensures.course) (around (w ∷ ws) g.N.Walk.HAS_SUMMARIES refused) refl
    (goes_in ws g.N.Walk.HAS_SUMMARIES refused within (omega (arith, c.if-len-below.false, c.len.ensures, c.below.ensures))))

-- memory is refused
pub returns-in-Err-clause-course : goal.returns-in-Err-clause-course
returns-in-Err-clause-course g c = λ w ws refused within.
    error_in_part g.N.Walk.tree (around (w ∷ ws) g.N.Walk.HAS_SUMMARIES refused) (standing g.N.Walk.tree c.turn.new.printer) c.in-Err.e
    (c.in-Err.ensures.course (around (w ∷ ws) g.N.Walk.HAS_SUMMARIES refused) refl
    (goes_in ws g.N.Walk.HAS_SUMMARIES refused within (omega (arith, c.if-len-below.false, c.len.ensures, c.below.ensures))))
