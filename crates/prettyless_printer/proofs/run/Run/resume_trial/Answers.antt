use Rattle.std.proofs.Common.{◌≡◌, ◌∙◌, ◌<◌, IsErr, List, ℕ, Result, Ok, Err, [], ap, arith, length, refl, subst, sym}
use Rattle.std.specs.Prelude.{OnOk}
use Rattle.std.proofs.lemmas.List.{nil_from_length}
use Rattle.std.proofs.lemmas.Str.{IsUtf8-string_bytes}
use Rattle.std.specs.declared.alloc.AllocError.{AllocError}
use Rattle.prettyless_sink.specs.Sink.{known}
use Rattle.prettyless_sink.specs.declared.visits.Visits.{Visits}
use Rattle.prettyless_model.specs.Tree.{Tree}
use Rattle.prettyless_probe.specs.Stack.{trees}
use Rattle.prettyless_step.specs.declared.queue.Queue.{Queue}
use Rattle.prettyless_printer.specs.declared.run.Run.{Run}
use Rattle.prettyless_printer.specs.declared.trial.Trials.{Trials}
use Rattle.prettyless_printer.specs.Points.{Point, standing, trial_point}
use Rattle.prettyless_printer.specs.Trials.{Trial}
use Rattle.prettyless_printer.specs.Open.{Held, Open, all_held, held, held_of}
use Rattle.prettyless_printer.specs.Spending.{Spends, left_of, none_left, rule_of}
use Rattle.prettyless_printer.proofs.Chains.{all_held-push, ends_error, error_at, last_kept, last_other, length-all_held, open_error}
use Rattle.prettyless_printer.proofs.Chains.{open_choice_error, open_rejected_error, open_rejected, open_goes, open_kept, open_more}
use Rattle.prettyless_printer.proofs.Chains.{open_other, open_some, open_stops, took}
use Rattle.prettyless_printer.proofs.Courses.{come_same}
use Rattle.prettyless_printer.proofs.OpenCourses.{course_error, course_error_choice, course_error_rejected, course_goes, course_kept}
use Rattle.prettyless_printer.proofs.OpenCourses.{course_kept_last, course_more, course_other, course_other_last, course_stays, in_held}
use Rattle.prettyless_printer.proofs.OpenCourses.{in_run}
use Rattle.prettyless_printer.proofs.OpenCourses.{opens_in, part_at, same_options, trials_error}
use Rattle.prettyless_printer.proofs.Costs.{left_at, less_goes, less_more, less_kept, less_other}
use Rattle.prettyless_printer.proofs.Trying.{cut_back, flagged, pushed, queue_marked}
use Rattle.prettyless_printer.proofs.Standings.{length_queue}
use Rattle.prettyless_printer.proofs.Spending.{spends_all, spends_same}
use Rattle.prettyless_printer.proofs.OpenSpending.{open_spends, spends_back, spends_error_as, spends_kept, spends_more}
use Rattle.prettyless_printer.proofs.run.Run.resume_trial.Goals as goal

-- after a turn the same trials are open
same_open : {N : Type 0} (f : N → Tree) (us vs : Trials N) → vs ≡ us → all_held f vs.open.items ≡ all_held f us.open.items
same_open {N} f us vs same = ap (λ (t : Trials N). all_held f t.open.items) same

-- and the measure was the same of them
falls_at : {n : ℕ} (a : Point) {us vs : List Held} → vs ≡ us → n < left_at a vs → n < left_at a us
falls_at {n} a same less = subst (λ (z : List Held). n < left_at a z) same less

-- the options are those of before
options_at : {N : Type 0} (f : N → Tree) (s : Trial) (y : Tree) (q r : Run N) → Open s y (held_of f q) (trial_point f q)
    → Open s y (held_of f r) (trial_point f r) → r.printer.options ≡ q.printer.options
options_at f s y q r h k = same_options s y (held_of f q) (held_of f r) (trial_point f q) (trial_point f r) h k

-- a result that is an error says nothing of a success
nothing_on_error : {A E : Type 0} (result : Result A E) (P : Type 0) → IsErr result → OnOk result P
nothing_on_error (Ok x) P error = cc
nothing_on_error (Err e) P error = tt

pub work-init : goal.work-init
work-init g c = record {
  trials = λ s y h. h;
  some = c.requires.open;
  spends = λ s y h plain. spends_same _ _;
  course = λ s y h refused. record { trials = h; comes = come_same _ _ };
  summed = c.requires.summed;
}

-- one trial is open at least
pub advance-requires-clause-some : goal.advance-requires-clause-some
advance-requires-clause-some g c =
    let some = c.work.invariant.some in
    omega (arith, open_some some.0 some.1 _ _ some.2, length-all_held g.N.Walk.tree c.work.self.trials.open.items)

-- the innermost trial is refused memory
pub returns-in_err-advance : goal.returns-in_err-advance
returns-in_err-advance g c =
    let f = g.N.Walk.tree in
    let old = c.work.self in
    let new = c.advance.new.self in
    let same = same_open f _ _ c.advance.ensures.trials in
    let error = c.from_residual.ensures.0 in
    record {
      ends = λ s y h. ends_error AllocError c.args.limit s y (held_of f new) c.from_residual.result error
          (open_error (took AllocError f same (c.work.invariant.trials s y h) c.in_err-advance.ensures.courses));
      spends = λ s y h plain. spends_error_as _ c.from_residual.result error (spends_all
          (open_spends same (record { before = h; now = c.work.invariant.trials s y h; plain = plain })
          (c.work.invariant.spends s y h plain) c.in_err-advance.ensures.spends));
      course = λ s y h refused.
          let now = c.work.invariant.course s y h refused in
          trials_error g.N.Walk.HAS_SUMMARIES s y (trial_point f new) (held_of f new) c.from_residual.result error
          (course_error AllocError f g.N.Walk.HAS_SUMMARIES (trial_point f new) _ (held_of f old) now
          (options_at f s y c.args.self.now old h now.trials) c.in_err-advance.ensures.course);
      summed = nothing_on_error c.from_residual.result _ error;
    }

-- it goes on
pub work-smaller-in-Running : goal.work-smaller-in-Running
work-smaller-in-Running g c =
    let f = g.N.Walk.tree in
    let same = same_open f _ _ c.advance.ensures.trials in
    falls_at (trial_point f c.work.self) same
    (less_goes (took AllocError f same c.work.invariant.some.2 (rw c.in-Running.is at c.in_ok-advance.ensures.courses)))

pub work-preserved-in-Running : goal.work-preserved-in-Running
work-preserved-in-Running g c =
    let f = g.N.Walk.tree in
    let some = c.work.invariant.some in
    let same = same_open f _ _ c.advance.ensures.trials in
    let course = rw c.in-Running.is at c.in_ok-advance.ensures.courses in
    record {
      trials = λ s y h. open_goes (took AllocError f same (c.work.invariant.trials s y h) course);
      some = (some.0, some.1, open_goes (took AllocError f same some.2 course));
      spends = λ s y h plain.
          open_spends same (record { before = h; now = c.work.invariant.trials s y h; plain = plain })
          (c.work.invariant.spends s y h plain) (rw c.in-Running.is at c.in_ok-advance.ensures.spends);
      course = λ s y h refused.
          let now = c.work.invariant.course s y h refused in
          in_held same
          (course_goes AllocError f g.N.Walk.HAS_SUMMARIES (trial_point f c.advance.new.self) (held_of f c.work.self) now
          (options_at f s y c.args.self.now c.work.self h now.trials) course (rw c.in-Running.is at c.in_ok-advance.ensures.course));
      summed = c.in_ok-advance.ensures.summed;
    }

-- it stopped
pub returns-in-Shift : goal.returns-in-Shift
returns-in-Shift g c =
    let f = g.N.Walk.tree in
    let old = c.work.self in
    let same = same_open f _ _ c.advance.ensures.trials in
    let courses = rw c.in-Shift.is at c.in_ok-advance.ensures.courses in
    record {
      ends = λ s y h. (
        open_stops (took AllocError f same (c.work.invariant.trials s y h) courses),
        rw c.in-Shift.is at c.in_ok-advance.ensures.past,
      );
      spends = λ s y h plain.
          open_spends same (record { before = h; now = c.work.invariant.trials s y h; plain = plain })
          (c.work.invariant.spends s y h plain) (rw c.in-Shift.is at c.in_ok-advance.ensures.spends);
      course = λ s y h refused.
          let now = c.work.invariant.course s y h refused in
          in_held same
          (course_stays AllocError f g.N.Walk.HAS_SUMMARIES (trial_point f c.advance.new.self) (held_of f old) now
          (options_at f s y c.args.self.now old h now.trials) courses (rw c.in-Shift.is at c.in_ok-advance.ensures.course));
      summed = c.in_ok-advance.ensures.summed;
    }

-- the outermost one is kept
pub returns-then-is_empty : goal.returns-then-is_empty
returns-then-is_empty g c =
    let f = g.N.Walk.tree in
    let old = c.work.self in
    let new = c.advance.new.self in
    let u = c.in-Some.trial in
    let us = c.pop.new.self.items in
    let same = same_open f _ _ c.advance.ensures.trials in
    let popped = all_held-push f _ us u c.in-Some.ensures.items in
    let none : all_held f us ≡ [] = nil_from_length (all_held f us) (length-all_held f us ∙ c.is_empty.ensures.none c.if-is_empty.true) in
    let courses = rw c.in-Complete.is at c.in_ok-advance.ensures.courses in
    let kept = flagged u.mark.within (standing f new.printer) in
    record {
      ends = λ s y h. (none, last_kept _ _ popped none (took AllocError f same (c.work.invariant.trials s y h) courses) kept);
      spends = λ s y h plain.
          spends_kept (standing f new.printer) (standing f (record new.printer { within = u.mark.within })) (all_held f us) (held f u)
          popped refl refl
          (open_spends same (record { before = h; now = c.work.invariant.trials s y h; plain = plain })
          (c.work.invariant.spends s y h plain) (rw c.in-Complete.is at c.in_ok-advance.ensures.spends));
      course = λ s y h refused.
          let now = c.work.invariant.course s y h refused in
          course_kept_last AllocError f g.N.Walk.HAS_SUMMARIES (trial_point f new) (all_held f us) (held f u) (sym same ∙ popped) none now
          (options_at f s y c.args.self.now old h now.trials) courses (rw c.in-Complete.is at c.in_ok-advance.ensures.course) kept;
      summed = c.in_ok-advance.ensures.summed;
    }

-- an inner one is kept
pub work-smaller-else-is_empty : goal.work-smaller-else-is_empty
work-smaller-else-is_empty g c =
    let f = g.N.Walk.tree in
    let new = c.advance.new.self in
    let next = record new { printer = record new.printer { within = c.in-Some.trial.mark.within } } in
    let us = c.pop.new.self.items in
    let same = same_open f _ _ c.advance.ensures.trials in
    let inner : 0 < length us = c.is_empty.ensures.some c.if-is_empty.false in
    falls_at (trial_point f c.work.self) same
    (less_kept _ _ (trial_point f next)
    (all_held-push f _ us c.in-Some.trial c.in-Some.ensures.items) (omega (arith, length-all_held f us, inner))
    (took AllocError f same c.work.invariant.some.2 (rw c.in-Complete.is at c.in_ok-advance.ensures.courses))
    (flagged c.in-Some.trial.mark.within (standing f new.printer)))

pub work-preserved-else-is_empty : goal.work-preserved-else-is_empty
work-preserved-else-is_empty g c =
    let f = g.N.Walk.tree in
    let some = c.work.invariant.some in
    let old = c.work.self in
    let new = c.advance.new.self in
    let next = record new { printer = record new.printer { within = c.in-Some.trial.mark.within } } in
    let us = c.pop.new.self.items in
    let same = same_open f _ _ c.advance.ensures.trials in
    let inner : 0 < length us = c.is_empty.ensures.some c.if-is_empty.false in
    let course = rw c.in-Complete.is at c.in_ok-advance.ensures.courses in
    let kept : (s : Trial) (y : Tree) → Open s y (held_of f old) (trial_point f old) → Open s y (all_held f us) (trial_point f next) =
    λ s y h.
    open_kept _ _ (all_held-push f _ us c.in-Some.trial c.in-Some.ensures.items) (omega (arith, length-all_held f us, inner))
    (took AllocError f same h course) (flagged c.in-Some.trial.mark.within (standing f new.printer)) in
    record {
      trials = λ s y h. kept s y (c.work.invariant.trials s y h);
      some = (some.0, some.1, kept some.0 some.1 some.2);
      spends = λ s y h plain.
          spends_kept (standing f new.printer) (standing f next.printer) (all_held f us) (held f c.in-Some.trial)
          (all_held-push f _ us c.in-Some.trial c.in-Some.ensures.items) refl refl
          (open_spends same (record { before = h; now = c.work.invariant.trials s y h; plain = plain })
          (c.work.invariant.spends s y h plain) (rw c.in-Complete.is at c.in_ok-advance.ensures.spends));
      course = λ s y h refused.
          let now = c.work.invariant.course s y h refused in
          course_kept AllocError f g.N.Walk.HAS_SUMMARIES (trial_point f new) (all_held f us) (held f c.in-Some.trial)
          (sym same ∙ all_held-push f _ us c.in-Some.trial c.in-Some.ensures.items) (omega (arith, length-all_held f us, inner)) now
          (options_at f s y c.args.self.now c.work.self h now.trials) course (rw c.in-Complete.is at c.in_ok-advance.ensures.course)
          (flagged c.in-Some.trial.mark.within (standing f new.printer));
      summed = c.in_ok-advance.ensures.summed;
    }

-- the innermost one is rejected
pub undo-requires-clause-mark : goal.undo-requires-clause-mark
undo-requires-clause-mark g c =
    let f = g.N.Walk.tree in
    let new = c.advance.new.self in
    let fell = open_rejected _ _ (all_held-push f _ _ c.in-Some-pop.trial c.in-Some-pop.ensures.items)
    (took AllocError f (same_open f _ _ c.advance.ensures.trials) c.work.invariant.some.2
    (rw c.in-Rejected.is at c.in_ok-advance.ensures.courses)) in
    omega (
      arith,
      queue_marked fell.trial.start.printer (standing f new.printer) c.in-Some-pop.trial.mark fell.trial.start.sink
          fell.marked.marks fell.fallen.grows,
      length_queue f new.printer,
    )

pub undo-requires-clause-buffer : goal.undo-requires-clause-buffer
undo-requires-clause-buffer g c =
    let f = g.N.Walk.tree in
    let fell = open_rejected _ _ (all_held-push f _ _ c.in-Some-pop.trial c.in-Some-pop.ensures.items)
    (took AllocError f (same_open f _ _ c.advance.ensures.trials) c.work.invariant.some.2
    (rw c.in-Rejected.is at c.in_ok-advance.ensures.courses)) in
    cut_back (known fell.trial.start.sink.bytes) c.advance.new.self.buffer.text c.in-Some-pop.trial.mark.written fell.fallen.bytes
    fell.marked.text fell.marked.marks.written fell.fallen.wrote

-- its second branch is refused memory
pub returns-in_err-push-in-Rejected : goal.returns-in_err-push-in-Rejected
returns-in_err-push-in-Rejected g c =
    let f = g.N.Walk.tree in
    let old = c.work.self in
    let new = c.advance.new.self in
    let next = record new { printer = record c.undo.new.printer { commands = c.push.new.self }; buffer = c.undo.new.buffer } in
    let same = same_open f _ _ c.advance.ensures.trials in
    let result = c.from_residual-in_err-push-in-Rejected.result in
    let error = c.from_residual-in_err-push-in-Rejected.ensures.0 in
    record {
      ends = λ s y h. ends_error AllocError c.args.limit s y _ result error
          (error_at refl (open_rejected_error (took AllocError f same (c.work.invariant.trials s y h)
          (rw c.in-Rejected.is at c.in_ok-advance.ensures.courses))));
      spends = λ s y h plain. spends_error_as _ result error (spends_all
          (open_spends same (record { before = h; now = c.work.invariant.trials s y h; plain = plain })
          (c.work.invariant.spends s y h plain) (rw c.in-Rejected.is at c.in_ok-advance.ensures.spends)));
      course = λ s y h refused.
          let now = c.work.invariant.course s y h refused in
          trials_error g.N.Walk.HAS_SUMMARIES s y (trial_point f next) (all_held f c.pop-in-Rejected.new.self.items) result error
          (course_error_rejected AllocError f g.N.Walk.HAS_SUMMARIES (trial_point f new) (held_of f old) now
          (options_at f s y c.args.self.now old h now.trials) (rw c.in-Rejected.is at c.in_ok-advance.ensures.course));
      summed = nothing_on_error result _ error;
    }

-- the outermost one is undone
pub returns-then-is_empty-2 : goal.returns-then-is_empty-2
returns-then-is_empty-2 g c =
    let f = g.N.Walk.tree in
    let old = c.work.self in
    let new = c.advance.new.self in
    let r = c.undo.new.printer in
    let q = record r { commands = c.push.new.self } in
    let u = c.in-Some-pop.trial in
    let us = c.pop-in-Rejected.new.self.items in
    let same = same_open f _ _ c.advance.ensures.trials in
    let popped = all_held-push f _ us u c.in-Some-pop.ensures.items in
    let none : all_held f us ≡ [] =
    nil_from_length (all_held f us) (length-all_held f us ∙ c.is_empty-in-Rejected.ensures.none c.if-is_empty-2.true) in
    let courses = rw c.in-Rejected.is at c.in_ok-advance.ensures.courses in
    let back = pushed (standing f q) c.in_ok-push-in-Rejected.ensures.pushed refl refl refl in
    record {
      ends = λ s y h. (
        none,
        last_other _ _ (standing f r) popped none (took AllocError f same (c.work.invariant.trials s y h) courses) c.undo.ensures.printer
            (record { is_known = refl; bytes = c.undo.ensures.buffer; failures = c.undo.ensures.failures; lender = refl }) back,
      );
      spends = λ s y h plain.
          spends_back (standing f r) (all_held f us) (held f u) popped
          (open_rejected _ _ popped (took AllocError f same c.work.invariant.some.2 courses)) c.undo.ensures.printer back refl
          (open_spends same (record { before = h; now = c.work.invariant.trials s y h; plain = plain })
          (c.work.invariant.spends s y h plain) (rw c.in-Rejected.is at c.in_ok-advance.ensures.spends));
      course = λ s y h refused.
          let now = c.work.invariant.course s y h refused in
          course_other_last AllocError f g.N.Walk.HAS_SUMMARIES (trial_point f new) (all_held f us) (held f u) (standing f r)
          (sym same ∙ popped) none now (options_at f s y c.args.self.now old h now.trials) courses
          (rw c.in-Rejected.is at c.in_ok-advance.ensures.course) c.undo.ensures.printer back;
      summed = c.in_ok-push-in-Rejected.ensures.summed (c.undo.ensures.summed c.in_ok-advance.ensures.summed);
    }

-- an inner one is undone
pub work-smaller-else-is_empty-2 : goal.work-smaller-else-is_empty-2
work-smaller-else-is_empty-2 g c =
    let f = g.N.Walk.tree in
    let new = c.advance.new.self in
    let r = c.undo.new.printer in
    let q = record r { commands = c.push.new.self } in
    let next = record new { printer = q; buffer = c.undo.new.buffer } in
    let us = c.pop-in-Rejected.new.self.items in
    let same = same_open f _ _ c.advance.ensures.trials in
    let inner : 0 < length us = c.is_empty-in-Rejected.ensures.some c.if-is_empty-2.false in
    falls_at (trial_point f c.work.self) same
    (less_other _ _ (standing f r) (trial_point f next)
    (all_held-push f _ us c.in-Some-pop.trial c.in-Some-pop.ensures.items) (omega (arith, length-all_held f us, inner))
    (took AllocError f same c.work.invariant.some.2 (rw c.in-Rejected.is at c.in_ok-advance.ensures.courses))
    c.undo.ensures.printer (pushed (standing f q) c.in_ok-push-in-Rejected.ensures.pushed refl refl refl))

pub work-preserved-else-is_empty-2 : goal.work-preserved-else-is_empty-2
work-preserved-else-is_empty-2 g c =
    let f = g.N.Walk.tree in
    let some = c.work.invariant.some in
    let old = c.work.self in
    let new = c.advance.new.self in
    let r = c.undo.new.printer in
    let q = record r { commands = c.push.new.self } in
    let next = record new { printer = q; buffer = c.undo.new.buffer } in
    let us = c.pop-in-Rejected.new.self.items in
    let same = same_open f _ _ c.advance.ensures.trials in
    let inner : 0 < length us = c.is_empty-in-Rejected.ensures.some c.if-is_empty-2.false in
    let course = rw c.in-Rejected.is at c.in_ok-advance.ensures.courses in
    let other : (s : Trial) (y : Tree) → Open s y (held_of f old) (trial_point f old) → Open s y (all_held f us) (trial_point f next) =
    λ s y h.
    open_other _ _ (standing f r) (all_held-push f _ us c.in-Some-pop.trial c.in-Some-pop.ensures.items)
    (omega (arith, length-all_held f us, inner)) (took AllocError f same h course) c.undo.ensures.printer
    (record { is_known = refl; bytes = c.undo.ensures.buffer; failures = c.undo.ensures.failures; lender = refl })
    (pushed (standing f q) c.in_ok-push-in-Rejected.ensures.pushed refl refl refl) in
    record {
      trials = λ s y h. other s y (c.work.invariant.trials s y h);
      some = (some.0, some.1, other some.0 some.1 some.2);
      spends = λ s y h plain.
          spends_back (standing f r) (all_held f us) (held f c.in-Some-pop.trial)
          (all_held-push f _ us c.in-Some-pop.trial c.in-Some-pop.ensures.items)
          (open_rejected _ _ (all_held-push f _ _ c.in-Some-pop.trial c.in-Some-pop.ensures.items)
          (took AllocError f same some.2 course))
          c.undo.ensures.printer (pushed (standing f q) c.in_ok-push-in-Rejected.ensures.pushed refl refl refl) refl
          (open_spends same (record { before = h; now = c.work.invariant.trials s y h; plain = plain })
          (c.work.invariant.spends s y h plain) (rw c.in-Rejected.is at c.in_ok-advance.ensures.spends));
      course = λ s y h refused.
          let now = c.work.invariant.course s y h refused in
          course_other AllocError f g.N.Walk.HAS_SUMMARIES (trial_point f new) (all_held f us) (held f c.in-Some-pop.trial) (standing f r)
          (sym same ∙ all_held-push f _ us c.in-Some-pop.trial c.in-Some-pop.ensures.items) (omega (arith, length-all_held f us, inner)) now
          (options_at f s y c.args.self.now c.work.self h now.trials) course (rw c.in-Rejected.is at c.in_ok-advance.ensures.course)
          c.undo.ensures.printer
          (record { is_known = refl; bytes = c.undo.ensures.buffer; failures = c.undo.ensures.failures; lender = refl })
          (pushed (standing f q) c.in_ok-push-in-Rejected.ensures.pushed refl refl refl);
      summed = c.in_ok-push-in-Rejected.ensures.summed (c.undo.ensures.summed c.in_ok-advance.ensures.summed);
    }

-- a trial more is open
pub work-smaller : goal.work-smaller
work-smaller g c =
    let f = g.N.Walk.tree in
    let same = same_open f _ _ c.advance.ensures.trials in
    falls_at (trial_point f c.work.self) same
    (less_more (trial_point f c.open_trial.new.self)
    (took AllocError f same c.work.invariant.some.2 (rw c.in-Choice.is at c.in_ok-advance.ensures.courses))
    c.in_ok-open_trial-in-Choice.ensures.held c.in_ok-open_trial-in-Choice.ensures.begun
    (IsUtf8-string_bytes c.advance.new.self.buffer.text))

pub work-preserved : goal.work-preserved
work-preserved g c =
    let f = g.N.Walk.tree in
    let some = c.work.invariant.some in
    let old = c.work.self in
    let next = c.open_trial.new.self in
    let others = c.open_trial.ensures.others in
    let same = same_open f _ _ c.advance.ensures.trials in
    let course = rw c.in-Choice.is at c.in_ok-advance.ensures.courses in
    let more : (s : Trial) (y : Tree) → Open s y (held_of f old) (trial_point f old) → Open s y (held_of f next) (trial_point f next) =
    λ s y h.
    subst (λ (r : Run _). Open s y (held_of f r) (trial_point f r)) (sym others)
    (open_more (took AllocError f same h course) c.in_ok-open_trial-in-Choice.ensures.held
    c.in_ok-open_trial-in-Choice.ensures.begun (IsUtf8-string_bytes c.advance.new.self.buffer.text)) in
    record {
      trials = λ s y h. more s y (c.work.invariant.trials s y h);
      some = (some.0, some.1, more some.0 some.1 some.2);
      spends = λ s y h plain.
          subst (λ (r : Run _). Spends (rule_of g.N.Walk.HAS_SUMMARIES c.args.limit) (left_of f c.args.self.now) (left_of f r)) (sym others)
          (spends_more c.in_ok-open_trial-in-Choice.ensures.held c.in_ok-open_trial-in-Choice.ensures.begun
          (ap (λ (z : Queue _). trees f z.nodes.items) c.open_trial.ensures.queue)
          (open_spends same (record { before = h; now = c.work.invariant.trials s y h; plain = plain })
          (c.work.invariant.spends s y h plain) (rw c.in-Choice.is at c.in_ok-advance.ensures.spends)));
      course = λ s y h refused.
          let now = c.work.invariant.course s y h refused in
          in_run f c.open_trial.new.self _ others
          (course_more AllocError f g.N.Walk.HAS_SUMMARIES (trial_point f c.advance.new.self) c.in-Choice.choice (held_of f old)
          (held_of f next) now (options_at f s y c.args.self.now c.work.self h now.trials) course (rw c.in-Choice.is at
          c.in_ok-advance.ensures.course)
          (opens_in same c.in_ok-open_trial-in-Choice.ensures.held)
          c.in_ok-open_trial-in-Choice.ensures.begun (IsUtf8-string_bytes c.advance.new.self.buffer.text));
      summed = c.in_ok-open_trial-in-Choice.ensures.summed;
    }

-- a trial more is refused memory
pub returns-in_err-open_trial-in-Choice : goal.returns-in_err-open_trial-in-Choice
returns-in_err-open_trial-in-Choice g c =
    let f = g.N.Walk.tree in
    let old = c.work.self in
    let new = c.advance.new.self in
    let next = c.open_trial.new.self in
    let others = c.open_trial.ensures.others in
    let same = same_open f _ _ c.advance.ensures.trials in
    let result = c.from_residual-in_err-open_trial-in-Choice.result in
    let error = c.from_residual-in_err-open_trial-in-Choice.ensures.0 in
    record {
      ends = λ s y h. ends_error AllocError c.args.limit s y _ result error
          (error_at (ap (λ (r : Run _). r.visits) others)
          (open_choice_error (took AllocError f same (c.work.invariant.trials s y h)
          (rw c.in-Choice.is at c.in_ok-advance.ensures.courses))));
      spends = λ s y h plain. spends_error_as _ result error
          (subst (λ (v : Visits). Spends (rule_of g.N.Walk.HAS_SUMMARIES c.args.limit) (left_of f c.args.self.now) (none_left v))
          (sym (ap (λ (r : Run _). r.visits) others))
          (spends_all
          (open_spends same (record { before = h; now = c.work.invariant.trials s y h; plain = plain })
          (c.work.invariant.spends s y h plain) (rw c.in-Choice.is at c.in_ok-advance.ensures.spends))));
      course = λ s y h refused.
          let now = c.work.invariant.course s y h refused in
          trials_error g.N.Walk.HAS_SUMMARIES s y (trial_point f next) (held_of f next) result error
          (part_at (ap (λ (r : Run _). r.visits.probes) others)
          (course_error_choice AllocError f g.N.Walk.HAS_SUMMARIES (trial_point f new) c.in-Choice.choice (held_of f old) now
          (options_at f s y c.args.self.now old h now.trials) (rw c.in-Choice.is at c.in_ok-advance.ensures.course)));
      summed = nothing_on_error result _ error;
    }
