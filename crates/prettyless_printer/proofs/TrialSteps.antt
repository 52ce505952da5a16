-- A trial as a run of its own: begun, continued, ended or undone.
use Rattle.std.proofs.Common.{◌≡◌, ℕ, ◌+◌, ◌*◌, ◌≤◌, ◌<◌, ◌∷◌, length, refl, ap, ◌∙◌, arith, subst, Ok, true, false, take}
use Rattle.std.proofs.Common.{length-append, IsSome}
use Rattle.prettyless_sink.specs.Sink.{known}
use Rattle.prettyless_model.specs.declared.options.RenderOptions.{RenderOptions}
use Rattle.prettyless_model.specs.Column.{padding_fits}
use Rattle.prettyless_model.specs.Layout.{Outcome, State, accept, some_pending}
use Rattle.prettyless_model.specs.declared.mode.Mode.TheVariants.{Break}
use Rattle.prettyless_model.specs.Content.{suffix_depth}
use Rattle.prettyless_model.specs.Tree.{Tree, size}
use Rattle.prettyless_probe.specs.Stack.{make_task, nodes}
use Rattle.prettyless_step.specs.Steps.{pending_work}
use Rattle.prettyless_printer.specs.declared.trial.Mark.{Mark}
use Rattle.prettyless_printer.specs.Points.{Standing, state_at, Seen, Point, point_at, work_at}
use Rattle.prettyless_printer.specs.Trials.{Trial, AtChoice, TrialRejected, TrialComplete, Marks, TrialRunning, Restores, TrialError, Tries}
use Rattle.prettyless_printer.specs.Trials.{make_trial, trial_of, trial_run}
use Rattle.prettyless_printer.specs.Open.{BeginsTrial}
use Rattle.prettyless_printer.specs.Visits.{Plain, suffix_depths}
use Rattle.prettyless_printer.specs.Paths.{BeganPlain, Path}
use Rattle.prettyless_printer.specs.Turns.{Advances, TurnHolds}
use Rattle.prettyless_printer.specs.declared.answer.Choice.{Choice}
use Rattle.prettyless_printer.specs.declared.answer.TurnResult.TheVariants as turn_result
use Rattle.prettyless_printer.proofs.PathSteps.{at_failing, at_run, path_to_choice, goes_on, stops}
use Rattle.prettyless_printer.proofs.Progresses.{inside_past}
use Rattle.prettyless_printer.proofs.Standings.{Flagged}
use Rattle.prettyless_printer.proofs.Within.{accept_past}
use Rattle.prettyless_printer.proofs.Trying.{begins-grows, padding_decides, trial_ends, trying_begins, trial_rejected, trial_kept}
use Rattle.prettyless_printer.proofs.Visits.{rise_same, rise_then, at_most_all, at_most_same, at_most_at, at_most_cut, at_most_then}
use Rattle.prettyless_printer.proofs.Visits.{plain_at, plain_push}
use Rattle.prettyless_printer.proofs.AtLeast.{at_least_end, trial_begins}

-- ---- Beginning

-- it began without line suffixes, if there were none and the branch has none
pub began_plain : (t : Trial) → Plain t.start.printer → suffix_depth t.branch ≡ 0 → BeganPlain (trial_run t)
began_plain t plain none = (omega (arith, plain.none, none), plain.pending)

-- it begins: the branch is the next task
pub trial_run_begins : (a : Point) (q : Standing) (i : ℕ) (d : Tree) → BeginsTrial i d a.printer q
    → Path (trial_run (make_trial a i d)) (point_at q a.sink a.visits)
trial_run_begins a q i d h = record {
  options = h.options;
  queue = h.grows;
  same_lender = refl;
  less = omega (arith, ap nodes h.tasks, ap (λ (z : State). pending_work z.pending) h.state);
  bytes = λ is_known. (is_known, (trying_begins (known a.sink.bytes) h, refl));
  rise = rise_same a.visits;
  at_most = λ began.
      let plain : Plain a.printer = record { none = omega (arith, began.0); pending = began.1 } in (
        plain_push a.printer q (make_task i Break d) h.tasks (ap (λ (z : State). z.pending) h.state) (omega (arith, began.0)) plain,
        at_most_at q.tasks h.tasks (at_most_same (make_task i Break d ∷ a.printer.tasks) a.visits),
      );
  at_least = trial_begins a.visits h;
}

-- ---- A turn

-- a turn that goes on within the width
pub trial_turn_running : {N E : Type 0} (f : N → Tree) {t : Trial} {below : ℕ} {a b : Point} → TrialRunning t below a
    → below < length a.printer.tasks
    → Advances {N = N} {E = E} f a b (Ok turn_result.Complete) →
    b.printer.within ≡ true → TrialRunning t below b × (work_at b < work_at a)
trial_turn_running f on l h within = (
  record { is_known = on.is_known; path = goes_on f on.path (omega (arith, l, on.height)) h; within = within; height = on.height },
  h.work_falls,
)

-- a turn that stopped
pub trial_turn_shift : {N E : Type 0} (f : N → Tree) {t : Trial} {below : ℕ} {a b : Point} → TrialRunning t below a
    → below < length a.printer.tasks → Advances {N = N} {E = E} f a b (Ok turn_result.Shift) → TrialRunning t below b
trial_turn_shift f on l h = record {
  is_known = on.is_known;
  path = stops f on.path (omega (arith, l, on.height)) h;
  within = h.work_falls.1 ∙ on.within;
  height = on.height;
}

-- a turn after which something is past the width
pub trial_turn_exceeds : {N E : Type 0} (f : N → Tree) {t : Trial} {below : ℕ} {a b : Point} → TrialRunning t below a
    → below < length a.printer.tasks
    → Advances {N = N} {E = E} f a b (Ok turn_result.Complete) →
    b.printer.within ≡ false → TrialRejected t b
trial_turn_exceeds f {t} on l h past =
    let p = t.start.printer in
    let path = goes_on f on.path (omega (arith, l, on.height)) h in
    let k = path.bytes on.is_known in
    let e = k.1.0 in
    record {
      above = e.above;
      stack = e.stack_is;
      options = path.options;
      grows = path.queue;
      same_lender = path.same_lender;
      is_known = k.0;
      bytes = e.bytes;
      wrote = e.out_is;
      failures = k.1.1;
      rejected = λ other. accept_past p.options p.within (trial_of p t.indent t.branch) other
          (inside_past e past);
      rise = path.rise;
      at_most = λ began. (path.at_most began).1;
    }

-- a turn at a node that fails
pub trial_turn_failed : {N E : Type 0} (f : N → Tree) {t : Trial} {below : ℕ} {a b : Point} → TrialRunning t below a
    → below < length a.printer.tasks → Advances {N = N} {E = E} f a b (Ok turn_result.Failed) → TrialRejected t b
trial_turn_failed f {t} {below} {a} {b} on l h =
    let p = t.start.printer in
    let path = on.path in
    let k = at_failing f path (omega (arith, l, on.height)) h on.is_known in
    let z = k.1.0 in
    record {
      above = z.1;
      stack = z.4;
      options = h.options ∙ path.options;
      grows = begins-grows p.queue a.printer b.printer path.queue h.grows;
      same_lender = h.same_lender ∙ path.same_lender;
      is_known = k.0;
      bytes = z.0;
      wrote = z.2;
      failures = k.1.1;
      rejected = λ other. ap (λ (x : Outcome). accept p.options p.within x other) z.3;
      rise = rise_then path.rise h.rise;
      at_most = λ began.
          let y = path.at_most began in
          at_most_then y.1 (h.at_most y.0);
    }

-- a turn after which two branches are to be chosen from
pub trial_turn_choice : {N E : Type 0} (f : N → Tree) {t : Trial} {below : ℕ} {a b : Point} (choice : Choice N) → TrialRunning t below a
    → below < length a.printer.tasks → Advances {N = N} {E = E} f a b (Ok (turn_result.Choice choice)) →
    AtChoice t choice.indent (f choice.first) (f choice.second) b
    × (2 * (size (f choice.first) + size (f choice.second)) + work_at b < work_at a)
trial_turn_choice f {t} {a} {b} choice on l h =
    let path = on.path in
    let less : length t.start.printer.tasks < length a.printer.tasks = omega (arith, l, on.height) in
    let k = path.bytes on.is_known in
    let e = at_run (λ o. TurnHolds f o b.printer (known b.sink.bytes) (turn_result.Choice choice)) path less on.is_known
    (h.bytes k.0).1.0 in (
      record {
        is_known = (h.bytes k.0).0;
        waiting = path_to_choice f choice path less h (omega (arith, ap length e.stack_is, length-append e.above t.start.printer.tasks));
        within = h.work_falls.1 ∙ on.within;
      },
      h.work_falls.0,
    )

-- ---- The end

-- it came to its end, and the padding fits
pub trial_end_complete : {t : Trial} {below : ℕ} {a : Point} → TrialRunning t below a → length a.printer.tasks ≤ below →
    padding_fits a.printer.options.width (some_pending (state_at a.printer).pending) a.printer.column ≡ true → TrialComplete t a
    × (work_at a ≤ work_at a)
trial_end_complete {a} on l fits = (
  record {
    is_known = on.is_known;
    path = on.path;
    within = on.within;
    ended = omega (arith, l, on.height);
    fits = subst (λ (o : RenderOptions). padding_fits o.width (some_pending (state_at a.printer).pending) a.printer.column ≡ true)
        on.path.options fits;
  },
  omega arith,
)

-- it came to its end, and the padding does not fit
pub trial_end_exceeds : {t : Trial} {below : ℕ} {a : Point} → TrialRunning t below a → length a.printer.tasks ≤ below →
    padding_fits a.printer.options.width (some_pending (state_at a.printer).pending) a.printer.column ≡ false → TrialRejected t a
trial_end_exceeds {t} {a} on l unfit =
    let p = t.start.printer in
    let path = on.path in
    let k = path.bytes on.is_known in
    let z = k.1.0 in
    let e = trial_ends p a.printer t.indent t.branch (known t.start.sink.bytes) (known a.sink.bytes) z (omega (arith, l, on.height)) in
    record {
      above = z.above;
      stack = z.stack_is;
      options = path.options;
      grows = path.queue;
      same_lender = path.same_lender;
      is_known = k.0;
      bytes = e.1;
      wrote = e.2;
      failures = k.1.1;
      rejected = padding_decides p a.printer t.indent t.branch e.1 false e.3 on.within
          (subst (λ (o : RenderOptions). padding_fits o.width (some_pending (state_at a.printer).pending) a.printer.column ≡ false)
          path.options unfit);
      rise = path.rise;
      at_most = λ began. (path.at_most began).1;
    }

-- ---- Undone, or kept

-- what is rejected, or waits for a choice, may end in an error
pub rejected_error : {t : Trial} {b : Point} → TrialRejected t b → TrialError t b
rejected_error h = record { rise = h.rise; at_most = λ began. at_most_all (h.at_most began) }

pub choice_error : {t : Trial} (i : ℕ) (x y : Tree) {b : Point} → AtChoice t i x y b → TrialError t b
choice_error i x y h = record { rise = h.waiting.rise; at_most = λ began. at_most_all (h.waiting.at_most began).3 }

-- A sink was cut back to where a mark was set.
pub record CutBack (m : Mark) (s t : Seen) : Type 0 where
  pub is_known : IsSome t.bytes
  pub bytes : known t.bytes ≡ take m.written (known s.bytes)
  pub failures : t.failures ≡ s.failures
  pub lender : t.lender ≡ s.lender

-- it is undone
pub trial_undone : {E : Type 0} {t : Trial} {b : Point} {m : Mark} {s : Seen} (r : Standing) → TrialRejected t b
    → Marks m t.start.printer t.start.sink → Restores m b.printer r → CutBack m b.sink s →
    Tries {E = E} t.indent t.branch t.start (point_at r s b.visits) (Ok false)
trial_undone {t} {s} r fell marks back cut =
    let p = t.start.printer in
    let did = trial_rejected r (known s.bytes) fell marks back cut.bytes in
    record {
      decided = did;
      failures = cut.failures ∙ fell.failures;
      rise = fell.rise;
      at_most = λ plain none. (
        plain_at p r did.0 did.5.1 plain,
        at_most_cut fell.above p.tasks r.tasks fell.stack did.0 (fell.at_most (began_plain t plain none)),
      );
      at_least = tt;
    }

-- it is kept
pub trial_over : {E : Type 0} {t : Trial} {b : Point} {r : Standing} → TrialComplete t b → Flagged t.start.printer.within b.printer r →
    Tries {E = E} t.indent t.branch t.start (point_at r b.sink b.visits) (Ok true)
trial_over {t} {b} {r} lasts kept =
    let p = lasts.path in
    record {
      decided = trial_kept lasts kept;
      failures = (p.bytes lasts.is_known).1.1;
      rise = p.rise;
      at_most = λ plain none.
          let y = p.at_most (began_plain t plain none) in (
            record {
              none = ap suffix_depths kept.tasks ∙ y.0.none;
              pending = ap (λ (z : State). z.pending) kept.state
                  ∙ y.0.pending;
            },
            at_most_at r.tasks kept.tasks y.1,
          );
      at_least = at_least_end b.printer (length t.start.printer.tasks) lasts.ended p.at_least;
    }
