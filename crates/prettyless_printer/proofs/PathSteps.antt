-- Paths of a run: each step of it leads on, ends it, or breaks it off.
use Rattle.std.proofs.Common.{◌≡◌, ℕ, ◌≤◌, ◌<◌, List, [], ◌∷◌, ◌++◌, length, refl, ap, sym, ◌∙◌, append-nil, arith, subst, Ok, Err, true}
use Rattle.std.proofs.Common.{false, IsSome}
use Rattle.prettyless_sink.specs.Sink.{AppendsBeginning, IfKnown, known, rise}
use Rattle.prettyless_sink.specs.declared.error.RenderError.{RenderError}
use Rattle.prettyless_sink.specs.declared.error.RenderError.TheVariants.{Document, Sink, Memory}
use Rattle.prettyless_model.specs.declared.options.RenderOptions.{RenderOptions}
use Rattle.prettyless_model.specs.declared.mode.Mode.TheVariants.{Break}
use Rattle.prettyless_model.specs.Tree.{Tree}
use Rattle.prettyless_model.specs.Content.{suffix_depth}
use Rattle.prettyless_model.specs.Layout.{State, Outcome}
use Rattle.prettyless_model.proofs.Outcomes.{after-nil}
use Rattle.prettyless_probe.specs.Stack.{Task, make_task, nodes}
use Rattle.prettyless_step.specs.Steps.{pending_work}
use Rattle.prettyless_printer.specs.declared.answer.Choice.{Choice}
use Rattle.prettyless_printer.specs.declared.answer.TurnResult.TheVariants as turn_result
use Rattle.prettyless_printer.specs.Points.{Standing, state_at, QueueGrows, Seen, Point, point_at, work_at}
use Rattle.prettyless_printer.specs.Progress.{Inside}
use Rattle.prettyless_printer.specs.Turns.{Advances, ForWholes, TurnHolds, Advanced, bytes_before}
use Rattle.prettyless_printer.specs.Trials.{Tries}
use Rattle.prettyless_printer.specs.Visits.{Plain, Rise, CountsAtMost}
use Rattle.prettyless_printer.specs.AtLeast.{CountsAtLeast, stack_tally}
use Rattle.prettyless_printer.specs.Renders.{rest_of, Stopped, RunsCommands}
use Rattle.prettyless_printer.specs.Paths.{Aim, Path, PathToChoice, RunError, run_of}
use Rattle.prettyless_printer.proofs.Progresses.{inside_beginning, inside_end, choice_next_beginning}
use Rattle.prettyless_printer.proofs.Standings.{Pushed}
use Rattle.prettyless_printer.proofs.Turnings.{beginning_less}
use Rattle.prettyless_printer.proofs.Trying.{begins-grows, grows-grows, choice_kept, choice_other}
use Rattle.prettyless_printer.proofs.Visits.{rise_same, rise_then, at_most_same, at_most_then, at_most_all, at_most_at, at_most_first}
use Rattle.prettyless_printer.proofs.Visits.{at_most_besides, plain_push}
use Rattle.prettyless_printer.proofs.AtLeast.{at_least_same, at_least_then, at_least_end, kept_at_least, other_at_least}

-- ---- One turn

-- what a turn says of every whole, at the whole of a run
pub at_run : {r : Aim} {a : Point} (goal : RenderOptions → Outcome → ℕ → List Task → List ℕ → Type 0) → Path r a
    → length r.below < length a.printer.tasks → IsSome r.start.sink.bytes →
    ForWholes a.printer (known a.sink.bytes) (goal a.printer.options)
    → goal r.start.printer.options r.whole r.limit r.below (known r.start.sink.bytes)
at_run {r} {a} goal p l is_known h =
    let old = known r.start.sink.bytes in
    subst (λ (w : RenderOptions). goal w r.whole r.limit r.below old) p.options
    (h r.whole r.limit r.below old l
    (subst (λ (w : RenderOptions). Inside w r.whole r.limit r.below old a.printer.tasks (state_at a.printer) (known a.sink.bytes))
    (sym p.options) (p.bytes is_known).1.0))

-- What leads from one point of a run to another.
record PathStep (a b : Point) : Type 0 where
  options : b.printer.options ≡ a.printer.options
  grows : QueueGrows a.printer b.printer
  same_lender : b.sink.lender ≡ a.sink.lender
  less : work_at b ≤ work_at a
  bytes : IfKnown a.sink.bytes b.sink.bytes (λ out new.
      ForWholes a.printer out (λ whole limit below old. Inside a.printer.options whole limit below old b.printer.tasks (state_at b.printer)
      new) × (b.sink.failures ≡ a.sink.failures))
  rise : Rise a.visits b.visits
  at_most : Plain a.printer → Plain b.printer × CountsAtMost a.printer.tasks b.printer.tasks a.visits b.visits
  at_least : (n : ℕ) → n < length a.printer.tasks → CountsAtLeast (stack_tally a.printer n) (stack_tally b.printer n) a.visits b.visits

path_step : {r : Aim} {a b : Point} → Path r a → length r.below < length a.printer.tasks → PathStep a b → Path r b
path_step {r} {a} {b} p l h = record {
  options = h.options ∙ p.options;
  queue = begins-grows r.queue a.printer b.printer p.queue h.grows;
  same_lender = h.same_lender ∙ p.same_lender;
  less = omega (arith, h.less, p.less);
  bytes = λ is_known.
      let y = p.bytes is_known in
      let e = h.bytes y.0 in (
        e.0,
        (
          at_run (λ o whole limit below old. Inside o whole limit below old b.printer.tasks (state_at b.printer) (known b.sink.bytes))
              p l is_known e.1.0,
          e.1.1 ∙ y.1.1,
        ),
      );
  rise = rise_then p.rise h.rise;
  at_most = λ plain.
      let y = p.at_most plain in
      let z = h.at_most y.0 in
      (z.0, at_most_then y.1 z.1);
  at_least = at_least_then p.at_least (h.at_least (length r.below) l);
}

-- a turn that goes on
pub goes_on : {N E : Type 0} (f : N → Tree) {r : Aim} {a b : Point} → Path r a → length r.below < length a.printer.tasks →
    Advances {N = N} {E = E} f a b (Ok turn_result.Complete) → Path r b
goes_on f p l h =
    path_step p l
    (record {
      options = h.options;
      grows = h.grows;
      same_lender = h.same_lender;
      less = omega (arith, h.work_falls);
      bytes = h.bytes;
      rise = h.rise;
      at_most = h.at_most;
      at_least = h.at_least;
    })

-- a turn that stopped
pub stops : {N E : Type 0} (f : N → Tree) {r : Aim} {a b : Point} → Path r a → length r.below < length a.printer.tasks →
    Advances {N = N} {E = E} f a b (Ok turn_result.Shift) → Path r b
stops f p l h =
    path_step p l
    (record {
      options = h.options;
      grows = h.grows;
      same_lender = h.same_lender;
      less = h.work_falls.0;
      bytes = h.bytes;
      rise = h.rise;
      at_most = h.at_most;
      at_least = h.at_least;
    })

-- a turn after which two branches are to be chosen from
pub path_to_choice : {N E : Type 0} (f : N → Tree) {r : Aim} {a b : Point} (choice : Choice N) → Path r a
    → length r.below < length a.printer.tasks →
    Advances {N = N} {E = E} f a b (Ok (turn_result.Choice choice)) → length r.below ≤ length b.printer.tasks
    → PathToChoice r choice.indent (f choice.first) (f choice.second) b
path_to_choice f {r} {a} {b} choice p l h long = record {
  options = h.options ∙ p.options;
  queue = begins-grows r.queue a.printer b.printer p.queue h.grows;
  same_lender = h.same_lender ∙ p.same_lender;
  less = omega (arith, h.work_falls.0, p.less);
  long = long;
  bytes = λ is_known.
      let y' = p.bytes is_known in
      let e = h.bytes y'.0 in (
        e.0,
        (
          at_run (λ o. TurnHolds f o b.printer (known b.sink.bytes) (turn_result.Choice choice)) p l is_known e.1.0,
          e.1.1 ∙ y'.1.1,
        ),
      );
  rise = rise_then p.rise h.rise;
  at_most = λ plain.
      let y' = p.at_most plain in
      let z = h.at_most y'.0 in
      (z.0, z.1, z.2, at_most_then y'.1 z.3);
  at_least = at_least_then p.at_least (h.at_least (length r.below) l);
}

-- a turn that ended in an error
pub breaks_off : {N E : Type 0} (f : N → Tree) (fails : E → Type 0) {r : Aim} {a b : Point} (e : RenderError E) → Path r a
    → length r.below < length a.printer.tasks →
    Advances {N = N} {E = E} f a b (Err e) → RunError fails r e b
breaks_off {E} f fails {r} {a} {b} e p l h = record {
  same_lender = h.same_lender ∙ p.same_lender;
  bytes = λ is_known.
      let z = h.bytes (p.bytes is_known).0 in
      (z.0, stopped e is_known z.1);
  rise = rise_then p.rise h.rise;
  at_most = λ plain.
      let y = p.at_most plain in
      at_most_then y.1 (h.at_most y.0);
}
  where
    stopped : (e : RenderError E) → IsSome r.start.sink.bytes
        → Advanced f a.printer b.printer (known a.sink.bytes) (known b.sink.bytes) a.sink.failures b.sink.failures (Err e)
        → Stopped fails r.whole (known r.start.sink.bytes) (known b.sink.bytes) r.start.sink.failures b.sink.failures e
    stopped (Document e) is_known h = absurd h
    stopped (Sink e) is_known h = (
      at_run (λ o whole limit below old. AppendsBeginning old (known b.sink.bytes) (bytes_before whole)) p l is_known h.0,
      h.1 ∙ ap rise (p.bytes is_known).1.1,
    )
    stopped (Memory e) is_known h = (
      subst (λ (z : List ℕ). AppendsBeginning (known r.start.sink.bytes) z (bytes_before r.whole)) (sym h.0)
          (inside_beginning (p.bytes is_known).1.0),
      h.1 ∙ (p.bytes is_known).1.1,
    )

-- what a turn at a node that fails says of the whole, where the sink's bytes are known
pub at_failing : {N E : Type 0} (f : N → Tree) {r : Aim} {a b : Point} → Path r a → length r.below < length a.printer.tasks
    → Advances {N = N} {E = E} f a b (Ok turn_result.Failed) →
    IfKnown r.start.sink.bytes b.sink.bytes (λ old out. TurnHolds f r.start.printer.options b.printer out turn_result.Failed r.whole r.limit
    r.below old
    × (b.sink.failures ≡ r.start.sink.failures))
at_failing f {b} p l h = λ is_known.
    let y = p.bytes is_known in
    let k = h.bytes y.0 in (
      k.0,
      (
        at_run (λ o. TurnHolds f o b.printer (known b.sink.bytes) turn_result.Failed) p l is_known k.1.0,
        k.1.1 ∙ y.1.1,
      ),
    )

-- a turn at a node that fails
pub fails_there : {N E : Type 0} (f : N → Tree) (fails : E → Type 0) {r : Aim} {a b : Point} (e : E) → Path r a
    → length r.below < length a.printer.tasks →
    Advances {N = N} {E = E} f a b (Ok turn_result.Failed) → fails e → RunError fails r (Document e) b
fails_there f fails e p l h w = record {
  same_lender = h.same_lender ∙ p.same_lender;
  bytes = λ is_known.
      let k = at_failing f p l h is_known in
      let z = k.1.0 in
      (k.0, (z.0, z.3, z.2, k.1.1, w));
  rise = rise_then p.rise h.rise;
  at_most = λ plain.
      let y = p.at_most plain in
      at_most_all (at_most_then y.1 (h.at_most y.0));
}

-- ---- Choices

-- the first branch is kept, and what the trial wrote is appended
pub goes_on_kept : {E : Type 0} {r : Aim} {b c : Point} {s t : Seen} {i : ℕ} {x y : Tree} → PathToChoice r i x y b →
    Tries {E = E} i x (point_at b.printer s b.visits) (point_at c.printer t c.visits) (Ok true) → c.sink.lender ≡ b.sink.lender →
    IfKnown b.sink.bytes c.sink.bytes (λ out new. ((piece : List ℕ) → known t.bytes ≡ known s.bytes ++ piece → new ≡ out ++ piece)
    × (c.sink.failures ≡ b.sink.failures)) → Path r c
goes_on_kept {r} {b} {c} {i} {x} {y} w tries lender wrote =
    let d = tries.decided in
    record {
      options = d.1 ∙ w.options;
      queue = begins-grows r.queue b.printer c.printer w.queue d.2;
      same_lender = lender ∙ w.same_lender;
      less = omega (arith, w.less, d.4, ap nodes d.0);
      bytes = λ is_known.
          let h = w.bytes is_known in
          let z = wrote h.0 in
          let n = choice_kept tries h.1.0 w.options in (
            z.0,
            (
              subst (Inside r.start.printer.options r.whole r.limit r.below (known r.start.sink.bytes) c.printer.tasks (state_at c.printer))
                  (sym (z.1.0 n.0 n.1)) n.2,
              z.1.1 ∙ h.1.1,
            ),
          );
      rise = rise_then w.rise tries.rise;
      at_most = λ plain.
          let h = w.at_most plain in
          let z = tries.at_most h.0 h.1 in
          (z.0, at_most_then h.3 (at_most_first (make_task i Break x) (make_task i Break y) z.1));
      at_least = at_least_then w.at_least (kept_at_least y (length r.below) tries);
    }

-- the first branch is rejected, and the second one comes next
pub goes_on_other : {E : Type 0} {r : Aim} {b c : Point} {q : Standing} {s t : Seen} {i : ℕ} {x y : Tree} → PathToChoice r i x y b →
    Tries {E = E} i x (point_at b.printer s b.visits) (point_at q t c.visits) (Ok false) → Pushed (make_task i Break y) q c.printer
    → c.sink.lender ≡ b.sink.lender →
    IfKnown b.sink.bytes c.sink.bytes (λ out new. (known t.bytes ≡ known s.bytes → new ≡ out) × (c.sink.failures ≡ b.sink.failures))
    → Path r c
goes_on_other {r} {b} {c} {q} {s} {i} {x} {y} w tries pushed lender wrote =
    let d = tries.decided in
    record {
      options = pushed.options ∙ d.1 ∙ w.options;
      queue = begins-grows r.queue b.printer c.printer w.queue (grows-grows b.printer q c.printer d.2 pushed.grows);
      same_lender = lender ∙ w.same_lender;
      less = omega (arith, w.less, d.4, ap nodes d.0, ap nodes pushed.tasks, ap (λ (s : State). pending_work s.pending) pushed.state);
      bytes = λ is_known.
          let h = w.bytes is_known in
          let z = wrote h.0 in
          let n = choice_other tries h.1.0 w.options pushed in (
            z.0,
            (
              subst (Inside r.start.printer.options r.whole r.limit r.below (known r.start.sink.bytes) c.printer.tasks (state_at c.printer))
                  (sym (z.1.0 n.0)) n.1,
              z.1.1 ∙ h.1.1,
            ),
          );
      rise = rise_then w.rise tries.rise;
      at_most = λ plain.
          let h = w.at_most plain in
          let z = tries.at_most h.0 h.1 in (
            plain_push q c.printer (make_task i Break y) pushed.tasks (ap (λ (s : State). s.pending) pushed.state) h.2 z.0,
            at_most_at c.printer.tasks pushed.tasks
                (at_most_then h.3 (at_most_besides (make_task i Break x) (make_task i Break y) z.1)),
          );
      at_least = at_least_then w.at_least (other_at_least (length r.below) w.long tries pushed);
    }

-- a choice that is refused memory, before anything of it is written
pub choice_refused : {E : Type 0} (fails : E → Type 0) {r : Aim} {b c : Point} {i : ℕ} {x y : Tree} (e : _) → PathToChoice r i x y b
    → c.sink.lender ≡ b.sink.lender →
    IfKnown b.sink.bytes c.sink.bytes (λ out new. (new ≡ out) × (c.sink.failures ≡ b.sink.failures)) → Rise b.visits c.visits →
    (Plain b.printer → suffix_depth x ≡ 0 → CountsAtMost (make_task i Break x ∷ b.printer.tasks) [] b.visits c.visits)
    → RunError {E = E} fails r (Memory e) c
choice_refused fails {r} {i} {x} {y} e w lender wrote rise counts = record {
  same_lender = lender ∙ w.same_lender;
  bytes = λ is_known.
      let h = w.bytes is_known in
      let z = wrote h.0 in (
        z.0,
        (
          subst (λ (s : List ℕ). AppendsBeginning (known r.start.sink.bytes) s (bytes_before r.whole)) (sym z.1.0)
              (choice_next_beginning h.1.0),
          z.1.1 ∙ h.1.1,
        ),
      );
  rise = rise_then w.rise rise;
  at_most = λ plain.
      let h = w.at_most plain in
      at_most_then h.3 (at_most_first (make_task i Break x) (make_task i Break y) (counts h.0 h.1));
}

-- the first branch is kept, and the sink fails at what the trial wrote
pub choice_unwritten : {E D : Type 0} (fails : E → Type 0) {r : Aim} {b c : Point} {s t : Seen} {i : ℕ} {x y : Tree} (e : E)
    → PathToChoice r i x y b →
    Tries {E = D} i x (point_at b.printer s b.visits) (point_at c.printer t c.visits) (Ok true) → c.sink.lender ≡ b.sink.lender →
    IfKnown b.sink.bytes c.sink.bytes
    (λ out new. ((piece : List ℕ) → known t.bytes ≡ known s.bytes ++ piece → AppendsBeginning out new piece)
    × (c.sink.failures ≡ rise b.sink.failures)) → RunError fails r (Sink e) c
choice_unwritten fails {r} {b} {c} {i} {x} {y} e w tries lender wrote =
    let o = r.start.printer.options in
    let old = known r.start.sink.bytes in
    let out = known b.sink.bytes in
    record {
      same_lender = lender ∙ w.same_lender;
      bytes = λ is_known.
          let h = w.bytes is_known in
          let z = wrote h.0 in
          let n = choice_kept tries h.1.0 w.options in (
            z.0,
            (
              beginning_less old out (known c.sink.bytes) n.0 (bytes_before r.whole) (z.1.0 n.0 n.1)
                  (inside_beginning n.2)
                  (h.1.0.bytes, h.1.0.out_is),
              z.1.1 ∙ ap rise h.1.1,
            ),
          );
      rise = rise_then w.rise tries.rise;
      at_most = λ plain.
          let h = w.at_most plain in
          at_most_then h.3 (at_most_all (at_most_first (make_task i Break x) (make_task i Break y) (tries.at_most h.0 h.1).1));
    }

-- ---- The beginning and the end

-- it begins
pub run_begins : (a : Point) → Path (run_of a) a
run_begins a = record {
  options = refl;
  queue = (a.printer.queue, refl);
  same_lender = refl;
  less = omega arith;
  bytes = λ is_known. (
    is_known,
    (
      record {
        above = a.printer.tasks;
        bytes = [];
        stack_is = sym (append-nil a.printer.tasks);
        out_is = sym (append-nil (known a.sink.bytes));
        same = after-nil (rest_of a.printer);
        bound = omega arith;
      },
      refl,
    ),
  );
  rise = rise_same a.visits;
  at_most = λ plain. (record { none = plain.0; pending = plain.1 }, at_most_same a.printer.tasks a.visits);
  at_least = at_least_same (stack_tally a.printer 0) a.visits;
}

-- no task is left
no_tasks : (ts : List Task) → length ts ≤ 0 → ts ≡ []
no_tasks [] l = refl
no_tasks (t ∷ ts) l = absurd (omega arith)

-- it ends
pub run_ends : {A E : Type 0} (fails : E → Type 0) {a b : Point} (x : A) → Path (run_of a) b → length b.printer.tasks ≤ 0
    → RunsCommands fails a b (Ok x)
run_ends fails {b} x p l = record {
  options = p.options;
  done = no_tasks b.printer.tasks l;
  work_falls = omega (arith, p.less);
  same_lender = p.same_lender;
  bytes = λ is_known.
      let y = p.bytes is_known in
      let e = inside_end y.1.0 l in
      (y.0, (e.0, e.2, e.1, y.1.1));
  rise = p.rise;
  at_most = λ plain. p.at_most (plain.none, plain.pending);
  at_least = at_least_end b.printer 0 l p.at_least;
}

-- what ends in an error where no document fails, does so where some may
pub error_anyhow : {E : Type 0} (fails : E → Type 0) {r : Aim} {b : Point} (e : RenderError E) → RunError (λ _. ⊥) r e b
    → RunError fails r e b
error_anyhow fails (Document e) h = record {
  same_lender = h.same_lender;
  bytes = λ is_known. absurd ((h.bytes is_known).1.4);
  rise = h.rise;
  at_most = h.at_most;
}
error_anyhow fails (Sink e) h = record { same_lender = h.same_lender; bytes = h.bytes; rise = h.rise; at_most = h.at_most }
error_anyhow fails (Memory e) h = record { same_lender = h.same_lender; bytes = h.bytes; rise = h.rise; at_most = h.at_most }

-- it ended in an error
pub run_error : {A E : Type 0} (fails : E → Type 0) {a b : Point} (e : RenderError E) → RunError fails (run_of a) e b
    → RunsCommands {A = A} {E = E} fails a b (Err e)
run_error fails e h = record {
  options = tt;
  done = tt;
  work_falls = tt;
  same_lender = h.same_lender;
  bytes = h.bytes;
  rise = h.rise;
  at_most = λ plain. h.at_most (plain.none, plain.pending);
  at_least = tt;
}
