-- Progress: what a step makes of the work inside a whole.
use Rattle.std.proofs.Common.{◌≡◌, ℕ, ◌+◌, ◌*◌, ◌≤◌, List, [], ◌∷◌, ◌++◌, length, refl, ap, sym, ◌∙◌, append_assoc, append-nil}
use Rattle.std.proofs.Common.{length-append, arith, subst, false}
use Rattle.prettyless_sink.specs.Sink.{AppendsBeginning}
use Rattle.prettyless_model.specs.declared.options.RenderOptions.{RenderOptions}
use Rattle.prettyless_model.specs.Tree.{Tree, size}
use Rattle.prettyless_model.specs.Layout.{State, Outcome, Done, Failed, Entry, after_bytes, and_then, accept, lay, in_trial}
use Rattle.prettyless_model.specs.Levels.{settle}
use Rattle.prettyless_model.specs.declared.mode.Mode.TheVariants.{Break}
use Rattle.prettyless_model.proofs.Outcomes.{after-after}
use Rattle.prettyless_model.proofs.Levels.{settle_fixed}
use Rattle.prettyless_probe.specs.Stack.{Task, make_task, follow}
use Rattle.prettyless_step.specs.Steps.{lay_all, work, pending_work, Step, Move, Stuck, Choose, step_of, chosen}
use Rattle.prettyless_step.proofs.Shown.{step_outcome}
use Rattle.prettyless_printer.specs.Progress.{Inside, ChoiceNext}
use Rattle.prettyless_printer.specs.Turns.{bytes_before}
use Rattle.prettyless_probe.proofs.Stacks.{follow-append, nodes-append, split_top}
use Rattle.prettyless_printer.proofs.Runs.{step_runs}
use Rattle.prettyless_printer.proofs.Steps.{LeavesLess, step_less}
use Rattle.prettyless_printer.proofs.Within.{Past, all_past, past-after}

-- ---- what a step begins with, and what holds after it

-- What is left of a whole once the first task is taken, whose step comes next.
record Taken (o : RenderOptions) (whole : Outcome) (limit : ℕ) (below : List Task) (old : List ℕ) (t : Task) (ts : List Task) (st : State)
    (out : List ℕ) (step : Step) : Type 0 where
  rest : List Task
  bytes : List ℕ
  tasks_are : ts ≡ rest ++ below
  out_is : out ≡ old ++ bytes
  same : after_bytes bytes (step_outcome o (settle o) step rest (follow below) st) ≡ whole
  bound : work (t ∷ rest) st ≤ limit

-- what holds after a step: the work is inside the whole, or the whole fails after what was written, or a choice waits
abbrev pub Steps : (o : RenderOptions) (whole : Outcome) (limit : ℕ) (below : List Task) (old : List ℕ) (ts : List Task) (st : State)
    (out : List ℕ) → Step → Type 0
Steps o whole limit below old ts st out (Move b pushed u) = Inside o whole limit below old (pushed ++ ts) u (out ++ b)
Steps o whole limit below old ts st out Stuck = (bytes : List ℕ) × (above : List Task) × (out ≡ old ++ bytes) × (whole ≡ Failed bytes)
    × (ts ≡ above ++ below)
Steps o whole limit below old ts st out (Choose i x y) = ChoiceNext o whole limit below old i x y ts st out

-- ---- one step of the first task

module _ {o : RenderOptions} {whole : Outcome} {limit : ℕ} {below : List Task} {old : List ℕ} where
  taken : {t : Task} {ts : List Task} {st : State} {out : List ℕ} → length below ≤ length ts
      → Inside o whole limit below old (t ∷ ts) st out
      → Taken o whole limit below old t ts st out (step_of o t.tree t.indent t.mode (follow ts) st)
  taken {t} {ts} {st} l p =
      let step : Step = step_of o t.tree t.indent t.mode (follow ts) st in
      let w = split_top p.above below t ts p.stack_is l in
      let e : lay_all o (settle o) (t ∷ w.0) (follow below) st ≡ step_outcome o (settle o) step w.0 (follow below) st =
      step_runs o (settle o) (settle_fixed o) t.tree t.indent t.mode w.0 (follow below) st
      ∙ ap (λ (r : List Entry). step_outcome o (settle o) (step_of o t.tree t.indent t.mode r st) w.0 (follow below) st)
      (sym (ap follow w.2 ∙ follow-append w.0 below)) in
      record {
        rest = w.0;
        bytes = p.bytes;
        tasks_are = w.2;
        out_is = p.out_is;
        same = ap (after_bytes p.bytes) (sym e)
            ∙ ap (λ (x : List Task). after_bytes p.bytes (lay_all o (settle o) x (follow below) st)) (sym w.1) ∙ p.same;
        bound = subst (λ (x : List Task). work x st ≤ limit) w.1 p.bound;
      }

  steps : {t : Task} {ts : List Task} {st : State} {out : List ℕ} (step : Step)
      → LeavesLess (pending_work st.pending) (2 * size t.tree + pending_work st.pending) step
      → Taken o whole limit below old t ts st out step
      → Steps o whole limit below old ts st out step
  steps (Move b pushed u) less w = record {
    above = pushed ++ w.rest;
    bytes = w.bytes ++ b;
    stack_is = ap (λ (x : List Task). pushed ++ x) w.tasks_are ∙ sym (append_assoc pushed w.rest below);
    out_is = ap (λ (x : List ℕ). x ++ b) w.out_is ∙ append_assoc old w.bytes b;
    same = sym (after-after w.bytes b (lay_all o (settle o) (pushed ++ w.rest) (follow below) u)) ∙ w.same;
    bound = omega (arith, nodes-append pushed w.rest, w.bound);
  }
  steps Stuck less w = (w.bytes, w.rest, w.out_is, sym w.same ∙ ap Failed (append-nil w.bytes), w.tasks_are)
  steps {st} (Choose i x y) less w = record {
    above = w.rest;
    bytes = w.bytes;
    stack_is = w.tasks_are;
    out_is = w.out_is;
    same = ap (λ (r : List Entry). after_bytes w.bytes
        (and_then (chosen o (settle o) i x y r st) (λ u. lay_all o (settle o) w.rest (follow below) u)))
        (ap follow w.tasks_are ∙ follow-append w.rest below) ∙ w.same;
    bound = omega (arith, w.bound);
  }

  -- a step, of the top of the stack
  pub stepping : {t : Task} {ts : List Task} {st : State} {out : List ℕ} → length below ≤ length ts
      → Inside o whole limit below old (t ∷ ts) st out
      → Steps o whole limit below old ts st out (step_of o t.tree t.indent t.mode (follow ts) st)
  stepping {t} {ts} {st} l p =
      steps (step_of o t.tree t.indent t.mode (follow ts) st) (step_less o t.tree t.indent t.mode (follow ts) st) (taken l p)

-- ---- the outcome of the work that is left

-- nothing is left above
ends_at : (o : RenderOptions) (whole : Outcome) (below above : List Task) (bytes : List ℕ) (st : State)
    → length (above ++ below) ≤ length below → after_bytes bytes (lay_all o (settle o) above (follow below) st) ≡ whole
    → whole ≡ Done bytes st
unfolding lay_all
ends_at o whole below [] bytes st l h = sym h ∙ ap (λ (b : List ℕ). Done b st) (append-nil bytes)
ends_at o whole below (a ∷ above) bytes st l h = absurd (omega (arith, length-append above below))

pub bytes_before-after : (b : List ℕ) (o : Outcome) → bytes_before (after_bytes b o) ≡ b ++ bytes_before o
bytes_before-after b (Done c st) = refl
bytes_before-after b (Failed c) = refl

lay_all-second : (o : RenderOptions) (i : ℕ) (y : Tree) (ts : List Task) (outer : List Entry) (st : State) →
    lay_all o (settle o) (make_task i Break y ∷ ts) outer st ≡ and_then (lay o (settle o) y i Break (follow ts ++ outer) st)
    (λ u. lay_all o (settle o) ts outer u)
unfolding lay_all
lay_all-second o i y ts outer st = refl

-- ---- the end, the bytes written and the width

module _ {o : RenderOptions} {whole : Outcome} {limit : ℕ} {below : List Task} {old : List ℕ} {stack : List Task} {st : State}
    {out : List ℕ} where
  -- the work is done: the whole is what was written
  pub inside_end : Inside o whole limit below old stack st out → length stack ≤ length below →
      (bytes : List ℕ) × (out ≡ old ++ bytes) × (whole ≡ Done bytes st) × (pending_work st.pending ≤ limit)
  inside_end p l =
      (p.bytes, p.out_is, ends_at o whole below p.above p.bytes st (omega (arith, ap length p.stack_is, l)) p.same, omega (arith, p.bound))

  -- what is written of a whole is a beginning of it
  pub inside_beginning : Inside o whole limit below old stack st out → AppendsBeginning old out (bytes_before whole)
  inside_beginning p =
      let left : Outcome = lay_all o (settle o) p.above (follow below) st in
      (p.bytes, bytes_before left, sym (ap bytes_before p.same) ∙ bytes_before-after p.bytes left, p.out_is)

  -- work that went past the width
  pub inside_past : Inside o whole limit below old stack st out → st.within ≡ false → Past whole
  inside_past p h =
      subst Past p.same (past-after p.bytes (lay_all o (settle o) p.above (follow below) st) (all_past o p.above (follow below) st h))

  -- ---- choices

  -- a choice whose first branch is kept
  pub choice_next_kept : {i : ℕ} {x y : Tree} {b : List ℕ} {u : State} → ChoiceNext o whole limit below old i x y stack st out
      → chosen o (settle o) i x y (follow stack) st ≡ Done b u → pending_work u.pending ≤ 2 * size x + pending_work st.pending
      → Inside o whole limit below old stack u (out ++ b)
  choice_next_kept {b} {u} p h l = record {
    above = p.above;
    bytes = p.bytes ++ b;
    stack_is = p.stack_is;
    out_is = ap (λ (z : List ℕ). z ++ b) p.out_is ∙ append_assoc old p.bytes b;
    same = sym (after-after p.bytes b (lay_all o (settle o) p.above (follow below) u))
        ∙ ap (λ (z : Outcome). after_bytes p.bytes (and_then z (λ v. lay_all o (settle o) p.above (follow below) v))) (sym h) ∙ p.same;
    bound = omega (arith, l, p.bound);
  }

  -- a choice whose first branch is rejected
  pub choice_next_other : {i : ℕ} {x y : Tree} → ChoiceNext o whole limit below old i x y stack st out
      → ((other : Outcome) → accept o st.within (lay o (settle o) x i Break (follow stack) (in_trial st)) other ≡ other)
      → Inside o whole limit below old (make_task i Break y ∷ stack) st out
  choice_next_other {i} {y} p h = record {
    above = make_task i Break y ∷ p.above;
    bytes = p.bytes;
    stack_is = ap (λ (z : List Task). make_task i Break y ∷ z) p.stack_is;
    out_is = p.out_is;
    same = ap (after_bytes p.bytes) (lay_all-second o i y p.above (follow below) st)
        ∙ ap (λ (r : List Entry). after_bytes p.bytes
        (and_then (lay o (settle o) y i Break r st) (λ v. lay_all o (settle o) p.above (follow below) v)))
        (sym (ap follow p.stack_is ∙ follow-append p.above below))
        ∙ ap (λ (z : Outcome). after_bytes p.bytes (and_then z (λ v. lay_all o (settle o) p.above (follow below) v)))
        (sym (h (lay o (settle o) y i Break (follow stack) st))) ∙ p.same;
    bound = omega (arith, p.bound);
  }

  -- what is written of a whole in which a choice waits is a beginning of it
  pub choice_next_beginning : {i : ℕ} {x y : Tree} → ChoiceNext o whole limit below old i x y stack st out
      → AppendsBeginning old out (bytes_before whole)
  choice_next_beginning {i} {x} {y} p =
      let left : Outcome = and_then (chosen o (settle o) i x y (follow stack) st) (λ u. lay_all o (settle o) p.above (follow below) u) in
      (p.bytes, bytes_before left, sym (ap bytes_before p.same) ∙ bytes_before-after p.bytes left, p.out_is)
