-- A turn: the current node is stepped, and its piece is written.
use Rattle.std.proofs.Common.{◌≡◌, ℕ, ◌+◌, ◌*◌, ◌≤◌, ◌<◌, List, ◌∷◌, ◌++◌, length, ap, sym, ◌∙◌, append_assoc, arith, subst}
use Rattle.std.proofs.lemmas.List.{append_cancel_left}
use Rattle.prettyless_sink.specs.Sink.{AppendsBeginning}
use Rattle.prettyless_model.specs.declared.options.RenderOptions.{RenderOptions}
use Rattle.prettyless_model.specs.Tree.{Tree, size}
use Rattle.prettyless_model.specs.Layout.{State, Outcome, Failed, after_bytes}
use Rattle.prettyless_model.specs.Levels.{settle}
use Rattle.prettyless_probe.specs.Stack.{Task, follow, nodes}
use Rattle.prettyless_step.specs.Steps.{lay_all, work, pending_work, Step, Move, Stuck, Choose}
use Rattle.prettyless_probe.proofs.Stacks.{nodes-append}
use Rattle.prettyless_step.proofs.Shown.{step_at, StepsTo, IsStuck, IsChoice}
use Rattle.prettyless_printer.specs.Progress.{Inside, ChoiceNext}
use Rattle.prettyless_printer.specs.Turns.{bytes_before}
use Rattle.prettyless_printer.proofs.Steps.{LeavesLess, step_less}
use Rattle.prettyless_printer.proofs.Progresses.{Steps, stepping, inside_beginning}

-- the same progress, where stack, state and bytes are named otherwise
pub inside_at : {o : RenderOptions} {whole : Outcome} {limit : ℕ} {below : List Task} {old : List ℕ} {stack stack' : List Task}
    {st st' : State} {out out' : List ℕ} →
    stack' ≡ stack → st' ≡ st → out' ≡ out → Inside o whole limit below old stack st out → Inside o whole limit below old stack' st' out'
inside_at {o} {whole} {limit} {below} e f h p = record {
  above = p.above;
  bytes = p.bytes;
  stack_is = e ∙ p.stack_is;
  out_is = h ∙ p.out_is;
  same = ap (λ (x : State). after_bytes p.bytes (lay_all o (settle o) p.above (follow below) x)) f ∙ p.same;
  bound = subst (λ (x : State). work p.above x ≤ limit) (sym f) p.bound;
}

work_falls_by : (t : Task) (ts us : List Task) (st u : State) (bytes : List ℕ) (step : Step)
    → LeavesLess (pending_work st.pending) (2 * size t.tree + pending_work st.pending) step →
    StepsTo step ts bytes us u → work us u < work (t ∷ ts) st
work_falls_by t ts us st u bytes (Move b pushed v) less h =
    omega (arith, ap nodes h.1, nodes-append pushed ts, ap (λ (x : State). pending_work x.pending) h.2)
work_falls_by t ts us st u bytes Stuck less h = absurd h
work_falls_by t ts us st u bytes (Choose i x y) less h = absurd h

-- work is taken away
pub work_falls : (o : RenderOptions) (t : Task) (ts us : List Task) (st u : State) (bytes : List ℕ)
    → StepsTo (step_at o t ts st) ts bytes us u
    → work us u < work (t ∷ ts) st
work_falls o t ts us st u bytes h = work_falls_by t ts us st u bytes (step_at o t ts st)
    (step_less o t.tree t.indent t.mode (follow ts) st) h

choice_work_falls_by : (t : Task) (ts : List Task) (st : State) (i : ℕ) (x y : Tree) (step : Step)
    → LeavesLess (pending_work st.pending) (2 * size t.tree + pending_work st.pending) step →
    IsChoice step i x y → 2 * (size x + size y) + work ts st < work (t ∷ ts) st
choice_work_falls_by t ts st i x y (Move b pushed u) less h = absurd h
choice_work_falls_by t ts st i x y Stuck less h = absurd h
choice_work_falls_by t ts st i x y (Choose j v w) less h = omega (arith, ap size h.1, ap size h.2)

pub choice_work_falls : (o : RenderOptions) (t : Task) (ts : List Task) (st : State) (i : ℕ) (x y : Tree)
    → IsChoice (step_at o t ts st) i x y
    → 2 * (size x + size y) + work ts st < work (t ∷ ts) st
choice_work_falls o t ts st i x y h = choice_work_falls_by t ts st i x y (step_at o t ts st)
    (step_less o t.tree t.indent t.mode (follow ts) st) h

move_by : {o : RenderOptions} {whole : Outcome} {limit : ℕ} {below : List Task} {old : List ℕ} {us : List Task} {u : State}
    (ts : List Task) (st : State) (out bytes : List ℕ) (step : Step) →
    Steps o whole limit below old ts st out step → StepsTo step ts bytes us u → Inside o whole limit below old us u (out ++ bytes)
move_by ts st out bytes (Move b pushed v) p h = inside_at h.1 h.2 (ap (λ (x : List ℕ). out ++ x) h.0) p
move_by ts st out bytes Stuck p h = absurd h
move_by ts st out bytes (Choose i x y) p h = absurd h

-- the work goes on inside the whole
pub move_inside : {o : RenderOptions} {whole : Outcome} {limit : ℕ} {below : List Task} {old : List ℕ} {t : Task} {ts us : List Task}
    {st u : State} {out : List ℕ} (bytes : List ℕ) → length below ≤ length ts →
    Inside o whole limit below old (t ∷ ts) st out → StepsTo (step_at o t ts st) ts bytes us u
    → Inside o whole limit below old us u (out ++ bytes)
move_inside {o} {whole} {limit} {below} {old} {t} {ts} {us} {st} {u} {out} bytes l p h =
    move_by ts st out bytes (step_at o t ts st) (stepping l p) h

failed_by : (o : RenderOptions) {whole : Outcome} (limit : ℕ) {below : List Task} (old : List ℕ) {ts : List Task} (st : State)
    {out : List ℕ} (step : Step) →
    Steps o whole limit below old ts st out step → IsStuck step → (bytes : List ℕ) × (above : List Task) × (out ≡ old ++ bytes)
    × (whole ≡ Failed bytes) × (ts ≡ above ++ below)
failed_by o limit old st (Move b pushed v) p h = absurd h
failed_by o limit old st Stuck p h = p
failed_by o limit old st (Choose i x y) p h = absurd h

-- the whole fails after what was written
pub failed : {o : RenderOptions} {whole : Outcome} {limit : ℕ} {below : List Task} {old : List ℕ} {t : Task} {ts : List Task} {st : State}
    {out : List ℕ} → length below ≤ length ts →
    Inside o whole limit below old (t ∷ ts) st out → IsStuck (step_at o t ts st) → (bytes : List ℕ) × (above : List Task)
    × (out ≡ old ++ bytes) × (whole ≡ Failed bytes) × (ts ≡ above ++ below)
failed {o} {whole} {limit} {below} {old} {t} {ts} {st} l p h = failed_by o limit old st (step_at o t ts st) (stepping l p) h

choice_by : {o : RenderOptions} {whole : Outcome} {limit : ℕ} {below : List Task} {old : List ℕ} {ts : List Task} {st : State}
    {out : List ℕ} {i : ℕ} {x y : Tree} (step : Step) →
    Steps o whole limit below old ts st out step → IsChoice step i x y → ChoiceNext o whole limit below old i x y ts st out
choice_by (Move b pushed v) p h = absurd h
choice_by Stuck p h = absurd h
choice_by {o} {whole} {limit} {below} {old} {ts} {st} {out} {i} {x} {y} (Choose j v w) p h =
    subst (λ (k : ℕ). ChoiceNext o whole limit below old k x y ts st out) (sym h.0)
    (subst (λ (k : Tree). ChoiceNext o whole limit below old j k y ts st out) (sym h.1)
    (subst (λ (k : Tree). ChoiceNext o whole limit below old j v k ts st out) (sym h.2) p))

-- a choice waits
pub choice_inside : {o : RenderOptions} {whole : Outcome} {limit : ℕ} {below : List Task} {old : List ℕ} {t : Task} {ts : List Task}
    {st : State} {out : List ℕ} {i : ℕ} {x y : Tree} → length below ≤ length ts →
    Inside o whole limit below old (t ∷ ts) st out → IsChoice (step_at o t ts st) i x y → ChoiceNext o whole limit below old i x y ts st out
choice_inside {o} {whole} {limit} {below} {old} {t} {ts} {st} l p h = choice_by (step_at o t ts st) (stepping l p) h

-- a beginning of the next piece, after what was written, is a beginning of the whole
pub beginning_less : (old out new b text : List ℕ) → AppendsBeginning out new b → AppendsBeginning old (out ++ b) text → (front : List ℕ)
    × (out ≡ old ++ front) → AppendsBeginning old new text
beginning_less old out new b text p q w =
    let c : w.0 ++ b ≡ q.0 = append_cancel_left old (w.0 ++ b) q.0
    (sym (append_assoc old w.0 b) ∙ ap (λ (x : List ℕ). x ++ b) (sym w.1) ∙ q.3) in (
      w.0 ++ p.0,
      p.1 ++ q.1,
      q.2 ∙ ap (λ (x : List ℕ). x ++ q.1) (sym c ∙ ap (λ (x : List ℕ). w.0 ++ x) p.2 ∙ sym (append_assoc w.0 p.0 p.1))
          ∙ append_assoc (w.0 ++ p.0) p.1 q.1,
      p.3 ∙ ap (λ (x : List ℕ). x ++ p.0) w.1 ∙ append_assoc old w.0 p.0,
    )

-- the sink failed: a beginning of the whole was written
pub sink_error : {o : RenderOptions} {whole : Outcome} {limit : ℕ} {below : List Task} {old : List ℕ} {t : Task} {ts : List Task}
    {st : State} {out bytes new : List ℕ} (us : List Task) (u : State) → length below ≤ length ts →
    Inside o whole limit below old (t ∷ ts) st out → StepsTo (step_at o t ts st) ts bytes us u → AppendsBeginning out new bytes
    → AppendsBeginning old new (bytes_before whole)
sink_error {o} {whole} {limit} {below} {old} {t} {ts} {st} {out} {bytes} {new} us u l p h part =
    beginning_less old out new bytes (bytes_before whole) part (inside_beginning (move_inside bytes l p h)) (p.bytes, p.out_is)
