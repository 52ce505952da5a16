-- What the code does, by where its printer stands.
use Rattle.std.proofs.Common.{◌≡◌, ℕ, ◌≤◌, Bool, List, [], ◌∷◌, length, vec_len, ap, sym, ◌∙◌, subst}
use Rattle.std.proofs.lemmas.List.{drop-map, length-map}
use Rattle.prettyless_model.specs.declared.mode.Mode.{Mode}
use Rattle.prettyless_model.specs.declared.options.RenderOptions.{RenderOptions}
use Rattle.prettyless_model.specs.Layout.{State, some_pending}
use Rattle.prettyless_model.specs.Tree.{Tree}
use Rattle.prettyless_probe.specs.Stack.{Task, make_task, nodes, trees}
use Rattle.prettyless_step.specs.Steps.{Step}
use Rattle.prettyless_step.specs.Printing as step
use Rattle.prettyless_step.specs.Printing.{state_of, tasks_of, Descends, Shows, Writes}
use Rattle.prettyless_step.specs.declared.printer.Printer.{Printer}
use Rattle.prettyless_step.specs.declared.printer.StepResult.TheVariants.{Failed, Choice}
use Rattle.prettyless_step.proofs.Queues.{trees-append}
use Rattle.prettyless_step.proofs.Shown.{step_at, StepsTo, IsStuck, IsChoice, written, printer_descended, stuck, choice_step}
use Rattle.prettyless_printer.specs.Points.{QueueGrows, Standing, standing, state_at}

-- A printer stands as another one does, with one task more, and its queue only grew.
pub record Pushed (t : Task) (p q : Standing) : Type 0 where
  pub tasks : q.tasks ≡ t ∷ p.tasks
  pub state : state_at q ≡ state_at p
  pub options : q.options ≡ p.options
  pub grows : QueueGrows p q

-- A printer stands as another one does, but for the flag, and its queue only grew.
pub record Flagged (flag : Bool) (p q : Standing) : Type 0 where
  pub tasks : q.tasks ≡ p.tasks
  pub state : state_at q ≡ record (state_at p) { within = flag }
  pub options : q.options ≡ p.options
  pub grows : QueueGrows p q

-- the state of a printer is that of where it stands
pub state_stands : {N : Type 0} (f : N → Tree) (p : Printer N) → state_of f p ≡ state_at (standing f p)
state_stands {N} f p = λ j. record { column = p.column; pending = sym (drop-map f p.queue.start p.queue.nodes.items) j; within = p.within }

-- whether documents are pending
pub pending_stands : {N : Type 0} (f : N → Tree) (p : Printer N) → some_pending (state_of f p).pending ≡ some_pending
    (state_at (standing f p)).pending
pending_stands {N} f p = ap (λ (u : State). some_pending u.pending) (state_stands f p)

-- the queue of a standing is as long as that of its printer
pub length_queue : {N : Type 0} (f : N → Tree) (p : Printer N) → length (standing f p).queue ≡ vec_len p.queue.nodes
length_queue {N} f p = length-map p.queue.nodes.items f ∙ sym p.queue.nodes.ok.0

-- the queue only grows
pub grows_stands : {N : Type 0} (f : N → Tree) (p q : Printer N) → step.PrinterGrows p q → QueueGrows (standing f p) (standing f q)
grows_stands {N} f p q g = (trees f g.0, ap (trees f) g.1 ∙ trees-append f p.queue.nodes.items g.0)

-- the step of a task, where a printer stands
abbrev pub step_from : RenderOptions → Task → Standing → Step
step_from o t p = step_at o t p.tasks (state_at p)

-- A step wrote bytes, from where a printer stood to where it stands.
pub record Wrote (step : Step) (bytes : List ℕ) (p q : Standing) : Type 0 where
  pub steps_to : StepsTo step p.tasks bytes q.tasks (state_at q)
  pub options : q.options ≡ p.options
  pub grows : QueueGrows p q

pub wrote : {N : Type 0} (f : N → Tree) (step : Step) (bytes : List ℕ) (p q : Printer N) → Writes f bytes step p q
    → Wrote step bytes (standing f p) (standing f q)
wrote {N} f step bytes p q h =
    let k = written f bytes step p q h in
    record {
      steps_to = subst (λ (z : State). StepsTo step (tasks_of f p) bytes (tasks_of f q) z) (state_stands f q) k.0;
      options = k.1;
      grows = grows_stands f p q k.2;
    }

-- A step made a task the current one, above the others, and the stack has lost nothing.
pub record Descended (t : Task) (step : Step) (p q : Standing) : Type 0 where
  pub steps_to : StepsTo step p.tasks [] (t ∷ q.tasks) (state_at q)
  pub state : state_at q ≡ state_at p
  pub options : q.options ≡ p.options
  pub grows : QueueGrows p q
  pub long : length p.tasks ≤ length q.tasks
  pub heavy : nodes p.tasks ≤ nodes q.tasks

pub descended : {N : Type 0} (f : N → Tree) (i : ℕ) (m : Mode) (n : N) (step : Step) (p q : Printer N) → Descends f i m n step p q
    → Descended (make_task i m (f n)) step (standing f p) (standing f q)
descended {N} f i m n step p q h =
    let k = printer_descended f i m n step p q h in
    record {
      steps_to = subst (λ (z : State). StepsTo step (tasks_of f p) [] (make_task i m (f n) ∷ tasks_of f q) z) (state_stands f q) k.steps_to;
      state = sym (state_stands f q) ∙ k.state ∙ state_stands f p;
      options = k.options;
      grows = grows_stands f p q k.grows;
      long = k.long;
      heavy = k.heavy;
    }

-- the node fails, and the printer stands where it stood
pub stuck_there : {N : Type 0} (f : N → Tree) (m : Mode) (step : Step) (p q : Printer N) → Shows f m Failed step p q → IsStuck step
    × (standing f q ≡ standing f p)
stuck_there {N} f m step p q h =
    let k = stuck f m step p q h in
    (k.0, ap (standing f) k.1)

-- two branches are to be chosen from, and the printer stands where it stood
pub choice_there : {N : Type 0} (f : N → Tree) (m : Mode) (i : ℕ) (l r : N) (step : Step) (p q : Printer N)
    → Shows f m (Choice i l r) step p q → IsChoice step i (f l) (f r) × (standing f q ≡ standing f p)
choice_there {N} f m i l r step p q h =
    let k = choice_step f m i l r step p q h in
    (k.0, ap (standing f) k.1)
