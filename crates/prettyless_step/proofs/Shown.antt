-- What the code's step shows, in tasks and states alone.
use Rattle.std.proofs.Common.{◌≡◌, ℕ, ◌≤◌, List, [], ◌∷◌, ◌++◌, length, ap, sym, ◌∙◌, arith, length-append}
use Rattle.prettyless_model.specs.declared.options.RenderOptions.{RenderOptions}
use Rattle.prettyless_model.specs.Tree.{Tree}
use Rattle.prettyless_model.specs.Layout.{State, Outcome, Failed as Fails, Breaks, Entry, after_bytes, and_then}
use Rattle.prettyless_model.specs.declared.mode.Mode.{Mode}
use Rattle.prettyless_probe.specs.Stack.{Task, make_task, follow, nodes}
use Rattle.prettyless_step.specs.Steps.{Step, Move, Stuck, Choose, chosen, lay_all, step_of}
use Rattle.prettyless_step.specs.Printing.{state_of, tasks_of, PrinterGrows, Descends, Shows, Writes}
use Rattle.prettyless_step.specs.declared.printer.Printer.{Printer}
use Rattle.prettyless_step.specs.declared.printer.StepResult.TheVariants.{Failed, Choice}
use Rattle.prettyless_probe.proofs.Stacks.{nodes-append}

-- the step of a task with others after it
abbrev pub step_at : RenderOptions → Task → List Task → State → Step
step_at o t ts st = step_of o t.tree t.indent t.mode (follow ts) st

-- what a step from a state and the tasks after it lay
abbrev pub step_outcome : RenderOptions → Breaks → Step → List Task → List Entry → State → Outcome
step_outcome o brk (Move b pushed u) ts outer st = after_bytes b (lay_all o brk (pushed ++ ts) outer u)
step_outcome o brk Stuck ts outer st = Fails []
step_outcome o brk (Choose i l r) ts outer st = and_then (chosen o brk i l r (follow ts ++ outer) st) (λ u. lay_all o brk ts outer u)

-- the step writes these bytes, and leads from the tasks after it to these tasks and this state
abbrev pub StepsTo : Step → List Task → List ℕ → List Task → State → Type 0
StepsTo (Move b pushed u) ts bytes us v = (bytes ≡ b) × (us ≡ pushed ++ ts) × (v ≡ u)
StepsTo Stuck ts bytes us v = ⊥
StepsTo (Choose i x y) ts bytes us v = ⊥

-- the step fails
abbrev pub IsStuck : Step → Type 0
IsStuck (Move b pushed u) = ⊥
IsStuck Stuck = Unit {0}
IsStuck (Choose i x y) = ⊥

-- the step leads to a choice between two branches at an indent
abbrev pub IsChoice : Step → ℕ → Tree → Tree → Type 0
IsChoice (Move b pushed u) i x y = ⊥
IsChoice Stuck i x y = ⊥
IsChoice (Choose j v w) i x y = (i ≡ j) × (x ≡ v) × (y ≡ w)

-- bytes were written
pub written : {N : Type 0} (f : N → Tree) (bytes : List ℕ) (step : Step) (p q : Printer N) → Writes f bytes step p q →
    StepsTo step (tasks_of f p) bytes (tasks_of f q) (state_of f q) × (q.options ≡ p.options) × PrinterGrows p q
written {N} f bytes (Move b pushed u) p q h = ((h.0, h.1, h.2), h.3, h.4)
written {N} f bytes Stuck p q h = absurd h
written {N} f bytes (Choose j x y) p q h = absurd h

-- A task is the current one: the step leads to it, above the others, and the stack has lost nothing.
pub record PrinterDescended {N : Type 0} (f : N → Tree) (t : Task) (step : Step) (p q : Printer N) : Type 0 where
  pub steps_to : StepsTo step (tasks_of f p) [] (t ∷ tasks_of f q) (state_of f q)
  pub state : state_of f q ≡ state_of f p
  pub options : q.options ≡ p.options
  pub grows : PrinterGrows p q
  pub long : length (tasks_of f p) ≤ length (tasks_of f q)
  pub heavy : nodes (tasks_of f p) ≤ nodes (tasks_of f q)

pub printer_descended : {N : Type 0} (f : N → Tree) (i : ℕ) (m : Mode) (n : N) (step : Step) (p q : Printer N) → Descends f i m n step p q
    → PrinterDescended f (make_task i m (f n)) step p q
printer_descended {N} f i m n (Move b [] u) p q h = absurd h
printer_descended {N} f i m n (Move b (t ∷ pushed) u) p q h = record {
  steps_to = (sym h.0, ap (λ (x : Task). x ∷ tasks_of f q) h.1 ∙ ap (λ (x : List Task). t ∷ x) h.2, h.4 ∙ sym h.3);
  state = h.4;
  options = h.5;
  grows = h.6;
  long = omega (arith, ap length h.2, length-append pushed (tasks_of f p));
  heavy = omega (arith, ap nodes h.2, nodes-append pushed (tasks_of f p));
}
printer_descended {N} f i m n Stuck p q h = absurd h
printer_descended {N} f i m n (Choose j x y) p q h = absurd h

-- the node fails
pub stuck : {N : Type 0} (f : N → Tree) (m : Mode) (step : Step) (p q : Printer N) → Shows f m Failed step p q → IsStuck step × (q ≡ p)
stuck {N} f m (Move b pushed u) p q h = absurd h
stuck {N} f m Stuck p q h = (tt, h)
stuck {N} f m (Choose j x y) p q h = absurd h

-- two branches are to be chosen from
pub choice_step : {N : Type 0} (f : N → Tree) (m : Mode) (i : ℕ) (l r : N) (step : Step) (p q : Printer N)
    → Shows f m (Choice i l r) step p q
    → IsChoice step i (f l) (f r) × (q ≡ p)
choice_step {N} f m i l r (Move b pushed u) p q h = absurd h
choice_step {N} f m i l r Stuck p q h = absurd h
choice_step {N} f m i l r (Choose j x y) p q h = ((h.0, h.1, h.2), h.3)
