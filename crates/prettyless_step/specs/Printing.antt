-- The printer's state as the definitions see it, and what a step of the code shows of the step that is defined.
use Rattle.std.specs.Prelude.{◌≡◌, ◌≤◌, ℕ, List, [], ◌∷◌, ◌++◌, drop, false, true, Result, Ok, Err, IfOk}
use Rattle.prettyless_model.specs.Tree.{Tree}
use Rattle.prettyless_model.specs.Layout.{State, Entry, some_pending}
use Rattle.prettyless_model.specs.declared.mode.Mode.{Mode}
use Rattle.prettyless_model.specs.declared.mode.Mode.TheVariants.{Flat}
use Rattle.prettyless_probe.specs.Stack.{Task, make_task, follow, room_of, stack_of, trees}
use Rattle.prettyless_probe.specs.Texts.{IsTexts, texts_waiting}
use Rattle.prettyless_step.specs.Steps.{Step, Move, Stuck, Choose, break_step, step_of}
use Rattle.prettyless_step.specs.Piece.{piece_bytes}
use Rattle.prettyless_step.specs.declared.printer.Printer.{Printer}
use Rattle.prettyless_step.specs.declared.printer.StepResult.{StepResult}
use Rattle.prettyless_step.specs.declared.printer.StepResult.TheVariants.{Silent, Descend, DescendFlat, DescendTexts, Emit, Failed}
use Rattle.prettyless_step.specs.declared.printer.StepResult.TheVariants.{Choice, Shift}

-- the tasks that the printer has still to lay, the next one first
abbrev pub tasks_of : {N : Type 0} → (N → Tree) → Printer N → List Task
tasks_of f p = stack_of f p.commands

-- what follows the node that is laid now
abbrev pub following : {N : Type 0} → (N → Tree) → Printer N → List Entry
following f p = follow (tasks_of f p)

-- the state between two nodes: the pending documents are those of the queue from its start on
abbrev pub state_of : {N : Type 0} → (N → Tree) → Printer N → State
state_of f p = record { column = p.column; pending = trees f (drop p.queue.start p.queue.nodes.items); within = p.within }

-- the queue only grows
abbrev pub PrinterGrows : {N : Type 0} → Printer N → Printer N → Type 0
PrinterGrows {N} p q = (more : List N) × (q.queue.nodes.items ≡ p.queue.nodes.items ++ more)

-- these bytes are what the step writes, and the printer has gone along
abbrev pub Writes : {N : Type 0} → (N → Tree) → List ℕ → Step → Printer N → Printer N → Type 0
Writes f bytes (Move b pushed u) p q =
    (bytes ≡ b) × (tasks_of f q ≡ pushed ++ tasks_of f p) × (state_of f q ≡ u) × (q.options ≡ p.options) × PrinterGrows p q
Writes f bytes Stuck p q = ⊥
Writes f bytes (Choose j x y) p q = ⊥

-- nothing is written, the first of the step's tasks is the current one, the others are on the stack, and the state is as before
abbrev pub Descends : {N : Type 0} → (N → Tree) → ℕ → Mode → N → Step → Printer N → Printer N → Type 0
Descends f i m n (Move b (t ∷ pushed) u) p q =
    (b ≡ []) × (make_task i m (f n) ≡ t) × (tasks_of f q ≡ pushed ++ tasks_of f p) × (u ≡ state_of f p) × (state_of f q ≡ state_of f p)
    × (q.options ≡ p.options) × PrinterGrows p q
Descends f i m n (Move b [] u) p q = ⊥
Descends f i m n Stuck p q = ⊥
Descends f i m n (Choose j x y) p q = ⊥

-- what the code answers to a node in a mode is the step, and the printer has gone along
abbrev pub Shows : {N : Type 0} → (N → Tree) → Mode → StepResult N → Step → Printer N → Printer N → Type 0
Shows f m Silent step p q = Writes f [] step p q
Shows f m (Descend i n) step p q = Descends f i m n step p q
Shows f m Shift step p q = q ≡ p
Shows f m (DescendFlat i n) step p q = Descends f i Flat n step p q
Shows f m (DescendTexts i n) step p q = Descends f i Flat n step p q × (IsTexts (f n) × (texts_waiting (f n) 0 ≤ room_of q.scratch))
Shows f m (Emit piece) step p q = Writes f (piece_bytes piece) step p q
Shows f m Failed Stuck p q = q ≡ p
Shows f m (Choice i l r) (Choose j x y) p q = (i ≡ j) × (f l ≡ x) × (f r ≡ y) × (q ≡ p)
Shows f m Failed (Move b pushed u) p q = ⊥
Shows f m Failed (Choose j x y) p q = ⊥
Shows f m (Choice i l r) (Move b pushed u) p q = ⊥
Shows f m (Choice i l r) Stuck p q = ⊥

-- unless memory is refused, what the code answers to a document at an indent in a mode is the step of the document
abbrev pub TakesStep : {N E : Type 0} → (N → Tree) → Result (StepResult N) E → Tree → ℕ → Mode → Printer N → Printer N → Type 0
TakesStep f result d i m p q =
    IfOk result (λ taken. Shows f m taken (step_of p.options d i m (following f p) (state_of f p)) p q)

-- the step of a document that is a break, where no flat line refuses the break
abbrev pub break_here : {N : Type 0} → (N → Tree) → Tree → ℕ → Mode → Printer N → Step
break_here f d i m p = break_step p.options (state_of f p).pending d i m (following f p) (state_of f p)

-- unless memory is refused, what the code answers is that step
abbrev pub TakesBreak : {N E : Type 0} → (N → Tree) → Result (StepResult N) E → Tree → ℕ → Mode → Printer N → Printer N → Type 0
TakesBreak f result d i m p q = IfOk result (λ taken. Shows f m taken (break_here f d i m p) p q)

-- the step was not taken, since probes are past their limit
abbrev pub IsStopped : {N : Type 0} → StepResult N → Type 0
IsStopped Shift = Unit {0}
IsStopped _ = ⊥

-- the step was taken
abbrev pub IsStepped : {N : Type 0} → StepResult N → Type 0
IsStepped Shift = ⊥
IsStepped _ = Unit {0}

-- the step was taken, or was refused memory
abbrev pub IsSteppedOrRefused : {N E : Type 0} → Result (StepResult N) E → Type 0
IsSteppedOrRefused (Ok taken) = IsStepped taken
IsSteppedOrRefused (Err e) = Unit {0}

-- the queue's start stays where nothing was pending, and where something is
abbrev pub StartStays : {N : Type 0} → (N → Tree) → Printer N → Printer N → Type 0
StartStays f p q =
    (some_pending (state_of f p).pending ≡ false → q.queue.start ≡ p.queue.start)
    × (some_pending (state_of f q).pending ≡ true → q.queue.start ≡ p.queue.start)
