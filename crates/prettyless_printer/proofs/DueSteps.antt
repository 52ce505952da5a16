-- What a step without unions leaves due: a visit less at least.
use Rattle.std.proofs.Common.{◌≡◌, ℕ, ◌+◌, ◌<◌, ◌≤◌, List, [], ◌∷◌, ◌++◌, length, refl, arith, Bool, true, false}
use Rattle.std.proofs.Common.{if◌then◌else◌}
use Rattle.prettyless_model.specs.declared.options.RenderOptions.{RenderOptions}
use Rattle.prettyless_model.specs.declared.options.IndentationPolicy.{IndentationPolicy}
use Rattle.prettyless_model.specs.declared.options.IndentationPolicy.TheVariants.{Eager, Deferred}
use Rattle.prettyless_model.specs.Tree.{Tree, Fail, Text, TextWithLen, MultilineText, HardLine, WeakLine}
use Rattle.prettyless_model.specs.Tree.{LineSuffix, BreakOrFlat, Union, PartialUnion, Chosen}
use Rattle.prettyless_model.specs.Choice.{choice_holds}
use Rattle.prettyless_model.specs.Column.{prospective}
use Rattle.prettyless_model.specs.Layout.{State, Done, Entry, lay_text, lay_ending, next_indent, is_suppressed, plain_break, probe}
use Rattle.prettyless_model.specs.declared.mode.Mode.{Mode}
use Rattle.prettyless_model.specs.declared.mode.Mode.TheVariants.{Break, Flat}
use Rattle.prettyless_probe.specs.Stack.{Task, make_task, tasks, nodes}
use Rattle.prettyless_step.specs.Steps.{Step, Move, Stuck, Choose, step_of, rejects_payload, break_step, at_once}
use Rattle.prettyless_printer.specs.Suffixes.{most_visits, unions}
use Rattle.prettyless_printer.specs.Due.{task_visits, pending_visits, task_unions, pending_unions}

-- ---- Tasks and documents that wait

pub task_visits-append : (ts us : List Task) → task_visits (ts ++ us) ≡ task_visits ts + task_visits us
task_visits-append [] us = omega arith
task_visits-append (t ∷ ts) us = omega (arith, task_visits-append ts us)

pub task_unions-append : (ts us : List Task) → task_unions (ts ++ us) ≡ task_unions ts + task_unions us
task_unions-append [] us = omega arith
task_unions-append (t ∷ ts) us = omega (arith, task_unions-append ts us)

pending_visits-one : (ps : List Tree) (d : Tree) → pending_visits (ps ++ d ∷ []) ≡ pending_visits ps + (most_visits d + 1)
pending_visits-one [] d = omega arith
pending_visits-one (p ∷ ps) d = omega (arith, pending_visits-one ps d)

pending_unions-one : (ps : List Tree) (d : Tree) → pending_unions (ps ++ d ∷ []) ≡ pending_unions ps + unions d
pending_unions-one [] d = omega arith
pending_unions-one (p ∷ ps) d = omega (arith, pending_unions-one ps d)

-- the documents that waited come next
pub visits_flushed : (i : ℕ) (m : Mode) (ps : List Tree) (us : List Task)
    → task_visits (tasks i m ps ++ us) + length ps ≡ pending_visits ps + task_visits us
visits_flushed i m [] us = omega arith
visits_flushed i m (p ∷ ps) us = omega (arith, visits_flushed i m ps us)

pub unions_flushed : (i : ℕ) (m : Mode) (ps : List Tree) (us : List Task)
    → task_unions (tasks i m ps ++ us) ≡ pending_unions ps + task_unions us
unions_flushed i m [] us = omega arith
unions_flushed i m (p ∷ ps) us = omega (arith, unions_flushed i m ps us)

-- the nodes of tasks are visits of theirs
pub nodes_visits : (ts : List Task) → nodes ts ≤ task_visits ts
nodes_visits [] = omega arith
nodes_visits (t ∷ ts) = omega (arith, nodes_visits ts)

-- ---- One step

-- of n visits that were due, a step without unions leaves fewer, and no union
abbrev pub StepPays : ℕ → Step → Type 0
StepPays n (Move b pushed u) = (task_visits pushed + pending_visits u.pending < n) × (task_unions pushed + pending_unions u.pending ≡ 0)
StepPays n Stuck = Unit {0}
StepPays n (Choose i l r) = ⊥

module _ (o : RenderOptions) (rest : List Entry) (st : State) (none : pending_unions st.pending ≡ 0) where
  text_pays : (w : ℕ) (s : List ℕ) → StepPays (1 + pending_visits st.pending) (at_once (lay_text o w s st))
  text_pays w [] = (omega arith, omega (arith, none))
  text_pays w (b ∷ bs) = (omega arith, omega (arith, none))

  ending_pays : (p : IndentationPolicy) (k : ℕ) → StepPays (1 + pending_visits st.pending) (at_once (lay_ending o p k st))
  ending_pays Eager k = (omega arith, omega (arith, none))
  ending_pays Deferred k = (omega arith, omega (arith, none))

  plain_pays : (d : Tree) (i : ℕ) → StepPays (1 + pending_visits st.pending) (at_once (plain_break o d i rest st))
  plain_pays d i =
      elim (is_suppressed d st.column) as
      (λ v. StepPays (1 + pending_visits st.pending)
      (at_once (if v then Done [] st else lay_ending o o.indentation_policy (next_indent i rest) st)))
      [ true ↦ (omega arith, omega (arith, none)) | false ↦ ending_pays o.indentation_policy (next_indent i rest) ]

  break_pays : (ps : List Tree) (d : Tree) (i : ℕ) (m : Mode) → most_visits d ≡ 1 → unions d ≡ 0
      → pending_visits ps ≡ pending_visits st.pending → pending_unions ps ≡ 0
      → StepPays (1 + pending_visits st.pending) (break_step o ps d i m rest st)
  break_pays [] d i m one free same empty = plain_pays d i
  break_pays (p ∷ ps) d i m one free same empty = (
    omega (arith, visits_flushed i m (p ∷ ps) (make_task i m d ∷ []), one, same),
    omega (arith, unions_flushed i m (p ∷ ps) (make_task i m d ∷ []), free, empty),
  )

  -- one of two nodes
  either_pays : (n : ℕ) (l r : Tree) (i : ℕ) (m : Mode) (v : Bool) → most_visits l + most_visits r + pending_visits st.pending < n
      → unions l + unions r ≡ 0 → StepPays n (Move [] (make_task i m (if v then l else r) ∷ []) st)
  either_pays n l r i m true more free = (omega (arith, more), omega (arith, none, free))
  either_pays n l r i m false more free = (omega (arith, more), omega (arith, none, free))

  pub step_pays : (d : Tree) (i : ℕ) (m : Mode) → unions d ≡ 0
      → StepPays (most_visits d + pending_visits st.pending) (step_of o d i m rest st)
  step_pays Fail i m free = tt
  step_pays (Text s) i m free = text_pays (length s) s
  step_pays (TextWithLen w s) i m free = text_pays w s
  step_pays (MultilineText s) i Break free = (omega arith, omega (arith, none))
  step_pays (MultilineText s) i Flat free = tt
  step_pays HardLine i Break free = break_pays st.pending HardLine i Break (omega arith) (omega arith) refl none
  step_pays HardLine i Flat free = tt
  step_pays WeakLine i m free = break_pays st.pending WeakLine i m (omega arith) (omega arith) refl none
  step_pays (LineSuffix d) i m free =
      (omega (arith, pending_visits-one st.pending d), omega (arith, pending_unions-one st.pending d, none, free))
  step_pays (BreakOrFlat b f) i Break free = (omega arith, omega (arith, none, free))
  step_pays (BreakOrFlat b f) i Flat free = (omega arith, omega (arith, none, free))
  step_pays (Union l r) i m free = absurd (omega (arith, free))
  step_pays (PartialUnion l r) i Break free =
      either_pays (most_visits (PartialUnion l r) + pending_visits st.pending) l r i Break (probe o l i Break rest st) (omega arith) free
  step_pays (PartialUnion l r) i Flat free = (omega arith, omega (arith, none, free))
  step_pays (Chosen test l r) i m free =
      either_pays (most_visits (Chosen test l r) + pending_visits st.pending) l r i m (choice_holds test (prospective st.column) i)
      (omega arith) free
  step_pays _ i m free = (omega arith, omega (arith, none, free))

-- without unions no payload is rejected
pub rejects_none : (o : RenderOptions) (d : Tree) (m : Mode) (st : State) → unions d ≡ 0 → rejects_payload o d m st ≡ false
rejects_none o (Union l r) m st free = absurd (omega (arith, free))
rejects_none o _ m st free = refl
