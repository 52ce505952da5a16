-- A step takes more work away than it brings.
use Rattle.std.proofs.Common.{◌≡◌, ℕ, ◌+◌, ◌-◌, ◌*◌, ◌<◌, ◌≤◌, List, [], ◌∷◌, ◌++◌, length, arith, Bool, true, false, Option, Some, None}
use Rattle.std.proofs.Common.{if◌then◌else◌}
use Rattle.prettyless_model.specs.declared.options.RenderOptions.{RenderOptions}
use Rattle.prettyless_model.specs.declared.options.IndentationPolicy.{IndentationPolicy}
use Rattle.prettyless_model.specs.declared.options.IndentationPolicy.TheVariants.{Eager, Deferred}
use Rattle.prettyless_model.specs.Tree.{Tree, Nil, Fail, Text, TextWithLen, MultilineText, WeakSpace, HardLine, WeakLine, Append}
use Rattle.prettyless_model.specs.Tree.{LineSuffix, Indented, ExpandParent, Flatten, BreakOrFlat, Group, Union, PartialUnion, Chosen}
use Rattle.prettyless_model.specs.Tree.{size}
use Rattle.prettyless_model.specs.Choice.{choice_holds}
use Rattle.prettyless_model.specs.Column.{prospective}
use Rattle.prettyless_model.specs.Metrics.{metrics}
use Rattle.prettyless_model.specs.Layout.{State, Done, Entry, lay_text, lay_ending, next_indent, is_suppressed, plain_break, payload_fits}
use Rattle.prettyless_model.specs.Layout.{probe}
use Rattle.prettyless_model.specs.declared.mode.Mode.{Mode}
use Rattle.prettyless_model.specs.declared.mode.Mode.TheVariants.{Break, Flat}
use Rattle.prettyless_probe.specs.Stack.{Task, make_task, tasks, nodes}
use Rattle.prettyless_step.specs.Steps.{Step, Move, Stuck, Choose, step_of, union_step, decided_by_metrics, is_rejected, rejects_payload}
use Rattle.prettyless_step.specs.Steps.{break_step, at_once, pending_work}
use Rattle.prettyless_probe.proofs.Sizes.{size_positive}

-- ---- the work of tasks and of documents that wait

-- the step leaves less work than n, where p is owed for the documents that wait
abbrev pub LeavesLess : ℕ → ℕ → Step → Type 0
LeavesLess p n (Move b pushed u) = 2 * nodes pushed + pending_work u.pending < n
LeavesLess p n Stuck = Unit {0}
LeavesLess p n (Choose i l r) = 2 * (size l + size r) + p < n

pending_work-one : (ps : List Tree) (d : Tree) → pending_work (ps ++ d ∷ []) ≡ pending_work ps + (2 * size d + 1)
pending_work-one [] d = omega arith
pending_work-one (p ∷ ps) d = omega (arith, pending_work-one ps d)

pub nodes-tasks : (i : ℕ) (m : Mode) (ps : List Tree) (us : List Task) → 2 * nodes (tasks i m ps ++ us) + length ps
    ≡ pending_work ps + 2 * nodes us
nodes-tasks i m [] us = omega arith
nodes-tasks i m (p ∷ ps) us = omega (arith, nodes-tasks i m ps us)

-- ---- texts and breaks

text_less : (o : RenderOptions) (w : ℕ) (s : List ℕ) (st : State) → LeavesLess (pending_work st.pending) (2 + pending_work st.pending)
    (at_once (lay_text o w s st))
text_less o w [] st = omega arith
text_less o w (b ∷ bs) st = omega arith

ending_less : (o : RenderOptions) (p : IndentationPolicy) (k : ℕ) (st : State)
    → LeavesLess (pending_work st.pending) (2 + pending_work st.pending)
    (at_once (lay_ending o p k st))
ending_less o Eager k st = omega arith
ending_less o Deferred k st = omega arith

plain_less : (o : RenderOptions) (d : Tree) (i : ℕ) (rest : List Entry) (st : State)
    → LeavesLess (pending_work st.pending) (2 + pending_work st.pending)
    (at_once (plain_break o d i rest st))
plain_less o d i rest st =
    elim (is_suppressed d st.column) as
    (λ v. LeavesLess (pending_work st.pending) (2 + pending_work st.pending)
    (at_once (if v then Done [] st else lay_ending o o.indentation_policy (next_indent i rest) st)))
    [ true ↦ omega arith | false ↦ ending_less o o.indentation_policy (next_indent i rest) st ]

break_less : (o : RenderOptions) (ps : List Tree) (d : Tree) (i : ℕ) (m : Mode) (rest : List Entry) (st : State) → size d ≡ 1
    → pending_work st.pending ≡ pending_work ps
    → LeavesLess (pending_work st.pending) (2 + pending_work st.pending) (break_step o ps d i m rest st)
break_less o [] d i m rest st z e = plain_less o d i rest st
break_less o (p ∷ ps) d i m rest st z e = omega (arith, nodes-tasks i m (p ∷ ps) (make_task i m d ∷ []))

-- ---- alternatives

-- one of two nodes
either_less : (l r : Tree) (n : ℕ) (v : Bool) → 2 * size l + 2 * size r < n → 2 * size (if v then l else r) < n
either_less l r n true h = omega arith
either_less l r n false h = omega arith

union_less : (l r : Tree) (i : ℕ) (st : State) (v : Option Bool)
    → LeavesLess (pending_work st.pending) (2 * (size l + size r + 1) + pending_work st.pending) (union_step v l r i st)
union_less l r i st (Some v) = omega (arith, either_less l r (2 * size l + 2 * size r + 1) v (omega arith))
union_less l r i st None = omega arith

-- ---- any step

pub step_less : (o : RenderOptions) (d : Tree) (i : ℕ) (m : Mode) (rest : List Entry) (st : State)
    → LeavesLess (pending_work st.pending) (2 * size d + pending_work st.pending) (step_of o d i m rest st)
step_less o Nil i m rest st = omega arith
step_less o Fail i m rest st = tt
step_less o (Text s) i m rest st = text_less o (length s) s st
step_less o (TextWithLen w s) i m rest st = text_less o w s st
step_less o (MultilineText s) i Break rest st = omega arith
step_less o (MultilineText s) i Flat rest st = tt
step_less o WeakSpace i m rest st = omega arith
step_less o HardLine i Break rest st = break_less o st.pending HardLine i Break rest st (omega arith) (omega arith)
step_less o HardLine i Flat rest st = tt
step_less o WeakLine i m rest st = break_less o st.pending WeakLine i m rest st (omega arith) (omega arith)
step_less o (Append l r) i m rest st = omega arith
step_less o (LineSuffix d) i m rest st = omega (arith, pending_work-one st.pending d)
step_less o (Indented how d) i m rest st = omega arith
step_less o ExpandParent i m rest st = omega arith
step_less o (Flatten d) i m rest st = omega arith
step_less o (BreakOrFlat b f) i Break rest st = omega arith
step_less o (BreakOrFlat b f) i Flat rest st = omega arith
step_less o (Group d) i m rest st = omega arith
step_less o (Union l r) i Break rest st = union_less l r i st (decided_by_metrics o l st)
step_less o (Union l r) i Flat rest st = omega arith
step_less o (PartialUnion l r) i Break rest st =
    omega (arith, either_less l r (2 * size l + 2 * size r + 1) (probe o l i Break rest st) (omega arith))
step_less o (PartialUnion l r) i Flat rest st = omega arith
step_less o (Chosen test l r) i m rest st =
    omega (arith, either_less l r (2 * size l + 2 * size r + 1) (choice_holds test (prospective st.column) i) (omega arith))

-- ---- visits

-- how many visits a step adds to that of its node: one where it rejects a payload
abbrev pub extra : Bool → ℕ
extra true = 1
extra false = 0

less_by : (p n : ℕ) (step : Step) → LeavesLess p n step → LeavesLess p (n - 2 * 0) step
less_by p n (Move b pushed u) h = omega arith
less_by p n Stuck h = tt
less_by p n (Choose i l r) h = omega arith

payload_less : (s : List ℕ) (r : Tree) (i : ℕ) (st : State) (v : Bool) →
    LeavesLess (pending_work st.pending)
    (2 * (size (MultilineText s) + size r + 1) + pending_work st.pending - 2 * extra (is_rejected (Some v)))
    (union_step (Some v) (MultilineText s) r i st)
payload_less s r i st true = omega arith
payload_less s r i st false = omega arith

-- the same, where the visit of a payload that is rejected takes a node too
pub step_less_visits : (o : RenderOptions) (d : Tree) (i : ℕ) (m : Mode) (rest : List Entry) (st : State) →
    LeavesLess (pending_work st.pending) (2 * size d + pending_work st.pending - 2 * extra (rejects_payload o d m st))
    (step_of o d i m rest st)
step_less_visits o (Union (MultilineText s) r) i Break rest st = payload_less s r i st (payload_fits o (metrics s) st.column)
step_less_visits o (Union l r) i Break rest st = less_by (pending_work st.pending) (2 * (size l + size r + 1) + pending_work st.pending)
    (union_step (decided_by_metrics o l st) l r i st) (union_less l r i st (decided_by_metrics o l st))
step_less_visits o d i m rest st = less_by (pending_work st.pending) (2 * size d + pending_work st.pending) (step_of o d i m rest st)
    (step_less o d i m rest st)

extra_rejected : (v : Option Bool) → extra (is_rejected v) ≤ 1
extra_rejected (Some true) = omega arith
extra_rejected (Some false) = omega arith
extra_rejected None = omega arith

-- the nodes of a document are no fewer than what its step visits
pub visits_within : (o : RenderOptions) (d : Tree) (m : Mode) (st : State) → extra (rejects_payload o d m st) + 1 ≤ size d
visits_within o (Union l r) Break st = omega (arith, extra_rejected (decided_by_metrics o l st), size_positive l)
visits_within o d m st = omega (arith, size_positive d)
