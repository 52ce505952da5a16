-- What the visit of one node does, and what the tasks that are left lay.
use Rattle.std.specs.Prelude.{ℕ, ◌+◌, ◌*◌, List, [], ◌∷◌, ◌++◌, length, Bool, true, false, Option, Some, None, if◌then◌else◌}
use Rattle.prettyless_sink.specs.Sink.{rise}
use Rattle.prettyless_model.specs.Spaces.{spaces}
use Rattle.prettyless_model.specs.declared.options.RenderOptions.{RenderOptions}
use Rattle.prettyless_model.specs.Tree as t
use Rattle.prettyless_model.specs.Tree.{Tree, size}
use Rattle.prettyless_model.specs.Metrics.{metrics}
use Rattle.prettyless_model.specs.Column.{gap, prospective, blank}
use Rattle.prettyless_model.specs.Indent.{indent_by}
use Rattle.prettyless_model.specs.Choice.{choice_holds}
use Rattle.prettyless_model.specs.Look.{by_mode}
use Rattle.prettyless_model.specs.Layout.{State, Outcome, Done, Failed, Entry, Breaks, and_then, lay, lay_text, lay_payload}
use Rattle.prettyless_model.specs.Layout.{payload_fits, plain_break, probe, accept, in_trial, flushed}
use Rattle.prettyless_model.specs.declared.mode.Mode.{Mode}
use Rattle.prettyless_model.specs.declared.mode.Mode.TheVariants.{Break, Flat}
use Rattle.prettyless_probe.specs.Stack.{Task, make_task, tasks, follow, nodes}

-- the tasks in turn, each with the later ones and then `outer` following
unfoldable pub lay_all : RenderOptions → Breaks → List Task → List Entry → State → Outcome
lay_all o brk [] outer st = Done [] st
lay_all o brk (t ∷ ts) outer st = and_then (lay o brk t.tree t.indent t.mode (follow ts ++ outer) st) (λ u. lay_all o brk ts outer u)

-- what the visit of one node does: it writes bytes, puts tasks in its place and changes the state; or it fails; or two
-- branches at an indent are to be chosen from by a trial
pub data Step : Type 0 where
  Move : List ℕ → List Task → State → Step
  Stuck : Step
  Choose : ℕ → Tree → Tree → Step

-- a node that is laid at once
abbrev pub at_once : Outcome → Step
at_once (Done b st) = Move b [] st
at_once (Failed b) = Stuck

-- a break: the pending documents and the break itself come next, or the line ends
abbrev pub break_step : RenderOptions → List Tree → Tree → ℕ → Mode → List Entry → State → Step
break_step o [] d i m rest st = at_once (plain_break o d i rest st)
break_step o (p ∷ ps) d i m rest st = Move (spaces (gap st.column)) (tasks i m (p ∷ ps) ++ make_task i m d ∷ []) (flushed o st)

-- a first branch that is itself a payload is decided by its metrics
abbrev pub decided_by_metrics : RenderOptions → Tree → State → Option Bool
decided_by_metrics o (t.MultilineText s) st = Some (payload_fits o (metrics s) st.column)
decided_by_metrics o _ st = None

-- whether the metrics of a payload reject it
abbrev pub is_rejected : Option Bool → Bool
is_rejected (Some false) = true
is_rejected _ = false

-- whether a node's step visits a payload that its metrics reject, as the first branch of a union: it is never laid
abbrev pub rejects_payload : RenderOptions → Tree → Mode → State → Bool
rejects_payload o (t.Union l r) Break st = is_rejected (decided_by_metrics o l st)
rejects_payload o _ m st = false

-- the printer's count after a step that visits such a payload, or none
abbrev pub counted_payload : Bool → ℕ → ℕ
counted_payload true n = rise n
counted_payload false n = n

-- a union in Break: by metrics, or by a trial
abbrev pub union_step : Option Bool → Tree → Tree → ℕ → State → Step
union_step (Some v) l r i st = Move [] (make_task i Break (if v then l else r) ∷ []) st
union_step None l r i st = Choose i l r

-- the step of one node
abbrev pub step_of : RenderOptions → Tree → ℕ → Mode → List Entry → State → Step
step_of o t.Nil i m rest st = Move [] [] st
step_of o t.Fail i m rest st = Stuck
step_of o (t.Text s) i m rest st = at_once (lay_text o (length s) s st)
step_of o (t.TextWithLen w s) i m rest st = at_once (lay_text o w s st)
step_of o (t.MultilineText s) i m rest st = by_mode m (at_once (lay_payload o (metrics s) s st)) Stuck
step_of o t.WeakSpace i m rest st = Move [] [] (record st { column = blank st.column })
step_of o t.HardLine i m rest st = by_mode m (break_step o st.pending t.HardLine i m rest st) Stuck
step_of o t.WeakLine i m rest st = break_step o st.pending t.WeakLine i m rest st
step_of o (t.Append l r) i m rest st = Move [] (make_task i m l ∷ make_task i m r ∷ []) st
step_of o (t.LineSuffix d) i m rest st = Move [] [] (record st { pending = st.pending ++ d ∷ [] })
step_of o (t.Indented how d) i m rest st = Move [] (make_task (indent_by how i st.column) m d ∷ []) st
step_of o t.ExpandParent i m rest st = Move [] [] st
step_of o (t.Flatten d) i m rest st = Move [] (make_task i Flat d ∷ []) st
step_of o (t.BreakOrFlat b f) i m rest st = Move [] (make_task i m (by_mode m b f) ∷ []) st
step_of o (t.Group d) i m rest st = Move [] (make_task i (by_mode m (if probe o d i Flat rest st then Flat else Break) Flat) d ∷ []) st
step_of o (t.Union l r) i m rest st = by_mode m (union_step (decided_by_metrics o l st) l r i st) (Move [] (make_task i Flat l ∷ []) st)
step_of o (t.PartialUnion l r) i m rest st = Move [] (make_task i m (by_mode m (if probe o l i Break rest st then l else r) l) ∷ []) st
step_of o (t.Chosen test y n) i m rest st = Move [] (make_task i m (if choice_holds test (prospective st.column) i then y else n) ∷ []) st

-- the outcome of two branches, the first one tried from a state
abbrev pub chosen : RenderOptions → Breaks → ℕ → Tree → Tree → List Entry → State → Outcome
chosen o brk i l r rest st = accept o st.within (lay o brk l i Break rest (in_trial st)) (lay o brk r i Break rest st)

-- twice the nodes of each pending document, and one more
abbrev pub pending_work : List Tree → ℕ
pending_work [] = 0
pending_work (d ∷ ds) = 2 * size d + 1 + pending_work ds

-- the work that is left: it falls at each step
abbrev pub work : List Task → State → ℕ
work ts st = 2 * nodes ts + pending_work st.pending
