-- What a step leads to has summaries where the node and the pending documents have them.
use Rattle.std.specs.Prelude.{⊤}
use Rattle.std.proofs.Common.{length, ℕ, List, [], ◌∷◌, ◌++◌, Bool, true, false, Option, Some, None, if◌then◌else◌}
use Rattle.prettyless_model.specs.declared.options.RenderOptions.{RenderOptions}
use Rattle.prettyless_model.specs.declared.options.IndentationPolicy.{IndentationPolicy}
use Rattle.prettyless_model.specs.declared.options.IndentationPolicy.TheVariants.{Eager, Deferred}
use Rattle.prettyless_model.specs.Tree as t
use Rattle.prettyless_model.specs.Tree.{Tree}
use Rattle.prettyless_model.specs.Layout.{State, Outcome, Done, Entry, is_suppressed, lay_ending, lay_text, probe, next_indent}
use Rattle.prettyless_model.specs.declared.mode.Mode.{Mode}
use Rattle.prettyless_model.specs.declared.mode.Mode.TheVariants.{Break, Flat}
use Rattle.prettyless_summary.specs.Summary.{HasSummaries}
use Rattle.prettyless_probe.specs.Stack.{Task, make_task, tasks}
use Rattle.prettyless_step.specs.Steps.{Step, Move, Stuck, Choose, at_once, break_step, step_of, union_step, decided_by_metrics}
use Rattle.prettyless_probe.specs.Sums.{HaveSummaries, TreesHaveSummaries}

-- what a step leads to has summaries
abbrev pub StepHasSummaries : Step → Type 0
StepHasSummaries (Move b pushed u) = HaveSummaries pushed × TreesHaveSummaries u.pending
StepHasSummaries Stuck = ⊤
StepHasSummaries (Choose i l r) = HasSummaries l × HasSummaries r

either_has : (b : Bool) (x y : Tree) → HasSummaries x → HasSummaries y → HasSummaries (if b then x else y)
either_has true x y h k = h
either_has false x y h k = k

-- one tree more
pub trees_have_push : (ds : List Tree) (d : Tree) → TreesHaveSummaries ds → HasSummaries d → TreesHaveSummaries (ds ++ d ∷ [])
trees_have_push [] d h k = (k, tt)
trees_have_push (e ∷ ds) d h k = (h.0, trees_have_push ds d h.1 k)

text_has : (o : RenderOptions) (w : ℕ) (s : List ℕ) (st : State) → TreesHaveSummaries st.pending
    → StepHasSummaries (at_once (lay_text o w s st))
text_has o w [] st h = (tt, h)
text_has o w (b ∷ bs) st h = (tt, h)

ending_has : (o : RenderOptions) (p : IndentationPolicy) (k : ℕ) (st : State) → TreesHaveSummaries st.pending
    → StepHasSummaries (at_once (lay_ending o p k st))
ending_has o Eager k st h = (tt, h)
ending_has o Deferred k st h = (tt, h)

plain_has : (b : Bool) (x y : Outcome) → StepHasSummaries (at_once x) → StepHasSummaries (at_once y)
    → StepHasSummaries (at_once (if b then x else y))
plain_has true x y h k = h
plain_has false x y h k = k

tasks_have : (i : ℕ) (m : Mode) (ds : List Tree) (t : Task) → TreesHaveSummaries ds → HasSummaries t.tree
    → HaveSummaries (tasks i m ds ++ t ∷ [])
tasks_have i m [] t h k = (k, tt)
tasks_have i m (d ∷ ds) t h k = (h.0, tasks_have i m ds t h.1 k)

break_has : (o : RenderOptions) (ps : List Tree) (d : Tree) (i : ℕ) (m : Mode) (rest : List Entry) (st : State) → TreesHaveSummaries ps
    → TreesHaveSummaries st.pending → HasSummaries d → StepHasSummaries (break_step o ps d i m rest st)
break_has o [] d i m rest st none h k =
    plain_has (is_suppressed d st.column) (Done [] st) (lay_ending o o.indentation_policy (next_indent i rest) st) (tt, h)
    (ending_has o o.indentation_policy (next_indent i rest) st h)
break_has o (p ∷ ps) d i m rest st some h k = (tasks_have i m (p ∷ ps) (make_task i m d) some k, tt)

union_has : (v : Option Bool) (l r : Tree) (i : ℕ) (st : State) → HasSummaries l → HasSummaries r → TreesHaveSummaries st.pending
    → StepHasSummaries (union_step v l r i st)
union_has None l r i st x y h = (x, y)
union_has (Some v) l r i st x y h = ((either_has v l r x y, tt), h)

-- a node's step
pub step_has : (o : RenderOptions) (d : Tree) (i : ℕ) (m : Mode) (rest : List Entry) (st : State) → HasSummaries d
    → TreesHaveSummaries st.pending
    → StepHasSummaries (step_of o d i m rest st)
step_has o t.Nil i m rest st k h = (tt, h)
step_has o t.Fail i m rest st k h = tt
step_has o (t.Text s) i m rest st k h = text_has o (length s) s st h
step_has o (t.TextWithLen w s) i m rest st k h = text_has o w s st h
step_has o (t.MultilineText s) i Break rest st k h = (tt, h)
step_has o (t.MultilineText s) i Flat rest st k h = tt
step_has o t.WeakSpace i m rest st k h = (tt, h)
step_has o t.HardLine i Break rest st k h = break_has o st.pending t.HardLine i Break rest st h h tt
step_has o t.HardLine i Flat rest st k h = tt
step_has o t.WeakLine i m rest st k h = break_has o st.pending t.WeakLine i m rest st h h tt
step_has o (t.Append l r) i m rest st k h = ((k.0, (k.1, tt)), h)
step_has o (t.LineSuffix d) i m rest st k h = (tt, trees_have_push st.pending d h k)
step_has o (t.Indented how d) i m rest st k h = ((k, tt), h)
step_has o t.ExpandParent i m rest st k h = (tt, h)
step_has o (t.Flatten d) i m rest st k h = ((k, tt), h)
step_has o (t.BreakOrFlat b f) i Break rest st k h = ((k.0, tt), h)
step_has o (t.BreakOrFlat b f) i Flat rest st k h = ((k.1, tt), h)
step_has o (t.Group d) i m rest st k h = ((k, tt), h)
step_has o (t.Union l r) i Break rest st k h = union_has (decided_by_metrics o l st) l r i st k.0 k.1 h
step_has o (t.Union l r) i Flat rest st k h = ((k.0, tt), h)
step_has o (t.PartialUnion l r) i Break rest st k h = ((either_has (probe o l i Break rest st) l r k.0 k.1, tt), h)
step_has o (t.PartialUnion l r) i Flat rest st k h = ((k.0, tt), h)
step_has o (t.Chosen test y n) i m rest st k h = absurd k
