-- What a probe has still to look at, as tasks.
use Rattle.std.proofs.Common.{◌≡◌, ℕ, List, [], ◌∷◌, ◌++◌, ◌∙◌, ap, refl, Bool, true, false, if◌then◌else◌}
use Rattle.prettyless_model.specs.Tree.{Tree, Append, OnColumn, OnNesting}
use Rattle.prettyless_model.specs.Choice.{column_holds, nesting_holds}
use Rattle.prettyless_model.specs.Column.{prospective}
use Rattle.prettyless_model.specs.Look.{Look, answer_of, look}
use Rattle.prettyless_model.specs.Layout.{rest_fits}
use Rattle.prettyless_model.specs.declared.choice.ColumnTest.{ColumnTest}
use Rattle.prettyless_model.specs.declared.choice.NestingTest.{NestingTest}
use Rattle.prettyless_model.specs.declared.column.Column.{Column}
use Rattle.prettyless_model.specs.declared.mode.Mode.{Mode}
use Rattle.prettyless_model.specs.declared.mode.Mode.TheVariants.{Break}
use Rattle.prettyless_model.proofs.Looks.{answer-each, answer-then}
use Rattle.prettyless_summary.specs.Summary.{Summarizes, look_by}
use Rattle.prettyless_summary.specs.declared.summary.Summary.{Summary}
use Rattle.prettyless_probe.specs.Probing.{is_fit}
use Rattle.prettyless_probe.specs.declared.probe.Fit.TheVariants.{FitsAsTexts, Fits, Exceeds}
use Rattle.prettyless_probe.specs.Stack.{Task, follow, in_break, make_task, tasks_fit}

-- one document after another is two tasks
pub fit-append : (w i : ℕ) (m : Mode) (l r : Tree) (ts : List Task) (c : Column) (p : Bool) → tasks_fit w (make_task i m (Append l r) ∷ ts)
    c p ≡ tasks_fit w (make_task i m l ∷ make_task i m r ∷ ts) c p
fit-append w i m l r ts c p = answer-then (look w l i m c p) (λ e q. look w r i m e q) (λ e q. tasks_fit w ts e q)

fit-either : (t : Bool) (w i : ℕ) (m : Mode) (y n : Tree) (ts : List Task) (c : Column) (p : Bool)
    → answer_of (if t then look w y i m c p else look w n i m c p) (λ e q. tasks_fit w ts e q) ≡ tasks_fit w
    (make_task i m (if t then y else n) ∷ ts) c p
fit-either true w i m y n ts c p = refl
fit-either false w i m y n ts c p = refl

-- a choice is the task of the document that is taken
pub fit_column : (w i : ℕ) (m : Mode) (y n : Tree) (ts : List Task) (c : Column) (p : Bool) (test : ColumnTest)
    → tasks_fit w (make_task i m (OnColumn test y n) ∷ ts) c p ≡ tasks_fit w
    (make_task i m (if column_holds test (prospective c) i then y else n) ∷ ts) c p
fit_column w i m y n ts c p test = fit-either (column_holds test (prospective c) i) w i m y n ts c p

pub fit_nesting : (w i : ℕ) (m : Mode) (y n : Tree) (ts : List Task) (c : Column) (p : Bool) (test : NestingTest)
    → tasks_fit w (make_task i m (OnNesting test y n) ∷ ts) c p ≡ tasks_fit w
    (make_task i m (if nesting_holds test i then y else n) ∷ ts) c p
fit_nesting w i m y n ts c p test = fit-either (nesting_holds test i) w i m y n ts c p

pub ruleset looks = (fit-append, fit_column, fit_nesting)

-- what follows a node, as tasks in Break
in_break_fits : (w : ℕ) (ts : List Task) (c : Column) (p : Bool) → tasks_fit w (in_break ts) c p ≡ rest_fits w (follow ts) c p
in_break_fits w [] c p = refl
in_break_fits w (t ∷ ts) c p =
    answer-each (look w t.tree t.indent Break c p) (λ e q. tasks_fit w (in_break ts) e q) (λ e q. rest_fits w (follow ts) e q)
    (λ e q. in_break_fits w ts e q)

-- a node and what follows it
pub probe_fits : (w i : ℕ) (m : Mode) (d : Tree) (ts : List Task) (c : Column) (p : Bool) → tasks_fit w (make_task i m d ∷ in_break ts) c
    p ≡ answer_of (look w d i m c p) (λ e q. rest_fits w (follow ts) e q)
probe_fits w i m d ts c p =
    answer-each (look w d i m c p) (λ e q. tasks_fit w (in_break ts) e q) (λ e q. rest_fits w (follow ts) e q)
    (λ e q. in_break_fits w ts e q)

-- a line read by a summary of a node and then by what follows it is the line read by the node
pub summary_fits : (w i : ℕ) (m : Mode) (s : Summary) (d : Tree) (mine under ts : List Task) (c : Column) (p : Bool) → Summarizes s d m
    → mine ≡ [] → under ≡ ts →
    answer_of (look_by w s c p) (λ e q. tasks_fit w (mine ++ in_break under) e q)
    ≡ answer_of (look w d i m c p) (λ e q. rest_fits w (follow ts) e q)
summary_fits w i m s d mine under ts c p known none same =
    ap (λ (x : Look). answer_of x (λ e q. tasks_fit w (mine ++ in_break under) e q)) (known i w c p)
    ∙ ap (λ (z : List Task). answer_of (look w d i m c p) (λ e q. tasks_fit w (z ++ in_break under) e q)) none
    ∙ ap (λ (z : List Task). answer_of (look w d i m c p) (λ e q. tasks_fit w (in_break z) e q)) same
    ∙ probe_fits w i m d ts c p

-- what is found where nothing is said of texts
pub fit_found : (b : Bool) → is_fit (if b then (if false then FitsAsTexts else Fits) else Exceeds) ≡ b
fit_found true = refl
fit_found false = refl
