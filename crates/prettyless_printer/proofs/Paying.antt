-- What is due of a run without unions: one step, a turn, and runs in a row.
use Rattle.std.proofs.Common.{◌≡◌, ℕ, ◌+◌, ◌≤◌, ◌<◌, List, [], ◌∷◌, refl, ap, sym, arith, subst, Result, IsErr, Ok, Err}
use Rattle.prettyless_sink.specs.declared.visits.Visits.{Visits}
use Rattle.prettyless_model.specs.declared.mode.Mode.{Mode}
use Rattle.prettyless_model.specs.declared.mode.Mode.TheVariants.{Break}
use Rattle.prettyless_model.specs.Tree.{Tree, size}
use Rattle.prettyless_model.specs.Layout.{State, flushed}
use Rattle.prettyless_probe.specs.Stack.{Task, make_task, nodes, follow, tasks}
use Rattle.prettyless_probe.proofs.Sizes.{size_positive}
use Rattle.prettyless_probe.specs.Sums.{AllSummed, HaveSummaries, TreesHaveSummaries}
use Rattle.prettyless_step.specs.Steps.{Step, Move, Stuck, Choose}
use Rattle.prettyless_step.specs.Printing.{Descends, Shows}
use Rattle.prettyless_step.specs.declared.printer.Printer.{Printer}
use Rattle.prettyless_step.specs.declared.printer.StepResult.TheVariants.{Failed, Choice}
use Rattle.prettyless_step.specs.declared.queue.Queue.{Queue}
use Rattle.prettyless_step.proofs.Shown.{StepsTo, IsChoice}
use Rattle.prettyless_step.proofs.Summaries.{StepHasSummaries, step_has}
use Rattle.prettyless_printer.specs.Points.{Standing, standing, state_at, Seen, Point}
use Rattle.prettyless_printer.specs.Spending.{Rule}
use Rattle.prettyless_printer.specs.declared.run.Run.{Run}
use Rattle.prettyless_printer.specs.Due.{Due, DueHasSummaries, Pays, PaysRun, due, due_of, nothing_due, task_visits, pending_visits}
use Rattle.prettyless_printer.specs.Due.{task_unions, pending_unions, unions_due}
use Rattle.prettyless_printer.specs.Suffixes.{most_visits}
use Rattle.prettyless_printer.proofs.Standings.{Wrote, choice_there, descended, step_from, stuck_there}
use Rattle.prettyless_printer.proofs.Forgetting.{PendingSame, pending_same}
use Rattle.prettyless_printer.proofs.Spending.{StepVisits, TakesTask, capped_one, each_probe_one, have_append}
use Rattle.prettyless_printer.proofs.Steps.{extra}
use Rattle.prettyless_printer.proofs.DueSteps.{StepPays, nodes_visits, rejects_none, step_pays, task_visits-append, task_unions-append}

-- ---- Runs in a row

-- nothing is done
pub pays_same : (r : Rule) (a : Due) → unions_due a ≡ 0 → Pays r a a
pays_same r a none = record {
  unions = none;
  due = omega arith;
  printer = omega arith;
  capped = λ most l h. l;
  have = λ h. h;
  few = λ t s h. (0, omega arith, omega arith);
}

-- runs in a row
pub pays_then : {r : Rule} {a b c : Due} → Pays r a b → Pays r b c → Pays r a c
pays_then h k = record {
  unions = k.unions;
  due = omega (arith, h.due, k.due);
  printer = omega (arith, h.printer, k.printer);
  capped = λ most l m. k.capped most (h.capped most l m) (omega (arith, m, h.due));
  have = λ x. k.have (h.have x);
  few = λ t s x.
      let p = h.few t s x in
      let q = k.few t (omega (arith, s, h.due)) (h.have x) in
      (p.0 + q.0, omega (arith, p.1, q.1), omega (arith, p.2, q.2));
}

-- nothing is due after it
pub pays_all : {r : Rule} {a b : Due} → Pays r a b → Pays r a (nothing_due b.visits)
pays_all h = record {
  unions = omega arith;
  due = omega arith;
  printer = omega (arith, h.printer);
  capped = h.capped;
  have = λ x. (tt, tt);
  few = h.few;
}

-- ---- One step

-- what is due with these tasks
abbrev pub due_tasks : List Task → List Tree → Visits → Due
due_tasks ts ds v = record { tasks = ts; pending = ds; visits = v }

-- a step that leaves fewer visits due
less_due : {r : Rule} {t : Task} {ts us : List Task} {ds es : List Tree} {v x : Visits} → StepVisits r t ts v x
    → x.printer ≤ v.printer + 1 → task_visits us + pending_visits es < most_visits t.tree + task_visits ts + pending_visits ds
    → task_unions us + pending_unions es ≡ 0 → (DueHasSummaries (due_tasks (t ∷ ts) ds v) → DueHasSummaries (due_tasks us es x))
    → Pays r (due_tasks (t ∷ ts) ds v) (due_tasks us es x)
less_due {r} {t} {ts} one more less none have = record {
  unions = none;
  due = omega (arith, less);
  printer = omega (arith, less, more);
  capped = λ most l m. capped_one t.tree t.mode (nodes ts) one.asks one.counted most l (omega (arith, m, nodes_visits ts));
  have = have;
  few = λ is_true small h.
      let all : AllSummed r.has t.tree ts = record {
        summaries = is_true;
        own = h.0.0;
        small = omega (arith, small);
        below = (h.0.1, omega (arith, small, nodes_visits ts));
      } in
      (1, omega (arith, one.few all, each_probe_one t.tree t.mode), omega (arith, one.least));
}

-- what a step leads to has summaries
moved_has : (ts us : List Task) (bytes : List ℕ) (u : State) (step : Step) → StepHasSummaries step → HaveSummaries ts
    → StepsTo step ts bytes us u → HaveSummaries us × TreesHaveSummaries u.pending
moved_has ts us bytes u (Move b pushed x) h k l = (
  subst HaveSummaries (sym l.1) (have_append pushed ts h.0 k),
  subst (λ (z : State). TreesHaveSummaries z.pending) (sym l.2) h.1,
)
moved_has ts us bytes u Stuck h k l = absurd l
moved_has ts us bytes u (Choose i x y) h k l = absurd l

-- of n visits that were due of a node and of what was pending, a step leaves fewer
moved_pays : (n : ℕ) (ts us : List Task) (bytes : List ℕ) (u : State) (step : Step) → StepPays n step → task_unions ts ≡ 0
    → StepsTo step ts bytes us u
    → (task_visits us + pending_visits u.pending < n + task_visits ts) × (task_unions us + pending_unions u.pending ≡ 0)
moved_pays n ts us bytes u (Move b pushed x) h none l =
    let visits = ap task_visits l.1 in
    let unions = ap task_unions l.1 in
    let waiting = ap (λ (z : State). pending_visits z.pending) l.2 in
    let waiting_unions = ap (λ (z : State). pending_unions z.pending) l.2 in (
      omega (arith, h.0, visits, waiting, task_visits-append pushed ts),
      omega (arith, h.1, unions, waiting_unions, task_unions-append pushed ts, none),
    )
moved_pays n ts us bytes u Stuck h none l = absurd l
moved_pays n ts us bytes u (Choose i x y) h none l = absurd l

no_choice : (n : ℕ) (i : ℕ) (x y : Tree) (step : Step) → StepPays n step → IsChoice step i x y → ⊥
no_choice n i x y (Move b pushed u) h k = k
no_choice n i x y Stuck h k = k
no_choice n i x y (Choose j l r) h k = h

-- ---- A turn

-- what is due with a current task
abbrev pub due_with : Task → Standing → Visits → Due
due_with t p v = due_tasks (t ∷ p.tasks) (state_at p).pending v

-- the next command is the current one
pub pays_begun : (r : Rule) (a p : Standing) (t : Task) (v : Visits) → a.tasks ≡ t ∷ p.tasks → (state_at p).pending ≡ (state_at a).pending
    → unions_due (due a v) ≡ 0 → Pays r (due a v) (due_with t p v)
pays_begun r a p t v e h none =
    subst (λ (z : List Task). Pays r (due a v) (due_tasks z (state_at p).pending v)) e
    (subst (λ (z : List Tree). Pays r (due a v) (due_tasks a.tasks z v)) (sym h) (pays_same r (due a v) none))

module _ {N : Type 0} (f : N → Tree) {r : Rule} {a : Point} {t : Task} {s : Seen} {v x : Visits} (p : Printer N)
    (h : TakesTask f r a t p s v x) (start : Due) (paid : Pays r start (due_with t (standing f p) v)) where
  -- one visit is counted
  one_visit : x.printer ≤ v.printer + 1
  one_visit = omega (
    arith,
    h.one.more.printer,
    ap extra (rejects_none a.printer.options t.tree t.mode (state_at (standing f p)) (omega (arith, paid.unions))),
  )

  step_of_task : StepPays (most_visits t.tree + pending_visits (state_at (standing f p)).pending)
      (step_from a.printer.options t (standing f p))
  step_of_task = step_pays a.printer.options (follow (standing f p).tasks) (state_at (standing f p)) (omega (arith, paid.unions)) t.tree
      t.indent t.mode (omega (arith, paid.unions))

  task_has : DueHasSummaries (due_with t (standing f p) v) → StepHasSummaries (step_from a.printer.options t (standing f p))
  task_has g = step_has a.printer.options t.tree t.indent t.mode (follow (standing f p).tasks) (state_at (standing f p)) g.0.0 g.1

  -- a step leads to these tasks and this state
  pays_to : (us : List Task) (bytes : List ℕ) (u : State)
      → StepsTo (step_from a.printer.options t (standing f p)) (standing f p).tasks bytes us u
      → Pays r start (due_tasks us u.pending x)
  pays_to us bytes u to =
      let step = step_from a.printer.options t (standing f p) in
      let ts = (standing f p).tasks in
      let less = moved_pays (most_visits t.tree + pending_visits (state_at (standing f p)).pending) ts us bytes u step step_of_task
      (omega (arith, paid.unions)) to in
      pays_then paid
      (less_due h.visits one_visit (omega (arith, less.0)) less.1 (λ g. moved_has ts us bytes u step (task_has g) g.0.1 to))

  -- it leads to the next node
  pub pays_down : (q : Printer N) (i : ℕ) (m : Mode) (n : N) → Descends f i m n (step_from a.printer.options t (standing f p)) p q
      → Pays r start (due_with (make_task i m (f n)) (standing f q) x)
  pays_down q i m n shows =
      pays_to (make_task i m (f n) ∷ (standing f q).tasks) [] (state_at (standing f q))
      (descended f i m n (step_from a.printer.options t (standing f p)) p q shows).steps_to

  -- it wrote its bytes
  pub pays_moved : (q : Printer N) (bytes : List ℕ)
      → Wrote (step_from a.printer.options t (standing f p)) bytes (standing f p) (standing f q)
      → Pays r start (due (standing f q) x)
  pays_moved q bytes wrote = pays_to (standing f q).tasks bytes (state_at (standing f q)) wrote.steps_to

  -- the node is given up
  left_out : Pays r start (due (standing f p) x)
  left_out =
      pays_then paid
      (less_due h.visits one_visit (omega (arith, size_positive t.tree)) (omega (arith, paid.unions)) (λ g. (g.0.1, g.1)))

  -- it fails
  pub pays_failed : (q : Printer N) → Shows f t.mode Failed (step_from a.printer.options t (standing f p)) p q
      → Pays r start (due (standing f q) x)
  pays_failed q shows =
      subst (λ (z : Standing). Pays r start (due z x))
      (sym (stuck_there f t.mode (step_from a.printer.options t (standing f p)) p q shows).1) left_out

  -- no choice comes next
  pub pays_choice : (q : Printer N) (i : ℕ) (y z : N) → Shows f t.mode (Choice i y z) (step_from a.printer.options t (standing f p)) p q
      → ⊥
  pays_choice q i y z shows =
      let step = step_from a.printer.options t (standing f p) in
      no_choice (most_visits t.tree + pending_visits (state_at (standing f p)).pending) i (f y) (f z) step step_of_task
      (choice_there f t.mode i y z step p q shows).0

  -- it was refused memory
  pub pays_error : Pays r start (nothing_due x)
  pays_error = pays_all left_out

-- a document was laid as its texts
pub pays_laid : {r : Rule} {a : Due} {t : Task} {v : Visits} (p q : Standing) (x : Visits) → q.tasks ≡ p.tasks
    → (state_at q).pending ≡ (state_at p).pending → x.probes ≡ v.probes → v.printer ≤ x.printer
    → x.printer ≤ v.printer + size t.tree → Pays r a (due_with t p v) → Pays r a (due q x)
pays_laid {r} {a} {t} {v} p q x tasks pending probes rises counted h =
    pays_then h
    (record {
      unions = omega (arith, ap task_unions tasks, ap pending_unions pending, h.unions);
      due = omega (arith, ap task_visits tasks, ap pending_visits pending);
      printer = omega (arith, ap task_visits tasks, ap pending_visits pending, counted);
      capped = λ most l m. omega (arith, l, probes);
      have = λ k. (subst HaveSummaries (sym tasks) k.0.1, subst TreesHaveSummaries (sym pending) k.1);
      few = λ is_true small k. (0, omega (arith, probes), omega (arith, rises));
    })

-- ---- Between two turns

-- the same is pending in another queue
pub pays_forgets : {N : Type 0} (f : N → Tree) {r : Rule} {a : Due} (p : Printer N) (q : Queue N) (v : Visits) → PendingSame p.queue q
    → Pays r a (due (standing f p) v) → Pays r a (due (standing f (record p { queue = q })) v)
pays_forgets f {r} {a} p q v same h =
    subst (λ (ds : List Tree). Pays r a (due_tasks (standing f p).tasks ds v)) (sym (pending_same f p.queue q same)) h

-- ---- Runs

-- a run that ended in an error
pub pays_error_as : {N A E : Type 0} {r : Rule} (f : N → Tree) (p q : Run N) (result : Result A E) → IsErr result
    → Pays r (due_of f p) (nothing_due q.visits) → PaysRun f r p q result
pays_error_as f p q (Ok x) e h = cc
pays_error_as f p q (Err x) e h = h

-- ---- The end

flushed_visits : (i : ℕ) (m : Mode) (ps : List Tree) → task_visits (tasks i m ps) ≤ pending_visits ps
flushed_visits i m [] = omega arith
flushed_visits i m (p ∷ ps) = omega (arith, flushed_visits i m ps)

flushed_unions : (i : ℕ) (m : Mode) (ps : List Tree) → task_unions (tasks i m ps) ≡ pending_unions ps
flushed_unions i m [] = refl
flushed_unions i m (p ∷ ps) = omega (arith, flushed_unions i m ps)

flushed_has : (i : ℕ) (m : Mode) (ps : List Tree) → TreesHaveSummaries ps → HaveSummaries (tasks i m ps)
flushed_has i m [] h = tt
flushed_has i m (p ∷ ps) h = (h.0, flushed_has i m ps h.1)

-- what was pending is to be laid next
pub pays_flushed : {r : Rule} {a : Due} (p q : Standing) (v : Visits) → p.tasks ≡ [] → q.tasks ≡ tasks 0 Break (state_at p).pending
    → state_at q ≡ flushed p.options (state_at p) → Pays r a (due p v) → Pays r a (due q v)
pays_flushed {r} {a} p q v none stack state h =
    let waits = (state_at p).pending in
    let empty : (state_at q).pending ≡ [] = ap (λ (z : State). z.pending) state in
    let fewer : task_visits q.tasks ≤ pending_visits waits = omega (arith, ap task_visits stack, flushed_visits 0 Break waits) in
    pays_then h
    (record {
      unions = omega (arith, ap task_unions stack, flushed_unions 0 Break waits, ap pending_unions empty, h.unions);
      due = omega (arith, fewer, ap pending_visits empty);
      printer = omega (arith, fewer, ap pending_visits empty);
      capped = λ most l m. l;
      have = λ k. (
        subst HaveSummaries (sym stack) (flushed_has 0 Break waits k.1),
        subst TreesHaveSummaries (sym empty) tt,
      );
      few = λ is_true small k. (0, omega arith, omega arith);
    })
