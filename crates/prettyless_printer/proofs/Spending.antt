-- What is left of a run while its nodes leave: one step, and runs in a row.
use Rattle.std.proofs.Common.{◌≡◌, ℕ, ◌+◌, ◌*◌, ◌≤◌, ◌<◌, List, [], ◌∷◌, ◌++◌, Bool, false, refl, ap, sym, ◌∙◌, arith, subst}
use Rattle.prettyless_sink.specs.Sink.{rise}
use Rattle.prettyless_sink.specs.declared.visits.Visits.{Visits}
use Rattle.prettyless_model.specs.declared.options.RenderOptions.{RenderOptions}
use Rattle.prettyless_model.specs.declared.mode.Mode.{Mode}
use Rattle.prettyless_model.specs.declared.mode.Mode.TheVariants.{Break, Flat}
use Rattle.prettyless_model.specs.Tree.{Tree}
use Rattle.prettyless_model.specs.Tree.{Group}
use Rattle.prettyless_model.specs.Tree.{PartialUnion, size}
use Rattle.prettyless_model.specs.Content.{suffix_depth}
use Rattle.prettyless_model.specs.Counts.{each_probe}
use Rattle.prettyless_model.specs.Layout.{State, some_pending}
use Rattle.prettyless_summary.specs.Summary.{HasSummaries}
use Rattle.prettyless_probe.specs.Stack.{Task, make_task, nodes, follow, trees}
use Rattle.prettyless_step.specs.Steps.{Step, Move, Stuck, Choose}
use Rattle.prettyless_probe.specs.Probing.{asked, Few}
use Rattle.prettyless_step.specs.Printing.{Descends, Shows, state_of, tasks_of}
use Rattle.prettyless_probe.specs.Sums.{AllSummed, HaveSummaries, TreesHaveSummaries}
use Rattle.prettyless_step.specs.declared.printer.Printer.{Printer}
use Rattle.prettyless_step.specs.declared.printer.StepResult.TheVariants.{Failed, Choice}
use Rattle.prettyless_step.proofs.Shown.{step_at, StepsTo, IsChoice}
use Rattle.prettyless_step.proofs.Summaries.{StepHasSummaries, step_has}
use Rattle.prettyless_printer.specs.Points.{Standing, standing, state_at, Seen, Point, point}
use Rattle.prettyless_printer.specs.Visits.{Plain, CountsAtMost}
use Rattle.prettyless_printer.specs.Spending.{Capped, Left, Rule, Spends, left, none_left, rule_of}
use Rattle.prettyless_printer.proofs.Standings.{Wrote, choice_there, descended, step_from, stuck_there, pending_stands}
use Rattle.prettyless_printer.proofs.Descends.{InHand, Visit}
use Rattle.prettyless_printer.proofs.Visits.{NoSuffix, at_most_all, choice_at_most, failed_at_most, move_at_most}

-- ---- One probe

-- a node needs one probe at most
pub each_probe_one : (d : Tree) (m : Mode) → each_probe d m ≤ 1
each_probe_one (Group d) Break = omega arith
each_probe_one (Group d) Flat = omega arith
each_probe_one (PartialUnion l r) Break = omega arith
each_probe_one (PartialUnion l r) Flat = omega arith
each_probe_one _ m = omega arith

-- a probe that is started within a limit visits no more nodes past it than are left
pub capped_one : (d : Tree) (m : Mode) (k : ℕ) {limit v x : ℕ} → (0 < each_probe d m → v ≤ limit) → x ≤ v + asked d m k
    → Capped limit (size d + k) v x
capped_one (Group d) Break k asks counted = λ most low high. omega (arith, counted, asks (omega arith))
capped_one (Group d) Flat k asks counted = λ most low high. omega (arith, counted)
capped_one (PartialUnion l r) Break k asks counted = λ most low high. omega (arith, counted, asks (omega arith))
capped_one (PartialUnion l r) Flat k asks counted = λ most low high. omega (arith, counted)
capped_one _ m k asks counted = λ most low high. omega (arith, counted)

-- ---- Steps and runs in a row

-- What is left stays so where nothing is done.
pub spends_same : (r : Rule) (a : Left) → Spends r a a
spends_same r a = record {
  nodes = omega arith;
  printer = omega arith;
  queue = λ e. e;
  capped = λ most l h. l;
  have = λ h. h;
  few = λ t s h. (0, omega arith, omega arith);
}

-- runs in a row
pub spends_then : {r : Rule} {a b c : Left} → Spends r a b → Spends r b c → Spends r a c
spends_then h k = record {
  nodes = omega (arith, h.nodes, k.nodes);
  printer = omega (arith, h.printer, k.printer);
  queue = λ e. k.queue (h.queue e);
  capped = λ most l m. k.capped most (h.capped most l m) (omega (arith, m, h.nodes));
  have = λ x. k.have (h.have x);
  few = λ t s x.
      let p = h.few t s x in
      let q = k.few t (omega (arith, s, h.nodes)) (h.have x) in
      (p.0 + q.0, omega (arith, p.1, q.1), omega (arith, p.2, q.2));
}

-- nothing is left of it
pub spends_all : {r : Rule} {a b : Left} → Spends r a b → Spends r a (none_left b.visits)
spends_all h = record {
  nodes = omega arith;
  printer = omega (arith, h.printer);
  queue = λ e. refl;
  capped = h.capped;
  have = λ x. (tt, tt);
  few = h.few;
}

-- What one step visits: the node, and what its probe does, which is started within the limit.
pub record StepVisits (r : Rule) (t : Task) (ts : List Task) (v x : Visits) : Type 0 where
  pub asks : 0 < each_probe t.tree t.mode → v.probes ≤ r.limit
  pub least : rise v.printer ≤ x.printer
  pub counted : x.probes ≤ v.probes + asked t.tree t.mode (nodes ts)
  pub few : AllSummed r.has t.tree ts → x.probes ≤ v.probes + 2 * each_probe t.tree t.mode

-- what is left with these tasks, outside of trials
abbrev pub on_tasks : List Task → List Tree → Visits → Left
on_tasks ts q v = record { tasks = ts; seconds = []; queue = q; visits = v }

-- one step
step_spends : {r : Rule} {t : Task} {ts us : List Task} {q q' : List Tree} {v x : Visits} → StepVisits r t ts v x
    → CountsAtMost (t ∷ ts) us v x →
    (HaveSummaries (t ∷ ts) → HaveSummaries us) → (q ≡ [] → q' ≡ []) → Spends r (on_tasks (t ∷ ts) q v) (on_tasks us q' x)
step_spends {r} {t} {ts} {q'} one counts have queue = record {
  nodes = omega (arith, counts.left);
  printer = omega (arith, counts.printer);
  queue = queue;
  capped = λ most l m. capped_one t.tree t.mode (nodes ts) one.asks one.counted most l (omega (arith, m));
  have = λ h. (have h.0, tt);
  few = λ is_true small h.
      let all : AllSummed r.has t.tree ts =
      record { summaries = is_true; own = h.0.0; small = omega (arith, small); below = (h.0.1, omega (arith, small)) } in
      (1, omega (arith, one.few all, each_probe_one t.tree t.mode), omega (arith, one.least));
}

pub have_append : (ts us : List Task) → HaveSummaries ts → HaveSummaries us → HaveSummaries (ts ++ us)
have_append [] us h k = k
have_append (t ∷ ts) us h k = (h.0, have_append ts us h.1 k)

steps_to_have : (ts us : List Task) (bytes : List ℕ) (u : State) (step : Step) → StepHasSummaries step → HaveSummaries ts
    → StepsTo step ts bytes us u
    → HaveSummaries us
steps_to_have ts us bytes u (Move b pushed x) h k l = subst HaveSummaries (sym l.1) (have_append pushed ts h.0 k)
steps_to_have ts us bytes u Stuck h k l = absurd l
steps_to_have ts us bytes u (Choose i x y) h k l = absurd l

choice_has : (i : ℕ) (x y : Tree) (step : Step) → StepHasSummaries step → IsChoice step i x y → HasSummaries x × HasSummaries y
choice_has i x y (Move b pushed u) h k = absurd k
choice_has i x y Stuck h k = absurd k
choice_has i x y (Choose j l r) h k = (subst HasSummaries (sym k.1) h.0, subst HasSummaries (sym k.2) h.1)

-- the step of a task of which all nodes have summaries, where nothing is pending
task_has : (o : RenderOptions) (t : Task) (ts : List Task) (st : State) → st.pending ≡ [] → HaveSummaries (t ∷ ts)
    → StepHasSummaries (step_at o t ts st)
task_has o t ts st none h = step_has o t.tree t.indent t.mode (follow ts) st h.0 (subst TreesHaveSummaries (sym none) tt)

-- ---- A turn

-- what is left with a current task
abbrev pub left_with : Task → Standing → Visits → Left
left_with t p v = on_tasks (t ∷ p.tasks) p.queue v

-- A turn has reached a current task, and its step is about to be taken.
pub record TakesTask {N : Type 0} (f : N → Tree) (r : Rule) (a : Point) (t : Task) (p : Printer N) (s : Seen) (v x : Visits) : Type 0 where
  pub hand : InHand a t (point f p s v)
  pub one : Visit a.printer.options t (point f p s v) x
  pub visits : StepVisits r t (tasks_of f p) v x
  pub spent : Plain a.printer → Spends r (left a.printer [] a.visits) (left_with t (standing f p) v)

pub takes : {N : Type 0} (f : N → Tree) {has : Bool} {limit : ℕ} {a : Point} {t : Task} (p : Printer N) {s : Seen} {v x : Visits}
    → InHand a t (point f p s v) → Visit a.printer.options t (point f p s v) x →
    (0 < each_probe t.tree t.mode → v.probes ≤ limit) → x.probes ≤ v.probes + asked t.tree t.mode (nodes (tasks_of f p))
    → Few has t.tree (tasks_of f p) (each_probe t.tree t.mode) v.probes x.probes →
    (Plain a.printer → Spends (rule_of has limit) (left a.printer [] a.visits) (left_with t (standing f p) v)) →
    TakesTask f (rule_of has limit) a t p s v x
takes f p hand one asks counted few spent = record {
  hand = hand;
  one = one;
  visits = record {
    asks = asks;
    least = one.least;
    counted = counted;
    few = few;
  };
  spent = spent;
}

-- no line suffix is visited by the step
same_queue : {N : Type 0} (f : N → Tree) (t : Task) (p q : Printer N) → NoSuffix (t ∷ tasks_of f p) (state_at (standing f p)) →
    (suffix_depth t.tree ≡ 0 → some_pending (state_of f p).pending ≡ false → q.queue ≡ p.queue) → (standing f p).queue ≡ []
    → (standing f q).queue ≡ []
same_queue f t p q plain same none =
    ap (λ z. trees f z.nodes.items) (same (omega (arith, plain.0)) (pending_stands f p ∙ ap some_pending plain.1)) ∙ none

-- the step leads to the next node
pub spends_down : {N : Type 0} (f : N → Tree) {r : Rule} {a : Point} {t : Task} {s : Seen} {v x : Visits} (p q : Printer N) (i : ℕ)
    (m : Mode) (n : N) → TakesTask f r a t p s v x → Plain a.printer →
    (suffix_depth t.tree ≡ 0 → some_pending (state_of f p).pending ≡ false → q.queue ≡ p.queue)
    → Descends f i m n (step_from a.printer.options t (standing f p)) p q →
    Spends r (left a.printer [] a.visits) (left_with (make_task i m (f n)) (standing f q) x)
spends_down f {a} {t} p q i m n h plain same shows =
    let o = a.printer.options in
    let b = standing f p in
    let c = standing f q in
    let st = state_at b in
    let us : List Task = make_task i m (f n) ∷ c.tasks in
    let y = (h.hand.at_most plain).0 in
    let k = descended f i m n (step_at o t b.tasks st) p q shows in
    let counts = (move_at_most us (state_at c) [] h.one.more y k.steps_to).1 in
    spends_then (h.spent plain)
    (step_spends h.visits counts
    (λ g. steps_to_have b.tasks us [] (state_at c) (step_at o t b.tasks st) (task_has o t b.tasks st y.1 g) g.1 k.steps_to)
    (same_queue f t p q y same))

-- the step wrote its bytes
pub spends_moved : {N : Type 0} (f : N → Tree) {r : Rule} {a : Point} {t : Task} {s : Seen} {v x : Visits} (p q : Printer N)
    (bytes : List ℕ)
    → TakesTask f r a t p s v x → Plain a.printer →
    (suffix_depth t.tree ≡ 0 → some_pending (state_of f p).pending ≡ false → q.queue ≡ p.queue)
    → Wrote (step_from a.printer.options t (standing f p)) bytes (standing f p) (standing f q) →
    Spends r (left a.printer [] a.visits) (left (standing f q) [] x)
spends_moved f {a} {t} p q bytes h plain same k =
    let o = a.printer.options in
    let b = standing f p in
    let c = standing f q in
    let st = state_at b in
    let y = (h.hand.at_most plain).0 in
    let counts = (move_at_most c.tasks (state_at c) bytes h.one.more y k.steps_to).1 in
    spends_then (h.spent plain)
    (step_spends h.visits counts
    (λ g. steps_to_have b.tasks c.tasks bytes (state_at c) (step_at o t b.tasks st) (task_has o t b.tasks st y.1 g) g.1 k.steps_to)
    (same_queue f t p q y same))

-- the step fails
pub spends_failed : {N : Type 0} (f : N → Tree) {r : Rule} {a : Point} {t : Task} {s : Seen} {v x : Visits} (p q : Printer N)
    → TakesTask f r a t p s v x → Plain a.printer →
    Shows f t.mode Failed (step_from a.printer.options t (standing f p)) p q
    → Spends r (left a.printer [] a.visits) (left (standing f q) [] x)
spends_failed f {r} {a} {t} {x} p q h plain shows =
    let o = a.printer.options in
    let b = standing f p in
    let counts = failed_at_most h.one.more in
    subst (λ (z : Standing). Spends r (left a.printer [] a.visits) (left z [] x)) (sym (stuck_there f t.mode (step_from o t b) p q shows).1)
    (spends_then (h.spent plain) (step_spends h.visits counts (λ g. g.1) (λ e. e)))

-- a choice comes next
pub spends_choice : {N : Type 0} (f : N → Tree) {r : Rule} {a : Point} {t : Task} {s : Seen} {v x : Visits} (p q : Printer N) (i : ℕ)
    (y z : N) → TakesTask f r a t p s v x → Plain a.printer →
    Shows f t.mode (Choice i y z) (step_from a.printer.options t (standing f p)) p q →
    Spends r (left a.printer [] a.visits)
    (on_tasks (make_task i Break (f y) ∷ make_task i Break (f z) ∷ (standing f q).tasks) (standing f q).queue x)
spends_choice f {r} {a} {t} {x} p q i y z h plain shows =
    let o = a.printer.options in
    let b = standing f p in
    let st = state_at b in
    let none = (h.hand.at_most plain).0 in
    let k = choice_there f t.mode i y z (step_from o t b) p q shows in
    let counts = (choice_at_most i (f y) (f z) h.one.more none k.0).2 in
    let us : List Task = make_task i Break (f y) ∷ make_task i Break (f z) ∷ b.tasks in
    subst (λ (u : Standing). Spends r (left a.printer [] a.visits)
    (on_tasks (make_task i Break (f y) ∷ make_task i Break (f z) ∷ u.tasks) u.queue x)) (sym k.1)
    (spends_then (h.spent plain)
    (step_spends h.visits counts
    (λ g. let both = choice_has i (f y) (f z) (step_at o t b.tasks st) (task_has o t b.tasks st none.1 g) k.0 in
    (both.0, (both.1, g.1))) (λ e. e)))

-- the step was refused memory
pub spends_error : {N : Type 0} (f : N → Tree) {r : Rule} {a : Point} {t : Task} {s : Seen} {v x : Visits} (p : Printer N)
    → TakesTask f r a t p s v x → Plain a.printer → Spends r (left a.printer [] a.visits) (none_left x)
spends_error f p h plain =
    let b = standing f p in
    let counts = failed_at_most h.one.more in
    spends_then (h.spent plain) (step_spends h.visits (at_most_all counts) (λ g. tt) (λ e. refl))

-- the next command is the current one
pub spends_begun : (r : Rule) (a p : Standing) (t : Task) (v : Visits) → a.tasks ≡ t ∷ p.tasks → p.queue ≡ a.queue
    → Spends r (left a [] v) (left_with t p v)
spends_begun r a p t v e h =
    subst (λ (z : List Task). Spends r (left a [] v) (on_tasks z p.queue v)) e
    (subst (λ (z : List Tree). Spends r (left a [] v) (on_tasks a.tasks z v)) (sym h) (spends_same r (left a [] v)))
