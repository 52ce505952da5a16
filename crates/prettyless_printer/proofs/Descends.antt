-- The current node: what holds from where a turn began to there, and how one step leads to the next one.
use Rattle.std.proofs.Common.{◌≡◌, ℕ, ◌+◌, ◌-◌, ◌*◌, ◌≤◌, ◌<◌, List, [], ◌∷◌, length, refl, ap, sym, ◌∙◌, append-nil, arith, subst}
use Rattle.prettyless_sink.specs.Sink.{rise}
use Rattle.prettyless_sink.specs.declared.visits.Visits.{Visits}
use Rattle.prettyless_model.specs.declared.options.RenderOptions.{RenderOptions}
use Rattle.prettyless_model.specs.Tree.{Tree, size}
use Rattle.prettyless_model.specs.Layout.{State}
use Rattle.prettyless_model.specs.declared.mode.Mode.{Mode}
use Rattle.prettyless_model.specs.Counts.{each_probe}
use Rattle.prettyless_probe.specs.Stack.{Task, make_task, nodes}
use Rattle.prettyless_step.specs.Steps.{Step, Stuck, Choose, Move, counted_payload, rejects_payload, work, pending_work}
use Rattle.prettyless_probe.specs.Probing.{asked, RisesBy}
use Rattle.prettyless_step.specs.Printing.{Descends, Shows, state_of, tasks_of}
use Rattle.prettyless_step.specs.declared.printer.Printer.{Printer}
use Rattle.prettyless_step.specs.declared.printer.StepResult.{StepResult}
use Rattle.prettyless_step.proofs.Shown.{step_at, StepsTo}
use Rattle.prettyless_probe.proofs.Stacks.{nodes-append}
use Rattle.prettyless_printer.specs.Points.{Standing, standing, state_at, QueueGrows, Seen, Point, point_at, point}
use Rattle.prettyless_printer.specs.Progress.{Inside}
use Rattle.prettyless_printer.specs.Turns.{Advances, ForWholes, next_size}
use Rattle.prettyless_printer.specs.Visits.{suffix_depths, Plain, Rise, CountsAtMost, visited_more}
use Rattle.prettyless_printer.specs.AtLeast.{CountsAtLeast, stack_tally, tally_above}
use Rattle.prettyless_printer.proofs.Standings.{descended, state_stands, step_from}
use Rattle.prettyless_printer.proofs.Steps.{extra, step_less_visits, LeavesLess}
use Rattle.prettyless_printer.proofs.Trying.{grows-grows}
use Rattle.prettyless_printer.proofs.Turnings.{inside_at, work_falls, move_inside}
use Rattle.prettyless_printer.proofs.Visits.{NoSuffix, OneMore, payload_visits-add, payload_visits-least, payload_visits-plus}
use Rattle.prettyless_printer.proofs.Visits.{move_at_most, at_most_same}
use Rattle.prettyless_printer.proofs.Visits.{at_most_then, rise_same, rise_then}
use Rattle.prettyless_printer.proofs.AtLeast.{OneLaid, move_at_least, at_least_same, at_least_then}

-- ---- Where a turn has come

-- the tasks, where the current one is above the stack
abbrev pub tasks_with : Task → Standing → List Task
tasks_with t p = t ∷ p.tasks

-- A turn that began at one point has reached another, with the current task above the stack; it has written nothing.
pub record InHand (a : Point) (t : Task) (b : Point) : Type 0 where
  -- options, flag and sink are the same, and the queue only grew
  pub options : b.printer.options ≡ a.printer.options
  pub within : b.printer.within ≡ a.printer.within
  pub sink : b.sink ≡ a.sink
  pub grows : QueueGrows a.printer b.printer
  -- the tasks below the next one are there
  pub long : length a.printer.tasks ≤ length b.printer.tasks + 1
  -- there is no more work
  pub less : work (tasks_with t b.printer) (state_at b.printer) ≤ work a.printer.tasks (state_at a.printer)
  -- the work is inside the same wholes
  pub inside : (out : List ℕ) → ForWholes a.printer out
      (λ whole limit below old. Inside a.printer.options whole limit below old (tasks_with t b.printer) (state_at b.printer) out)
  -- no count of visits fell, and the next task's document has a node for each visit of the printer and those of the current task
  pub rise : Rise a.visits b.visits
  pub most : b.visits.printer + size t.tree ≤ a.visits.printer + next_size a.printer.tasks
  -- without line suffixes, the nodes that left allow for the visits
  pub at_most : Plain a.printer → NoSuffix (tasks_with t b.printer) (state_at b.printer) × CountsAtMost a.printer.tasks
      (tasks_with t b.printer) a.visits b.visits
  -- what was laid is counted
  pub at_least : (n : ℕ) → n < length a.printer.tasks →
      CountsAtLeast (stack_tally a.printer n) (tally_above a.printer.options n (tasks_with t b.printer) (state_at b.printer))
      a.visits b.visits

-- the next command is taken
pub in_hand : (a : Point) (p : Standing) (t : Task) → a.printer.tasks ≡ tasks_with t p → state_at p ≡ state_at a.printer
    → p.options ≡ a.printer.options → QueueGrows a.printer p →
    InHand a t (point_at p a.sink a.visits)
in_hand a p t e s o g =
    let p' = a.printer in
    let ts : List Task = tasks_with t p in
    record {
      options = o;
      within = ap (λ (x : State). x.within) s;
      sink = refl;
      grows = g;
      long = omega (arith, ap length e);
      less = omega (arith, ap nodes e, ap (λ (x : State). pending_work x.pending) s);
      inside = λ out whole limit below old l h. inside_at (sym e) s refl h;
      rise = rise_same a.visits;
      most = omega (arith, ap next_size e);
      at_most = λ plain. (
        (sym (ap suffix_depths e) ∙ plain.none, ap (λ (x : State). x.pending) s ∙ plain.pending),
        subst (λ (x : List Task). CountsAtMost p'.tasks x a.visits a.visits) e (at_most_same p'.tasks a.visits),
      );
      at_least = λ n l.
          subst (λ (x : State). CountsAtLeast (stack_tally p' n) (tally_above p'.options n ts x) a.visits a.visits) (sym s)
          (subst (λ (x : List Task). CountsAtLeast (stack_tally p' n) (tally_above p'.options n x (state_at p')) a.visits a.visits) e
          (at_least_same (stack_tally p' n) a.visits));
    }

-- ---- A visit

-- what a step of the current task counts
pub record Visit (o : RenderOptions) (t : Task) (b : Point) (x : Visits) : Type 0 where
  pub more : OneMore o t b.printer.tasks (state_at b.printer) b.visits x
  pub least : rise b.visits.printer ≤ x.printer
  pub rise : Rise b.visits x

-- the step is taken after k nodes that led to it, none of which is counted yet: all of these are with its own
pub visit : {N : Type 0} (f : N → Tree) {a : Point} {t : Task} {s : Seen} (k : ℕ) (v : Visits) (p : Printer N) (x : Visits) (n : ℕ)
    → InHand a t (point f p s (visited_more k v)) → n ≡ rise k →
    x.printer ≡ counted_payload (rejects_payload p.options t.tree t.mode (state_of f p)) v.printer → v.probes ≤ x.probes
    → x.probes ≤ v.probes + asked t.tree t.mode (nodes (tasks_of f p)) →
    Visit a.printer.options t (point f p s (visited_more k v)) (visited_more n x)
visit {N} f {a} {t} {s} k v p x n hand e h probes most =
    let w = visited_more k v in
    let y = visited_more n x in
    let b = point f p s w in
    let rejected = rejects_payload p.options t.tree t.mode (state_at b.printer) in
    let at_state : x.printer ≡ counted_payload rejected v.printer =
    h ∙ ap (λ (u : State). counted_payload (rejects_payload p.options t.tree t.mode u) v.printer) (state_stands f p) in
    let counted : y.printer ≡ counted_payload rejected (rise w.printer) = payload_visits-add rejected v.printer x.printer k n at_state e in
    let least : rise w.printer ≤ y.printer = payload_visits-least rejected w.printer (rise w.printer) y.printer refl counted in
    subst (λ (o : RenderOptions). Visit o t b y) hand.options
    (record {
      more = record { printer = payload_visits-plus rejected w.printer (rise w.printer) y.printer refl counted; probes = most };
      least = least;
      rise = record { printer = omega (arith, least); probes = probes };
    })

-- what the code answers to the current task
pub shown : {N : Type 0} (f : N → Tree) {a : Point} {t : Task} {s : Seen} {v : Visits} (p q : Printer N) (r r' : StepResult N)
    → InHand a t (point f p s v) → r ≡ r' →
    Shows f t.mode r (step_at p.options t (tasks_of f p) (state_of f p)) p q
    → Shows f t.mode r' (step_from a.printer.options t (standing f p)) p q
shown {N} f {a} {t} {s} {v} p q r r' hand e h =
    subst (λ (o : RenderOptions). Shows f t.mode r' (step_from o t (standing f p)) p q) hand.options
    (subst (λ (u : State). Shows f t.mode r' (step_at p.options t (tasks_of f p) u) p q) (state_stands f p)
    (subst (λ (z : StepResult N). Shows f t.mode z (step_at p.options t (tasks_of f p) (state_of f p)) p q) e h))

-- ---- The next node

-- the nodes that are left after a step that adds k visits to its own
steps_to_most : {st u : State} (t : Task) (ts us : List Task) (bytes : List ℕ) (k : ℕ) (step : Step)
    → LeavesLess (pending_work st.pending) (2 * size t.tree + pending_work st.pending - 2 * k) step → StepsTo step ts bytes us u → u ≡ st →
    nodes us + 1 + k ≤ size t.tree + nodes ts
steps_to_most t ts us bytes k (Move b pushed x) less h e =
    omega (
      arith,
      ap nodes h.1,
      nodes-append pushed ts,
      ap (λ (z : State). pending_work z.pending) h.2,
      ap (λ (z : State). pending_work z.pending) e,
    )
steps_to_most t ts us bytes k Stuck less h e = absurd h
steps_to_most t ts us bytes k (Choose i x y) less h e = absurd h

-- a step leads to the next node
pub goes_down : {N : Type 0} (f : N → Tree) {a : Point} {t : Task} {s : Seen} {v : Visits} (p q : Printer N) (x : Visits) (i : ℕ) (m : Mode)
    (n : N) → InHand a t (point f p s v) → Visit a.printer.options t (point f p s v) x →
    RisesBy (each_probe t.tree t.mode) v.probes x.probes → Descends f i m n (step_from a.printer.options t (standing f p)) p q
    → InHand a (make_task i m (f n)) (point f q s x)
goes_down {N} f {a} {t} {s} {v} p q x i m n h one probes shows =
    let b = point f p s v in
    let c = standing f q in
    let o = a.printer.options in
    let ts : List Task = b.printer.tasks in
    let us : List Task = tasks_with (make_task i m (f n)) c in
    let st = state_at b.printer in
    let u = state_at c in
    let k = descended f i m n (step_at o t ts st) p q shows in
    let laid : OneLaid t b.visits x = record { printer = one.least; probes = probes } in
    let more = extra (rejects_payload o t.tree t.mode st) in
    let fewer : nodes us + 1 + more ≤ size t.tree + nodes ts = steps_to_most t ts us [] more (step_at o t ts st)
    (step_less_visits o t.tree t.indent t.mode _ st) k.steps_to k.state in
    record {
      options = k.options ∙ h.options;
      within = ap (λ (z : State). z.within) k.state ∙ h.within;
      sink = h.sink;
      grows = grows-grows a.printer b.printer c h.grows k.grows;
      long = omega (arith, h.long, k.long);
      less = omega (arith, h.less, work_falls o t ts us st u [] k.steps_to);
      inside = λ out whole limit below old l y.
          inside_at refl refl (sym (append-nil out)) (move_inside [] (omega (arith, l, h.long))
          (h.inside out whole limit below old l y) k.steps_to);
      rise = rise_then h.rise one.rise;
      most = omega (arith, h.most, one.more.printer, fewer, k.heavy);
      at_most = λ plain.
          let y = h.at_most plain in
          let z = move_at_most us u [] one.more y.0 k.steps_to in
          (z.0, at_most_then y.1 z.1);
      at_least = λ j l. at_least_then (h.at_least j l)
          (move_at_least o j ts us st u [] laid (omega (arith, l, h.long)) k.steps_to);
    }

-- a turn is from where it began
pub from_start : {N E : Type 0} (f : N → Tree) {a : Point} {t : Task} {b c : Point} (r : _) → InHand a t b
    → Advances {N = N} {E = E} f (point_at a.printer b.sink a.visits) c r → Advances {N = N} {E = E} f a c r
from_start {N} {E} f {a} {t} {b} {c} r hand h =
    subst (λ (z : Seen). Advances {N = N} {E = E} f (point_at a.printer z a.visits) c r) hand.sink h
