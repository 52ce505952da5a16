-- Outside of trials the queue may be another one, in which the same is pending.
use Rattle.std.proofs.Common.{◌≡◌, ℕ, List, [], ◌∷◌, length, ◌≤◌, refl, ap, sym, ◌∙◌, drop, subst, arith}
use Rattle.std.proofs.lemmas.List.{drop-map, drop_all}
use Rattle.prettyless_sink.specs.Sink.{known}
use Rattle.prettyless_sink.specs.declared.visits.Visits.{Visits}
use Rattle.prettyless_model.specs.Tree.{Tree}
use Rattle.prettyless_model.specs.Layout.{State}
use Rattle.prettyless_probe.specs.Stack.{trees}
use Rattle.prettyless_step.specs.Steps.{pending_work, work}
use Rattle.prettyless_step.specs.Printing.{tasks_of}
use Rattle.prettyless_step.specs.declared.printer.Printer.{Printer}
use Rattle.prettyless_step.specs.declared.queue.Queue.{Queue}
use Rattle.prettyless_printer.specs.Points.{standing, state_at, Seen, Point, point_at, point}
use Rattle.prettyless_printer.specs.Progress.{Inside}
use Rattle.prettyless_printer.specs.AtLeast.{CountsAtLeast, tally_above}
use Rattle.prettyless_printer.specs.Paths.{Path, run_of}
use Rattle.prettyless_printer.specs.Spending.{Left, Rule, Spends, left}

-- the same is pending in two queues
abbrev pub PendingSame : {N : Type 0} → Queue N → Queue N → Type 0
PendingSame p q = drop q.start q.nodes.items ≡ drop p.start p.nodes.items

pub pending_same : {N : Type 0} (f : N → Tree) (p q : Queue N) → PendingSame p q
    → drop q.start (trees f q.nodes.items) ≡ drop p.start (trees f p.nodes.items)
pending_same f p q same = drop-map f q.start q.nodes.items ∙ ap (trees f) same ∙ sym (drop-map f p.start p.nodes.items)

-- a run of all commands
path_requeued : {a b : Point} (ds : List Tree) (n : ℕ) → drop n ds ≡ drop b.printer.start b.printer.queue → Path (run_of a) b
    → Path (run_of a) (point_at (record b.printer { queue = ds; start = n }) b.sink b.visits)
path_requeued {a} {b} ds n same path =
    let st : List Tree → State = λ w. record { column = b.printer.column; pending = w; within = b.printer.within } in
    let o = b.printer.options in
    let ts = b.printer.tasks in
    let r = run_of a in
    record {
      options = path.options;
      queue = (ds, refl);
      same_lender = path.same_lender;
      less = omega (arith, path.less, ap pending_work same);
      bytes = λ is_known.
          let y = path.bytes is_known in (
            y.0,
            (
              subst (λ (w : List Tree). Inside a.printer.options r.whole r.limit [] (known a.sink.bytes) ts (st w) (known b.sink.bytes))
                  (sym same) y.1.0,
              y.1.1,
            ),
          );
      rise = path.rise;
      at_most = λ plain.
          let y = path.at_most plain in
          (record { none = y.0.none; pending = same ∙ y.0.pending }, y.1);
      at_least = subst (λ (w : List Tree). CountsAtLeast r.tally (λ k. tally_above o 0 ts (st w) k) a.visits b.visits) (sym same)
          path.at_least;
    }

pub path_forgets : {N : Type 0} (f : N → Tree) {a : Point} (p : Printer N) (q : Queue N) (s : Seen) (v : Visits) → PendingSame p.queue q
    → Path (run_of a) (point f p s v) → Path (run_of a) (point f (record p { queue = q }) s v)
path_forgets f {a} p q s v same path =
    path_requeued {b = point f p s v} (trees f q.nodes.items) q.start (pending_same f p.queue q same) path

-- the work that is left
pub work_forgets : {N : Type 0} (f : N → Tree) (p : Printer N) (q : Queue N) → PendingSame p.queue q
    → work (tasks_of f p) (state_at (standing f (record p { queue = q }))) ≡ work (tasks_of f p) (state_at (standing f p))
work_forgets f p q same = omega (arith, ap pending_work (pending_same f p.queue q same))

no_nodes : {N : Type 0} (f : N → Tree) (ns : List N) → trees f ns ≡ [] → length ns ≤ 0
no_nodes f [] none = omega arith
no_nodes f (n ∷ ns) none = absurd (omega (arith, ap length none))

-- what is left, without line suffixes
pub spends_forgets : {N : Type 0} (f : N → Tree) {r : Rule} {a : Left} (p : Printer N) (q : Queue N) (v : Visits)
    → (drop p.queue.start p.queue.nodes.items ≡ [] → q.nodes.items ≡ []) → Spends r a (left (standing f p) [] v)
    → Spends r a (left (standing f (record p { queue = q })) [] v)
spends_forgets f {r} {a} p q v forgotten h = record {
  nodes = h.nodes;
  printer = h.printer;
  queue = λ none. ap (trees f) (forgotten (drop_all p.queue.start p.queue.nodes.items
      (omega (arith, no_nodes f p.queue.nodes.items (h.queue none)))));
  capped = h.capped;
  have = h.have;
  few = h.few;
}
