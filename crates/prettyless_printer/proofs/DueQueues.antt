-- The queue of a run without unions: between two turns no line suffix that was laid is left in it.
use Rattle.std.proofs.Common.{◌≡◌, ℕ, ◌≤◌, List, [], ◌∷◌, Bool, true, false, refl, ap, sym, ◌∙◌, drop, length, arith, subst}
use Rattle.std.specs.List.{sum_by}
use Rattle.std.proofs.lemmas.List.Sums.{sum_by-cons}
use Rattle.prettyless_model.specs.declared.mode.Mode.{Mode}
use Rattle.prettyless_model.specs.Tree.{Tree, size}
use Rattle.prettyless_model.specs.Layout.{State, some_pending}
use Rattle.prettyless_probe.specs.Stack.{trees}
use Rattle.prettyless_step.specs.Steps.{Step}
use Rattle.prettyless_step.specs.Printing.{Descends, StartStays, state_of}
use Rattle.prettyless_step.specs.declared.printer.Printer.{Printer}
use Rattle.prettyless_step.specs.declared.queue.Queue.{Queue}
use Rattle.prettyless_step.proofs.Queues.{length_none}
use Rattle.prettyless_step.proofs.Shown.{printer_descended}
use Rattle.prettyless_printer.specs.Points.{standing, state_at}
use Rattle.prettyless_printer.specs.Due.{pending_visits}
use Rattle.prettyless_printer.proofs.Standings.{pending_stands}

-- where the same is pending, the start stays
stays_same : (some before : Bool) (old new : ℕ) → some ≡ before → (before ≡ false → new ≡ old) → (some ≡ true → new ≡ old) → new ≡ old
stays_same some true old new same none more = more same
stays_same some false old new same none more = none refl

-- a step that leads to the next node
pub start_down : {N : Type 0} (f : N → Tree) (p q : Printer N) (i : ℕ) (m : Mode) (n : N) (step : Step) → StartStays f p q
    → Descends f i m n step p q → q.queue.start ≡ p.queue.start
start_down f p q i m n step stays shows =
    stays_same (some_pending (state_of f q).pending) (some_pending (state_of f p).pending) p.queue.start q.queue.start
    (ap (λ (u : State). some_pending u.pending) (printer_descended f i m n step p q shows).state) stays.0 stays.1

-- a queue without nodes starts at 0
pub empty_start : {N : Type 0} (q : Queue N) → q.nodes.items ≡ [] → q.start ≡ 0
empty_start q none = omega (arith, q.in_range, q.nodes.ok.0, ap length none)

no_trees : {N : Type 0} (f : N → Tree) (ns : List N) → length (trees f ns) ≤ 0 → ns ≡ []
no_trees f [] none = refl
no_trees f (n ∷ ns) none = absurd (omega (arith, none))

-- nothing is pending in a printer
none_pending : {N : Type 0} (f : N → Tree) (p : Printer N) → some_pending (state_of f p).pending ≡ false
    → drop p.queue.start p.queue.nodes.items ≡ []
none_pending f p none = no_trees f (drop p.queue.start p.queue.nodes.items) (length_none (state_of f p).pending none)

-- what was laid is forgotten: all at once where nothing is pending
pub forgets_laid : {N : Type 0} (f : N → Tree) (p : Printer N) (q : Queue N)
    → (some_pending (state_of f p).pending ≡ true → p.queue.start ≡ 0) → (p.queue.start ≡ 0 → q.start ≡ 0)
    → (drop p.queue.start p.queue.nodes.items ≡ [] → q.nodes.items ≡ []) → q.start ≡ 0
forgets_laid f p q more stays forgotten = by_pending (some_pending (state_of f p).pending) refl
  where
    by_pending : (b : Bool) → some_pending (state_of f p).pending ≡ b → q.start ≡ 0
    by_pending true some = stays (more some)
    by_pending false none = empty_start q (forgotten (none_pending f p none))

-- the same between two turns, where the first one took a queue in which nothing was laid
pub turn_clear : {N : Type 0} (f : N → Tree) (p : Printer N) (q : Queue N) (start : ℕ)
    → (some_pending (state_at (standing f p)).pending ≡ true → p.queue.start ≡ start) → start ≡ 0 → (p.queue.start ≡ 0 → q.start ≡ 0)
    → (drop p.queue.start p.queue.nodes.items ≡ [] → q.nodes.items ≡ []) → q.start ≡ 0
turn_clear f p q start more clear stays forgotten =
    forgets_laid f p q (λ some. more (sym (pending_stands f p) ∙ some) ∙ clear) stays forgotten

-- ---- Nodes of the queue

sizes_pending : {N : Type 0} (f : N → Tree) (ns : List N) → sum_by (λ n. size (f n)) ns ≤ pending_visits (trees f ns)
sizes_pending f [] = omega arith
sizes_pending f (n ∷ ns) = omega (arith, sizes_pending f ns, sum_by-cons (λ m. size (f m)) n ns)

-- where nothing in it was laid, its nodes are due
pub queue_due : {N : Type 0} (f : N → Tree) (p : Printer N) → p.queue.start ≡ 0
    → sum_by (λ n. size (f n)) p.queue.nodes.items ≤ pending_visits (state_at (standing f p)).pending
queue_due f p clear =
    subst (λ (k : ℕ). sum_by (λ n. size (f n)) p.queue.nodes.items ≤ pending_visits (drop k (trees f p.queue.nodes.items))) (sym clear)
    (sizes_pending f p.queue.nodes.items)
