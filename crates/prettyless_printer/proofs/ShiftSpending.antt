-- How many nodes probes visit before a shift and after it: it comes where they visited much more than the printer, and after it each
-- visits two.
use Rattle.std.proofs.Common.{◌≡◌, ℕ, ◌+◌, ◌*◌, ◌-◌, ◌^◌, ◌≤◌, ◌<◌, List, [], ◌∷◌, Bool, true, length, refl, ap, sym, subst, arith}
use Rattle.std.proofs.Common.{max, min, zero, suc}
use Rattle.std.specs.List.{sum_by}
use Rattle.prettyless_sink.specs.declared.visits.Visits.{Visits}
use Rattle.prettyless_model.specs.Tree.{Tree, size}
use Rattle.prettyless_probe.specs.Stack.{nodes, trees}
use Rattle.prettyless_printer.specs.declared.run.Run.{Run}
use Rattle.prettyless_printer.specs.declared.shift_policy.ShiftPolicy.{ShiftPolicy}
use Rattle.prettyless_printer.specs.Points.{Standing}
use Rattle.prettyless_printer.specs.ShiftPolicy.{probe_factor, probe_grace, probe_limit}
use Rattle.prettyless_printer.specs.Open.{Held, run_nodes, seconds}
use Rattle.prettyless_printer.specs.Linear.{IsLinearBound, IsLinearStart}
use Rattle.prettyless_printer.specs.Spending.{AllHaveSummaries, Left, Spends, left, left_nodes, left_of, none_left, rule_of}

-- How far a run has come before a shift, from n nodes: what is left allows for two visits of a node each.
pub record Within (n : ℕ) (v : Visits) (l : Left) : Type 0 where
  pub left : left_nodes l ≤ n
  pub printer : l.visits.printer + left_nodes l ≤ v.printer + n
  pub queue : l.queue ≡ []
  pub have : AllHaveSummaries l
  pub probes : l.visits.probes + 2 * left_nodes l ≤ v.probes + (probe_factor * n + probe_grace)

pub within_start : (p : Standing) (us : List Held) (v : Visits) → us ≡ [] → IsLinearStart p
    → Within (nodes p.tasks) v (left p (seconds us) v)
within_start p us v none linear =
    subst (λ (z : List Held). Within (nodes p.tasks) v (left p (seconds z) v)) (sym none)
    (record {
      left = omega arith;
      printer = omega arith;
      queue = linear.queue;
      have = (linear.have, tt);
      probes = omega arith;
    })

-- it goes on to the limit
pub within_goes : {n : ℕ} {v : Visits} {a b : Left} (has : Bool) (g : ShiftPolicy) (limit : ℕ) →
    limit ≡ probe_limit g a.visits
    → g.start ≡ v → g.next_try ≤ n → Within n v a → Spends (rule_of has limit) a b → Within n v b
within_goes {n} {v} {a} {b} has g limit is start next h k =
    let most : ℕ = v.probes + (probe_factor * n + probe_grace) - 2 * left_nodes a in
    let low : limit + left_nodes a ≤ most =
    omega (arith, is, next, h.left, h.printer, ap (λ (x : Visits). x.probes) start, ap (λ (x : Visits). x.printer) start) in
    let probes : b.visits.probes ≤ most = k.capped most (omega (arith, h.probes)) low in
    record {
      left = omega (arith, h.left, k.nodes);
      printer = omega (arith, h.printer, k.printer);
      queue = k.queue h.queue;
      have = k.have h.have;
      probes = omega (arith, probes, k.nodes, h.probes);
    }

-- it is done
pub within_few : {n : ℕ} {v : Visits} {l : Left} → Within n v l → IsLinearBound probe_factor probe_grace n v l.visits
within_few {n} {v} {l} h room = omega (arith, h.probes)

-- what is left over a table visits two nodes for each visit of the printer
pub over_table : {limit : ℕ} {a : Left} {w : Visits} → Spends (rule_of true limit) a (none_left w) → left_nodes a < 2 ^ 32
    → AllHaveSummaries a →
    a.visits.printer + left_nodes a < 2 ^ 64 - 1 → w.probes ≤ a.visits.probes + 2 * left_nodes a
over_table {limit} {a} {w} h small have room =
    let k = h.few refl small have in
    omega (arith, k.1, k.2, h.printer, room)

pub within_over : {n : ℕ} {v w : Visits} {a : Left} {limit : ℕ} → Within n v a → Spends (rule_of true limit) a (none_left w)
    → n ≤ 4294967294 → IsLinearBound probe_factor probe_grace n v w
within_over {n} {v} {w} {a} {limit} h k small room =
    omega (arith, over_table k (omega (arith, h.left, small)) h.have (omega (arith, h.printer, room)), h.probes)

-- over a table from the first node on
pub all_over : {w v : Visits} {p : Standing} {limit : ℕ} → IsLinearStart p → Spends (rule_of true limit) (left p [] v)
    (none_left w) → IsLinearBound 2 0 (nodes p.tasks) v w
all_over {w} {v} {p} {limit} linear k room =
    omega (arith, over_table k (omega (arith, linear.size)) (linear.have, tt) (omega (arith, room)))

queue_none : {N : Type 0} (f : N → Tree) (xs : List N) → trees f xs ≡ [] → sum_by (λ n. size (f n)) xs ≡ 0
queue_none {N} f [] h = refl
queue_none {N} f (x ∷ xs) h = absurd (omega (arith, ap length h))

-- A run has come this far before a round, in which a table has this room.
pub record Round {N : Type 0} (f : N → Tree) (n room : ℕ) (v : Visits) (g : ShiftPolicy) (r : Run N) : Type 0 where
  pub within : Within n v (left_of f r)
  pub next : g.next_try ≤ max n room
  pub start : g.start ≡ v

-- No table is made of what is left, and it can have its nodes: there are more than there is room for, if there is any.
pub record NoTable {N : Type 0} (f : N → Tree) (n room : ℕ) (r : Run N) : Type 0 where
  pub size : n ≤ 4294967294
  pub large : 0 < room → min room 4294967294 < run_nodes f r

module _ {N : Type 0} {f : N → Tree} {n room : ℕ} {v : Visits} {g : ShiftPolicy} {r : Run N} (h : Round f n room v g r)
    (k : NoTable f n room r) where
  no_room : 0 < room → room < n
  no_room some = omega (arith, h.within.left, k.size, k.large some, queue_none f r.printer.queue.nodes.items h.within.queue)

  -- the next one is tried where probes have visited more than there are nodes at most
  pub next_within : g.next_try ≤ n
  next_within = next_below room h.next no_room
    where
      next_below : (m : ℕ) → g.next_try ≤ max n m → (0 < m → m < n) → g.next_try ≤ n
      next_below zero next less = omega (arith, next)
      next_below (suc m) next less = omega (arith, next, less (omega arith))

  -- the run, which nothing has changed, goes on to the limit
  pub goes_on_without : {q : Run N} {b : Left} (has : Bool) (limit : ℕ) → q ≡ r → limit ≡ probe_limit g q.visits
      → Spends (rule_of has limit) (left_of f q) b → Within n v b
  goes_on_without has limit same is spends =
      within_goes has g limit is h.start next_within (subst (λ (x : Run N). Within n v (left_of f x)) (sym same) h.within) spends

  -- so there was no room for all nodes
  pub always_room : {first : ℕ} → room ≡ first → 0 < first → n ≤ first → ⊥
  always_room same some all = omega (arith, same, all, no_room (omega (arith, same, some)))
