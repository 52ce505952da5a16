-- What is due of a run without unions before a shift and after it.
use Rattle.std.proofs.Common.{◌≡◌, ℕ, ◌+◌, ◌-◌, ◌*◌, ◌≤◌, ◌<◌, List, [], Bool, true, ap, ◌∙◌, arith, refl, subst, sym}
use Rattle.std.proofs.Common.{max, min, zero, suc}
use Rattle.std.specs.List.{sum_by}
use Rattle.prettyless_sink.specs.declared.visits.Visits.{Visits}
use Rattle.prettyless_model.specs.Tree.{Tree, size}
use Rattle.prettyless_printer.specs.declared.run.Run.{Run}
use Rattle.prettyless_printer.specs.declared.shift_policy.ShiftPolicy.{ShiftPolicy}
use Rattle.prettyless_printer.specs.declared.trial.OpenTrial.{OpenTrial}
use Rattle.prettyless_printer.specs.Points.{Standing, standing}
use Rattle.prettyless_printer.specs.Open.{all_held, run_nodes, seconds}
use Rattle.prettyless_printer.specs.ShiftPolicy.{probe_limit}
use Rattle.prettyless_printer.specs.Spending.{Rule, rule_of}
use Rattle.prettyless_printer.specs.Due.{Due, DueHasSummaries, IsLinearDue, Pays, PaysToEnd, StaysClear, due, due_of, nothing_due}
use Rattle.prettyless_printer.specs.Due.{unions_due, visits_due}
use Rattle.prettyless_printer.proofs.DueQueues.{queue_due}
use Rattle.prettyless_printer.proofs.DueSteps.{nodes_visits}
use Rattle.prettyless_printer.proofs.Shifts.{none_open}

-- ---- Over a table

-- no trial is open over a table where none was
pub none_placed : {N M : Type 0} (f : N → Tree) (g : M → Tree) (us : List (OpenTrial N)) (vs : List (OpenTrial M))
    → all_held g vs ≡ all_held f us → us ≡ [] → vs ≡ []
none_placed f g us vs same none = none_open g vs (same ∙ ap (all_held f) none)

-- what is due there is what was due
pub pays_over : {r : Rule} {b : Due} {p q : Standing} (v : Visits) → q ≡ p → unions_due (due p v) ≡ 0
    → (unions_due (due q v) ≡ 0 → Pays r (due q v) b) → Pays r (due p v) b
pays_over {r} {b} v same free h =
    subst (λ (z : Standing). Pays r (due z v) b) same (h (ap (λ (z : Standing). unions_due (due z v)) same ∙ free))

-- ---- Rounds

-- How far a run without unions has come before a shift, of n visits of the printer that were due: what is due allows for two visits of
-- probes each.
pub record DueWithin (n : ℕ) (v : Visits) (l : Due) : Type 0 where
  pub due : visits_due l ≤ n
  pub have : DueHasSummaries l
  pub probes : l.visits.probes + 2 * visits_due l ≤ v.probes + (16 * n + 1000)

-- What is to come of the policy is not past n.
pub record Policy (n room : ℕ) (v : Visits) (g : ShiftPolicy) : Type 0 where
  pub next : g.next_try ≤ max n room
  pub start : g.start ≡ v

-- A run without unions has come from p to q before a round, in which a table has this room.
pub record DueRound {N : Type 0} (f : N → Tree) (p q : Run N) (refused room : ℕ) (g : ShiftPolicy) : Type 0 where
  pub none : q.trials.open.items ≡ []
  pub clear : q.printer.queue.start ≡ 0
  pub unions : unions_due (due_of f q) ≡ 0
  pub printer : q.visits.printer + visits_due (due_of f q) ≤ p.visits.printer + visits_due (due_of f p)
  pub few : IsLinearDue (due_of f p) → refused ≡ 0
      → DueWithin (visits_due (due_of f p)) p.visits (due_of f q) × Policy (visits_due (due_of f p)) room p.visits g

pub round_begins : {N : Type 0} (f : N → Tree) (p : Run N) (refused room : ℕ) (g : ShiftPolicy) → p.trials.open.items ≡ []
    → p.printer.queue.start ≡ 0 → unions_due (due_of f p) ≡ 0 → g ≡ record { start = p.visits; next_try = 0 }
    → DueRound f p p refused room g
round_begins f p refused room g none clear free first = record {
  none = none;
  clear = clear;
  unions = free;
  printer = omega arith;
  few = λ linear unrefused. (
    record { due = omega arith; have = linear.0; probes = omega arith },
    record {
      next = omega (arith, ap (λ (x : ShiftPolicy). x.next_try) first);
      start = ap (λ (x : ShiftPolicy). x.start) first;
    },
  );
}

-- No table was made of what q has left: where none was refused memory, there are more nodes than there is room for, if there is any.
pub record DueNoTable {N : Type 0} (f : N → Tree) (q s : Run N) (old refused room : ℕ) : Type 0 where
  pub same : s ≡ q
  pub rises : old ≤ refused
  pub large : 0 < room → refused ≡ 0 → min room 4294967294 < run_nodes f q

module _ {N : Type 0} {f : N → Tree} {p q s : Run N} {old refused room : ℕ} {g : ShiftPolicy} (h : DueRound f p q old room g)
    (k : DueNoTable f q s old refused room) where
  -- the nodes that are left are due
  nodes_due : run_nodes f q ≤ visits_due (due_of f q)
  nodes_due = omega (
    arith,
    queue_due f q.printer h.clear,
    nodes_visits (standing f q.printer).tasks,
    ap (λ (us : List (OpenTrial N)). sum_by size (seconds (all_held f us))) h.none,
  )

  pub still_none : s.trials.open.items ≡ []
  still_none = ap (λ (z : Run N). z.trials.open.items) k.same ∙ h.none

  pub still_clear : s.printer.queue.start ≡ 0
  still_clear = ap (λ (z : Run N). z.printer.queue.start) k.same ∙ h.clear

  pub still_unions : unions_due (due_of f s) ≡ 0
  still_unions = ap (λ (z : Run N). unions_due (due_of f z)) k.same ∙ h.unions

  no_room : (n : ℕ) → visits_due (due_of f q) ≤ n → n ≤ 4294967294 → refused ≡ 0 → 0 < room → room < n
  no_room n within small unrefused some = omega (arith, within, small, nodes_due, k.large some unrefused)

  -- the next table is tried where probes have visited more nodes than visits were due at most
  next_within : (n : ℕ) → visits_due (due_of f q) ≤ n → n ≤ 4294967294 → refused ≡ 0 → g.next_try ≤ max n room → g.next_try ≤ n
  next_within n within small unrefused next = next_below room next (no_room n within small unrefused)
    where
      next_below : (m : ℕ) → g.next_try ≤ max n m → (0 < m → m < n) → g.next_try ≤ n
      next_below zero next less = omega (arith, next)
      next_below (suc m) next less = omega (arith, next, less (omega arith))

  -- the run goes on to the limit
  goes_within : {b : Due} (has : Bool) (limit : ℕ) → limit ≡ probe_limit g s.visits → Pays (rule_of has limit) (due_of f s) b
      → IsLinearDue (due_of f p) → refused ≡ 0 → DueWithin (visits_due (due_of f p)) p.visits b
  goes_within {b} has limit is pays linear unrefused =
      let n = visits_due (due_of f p) in
      let before = h.few linear (omega (arith, unrefused, k.rises)) in
      let next = next_within n before.0.due linear.1 unrefused before.1.next in
      let due_same = ap (λ (z : Run N). visits_due (due_of f z)) k.same in
      let printer_same = ap (λ (z : Run N). z.visits.printer) k.same in
      let probes_same = ap (λ (z : Run N). z.visits.probes) k.same in
      let most : ℕ = p.visits.probes + (16 * n + 1000) - 2 * visits_due (due_of f q) in
      let low : limit + visits_due (due_of f s) ≤ most = omega (
        arith,
        is,
        next,
        before.0.due,
        h.printer,
        due_same,
        printer_same,
        ap (λ (x : Visits). x.probes) before.1.start,
        ap (λ (x : Visits). x.printer) before.1.start,
      ) in
      let probes : b.visits.probes ≤ most = pays.capped most (omega (arith, before.0.probes, probes_same)) low in
      record {
        due = omega (arith, before.0.due, pays.due, due_same);
        have = pays.have (subst (λ (z : Run N). DueHasSummaries (due_of f z)) (sym k.same) before.0.have);
        probes = omega (arith, probes, pays.due, due_same, before.0.probes);
      }

  -- it is done, or ended in an error
  pub round_done : {b : Due} (has : Bool) (limit : ℕ) → limit ≡ probe_limit g s.visits → Pays (rule_of has limit) (due_of f s) b
      → PaysToEnd (due_of f p) refused b.visits
  round_done has limit is pays = record {
    printer = omega (
      arith,
      h.printer,
      pays.printer,
      ap (λ (z : Run N). visits_due (due_of f z)) k.same,
      ap (λ (z : Run N). z.visits.printer) k.same,
    );
    few = λ linear unrefused room. omega (arith, (goes_within has limit is pays linear unrefused).probes);
  }

  -- it stopped, and the next table has this room
  pub round_stops : {t : Run N} (has : Bool) (limit next_room : ℕ) (next : ShiftPolicy) → limit ≡ probe_limit g s.visits
      → (t.trials.open.items ≡ []) × Pays (rule_of has limit) (due_of f s) (due_of f t) × StaysClear s t
      → next.start ≡ g.start → next.next_try ≤ max g.next_try next_room → DueRound f p t refused next_room next
  round_stops has limit next_room next is pays start tries = record {
    none = pays.0;
    clear = pays.2 still_clear;
    unions = pays.1.unions;
    printer = omega (
      arith,
      h.printer,
      pays.1.printer,
      ap (λ (z : Run N). visits_due (due_of f z)) k.same,
      ap (λ (z : Run N). z.visits.printer) k.same,
    );
    few = λ linear unrefused.
        let before = h.few linear (omega (arith, unrefused, k.rises)) in (
          goes_within has limit is pays.1 linear unrefused,
          record {
            next = omega (
              arith,
              tries,
              next_within (visits_due (due_of f p)) before.0.due linear.1 unrefused before.1.next,
            );
            start = start ∙ before.1.start;
          },
        );
  }

-- it came to its end over a table
pub round_over : {N : Type 0} {f : N → Tree} {limit old refused room : ℕ} {g : ShiftPolicy} {p q : Run N} {w : Visits}
    → DueRound f p q old room g → old ≤ refused → Pays (rule_of true limit) (due_of f q) (nothing_due w) → PaysToEnd (due_of f p) refused w
round_over h rises k = record {
  printer = omega (arith, h.printer, k.printer);
  few = λ linear unrefused room.
      let before = h.few linear (omega (arith, unrefused, rises)) in
      let few = k.few refl (omega (arith, before.0.due, linear.1)) before.0.have in
      omega (arith, few.1, few.2, k.printer, h.printer, room, before.0.probes);
}

-- the same where so often tables were refused with those before
pub pays_to_end : {a : Due} {m n : ℕ} {w : Visits} → (n ≡ 0 → m ≡ 0) → PaysToEnd a m w → PaysToEnd a n w
pays_to_end none h = record { printer = h.printer; few = λ linear now. h.few linear (none now) }
