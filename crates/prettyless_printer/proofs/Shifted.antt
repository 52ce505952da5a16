-- The shift: over a table a run stands where it stood, with the same trials open.
use Rattle.std.proofs.Common.{◌≡◌, ℕ, ◌+◌, ◌≤◌, List, [], append-nil, Err, Result, refl, ap, sym, arith, subst}
use Rattle.std.specs.declared.alloc.AllocError.{AllocError}
use Rattle.prettyless_sink.specs.Sink.{known}
use Rattle.prettyless_sink.specs.declared.error.RenderError.{RenderError}
use Rattle.prettyless_sink.specs.declared.error.RenderError.TheVariants.{Memory}
use Rattle.prettyless_sink.specs.declared.render.Render.{Ghosts}
use Rattle.prettyless_sink.specs.declared.visits.RenderCost.{RenderCost}
use Rattle.prettyless_sink.specs.declared.visits.Visits.{Visits}
use Rattle.prettyless_model.specs.declared.options.RenderOptions.{RenderOptions}
use Rattle.prettyless_model.specs.Layout.{State, bytes_in, layout}
use Rattle.prettyless_model.specs.Tree.{Tree, size}
use Rattle.prettyless_probe.specs.Stack.{nodes}
use Rattle.prettyless_probe.specs.Sums.{HaveSummaries, TreesHaveSummaries}
use Rattle.prettyless_step.specs.declared.printer.Printer.{Printer}
use Rattle.prettyless_shift.specs.Shift.{IsShifted}
use Rattle.prettyless_printer.specs.declared.buffer.Buffer.{Buffer}
use Rattle.prettyless_printer.specs.declared.run.Run.{Run}
use Rattle.prettyless_printer.specs.Points.{Point, Seen, Standing, buffer_seen, point_of, seen_by, standing}
use Rattle.prettyless_printer.specs.Visits.{suffix_depths}
use Rattle.prettyless_printer.specs.ShiftPolicy.{probe_factor, probe_grace}
use Rattle.prettyless_printer.specs.Linear.{IsLinearBound, IsLinear, IsLinearStart}
use Rattle.prettyless_printer.specs.Open.{Held, all_held, held_of, seconds}
use Rattle.prettyless_printer.specs.Spending.{Left, Rule, Spends, left}
use Rattle.prettyless_printer.specs.Suffixes.{IsLinearButSuffixes, most_visits, unions}
use Rattle.prettyless_printer.specs.Due.{IsLinearDue, PaysToEnd, due, pending_unions, pending_visits, task_unions, task_visits, unions_due}
use Rattle.prettyless_printer.specs.Due.{visits_due}
use Rattle.prettyless_printer.specs.Runs.{RunReaches, Station, station_at, station_of}
use Rattle.prettyless_printer.specs.Renders.{Begins, Renders, RunsToEnd}
use Rattle.prettyless_printer.proofs.Renders.{renders}
use Rattle.prettyless_printer.proofs.Visits.{rise_same}
use Rattle.prettyless_printer.proofs.Shifts.{comes_alone, continues_same}

-- a printer over other nodes stands where this one does
pub shifted_stands : {N M : Type 0} (f : N → Tree) (g : M → Tree) (p : Printer N) (q : Printer M) → IsShifted f g p q
    → standing g q ≡ standing f p
shifted_stands {N} {M} f g p q h = λ j. record {
  options = h.options j;
  column = h.column j;
  within = h.within j;
  tasks = h.tasks j;
  queue = h.queue j;
  start = h.start j;
}

-- and a run over them is where this one is
pub same_station : {N : Type 0} (f : N → Tree) (r : Run N) (s : Seen) {us : List Held} {p : Standing} {b : Buffer} → us ≡ held_of f r
    → p ≡ standing f r.printer → b ≡ r.buffer → station_at p s r.visits us (buffer_seen b) ≡ station_of f r s
same_station f r s held stands buffer = λ j. station_at (stands j) s r.visits (held j) (buffer_seen (buffer j))

-- what it leaves then is what it leaves over the other nodes
pub spends_over : {r : Rule} {w z : Station} {b : Left} → w ≡ z
    → Spends r (left w.point.printer (seconds w.held) w.point.visits) b → Spends r (left z.point.printer (seconds z.held) z.point.visits) b
spends_over {r} {w} {z} {b} same h =
    subst (λ (x : Station). Spends r (left x.point.printer (seconds x.held) x.point.visits) b) same h

-- nothing has changed
pub comes_still : {N S E : Type 0} (f : N → Tree) (g : Ghosts S E) (a : Point) {r q : Run N} {s t : S} → (t ≡ s) × (q ≡ r)
    → RunReaches a (station_of f r (seen_by g s)) → RunReaches a (station_of f q (seen_by g t))
comes_still {N} {S} f g a {r} {q} {s} {t} same comes =
    subst (λ (x : S). RunReaches a (station_of f q (seen_by g x))) (sym same.0)
    (subst (λ (x : Run N). RunReaches a (station_of f x (seen_by g s))) (sym same.1) comes)

-- a run begins without open trials
pub comes_first : {N : Type 0} (f : N → Tree) (r : Run N) (s : Seen) → r.trials.open.items ≡ []
    → RunReaches (point_of f r s) (station_of f r s)
comes_first f r s none = comes_alone (point_of f r s) (station_of f r s) (ap (all_held f) none) (continues_same (point_of f r s))

-- a document that a table bounds
pub begins_linear : {o : RenderOptions} {d : Tree} {p : Standing} → Begins o d p → IsLinear d → IsLinearStart p
begins_linear {o} {d} {p} begins linear = record {
  plain = record {
    none = omega (arith, ap suffix_depths begins.tasks, linear.plain);
    pending
        = ap (λ (u : State). u.pending) begins.state;
  };
  queue = begins.queue;
  have = subst HaveSummaries (sym begins.tasks) (linear.have, tt);
  size = omega (arith, ap nodes begins.tasks, linear.size);
}

-- its nodes are those of the printer before it
pub begins_few : {o : RenderOptions} {d : Tree} {p : Standing} (factor more : ℕ) (v w : Visits) → Begins o d p
    → IsLinearBound factor more (nodes p.tasks) v w → IsLinearBound factor more (size d) v w
begins_few {o} {d} {p} factor more v w begins few =
    let same : nodes p.tasks ≡ size d = omega (arith, ap nodes begins.tasks) in
    subst (λ (n : ℕ). IsLinearBound factor more n v w) same few

-- and no more than its
pub begins_small : {o : RenderOptions} {d : Tree} {p : Standing} (most : ℕ) → Begins o d p → size d ≤ most → nodes p.tasks ≤ most
begins_small {o} {d} {p} most begins small = omega (arith, ap nodes begins.tasks, small)

-- what is due of it
module _ {o : RenderOptions} {d : Tree} {p : Standing} (begins : Begins o d p) where
  begins_due : (v : Visits) → visits_due (due p v) ≡ most_visits d
  begins_due v = omega (arith, ap task_visits begins.tasks, ap (λ (u : State). pending_visits u.pending) begins.state)

  begins_free : (v : Visits) → unions d ≡ 0 → unions_due (due p v) ≡ 0
  begins_free v free = omega (arith, ap task_unions begins.tasks, ap (λ (u : State). pending_unions u.pending) begins.state, free)

  begins_linear_due : (v : Visits) → IsLinearButSuffixes d → IsLinearDue (due p v)
  begins_linear_due v linear = (
    (
      subst HaveSummaries (sym begins.tasks) (linear.have, tt),
      subst (λ (u : State). TreesHaveSummaries u.pending) (sym begins.state) tt,
    ),
    omega (arith, begins_due v, linear.visits),
  )

  pub begins_pays : {v w : Visits} {n : ℕ} → (unions_due (due p v) ≡ 0 → PaysToEnd (due p v) n w) → unions d ≡ 0
      → w.printer ≤ v.printer + most_visits d
  begins_pays {v} pays free = omega (arith, (pays (begins_free v free)).printer, begins_due v)

  pub begins_few_due : {v w : Visits} {n : ℕ} → (unions_due (due p v) ≡ 0 → PaysToEnd (due p v) n w) → IsLinearButSuffixes d → n ≡ 0
      → IsLinearBound probe_factor probe_grace (most_visits d) v w
  begins_few_due {v} {w} pays linear none =
      subst (λ (k : ℕ). IsLinearBound probe_factor probe_grace k v w) (begins_due v)
      ((pays (begins_free v linear.unions)).few (begins_linear_due v linear) none)

-- a run to the end, from before a document, is a render
pub begun_renders : {A E : Type 0} (fails : E → Type 0) {o : RenderOptions} {d : Tree} {a b : Point} (m n : ℕ)
    (r : Result A (RenderError E)) → Begins o d a.printer → RunsToEnd fails a b r →
    m ≤ n → (IsLinearStart a.printer → n ≡ 0 → IsLinearBound probe_factor probe_grace (nodes a.printer.tasks) a.visits b.visits) →
    (unions_due (due a.printer a.visits) ≡ 0 → PaysToEnd (due a.printer a.visits) n b.visits) →
    Renders fails o d a.sink b.sink (record { visits = a.visits; refused = m }) (record { visits = b.visits; refused = n }) r
begun_renders fails {o} {d} {a} {b} m n r begins ran refused few pays =
    subst (λ (x : RenderOptions). Renders fails x d a.sink b.sink (record { visits = a.visits; refused = m })
    (record { visits = b.visits; refused = n }) r) begins.options
    (renders fails d m n r begins.tasks begins.state ran refused
    (λ linear none. begins_few probe_factor probe_grace a.visits b.visits begins (few (begins_linear begins linear) none))
    (begins_pays begins pays)
    (begins_few_due begins pays))

-- a render that is refused memory before its first node
pub refused_renders : {A E : Type 0} (fails : E → Type 0) (o : RenderOptions) (d : Tree) (s : Seen) (v : RenderCost) (e : AllocError)
    → Renders {A = A} fails o d s s v v (Err (Memory e))
refused_renders fails o d s v e = record {
  same_lender = refl;
  bytes = λ is_known. (is_known, (([], bytes_in (layout o d), refl, sym (append-nil (known s.bytes))), refl));
  rise = rise_same v.visits;
  visited = record { printer = λ _. omega arith; probes = λ _. omega arith };
  refused = omega arith;
  few = λ linear none room. omega arith;
  with_suffixes = λ free. omega arith;
  few_with_suffixes = λ linear none room. omega arith;
  at_least = tt;
}
