-- The visits of a step, of a turn, and of turns in a row.
use Rattle.std.proofs.Common.{◌≡◌, ℕ, ◌+◌, ◌-◌, ◌*◌, ◌^◌, ◌≤◌, ◌<◌, min, List, [], ◌∷◌, ◌++◌, arith, refl, ap, ◌∙◌, Bool, true, false}
use Rattle.std.proofs.Common.{Option, Some, None, Result, Ok, Err, if◌then◌else◌, length}
use Rattle.prettyless_model.specs.declared.options.RenderOptions.{RenderOptions}
use Rattle.prettyless_model.specs.declared.options.IndentationPolicy.{IndentationPolicy}
use Rattle.prettyless_model.specs.declared.options.IndentationPolicy.TheVariants.{Eager, Deferred}
use Rattle.prettyless_sink.specs.Sink.{rise}
use Rattle.prettyless_sink.specs.declared.visits.Visits.{Visits}
use Rattle.prettyless_model.specs.Tree.{Tree, Fail, Text, TextWithLen, MultilineText, HardLine, WeakLine}
use Rattle.prettyless_model.specs.Tree.{LineSuffix, BreakOrFlat, Group, Union}
use Rattle.prettyless_model.specs.Tree.{PartialUnion, Chosen, size, probed}
use Rattle.prettyless_model.specs.Content.{suffix_depth}
use Rattle.prettyless_model.specs.Choice.{choice_holds}
use Rattle.prettyless_model.specs.Column.{prospective}
use Rattle.prettyless_model.specs.Layout.{State, Done, lay_text, lay_ending, next_indent, is_suppressed, probe}
use Rattle.prettyless_model.specs.declared.mode.Mode.{Mode}
use Rattle.prettyless_model.specs.declared.mode.Mode.TheVariants.{Break, Flat}
use Rattle.prettyless_probe.specs.Stack.{Task, make_task, follow, nodes}
use Rattle.prettyless_step.specs.Steps.{Step, Move, Stuck, Choose, step_of, union_step, decided_by_metrics, break_step, at_once}
use Rattle.prettyless_step.specs.Steps.{counted_payload, rejects_payload, pending_work}
use Rattle.prettyless_printer.specs.Points.{Standing, state_at}
use Rattle.prettyless_printer.specs.Visits.{suffix_depths, Plain, charges, Rise, CountsAtMost, RunCountsAtMost, Visited, visited_more}
use Rattle.prettyless_probe.specs.Probing.{asked}
use Rattle.prettyless_probe.proofs.Stacks.{nodes-append}
use Rattle.prettyless_step.proofs.Shown.{step_at, StepsTo, IsChoice}
use Rattle.prettyless_printer.proofs.Steps.{LeavesLess, extra, step_less_visits, visits_within}

-- ---- Payloads and probes

-- a visit more at most where a payload is rejected, and no visit less
pub payload_visits-least : (b : Bool) (v w x : ℕ) → w ≡ rise v → x ≡ counted_payload b w → rise v ≤ x
payload_visits-least true v w x h k = omega arith
payload_visits-least false v w x h k = omega arith

pub payload_visits-most : (b : Bool) (v w x : ℕ) → w ≡ rise v → x ≡ counted_payload b w → x ≤ rise (rise v)
payload_visits-most true v w x h k = omega arith
payload_visits-most false v w x h k = omega arith

pub payload_visits-plus : (b : Bool) (v w x : ℕ) → w ≡ rise v → x ≡ counted_payload b w → x ≤ v + 1 + extra b
payload_visits-plus true v w x h k = omega arith
payload_visits-plus false v w x h k = omega arith

pub ruleset payload_visits = (payload_visits-least, payload_visits-most)

-- a payload that is rejected is counted before nodes are added, or after them
pub payload_visits-add : (b : Bool) (v w k n : ℕ) → w ≡ counted_payload b v → n ≡ rise k →
    min (w + n) (2 ^ 64 - 1) ≡ counted_payload b (rise (min (v + k) (2 ^ 64 - 1)))
payload_visits-add true v w k n h e = omega arith
payload_visits-add false v w k n h e = omega arith

pub visited_more-zero : (v : Visits) → v.printer < 2 ^ 64 → visited_more 0 v ≡ v
visited_more-zero v h =
    let same : min (v.printer + 0) (2 ^ 64 - 1) ≡ v.printer = omega arith in
    ap (λ (n : ℕ). record v { printer = n }) same

-- what a node asks for is most by it
pub asked_at_most : (d : Tree) (m : Mode) (k n : ℕ) → size d + k ≤ n → asked d m k ≤ n * probed d
asked_at_most (Group d) Break k n h = omega arith
asked_at_most (Group d) Flat k n h = omega arith
asked_at_most (PartialUnion l r) Break k n h = omega arith
asked_at_most (PartialUnion l r) Flat k n h = omega arith
asked_at_most _ m k n h = omega arith

-- a step of a node that asked for a, in what a node may ask for
abbrev StepAtMost : ℕ → ℕ → ℕ → Step → Type 0
StepAtMost n a most (Move b pushed u) = (suffix_depths pushed ≡ 0) × (u.pending ≡ []) × (a + charges n pushed ≤ most)
StepAtMost n a most Stuck = Unit {0}
StepAtMost n a most (Choose i l r) = (suffix_depth l ≡ 0) × (suffix_depth r ≡ 0) × (a + (n * probed l + n * probed r) ≤ most)

-- one of two nodes
either_at_most : (n : ℕ) (l r : Tree) (i : ℕ) (m : Mode) (v : Bool) → suffix_depth l + suffix_depth r ≡ 0 →
    (suffix_depths (make_task i m (if v then l else r) ∷ []) ≡ 0)
    × (charges n (make_task i m (if v then l else r) ∷ []) ≤ n * probed l + n * probed r)
either_at_most n l r i m true h = (omega (arith, h), omega arith)
either_at_most n l r i m false h = (omega (arith, h), omega arith)

-- ---- One step

-- a step, with no document pending
module _ (o : RenderOptions) (ts : List Task) (st : State) (n : ℕ) (none : st.pending ≡ []) where
  text_at_most : (w : ℕ) (s : List ℕ) → StepAtMost n 0 (n * 0) (at_once (lay_text o w s st))
  text_at_most w [] = (refl, none, omega arith)
  text_at_most w (b ∷ bs) = (refl, none, omega arith)

  ending_at_most : (p : IndentationPolicy) (k : ℕ) → StepAtMost n 0 (n * 0) (at_once (lay_ending o p k st))
  ending_at_most Eager k = (refl, none, omega arith)
  ending_at_most Deferred k = (refl, none, omega arith)

  break_at_most : (ps : List Tree) (d : Tree) (i : ℕ) (m : Mode) → ps ≡ [] → StepAtMost n 0 (n * 0) (break_step o ps d i m (follow ts) st)
  break_at_most [] d i m e =
      elim (is_suppressed d st.column) as
      (λ v. StepAtMost n 0 (n * 0) (at_once (if v then Done [] st else lay_ending o o.indentation_policy (next_indent i (follow ts)) st)))
      [ true ↦ (refl, none, omega arith) | false ↦ ending_at_most o.indentation_policy (next_indent i (follow ts)) ]
  break_at_most (p ∷ ps) d i m e = absurd (cc)

  union_at_most : (l r : Tree) (i : ℕ) (v : Option Bool) → suffix_depth l + suffix_depth r ≡ 0
      → StepAtMost n 0 (n * (probed l + probed r)) (union_step v l r i st)
  union_at_most l r i (Some v) h =
      let e = either_at_most n l r i Break v h in
      (e.0, none, omega (arith, e.1))
  union_at_most l r i None h = (omega (arith, h), omega (arith, h), omega arith)

  step_at_most : (d : Tree) (i : ℕ) (m : Mode) → suffix_depth d ≡ 0 → size d + nodes ts ≤ n
      → StepAtMost n (asked d m (nodes ts)) (n * probed d) (step_of o d i m (follow ts) st)
  step_at_most Fail i m z l = tt
  step_at_most (Text s) i m z l = text_at_most (length s) s
  step_at_most (TextWithLen w s) i m z l = text_at_most w s
  step_at_most (MultilineText s) i Flat z l = tt
  step_at_most HardLine i Break z l = break_at_most st.pending HardLine i Break none
  step_at_most HardLine i Flat z l = tt
  step_at_most WeakLine i m z l = break_at_most st.pending WeakLine i m none
  step_at_most (LineSuffix d) i m z l = absurd (omega arith)
  step_at_most (BreakOrFlat b f) i Break z l = (omega arith, none, omega arith)
  step_at_most (BreakOrFlat b f) i Flat z l = (omega arith, none, omega arith)
  step_at_most (Group d) i Break z l = (omega arith, none, omega arith)
  step_at_most (Group d) i Flat z l = (omega arith, none, omega arith)
  step_at_most (Union a b) i Break z l = union_at_most a b i (decided_by_metrics o a st) (omega arith)
  step_at_most (PartialUnion a b) i Break z l =
      let e = either_at_most n a b i Break (probe o a i Break (follow ts) st) (omega arith) in
      (e.0, none, omega (arith, e.1))
  step_at_most (Chosen test a b) i m z l =
      let e = either_at_most n a b i m (choice_holds test (prospective st.column) i) (omega arith) in
      (e.0, none, omega (arith, e.1))
  step_at_most _ i m z l = (omega arith, none, omega arith)

suffixes-append : (ts us : List Task) → suffix_depths (ts ++ us) ≡ suffix_depths ts + suffix_depths us
suffixes-append [] us = omega arith
suffixes-append (t ∷ ts) us = omega (arith, suffixes-append ts us)

charges-append : (n : ℕ) (ts us : List Task) → charges n (ts ++ us) ≡ charges n ts + charges n us
charges-append n [] us = omega arith
charges-append n (t ∷ ts) us = omega (arith, charges-append n ts us)

-- one node was visited, a payload that it rejected, and what it asked for
pub record OneMore (o : RenderOptions) (t : Task) (ts : List Task) (st : State) (v w : Visits) : Type 0 where
  pub printer : w.printer ≤ v.printer + 1 + extra (rejects_payload o t.tree t.mode st)
  pub probes : w.probes ≤ v.probes + asked t.tree t.mode (nodes ts)

-- no line suffix is among tasks, and no document is pending
abbrev pub NoSuffix : List Task → State → Type 0
NoSuffix ts st = (suffix_depths ts ≡ 0) × (st.pending ≡ [])

abbrev Stepped : RenderOptions → Task → List Task → State → Step → Type 0
Stepped o t ts st step =
    LeavesLess (pending_work st.pending) (2 * size t.tree + pending_work st.pending - 2 * extra (rejects_payload o t.tree t.mode st)) step
    × ((n : ℕ) → size t.tree + nodes ts ≤ n → StepAtMost n (asked t.tree t.mode (nodes ts)) (n * probed t.tree) step)

stepped : (o : RenderOptions) (t : Task) (ts : List Task) (st : State) → NoSuffix (t ∷ ts) st → Stepped o t ts st (step_at o t ts st)
stepped o t ts st plain = (
  step_less_visits o t.tree t.indent t.mode (follow ts) st,
  λ n l. step_at_most o ts st n plain.1 t.tree t.indent t.mode (omega (arith, plain.0)) l,
)

pub move_at_most : {o : RenderOptions} {t : Task} {ts : List Task} {st : State} {v w : Visits} (us : List Task) (u : State) (bytes : List ℕ)
    → OneMore o t ts st v w → NoSuffix (t ∷ ts) st → StepsTo (step_at o t ts st) ts bytes us u →
    NoSuffix us u × CountsAtMost (t ∷ ts) us v w
move_at_most {o} {t} {ts} {st} {v} {w} us u bytes more plain h = move_inside (step_at o t ts st) (stepped o t ts st plain) h
  where
    move_inside : (step : Step) → Stepped o t ts st step → StepsTo step ts bytes us u → NoSuffix us u × CountsAtMost (t ∷ ts) us v w
    move_inside (Move b pushed x) s h =
        let a = s.1 (size t.tree + nodes ts) (omega arith) in
        let less : nodes pushed + 1 + extra (rejects_payload o t.tree t.mode st) ≤ size t.tree = omega
        (arith, s.0, ap pending_work plain.1) in (
          (omega (arith, ap suffix_depths h.1, suffixes-append pushed ts, a.0, plain.0), ap (λ (z : State). z.pending) h.2 ∙ a.1),
          record {
            left = omega (arith, less, ap nodes h.1, nodes-append pushed ts);
            printer = omega (arith, less, more.printer, ap nodes h.1, nodes-append pushed ts);
            probes = λ n l.
                let k = s.1 n l in
                omega (arith, k.2, more.probes, ap (charges n) h.1, charges-append n pushed ts);
          },
        )
    move_inside Stuck s h = absurd h
    move_inside (Choose i x y) s h = absurd h

pub failed_at_most : {o : RenderOptions} {t : Task} {ts : List Task} {st : State} {v w : Visits} → OneMore o t ts st v w
    → CountsAtMost (t ∷ ts) ts v w
failed_at_most {o} {t} {ts} {st} more = record {
  left = omega arith;
  printer = omega (arith, more.printer, visits_within o t.tree t.mode st);
  probes = λ n l. omega (arith, asked_at_most t.tree t.mode (nodes ts) n l, more.probes);
}

pub choice_at_most : {o : RenderOptions} {t : Task} {ts : List Task} {st : State} {v w : Visits} (i : ℕ) (x y : Tree)
    → OneMore o t ts st v w → NoSuffix (t ∷ ts) st → IsChoice (step_at o t ts st) i x y →
    (suffix_depth x ≡ 0) × (suffix_depth y ≡ 0) × CountsAtMost (t ∷ ts) (make_task i Break x ∷ make_task i Break y ∷ ts) v w
choice_at_most {o} {t} {ts} {st} {v} {w} i x y more plain h = asked (step_at o t ts st) (stepped o t ts st plain) h
  where
    asked : (step : Step) → Stepped o t ts st step → IsChoice step i x y →
        (suffix_depth x ≡ 0) × (suffix_depth y ≡ 0) × CountsAtMost (t ∷ ts) (make_task i Break x ∷ make_task i Break y ∷ ts) v w
    asked (Move b pushed u) s h = absurd h
    asked Stuck s h = absurd h
    asked (Choose j l r) s h =
        let z = s.1 (size t.tree + nodes ts) (omega arith) in
        let less : size x + size y + 1 + extra (rejects_payload o t.tree t.mode st) ≤ size t.tree =
        omega (arith, s.0, ap size h.1, ap size h.2) in (
          ap suffix_depth h.1 ∙ z.0,
          ap suffix_depth h.2 ∙ z.1,
          record {
            left = omega (arith, less);
            printer = omega (arith, less, more.printer);
            probes = λ n m.
                let k = s.1 n m in
                omega (arith, k.2, more.probes, ap (λ (d : Tree). n * probed d) h.1, ap (λ (d : Tree). n * probed d) h.2);
          },
        )

-- ---- Counts in a row

pub rise_same : (v : Visits) → Rise v v
rise_same v = record { printer = omega arith; probes = omega arith }

pub rise_then : {v w x : Visits} → Rise v w → Rise w x → Rise v x
rise_then a b = record { printer = omega (arith, a.printer, b.printer); probes = omega (arith, a.probes, b.probes) }

pub at_most_same : (ts : List Task) (v : Visits) → CountsAtMost ts ts v v
at_most_same ts v = record { left = omega arith; printer = omega arith; probes = λ n l. omega arith }

pub at_most_then : {ts us xs : List Task} {v w x : Visits} → CountsAtMost ts us v w → CountsAtMost us xs w x → CountsAtMost ts xs v x
at_most_then a b = record {
  left = omega (arith, a.left, b.left);
  printer = omega (arith, a.printer, b.printer);
  probes = λ n l. omega (arith, a.probes n l, b.probes n (omega (arith, l, a.left)));
}

-- what is left is cut off down to what is below
pub at_most_cut : {ts us : List Task} {v w : Visits} (above below xs : List Task) → us ≡ above ++ below → xs ≡ below
    → CountsAtMost ts us v w → CountsAtMost ts xs v w
at_most_cut above below xs e h a = record {
  left = omega (arith, a.left, ap nodes e, nodes-append above below, ap nodes h);
  printer = omega (arith, a.printer, ap nodes e, nodes-append above below, ap nodes h);
  probes = λ n l. omega (arith, a.probes n l, ap (charges n) e, charges-append n above below, ap (charges n) h);
}

-- none of it is left
pub at_most_all : {ts us : List Task} {v w : Visits} → CountsAtMost ts us v w → CountsAtMost ts [] v w
at_most_all a = record {
  left = omega arith;
  printer = omega (arith, a.printer);
  probes = λ n l. omega (arith, a.probes n l);
}

-- the first of two branches, with the second one kept for later
pub at_most_besides : {ts us : List Task} {v w : Visits} (s t : Task) → CountsAtMost (s ∷ ts) us v w
    → CountsAtMost (s ∷ t ∷ ts) (t ∷ us) v w
at_most_besides s t a = record {
  left = omega (arith, a.left);
  printer = omega (arith, a.printer);
  probes = λ n l. omega (arith, a.probes n (omega (arith, l)));
}

-- the same where only the first branch is of use
pub at_most_first : {ts us : List Task} {v w : Visits} (s t : Task) → CountsAtMost (s ∷ ts) us v w → CountsAtMost (s ∷ t ∷ ts) us v w
at_most_first s t a = record {
  left = omega (arith, a.left);
  printer = omega (arith, a.printer);
  probes = λ n l. omega (arith, a.probes n (omega (arith, l)));
}

pub at_most_at : {ts us : List Task} {v w : Visits} (xs : List Task) → xs ≡ us → CountsAtMost ts us v w → CountsAtMost ts xs v w
at_most_at {us} xs e a = at_most_cut [] us xs refl e a

pub plain_at : (p q : Standing) → q.tasks ≡ p.tasks → state_at q ≡ state_at p → Plain p → Plain q
plain_at p q e h a = record {
  none = ap suffix_depths e ∙ a.none;
  pending = ap (λ (x : State). x.pending) h ∙ a.pending;
}

-- a task more on a stack
pub plain_push : (p q : Standing) (t : Task) → q.tasks ≡ t ∷ p.tasks → (state_at q).pending ≡ (state_at p).pending → suffix_depth t.tree ≡ 0
    → Plain p → Plain q
plain_push p q t e h z a = record {
  none = omega (arith, ap suffix_depths e, a.none, z);
  pending = h ∙ a.pending;
}

-- a run that has worked on one tree
pub visited : {A E : Type 0} {d : Tree} {p : Standing} {v w : Visits} (q : Standing) (r : Result A E) → p.tasks ≡ make_task 0 Break d ∷ []
    → (state_at p).pending ≡ [] → (Plain p → RunCountsAtMost p.tasks q v w r) → Visited d v w
visited {d} {p} q (Ok r) e h k =
    let plain : suffix_depth d ≡ 0 → Plain p = λ z. record { none = omega (arith, ap suffix_depths e, z); pending = h } in
    record {
      printer = λ z. omega (arith, (k (plain z)).1.printer, ap nodes e);
      probes = λ z. omega (arith, (k (plain z)).1.probes (size d) (omega (arith, ap nodes e)), ap (charges (size d)) e);
    }
visited {d} {p} q (Err r) e h k =
    let plain : suffix_depth d ≡ 0 → Plain p = λ z. record { none = omega (arith, ap suffix_depths e, z); pending = h } in
    record {
      printer = λ z. omega (arith, (k (plain z)).printer, ap nodes e);
      probes = λ z. omega (arith, (k (plain z)).probes (size d) (omega (arith, ap nodes e)), ap (charges (size d)) e);
    }
