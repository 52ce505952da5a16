-- Counts from below: of a step, of a choice, and of turns in a row.
use Rattle.std.proofs.Common.{◌≡◌, ℕ, ◌+◌, ◌≤◌, nat_le, List, [], ◌∷◌, ◌++◌, length, arith, refl, ap, sym, ◌∙◌, append_assoc, length-append}
use Rattle.std.proofs.Common.{subst, Bool, true, false, ◌&&◌, Result, Ok, Err, if◌then◌else◌}
use Rattle.std.specs.Prelude.{OnOk}
use Rattle.std.proofs.lemmas.Bool.{le-leb, leb-true}
use Rattle.prettyless_sink.specs.Sink.{rise}
use Rattle.prettyless_model.specs.Spaces.{spaces}
use Rattle.prettyless_model.specs.declared.options.RenderOptions.{RenderOptions}
use Rattle.prettyless_sink.specs.declared.visits.Visits.{Visits}
use Rattle.prettyless_model.specs.Tree.{Tree, Fail, Text, TextWithLen, MultilineText, HardLine, WeakLine, Append}
use Rattle.prettyless_model.specs.Tree.{Indented, Flatten, BreakOrFlat, Group, Union, PartialUnion, Chosen}
use Rattle.prettyless_model.specs.Indent.{indent_by}
use Rattle.prettyless_model.specs.Choice.{choice_holds}
use Rattle.prettyless_model.specs.Metrics.{metrics}
use Rattle.prettyless_model.specs.Column.{gap, prospective, padding_fits}
use Rattle.prettyless_model.specs.Look.{by_mode}
use Rattle.prettyless_model.specs.Layout.{State, Outcome, Done, Failed, Entry, after_bytes, and_then, accept, lay, lay_each, lay_text}
use Rattle.prettyless_model.specs.Layout.{lay_payload, payload_fits, after_payload, probe, some_pending, in_trial, initial, flushed, entry}
use Rattle.prettyless_model.specs.Layout.{entries, plain_break, break_with}
use Rattle.prettyless_model.specs.Levels.{settle}
use Rattle.prettyless_model.specs.Counts.{Weight, each_node, each_probe, counted_then, counted_accept, tally}
use Rattle.prettyless_model.proofs.Levels.{settle_fixed}
use Rattle.prettyless_model.specs.declared.mode.Mode.{Mode}
use Rattle.prettyless_model.specs.declared.mode.Mode.TheVariants.{Break, Flat}
use Rattle.prettyless_probe.specs.Stack.{Task, make_task, tasks, follow}
use Rattle.prettyless_step.specs.Steps.{Step, Move, Stuck, Choose, step_of, union_step, decided_by_metrics, break_step, at_once}
use Rattle.prettyless_step.proofs.Shown.{step_at, StepsTo, IsChoice}
use Rattle.prettyless_printer.specs.Points.{Point, Standing, state_at}
use Rattle.prettyless_printer.specs.Open.{BeginsTrial}
use Rattle.prettyless_printer.specs.Trials.{Tries}
use Rattle.prettyless_printer.specs.Visits.{Rise}
use Rattle.prettyless_printer.specs.AtLeast.{tally_above, tally_choice, nothing_left, CountsAtLeast, stack_tally, choice_tally, trial_tally}
use Rattle.prettyless_printer.specs.AtLeast.{VisitedAtLeast}
use Rattle.prettyless_probe.specs.Probing.{RisesBy}
use Rattle.prettyless_printer.proofs.Runs.{follow-tasks, payload_branch, no_padding}
use Rattle.prettyless_printer.proofs.Standings.{Pushed}

-- ---- What tasks count

-- what a task counts, and then those after it
abbrev tally_with : RenderOptions → ℕ → Task → List Task → State → Weight → ℕ
tally_with o n t ts st w =
    tally o t.tree t.indent t.mode (follow ts) st w + counted_then (lay o (settle o) t.tree t.indent t.mode (follow ts) st)
    (λ u. tally_above o n ts u w)

-- more than n tasks: the first one counts
above_is : (o : RenderOptions) (n : ℕ) (t : Task) (ts : List Task) (st : State) (w : Weight) → n ≤ length ts
    → tally_above o n (t ∷ ts) st w ≡ tally_with o n t ts st w
unfolding tally_above
above_is o n t ts st w l = ap (λ (v : Bool). if v then tally_with o n t ts st w else 0) (le-leb n (length ts) l)

-- no more than n tasks: nothing counts
above_none : (o : RenderOptions) (n : ℕ) (ts : List Task) (st : State) (w : Weight) → length ts ≤ n → tally_above o n ts st w ≡ 0
unfolding tally_above
above_none o n [] st w l = refl
above_none o n (t ∷ ts) st w l =
    elim (nat_le n (length ts)) as (λ v. nat_le n (length ts) ≡ v → (if v then tally_with o n t ts st w else 0) ≡ 0)
    [ true ↦ (λ e. absurd (omega (arith, leb-true n (length ts) e))) | false ↦ (λ e. refl) ] refl

counted_after : (b : List ℕ) (out : Outcome) (k : State → ℕ) → counted_then (after_bytes b out) k ≡ counted_then out k
counted_after b (Done c st) k = refl
counted_after b (Failed c) k = refl

counted_then-then : (out : Outcome) (next : State → Outcome) (k : State → ℕ) → counted_then (and_then out next) k ≡ counted_then out
    (λ u. counted_then (next u) k)
counted_then-then (Done b st) next k = counted_after b (next st) k
counted_then-then (Failed b) next k = refl

counted_less : (out : Outcome) (j k : State → ℕ) → ((u : State) → j u ≤ k u) → counted_then out j ≤ counted_then out k
counted_less (Done b st) j k h = h st
counted_less (Failed b) j k h = omega arith

-- two counts after an outcome, added up
appended : (out : Outcome) (j k both : State → ℕ) → ((u : State) → both u ≡ j u + k u) → counted_then out both ≡ counted_then out
    j + counted_then out k
appended (Done b st) j k both h = h st
appended (Failed b) j k both h = refl

-- a step after which no less is left to count, but for what its node counts
abbrev StepCounts : RenderOptions → ℕ → List Task → State → Weight → ℕ → ℕ → Step → Type 0
StepCounts o n ts st w was self (Move b pushed u) = was ≤ self + tally_above o n (pushed ++ ts) u w
StepCounts o n ts st w was self Stuck = Unit {0}
StepCounts o n ts st w was self (Choose i l r) = was ≤ self + tally_choice o n i l r ts st w

-- trees of one list count no less as tasks
each_counts : (o : RenderOptions) (n : ℕ) (ds : List Tree) (i : ℕ) (m : Mode) (us : List Task) (st : State) (w : Weight) → n ≤ length us →
    counted_then (lay_each o (settle o) ds i m (follow us) st) (λ u. tally_above o n us u w) ≤ tally_above o n (tasks i m ds ++ us) st w
unfolding lay_each
each_counts o n [] i m us st w l = omega arith
each_counts o n (d ∷ ds) i m us st w l =
    let out : Outcome = lay o (settle o) d i m (entries i ds ++ follow us) st in
    let next : State → ℕ = λ u. tally_above o n us u w in
    let rest : State → ℕ = λ u. tally_above o n (tasks i m ds ++ us) u w in
    let a : counted_then (and_then out (λ u. lay_each o (settle o) ds i m (follow us) u)) next ≡ counted_then out
    (λ u. counted_then (lay_each o (settle o) ds i m (follow us) u) next) =
    counted_then-then out (λ u. lay_each o (settle o) ds i m (follow us) u) next in
    let b : counted_then out (λ u. counted_then (lay_each o (settle o) ds i m (follow us) u) next) ≤ counted_then out rest =
    counted_less out (λ u. counted_then (lay_each o (settle o) ds i m (follow us) u) next) rest
    (λ u. each_counts o n ds i m us u w l) in
    let c = above_is o n (make_task i m d) (tasks i m ds ++ us) st w (omega (arith, length-append (tasks i m ds) us)) in
    let e : counted_then (lay o (settle o) d i m (follow (tasks i m ds ++ us)) st) rest ≡ counted_then out rest =
    ap (λ (r : List Entry). counted_then (lay o (settle o) d i m r st) rest) (follow-tasks i m ds us) in
    omega (arith, a, b, c, e)

-- a payload as the first branch counts where its metrics say so
payload_counts : (o : RenderOptions) (b : List ℕ) (st : State) (x y : ℕ) (v : Bool) → v ≡ payload_fits o (metrics b) st.column →
    counted_accept o (lay_payload o (metrics b) b (in_trial st)) x y ≡ (if v then x else y)
payload_counts o b st x y true e =
    ap (λ (z : Bool). if z then x else y)
    (ap (λ (z : Bool). z && padding_fits o.width (some_pending st.pending) (after_payload (metrics b))) (sym e)
    ∙ no_padding o.width (some_pending st.pending) (metrics b).last_nonempty (metrics b))
payload_counts o b st x y false e =
    ap (λ (z : Bool). if z then x else y)
    (ap (λ (z : Bool). z && padding_fits o.width (some_pending st.pending) (after_payload (metrics b))) (sym e))

-- ---- One step

-- of a task with no fewer than n after it
module _ (o : RenderOptions) (n : ℕ) (ts : List Task) (st : State) (w : Weight) (h : n ≤ length ts) where
  first_is : (t : Task) → tally_above o n (t ∷ ts) st w ≡ tally_with o n t ts st w
  first_is t = above_is o n t ts st w h

  at_once_counts : (self : ℕ) (out : Outcome)
      → StepCounts o n ts st w (self + counted_then out (λ u. tally_above o n ts u w)) self (at_once out)
  at_once_counts self (Done b u) = omega arith
  at_once_counts self (Failed b) = tt

  -- a break: the line ends, or what is pending comes first
  break_counts : (ps : List Tree) (t : Task) (self : ℕ)
      → (lay o (settle o) t.tree t.indent t.mode (follow ts) ≡ settle o t.tree t.indent t.mode (follow ts))
      → StepCounts o n ts st w
      (self + counted_then (break_with o (settle o) ps t.tree t.indent t.mode (follow ts) st) (λ u. tally_above o n ts u w)) self
      (break_step o ps t.tree t.indent t.mode (follow ts) st)
  break_counts [] t self e = at_once_counts self (plain_break o t.tree t.indent (follow ts) st)
  break_counts (p ∷ ps) t self e =
      let rest : List Entry = follow ts in
      let again : State → Outcome = settle o t.tree t.indent t.mode rest in
      let next : State → ℕ = λ u. tally_above o n ts u w in
      let out : Outcome = lay_each o (settle o) (p ∷ ps) t.indent t.mode (entry t.indent t.tree ∷ rest) (flushed o st) in
      let a : counted_then (after_bytes (spaces (gap st.column)) (and_then out again)) next ≡ counted_then out
      (λ u. counted_then (again u) next) =
      counted_after (spaces (gap st.column)) (and_then out again) next ∙ counted_then-then out again next in
      let b : counted_then out (λ u. counted_then (again u) next) ≤ counted_then out (λ u. tally_above o n (t ∷ ts) u w) =
      counted_less out (λ u. counted_then (again u) next) (λ u. tally_above o n (t ∷ ts) u w)
      (λ u. omega (arith, above_is o n t ts u w h, ap (λ (g : State → Outcome). counted_then (g u) next) e)) in
      let c = each_counts o n (p ∷ ps) t.indent t.mode (t ∷ ts) (flushed o st) w (omega (arith, h)) in
      let x = ap (λ (us : List Task). tally_above o n us (flushed o st) w)
      (append_assoc (tasks t.indent t.mode (p ∷ ps)) (t ∷ []) ts) in
      omega (arith, a, b, c, x)

  -- one of two nodes
  either_counts : (l r : Tree) (i : ℕ) (m : Mode) (v : Bool) →
      (if v then tally o l i m (follow ts) st w else tally o r i m (follow ts) st w)
      + counted_then (if v then lay o (settle o) l i m (follow ts) st else lay o (settle o) r i m (follow ts) st)
      (λ u. tally_above o n ts u w)
      ≤ tally_above o n (make_task i m (if v then l else r) ∷ ts) st w
  either_counts l r i m true = omega (arith, first_is (make_task i m l))
  either_counts l r i m false = omega (arith, first_is (make_task i m r))

  union_counts : (l r : Tree) (i : ℕ) (self : ℕ) →
      StepCounts o n ts st w (self + tally_choice o n i l r ts st w) self (union_step (decided_by_metrics o l st) l r i st)
  unfolding lay tally
  union_counts (MultilineText s) r i self =
      let v : Bool = payload_fits o (metrics s) st.column in
      let next : State → ℕ = λ u. tally_above o n ts u w in
      let a = payload_counts o s st (w (MultilineText s) Break) (tally o r i Break (follow ts) st w) v refl in
      let b = ap (λ (z : Outcome). counted_then z next)
      (payload_branch o (metrics s) s st (lay o (settle o) r i Break (follow ts) st) v refl) in
      omega (arith, a, b, either_counts (MultilineText s) r i Break v)
  union_counts _ r i self = omega arith

  -- after a step no less is left to count, but for what its node counts
  step_counts : (d : Tree) (i : ℕ) (m : Mode) →
      StepCounts o n ts st w (tally_with o n (make_task i m d) ts st w) (w d m) (step_of o d i m (follow ts) st)
  unfolding lay tally
  step_counts Fail i m = tt
  step_counts (Text s) i m = at_once_counts (w (Text s) m) (lay_text o (length s) s st)
  step_counts (TextWithLen k s) i m = at_once_counts (w (TextWithLen k s) m) (lay_text o k s st)
  step_counts (MultilineText s) i Flat = tt
  step_counts HardLine i Break =
      subst (λ (z : Outcome). StepCounts o n ts st w (w HardLine Break + counted_then z (λ u. tally_above o n ts u w)) (w HardLine Break)
      (break_step o st.pending HardLine i Break (follow ts) st))
      (sym (settle_fixed o HardLine i Break (follow ts) st)) (break_counts st.pending (make_task i Break HardLine) (w HardLine Break) refl)
  step_counts HardLine i Flat = tt
  step_counts WeakLine i m =
      subst (λ (z : Outcome). StepCounts o n ts st w (w WeakLine m + counted_then z (λ u. tally_above o n ts u w)) (w WeakLine m)
      (break_step o st.pending WeakLine i m (follow ts) st))
      (sym (settle_fixed o WeakLine i m (follow ts) st)) (break_counts st.pending (make_task i m WeakLine) (w WeakLine m) refl)
  step_counts (Append l r) i m =
      let out : Outcome = lay o (settle o) l i m (entry i r ∷ follow ts) st in
      let next : State → ℕ = λ u. tally_above o n ts u w in
      let a = counted_then-then out (λ u. lay o (settle o) r i m (follow ts) u) next in
      let b = appended out (λ u. tally o r i m (follow ts) u w) (λ u. counted_then (lay o (settle o) r i m (follow ts) u) next)
      (λ u. tally_above o n (make_task i m r ∷ ts) u w) (λ u. above_is o n (make_task i m r) ts u w h) in
      omega (arith, a, b, above_is o n (make_task i m l) (make_task i m r ∷ ts) st w (omega (arith, h)))
  step_counts (Indented how d) i m = omega (arith, first_is (make_task (indent_by how i st.column) m d))
  step_counts (Flatten d) i m = omega (arith, first_is (make_task i Flat d))
  step_counts (BreakOrFlat b f) i Break = omega (arith, first_is (make_task i Break b))
  step_counts (BreakOrFlat b f) i Flat = omega (arith, first_is (make_task i Flat f))
  step_counts (Group d) i m =
      omega (arith, first_is (make_task i (by_mode m (if probe o d i Flat (follow ts) st then Flat else Break) Flat) d))
  step_counts (Union l r) i Break =
      subst (λ (z : ℕ). StepCounts o n ts st w z (w (Union l r) Break) (union_step (decided_by_metrics o l st) l r i st)) (omega arith)
      (union_counts l r i (w (Union l r) Break))
  step_counts (Union l r) i Flat = omega (arith, first_is (make_task i Flat l))
  step_counts (PartialUnion l r) i Break = omega (arith, either_counts l r i Break (probe o l i Break (follow ts) st))
  step_counts (PartialUnion l r) i Flat = omega (arith, first_is (make_task i Flat l))
  step_counts (Chosen test l r) i m = omega (arith, either_counts l r i m (choice_holds test (prospective st.column) i))
  step_counts _ i m = omega arith

-- ---- Counts in a row

pub at_least_same : (a : Weight → ℕ) (v : Visits) → CountsAtLeast a a v v
at_least_same a v = record { printer = omega arith; probes = omega arith }

pub at_least_then : {a b c : Weight → ℕ} {v w x : Visits} → CountsAtLeast a b v w → CountsAtLeast b c w x → CountsAtLeast a c v x
at_least_then h k =
    record { printer = omega (arith, h.printer, k.printer); probes = omega (arith, h.probes, k.probes) }

-- less was left before, and more is left afterwards
pub at_least_at : {a b c e : Weight → ℕ} {v w : Visits} → ((k : Weight) → c k ≤ a k) → ((k : Weight) → b k ≤ e k) → CountsAtLeast a b v w
    → CountsAtLeast c e v w
at_least_at g h m =
    record { printer = omega (arith, g each_node, h each_node, m.printer); probes = omega (arith, g each_probe, h each_probe, m.probes) }

-- counts that did not fall, where no less is left
pub at_least_rise : {a b : Weight → ℕ} {v w : Visits} → Rise v w → ((k : Weight) → a k ≤ b k) → CountsAtLeast a b v w
at_least_rise r h =
    record { printer = omega (arith, h each_node, r.printer); probes = omega (arith, h each_probe, r.probes) }

-- one node was counted, and the probe that it needs
pub record OneLaid (t : Task) (v w : Visits) : Type 0 where
  pub printer : rise v.printer ≤ w.printer
  pub probes : RisesBy (each_probe t.tree t.mode) v.probes w.probes

-- a node was counted, and no less is left but for that
laid_at_least : (t : Task) (a b : Weight → ℕ) (v w : Visits) → OneLaid t v w → ((k : Weight) → a k ≤ k t.tree t.mode + b k)
    → CountsAtLeast a b v w
laid_at_least t a b v w one h =
    record { printer = omega (arith, h each_node, one.printer); probes = omega (arith, h each_probe, one.probes) }

-- the stack counts what its tasks do
pub stack_counts : (p : Standing) (n : ℕ) (o : RenderOptions) (ts : List Task) (st : State) (w : Weight) → p.options ≡ o → p.tasks ≡ ts
    → state_at p ≡ st → stack_tally p n w ≡ tally_above o n ts st w
stack_counts p n o ts st w e h k =
    ap (λ (x : RenderOptions). tally_above x n p.tasks (state_at p) w) e
    ∙ ap (λ (x : List Task). tally_above o n x (state_at p) w) h ∙ ap (λ (x : State). tally_above o n ts x w) k

-- a step of the current node
pub move_at_least : {t : Task} {v w : Visits} (o : RenderOptions) (n : ℕ) (ts us : List Task) (st u : State) (bytes : List ℕ)
    → OneLaid t v w → n ≤ length ts → StepsTo (step_at o t ts st) ts bytes us u →
    CountsAtLeast (tally_above o n (t ∷ ts) st) (tally_above o n us u) v w
move_at_least {t} {v} {w} o n ts us st u bytes one l h =
    laid_at_least t (tally_above o n (t ∷ ts) st) (tally_above o n us u) v w one
    (λ k. omega (arith, above_is o n t ts st k l, move_inside k (step_at o t ts st) (step_counts o n ts st k l t.tree t.indent t.mode) h))
  where
    move_inside : (k : Weight) (step : Step) → StepCounts o n ts st k (tally_with o n t ts st k) (k t.tree t.mode) step
        → StepsTo step ts bytes us u
        → tally_with o n t ts st k ≤ k t.tree t.mode + tally_above o n us u k
    move_inside k (Move b pushed x) s h =
        omega (arith, s, ap (λ (z : List Task). tally_above o n z u k) h.1, ap (λ (z : State). tally_above o n (pushed ++ ts) z k) h.2)
    move_inside k Stuck s h = absurd h
    move_inside k (Choose i x y) s h = absurd h

-- a step after which two branches are to be chosen from
pub choice_at_least : {t : Task} {v w : Visits} (o : RenderOptions) (n : ℕ) (ts : List Task) (st : State) (i : ℕ) (x y : Tree)
    → OneLaid t v w → n ≤ length ts → IsChoice (step_at o t ts st) i x y →
    CountsAtLeast (tally_above o n (t ∷ ts) st) (tally_choice o n i x y ts st) v w
choice_at_least {t} {v} {w} o n ts st i x y one l h =
    laid_at_least t (tally_above o n (t ∷ ts) st) (tally_choice o n i x y ts st) v w one
    (λ k. omega (arith, above_is o n t ts st k l, asked k (step_at o t ts st) (step_counts o n ts st k l t.tree t.indent t.mode) h))
  where
    asked : (k : Weight) (step : Step) → StepCounts o n ts st k (tally_with o n t ts st k) (k t.tree t.mode) step → IsChoice step i x y
        → tally_with o n t ts st k ≤ k t.tree t.mode + tally_choice o n i x y ts st k
    asked k (Move b pushed u) s h = absurd h
    asked k Stuck s h = absurd h
    asked k (Choose j l r) s h =
        omega (
          arith,
          s,
          ap (λ (z : ℕ). tally_choice o n z x y ts st k) h.0,
          ap (λ (z : Tree). tally_choice o n j z y ts st k) h.1,
          ap (λ (z : Tree). tally_choice o n j l z ts st k) h.2,
        )

-- ---- Choices and trials

-- the first branch counts where it is accepted
accepted_counts : (o : RenderOptions) (was : Bool) (out : Outcome) (bytes : List ℕ) (u : State) (x y : ℕ)
    → accept o was out (Failed []) ≡ Done bytes u → counted_accept o out x y ≡ x
accepted_counts o was (Done b st) bytes u x y e =
    elim (st.within && padding_fits o.width (some_pending st.pending) st.column) as
    (λ v. (if v then Done b (record st { within = was }) else Failed []) ≡ Done bytes u → (if v then x else y) ≡ x)
    [ true ↦ (λ h. refl) | false ↦ (λ h. absurd (cc)) ] e
accepted_counts o was (Failed b) bytes u x y e = absurd (cc)

-- the second branch counts where the first one is not accepted
rejected_counts : (o : RenderOptions) (was : Bool) (out : Outcome) (x y : ℕ) → accept o was out (Failed []) ≡ Failed []
    → counted_accept o out x y ≡ y
rejected_counts o was (Done b st) x y e =
    elim (st.within && padding_fits o.width (some_pending st.pending) st.column) as
    (λ v. (if v then Done b (record st { within = was }) else Failed []) ≡ Failed [] → (if v then x else y) ≡ y)
    [ true ↦ (λ h. absurd (cc)) | false ↦ (λ h. refl) ] e
rejected_counts o was (Failed b) x y e = refl

-- a choice whose first branch is kept
pub kept_at_least : {E : Type 0} {i : ℕ} {x : Tree} {a b : Point} (y : Tree) (n : ℕ) → Tries {E = E} i x a b (Ok true) →
    CountsAtLeast (choice_tally a.printer n i x y) (stack_tally b.printer n) a.visits b.visits
kept_at_least {i} {x} {a} {b} y n tries =
    let p = a.printer in
    let d = tries.decided in
    let m = tries.at_least in
    let ts : List Task = p.tasks in
    let out : Outcome = lay p.options (settle p.options) x i Break (follow ts) (in_trial (state_at p)) in
    let other : Outcome = lay p.options (settle p.options) y i Break (follow ts) (state_at p) in
    let same : (k : Weight) → choice_tally p n i x y k ≡ trial_tally p i x k + stack_tally b.printer n k = λ k.
    omega (
      arith,
      accepted_counts p.options p.within out d.5.0 (state_at b.printer) (trial_tally p i x k)
          (tally p.options y i Break (follow ts) (state_at p) k) (d.5.2 (Failed [])),
      ap (λ (z : Outcome). counted_then z (λ u. tally_above p.options n ts u k)) (d.5.2 other),
      stack_counts b.printer n p.options ts (state_at b.printer) k d.1 d.0 refl,
    ) in
    record { printer = omega (arith, same each_node, m.printer); probes = omega (arith, same each_probe, m.probes) }

-- a choice whose second branch comes next
pub other_at_least : {E : Type 0} {i : ℕ} {x y : Tree} {a b : Point} {q : Standing} (n : ℕ) → n ≤ length a.printer.tasks
    → Tries {E = E} i x a b (Ok false) → Pushed (make_task i Break y) b.printer q →
    CountsAtLeast (choice_tally a.printer n i x y) (stack_tally q n) a.visits b.visits
other_at_least {i} {x} {y} {a} {q} n l tries pushed =
    let p = a.printer in
    let d = tries.decided in
    let ts : List Task = p.tasks in
    let out : Outcome = lay p.options (settle p.options) x i Break (follow ts) (in_trial (state_at p)) in
    let other : Outcome = lay p.options (settle p.options) y i Break (follow ts) (state_at p) in
    at_least_rise tries.rise (λ k.
    omega (
      arith,
      rejected_counts p.options p.within out (trial_tally p i x k) (tally p.options y i Break (follow ts) (state_at p) k)
          (d.5.2 (Failed [])),
      ap (λ (z : Outcome). counted_then z (λ u. tally_above p.options n ts u k)) (d.5.2 other),
      stack_counts q n p.options (make_task i Break y ∷ ts) (state_at p) k (pushed.options ∙ d.1)
          (pushed.tasks ∙ ap (λ (c : List Task). make_task i Break y ∷ c) d.0) (pushed.state ∙ d.5.1),
      above_is p.options n (make_task i Break y) ts (state_at p) k l,
    ))

-- a trial begins
pub trial_begins : {p q : Standing} {i : ℕ} {d : Tree} (v : Visits) → BeginsTrial i d p q →
    CountsAtLeast (trial_tally p i d) (stack_tally q (length p.tasks)) v v
trial_begins {p} {q} {i} {d} v h =
    let ts : List Task = p.tasks in
    let t : Task = make_task i Break d in
    at_least_rise (record { printer = omega arith; probes = omega arith })
    (λ k. omega (
      arith,
      stack_counts q (length ts) p.options (t ∷ ts) (in_trial (state_at p)) k h.options h.tasks h.state,
      above_is p.options (length ts) t ts (in_trial (state_at p)) k (omega arith),
    ))

-- no more than n tasks are left
pub at_least_end : {a : Weight → ℕ} {v w : Visits} (p : Standing) (n : ℕ) → length p.tasks ≤ n → CountsAtLeast a (stack_tally p n) v w
    → CountsAtLeast a nothing_left v w
at_least_end p n l m = at_least_at (λ k. omega arith) (λ k. omega (arith, above_none p.options n p.tasks (state_at p) k l)) m

-- a run that has worked on one tree from the beginning
pub visited_at_least : {A E : Type 0} (d : Tree) (p : Standing) (v w : Visits) (r : Result A E) → p.tasks ≡ make_task 0 Break d ∷ []
    → state_at p ≡ initial →
    OnOk r (CountsAtLeast (stack_tally p 0) nothing_left v w) → OnOk r (VisitedAtLeast p.options d v w)
visited_at_least d p v w (Ok x) e s m =
    let less : (k : Weight) → tally p.options d 0 Break [] initial k ≤ stack_tally p 0 k = λ k.
    omega (
      arith,
      stack_counts p 0 p.options (make_task 0 Break d ∷ []) initial k refl e s,
      above_is p.options 0 (make_task 0 Break d) []
          initial k (omega arith),
    ) in
    record { printer = omega (arith, less each_node, m.printer); probes = omega (arith, less each_probe, m.probes) }
visited_at_least d p v w (Err x) e s m = tt
