-- Sums of summaries: a node more, and nodes that are taken off.
use Rattle.std.proofs.Common.{◌≡◌, ℕ, suc, ◌+◌, ◌-◌, ◌<◌, ◌≤◌, Bool, true, false, List, [], ◌∷◌, ◌++◌, take, drop, get_or, length, refl, ap}
use Rattle.std.proofs.Common.{◌^◌, sym, ◌∙◌, subst, append_assoc, arith, length-append, length-drop, IsTrue, if◌then◌else◌}
use Rattle.std.proofs.lemmas.List.{length-take, map-append, nil_from_length, get_or-take, get_or_append_left, get_or_push, take-append-drop}
use Rattle.prettyless_model.specs.Tree.{Tree, size}
use Rattle.prettyless_model.specs.Look.{Look, Answers, GoesOn, answer_of, look, look_then}
use Rattle.prettyless_model.specs.declared.column.Column.{Column}
use Rattle.prettyless_model.specs.declared.mode.Mode.{Mode}
use Rattle.prettyless_model.specs.declared.mode.Mode.TheVariants.{Break}
use Rattle.prettyless_model.proofs.Looks.{answer-each, answer-then, look-same}
use Rattle.prettyless_summary.specs.Summary.{IsSmall, ReadsLook, Summarizes, ThenReads, has_summary, look_by}
use Rattle.prettyless_summary.proofs.Has.{has_one}
use Rattle.prettyless_summary.specs.declared.summary.Summary.{Summary}
use Rattle.prettyless_probe.specs.Stack.{Task, make_task, in_break, nodes, stack_of, tasks_fit, tasks_look}
use Rattle.prettyless_probe.specs.Sums.{AreSums, HaveSum, HaveSummaries, IsSummed, SumsUp, below_run, bottom, combined}
use Rattle.prettyless_probe.specs.declared.stack.Below.{Below}
use Rattle.prettyless_probe.specs.declared.stack.Stack.{Stack}
use Rattle.prettyless_probe.proofs.Sizes.{size_positive}
use Rattle.prettyless_probe.proofs.Stacks.{length-stack_of, nodes-append}

-- ---- The bottom of tasks

-- all tasks are at the bottom
pub bottom_all : (n : ℕ) (ts : List Task) → n ≡ length ts → bottom n ts ≡ ts
bottom_all n ts e =
    let none : length ts - n ≡ 0 = omega (arith, e) in
    ap (λ (k : ℕ). drop k ts) none

-- no tasks are at the bottom
pub bottom_none : (n : ℕ) (ts : List Task) → n ≡ 0 → bottom n ts ≡ []
bottom_none n ts e = nil_from_length (bottom n ts) (omega (arith, length-drop (length ts - n) ts, e))

-- a task on top is not at the bottom
pub bottom_below : (n : ℕ) (t : Task) (ts : List Task) → n ≤ length ts → bottom n (t ∷ ts) ≡ bottom n ts
bottom_below n t ts l =
    let one : length (t ∷ ts) - n ≡ suc (length ts - n) = omega (arith, l) in
    ap (λ (k : ℕ). drop k (t ∷ ts)) one

-- what is left of some tasks is at their bottom
pub over_bottom : (n : ℕ) (ts : List Task) → ts ≡ take (length ts - n) ts ++ bottom n ts
over_bottom n ts = sym (take-append-drop (length ts - n) ts)

-- each task has a node at least
length-nodes : (ts : List Task) → length ts ≤ nodes ts
length-nodes [] = omega arith
length-nodes (t ∷ ts) = omega (arith, size_positive t.tree, length-nodes ts)

-- fewer tasks at the bottom have fewer nodes
pub nodes_bottom : (n : ℕ) (ts : List Task) → n < length ts → nodes (bottom n ts) < nodes ts
nodes_bottom n ts l =
    let over : List Task = take (length ts - n) ts in
    omega (arith, ap nodes (over_bottom n ts), nodes-append over (bottom n ts), length-nodes over, length-take (length ts - n) ts, l)

-- what is on top of all tasks is none
pub combined_none : (n : ℕ) (ts : List Task) → n ≡ length ts → combined n ts ≡ []
combined_none n ts e =
    let none : length ts - n ≡ 0 = omega (arith, e) in
    ap (λ (k : ℕ). take k ts) none

-- a task on top is on top of what is left of those below it
pub combined_more : (n : ℕ) (t : Task) (ts : List Task) → n ≤ length ts → combined n (t ∷ ts) ≡ t ∷ combined n ts
combined_more n t ts l =
    let one : length (t ∷ ts) - n ≡ suc (length ts - n) = omega (arith, l) in
    ap (λ (k : ℕ). take k (t ∷ ts)) one

-- ---- Runs of tasks that have summaries

-- tasks all of whose nodes have summaries are one run
pub run_all : (ts : List Task) → HaveSummaries ts → below_run ts ≡ []
run_all [] h = refl
run_all (t ∷ ts) h = rw (has_one t.tree Break h.0) (run_all ts h.1)

pub run_more : (t : Task) (ts : List Task) → has_summary t.tree Break ≡ true → below_run (t ∷ ts) ≡ below_run ts
run_more t ts h = rw h refl

pub run_none : (t : Task) (ts : List Task) → has_summary t.tree Break ≡ false → below_run (t ∷ ts) ≡ t ∷ ts
run_none t ts h = rw h refl

run_less_at : (b : Bool) (t : Task) (ts : List Task) → has_summary t.tree Break ≡ b → length (below_run ts) ≤ length ts →
    length (below_run (t ∷ ts)) ≤ length (t ∷ ts)
run_less_at true t ts e l = omega (arith, ap length (run_more t ts e), l)
run_less_at false t ts e l = omega (arith, ap length (run_none t ts e))

pub run_less : (ts : List Task) → length (below_run ts) ≤ length ts
run_less [] = omega arith
run_less (t ∷ ts) = run_less_at (has_summary t.tree Break) t ts refl (run_less ts)

-- nothing is below the run of no tasks
pub run_of_none : (ts : List Task) → length ts ≡ 0 → length (below_run ts) ≡ 0
run_of_none ts e = omega (arith, run_less ts, e)

run_stops_at : (b : Bool) (t : Task) (ts : List Task) → has_summary t.tree Break ≡ b → below_run (t ∷ ts) ≡ t ∷ ts → b ≡ false
run_stops_at true t ts e h = absurd (omega (arith, ap length (run_more t ts e), ap length h, run_less ts))
run_stops_at false t ts e h = refl

-- tasks that are below the run themselves begin with one that has no summary
pub run_stops : (t : Task) (ts : List Task) → below_run (t ∷ ts) ≡ t ∷ ts → has_summary t.tree Break ≡ false
run_stops t ts h = run_stops_at (has_summary t.tree Break) t ts refl h

run_begins_at : (b : Bool) (t : Task) (ts : List Task) → has_summary t.tree Break ≡ b →
    length (below_run (t ∷ ts)) < length (t ∷ ts) → b ≡ true
run_begins_at true t ts e l = refl
run_begins_at false t ts e l = absurd (omega (arith, ap length (run_none t ts e), l))

run_whole_at : (b : Bool) (t : Task) (ts : List Task) → has_summary t.tree Break ≡ b →
    length (t ∷ ts) ≤ length (below_run (t ∷ ts)) → below_run (t ∷ ts) ≡ t ∷ ts
run_whole_at true t ts e l = absurd (omega (arith, ap length (run_more t ts e), run_less ts, l))
run_whole_at false t ts e l = run_none t ts e

-- as many tasks as there are below the run are all that are
pub run_whole : (ts : List Task) → length ts ≤ length (below_run ts) → below_run ts ≡ ts
run_whole [] l = refl
run_whole (t ∷ ts) l = run_whole_at (has_summary t.tree Break) t ts refl l

-- and other tasks begin with one that has
pub run_begins : (t : Task) (ts : List Task) → length (below_run (t ∷ ts)) < length (t ∷ ts) → has_summary t.tree Break ≡ true
run_begins t ts l = run_begins_at (has_summary t.tree Break) t ts refl l

-- ---- One sum

-- a sum and how many tasks it leaves
abbrev pub below : Summary → ℕ → Below
below s n = record { sum = s; left = n }

-- of tasks of which nothing is known
pub sum_nothing : (s : Summary) (n : ℕ) (t : Task) (ts : List Task) → n ≡ length (t ∷ ts) → ReadsLook s (λ width c p. GoesOn c p)
    → IsSmall 0 s → (size t.tree < 2 ^ 32 → has_summary t.tree Break ≡ false) → SumsUp (below s n) (t ∷ ts)
sum_nothing s n t ts e reads small unknown = record {
  left = omega (arith, e);
  looks = λ w c p. reads w c p ∙ sym (ap (λ (z : List Task). tasks_look w (in_break z) c p) (combined_none n (t ∷ ts) e));
  run = λ few. (e ∙ sym (ap length (run_none t ts (unknown (omega (arith, few))))), omega (arith, small));
}

-- a look and then nothing
look-none : (x : Look) → look_then x (λ c p. GoesOn c p) ≡ x
look-none (Answers b) = refl
look-none (GoesOn c p) = refl

-- of a task that is known, alone
pub sum_own : (s : Summary) (n i : ℕ) (m : Mode) (d : Tree) (ts : List Task) → n ≡ length ts → Summarizes s d Break
    → (nodes (make_task i m d ∷ ts) < 2 ^ 32 → (n ≡ length (below_run (make_task i m d ∷ ts))) × IsSmall (size d) s) →
    SumsUp (below s n) (make_task i m d ∷ ts)
sum_own s n i m d ts e known own =
    let t : Task = make_task i m d in
    let alone : combined n (t ∷ ts) ≡ t ∷ [] =
    combined_more n t ts (omega (arith, e)) ∙ ap (λ (z : List Task). t ∷ z) (combined_none n ts e) in
    record {
      left = omega (arith, e);
      looks = λ w c p. known i w c p ∙ sym (look-none (look w d i Break c p))
          ∙ sym (ap (λ (z : List Task). tasks_look w (in_break z) c p) alone);
      run = λ few. let h = own few in (h.0, omega (arith, h.1));
    }

-- of a task that is known, and those below it
pub sum_then : (s : Summary) {r : Summary} {b : Below} (i : ℕ) (m : Mode) (d : Tree) (ts : List Task) → Summarizes s d Break → SumsUp b ts
    → ThenReads s b.sum r → (size d < 2 ^ 32 → has_summary d Break ≡ true)
    → (nodes (make_task i m d ∷ ts) < 2 ^ 32 → IsSmall (nodes ts) b.sum → IsSmall (size d + nodes ts) r)
    → SumsUp (below r b.left) (make_task i m d ∷ ts)
sum_then s {r} {b} i m d ts known under both has small =
    let t : Task = make_task i m d in
    record {
      left = omega (arith, under.left);
      looks = λ w c p. both w c p
          ∙ look-same (look_by w s c p) (look w d i Break c p) (look_by w b.sum) (tasks_look w (in_break (combined b.left ts)))
          (known i w c p) (λ e q. under.looks w e q)
          ∙ sym (ap (λ (z : List Task). tasks_look w (in_break z) c p) (combined_more b.left t ts under.left));
      run = λ few.
          let h = under.run (omega (arith, few)) in (
            h.0 ∙ sym (ap length (run_more t ts (has (omega (arith, few))))),
            small few h.1,
          );
    }

-- of tasks all of whose nodes have summaries it leaves none
pub sum_whole : {b : Below} {ts : List Task} → SumsUp b ts → HaveSum ts → b.left ≡ 0
sum_whole {b} {ts} sum all = (sum.run all.1).0 ∙ ap length (run_all ts all.0)

fits-append : (w : ℕ) (ts us : List Task) (c : Column) (p : Bool) →
    tasks_fit w (ts ++ us) c p ≡ answer_of (tasks_look w ts c p) (λ e q. tasks_fit w us e q)
fits-append w [] us c p = refl
fits-append w (t ∷ ts) us c p =
    answer-each (look w t.tree t.indent t.mode c p) (λ e q. tasks_fit w (ts ++ us) e q)
    (λ e q. answer_of (tasks_look w ts e q) (λ g r. tasks_fit w us g r)) (λ e q. fits-append w ts us e q)
    ∙ sym (answer-then (look w t.tree t.indent t.mode c p) (λ e q. tasks_look w ts e q) (λ e q. tasks_fit w us e q))

-- tasks fit the line as what their sum reads does, with the tasks that it leaves
pub sum_fits : {b : Below} {ts : List Task} → SumsUp b ts → (w : ℕ) (c : Column) (p : Bool) →
    tasks_fit w (in_break ts) c p ≡ answer_of (look_by w b.sum c p) (λ e q. tasks_fit w (in_break (bottom b.left ts)) e q)
sum_fits {b} {ts} sum w c p =
    let on : List Task = combined b.left ts in
    let left : List Task = bottom b.left ts in
    ap (λ (z : List Task). tasks_fit w (in_break z) c p) (over_bottom b.left ts)
    ∙ ap (λ (z : List Task). tasks_fit w z c p) (map-append (λ (t : Task). make_task t.indent Break t.tree) on left)
    ∙ fits-append w (in_break on) (in_break left) c p
    ∙ ap (λ (x : Look). answer_of x (λ e q. tasks_fit w (in_break left) e q)) (sym (sum.looks w c p))

-- ---- All sums

-- fewer tasks
pub sums_less : (sums : List Below) (ts above us : List Task) → ts ≡ above ++ us → AreSums sums ts → AreSums sums us
sums_less sums ts above us e h more rest t b s l g =
    h (above ++ more) rest t b (e ∙ ap (λ (z : List Task). above ++ z) s ∙ sym (append_assoc above more (t ∷ rest))) l g

-- fewer sums
sums_take : (sums : List Below) (ts : List Task) (n : ℕ) → AreSums sums ts → AreSums (take n sums) ts
sums_take sums ts n h above rest t b s l g =
    let k = length-take n sums in
    h above rest t b s (omega (arith, k, l)) (g ∙ get_or-take n sums (length rest) b (omega (arith, k, l)))

-- a task more, with its sum
pub sums_push : (sums : List Below) (ts : List Task) (b : Below) (t : Task) → length sums ≡ length ts → AreSums sums ts → SumsUp b (t ∷ ts)
    → AreSums (sums ++ b ∷ []) (t ∷ ts)
sums_push sums ts b t n h new [] rest u x s l g =
    let same : x ≡ b = g ∙ get_or_push sums b x (length rest) (omega (arith, n, ap length s)) in
    subst (λ (z : List Task). SumsUp x z) s (subst (λ (y : Below). SumsUp y (t ∷ ts)) (sym same) new)
sums_push sums ts b t n h new (a ∷ above) rest u x s l g =
    let under : ts ≡ above ++ u ∷ rest = ap (drop 1) s in
    let low : length rest < length sums = omega (arith, n, ap length under, length-append above (u ∷ rest)) in
    h above rest u x under low (g ∙ get_or_append_left sums (b ∷ []) x (length rest) low)

-- the sum at the height of the topmost task
pub sums_at : (sums : List Below) (ts : List Task) (b : Below) → AreSums sums ts → 0 < length ts → length ts ≤ length sums
    → b ≡ get_or sums (length ts - 1) b → SumsUp b ts
sums_at sums [] b h some low g = absurd (omega (arith, some))
sums_at sums (t ∷ ts) b h some low g =
    h [] ts t b refl (omega (arith, low)) (g ∙ ap (λ (k : ℕ). get_or sums k b) (omega arith))

-- ---- The sums of a stack

-- a node more, and its sum
pub long_push : (has : Bool) (k l n : ℕ) → l ≡ (if has then n else 0) → k ≡ l + (if has then 1 else 0) → k ≡ (if has then n + 1 else 0)
long_push true k l n h e = omega (arith, h, e)
long_push false k l n h e = omega (arith, h, e)

pub long_some : (has : Bool) (k n : ℕ) → k ≡ (if has then n else 0) → 0 < k → k ≡ n
long_some true k n h some = h
long_some false k n h some = absurd (omega (arith, h, some))

pub long_all : (has : Bool) (k n : ℕ) → IsTrue has → k ≡ (if has then n else 0) → k ≡ n
long_all true k n on h = h
long_all false k n on h = absurd (grind arith)

-- the topmost sum of a stack
pub sum_top : {N : Type 0} (has : Bool) (f : N → Tree) (s : Stack N) (sums : List Below) (b : Below) → IsSummed has f s
    → sums ≡ s.sums.items → 0 < length sums → b ≡ get_or sums (length sums - 1) b →
    SumsUp b (stack_of f s)
sum_top {N} has f s sums b h e under top =
    let some : 0 < length s.sums.items = omega (arith, under, ap length e) in
    let long : length s.sums.items ≡ length (stack_of f s) = long_some has (length s.sums.items) (length s.nodes.items) h.long some
    ∙ sym (length-stack_of f s) in
    sums_at s.sums.items (stack_of f s) b h.sums (omega (arith, some, long)) (omega (arith, long))
    (top ∙ ap (λ (xs : List Below). get_or xs (length xs - 1) b) e ∙ ap (λ (k : ℕ). get_or s.sums.items (k - 1) b) long)

-- the same nodes, tasks and sums
pub summed_same : {N : Type 0} (has : Bool) (f : N → Tree) (s u : Stack N) → stack_of f u ≡ stack_of f s
    → length u.nodes.items ≡ length s.nodes.items → u.sums.items ≡ s.sums.items → IsSummed has f s → IsSummed has f u
summed_same {N} has f s u e n same h = record {
  long = ap length same ∙ h.long ∙ ap (λ (k : ℕ). if has then k else 0) (sym n);
  sums = subst (λ (z : List Below). AreSums z (stack_of f u)) (sym same) (subst (λ (z : List Task). AreSums s.sums.items z) (sym e) h.sums);
}

-- nodes are taken off, and their sums with them
pub summed_cut : {N : Type 0} (has : Bool) (f : N → Tree) (s u : Stack N) (above : List Task) → stack_of f s ≡ above ++ stack_of f u
    → length u.nodes.items ≤ length s.nodes.items →
    u.sums.items ≡ (if has then take (length u.nodes.items) s.sums.items else s.sums.items) → IsSummed has f s → IsSummed has f u
summed_cut {N} true f s u above e n cut h =
    let k : ℕ = length u.nodes.items in
    record {
      long = ap length cut ∙ omega (arith, length-take k s.sums.items, h.long, n);
      sums = subst (λ (z : List Below). AreSums z (stack_of f u)) (sym cut)
          (sums_take s.sums.items (stack_of f u) k (sums_less s.sums.items (stack_of f s) above (stack_of f u) e h.sums));
    }
summed_cut {N} false f s u above e n cut h = record {
  long = ap length cut ∙ h.long;
  sums = subst (λ (z : List Below). AreSums z (stack_of f u)) (sym cut)
      (sums_less s.sums.items (stack_of f s) above (stack_of f u) e h.sums);
}
