-- How many nodes a probe reads by a sum: one for a run of tasks, and then those of the tasks that the sum leaves.
use Rattle.std.proofs.Common.{◌≡◌, ℕ, ◌+◌, ◌<◌, ◌^◌, List, [], ◌∷◌, length, refl, Bool, true, false, ap, arith, ◌∙◌, sym}
use Rattle.prettyless_model.specs.Look.{Look, look}
use Rattle.prettyless_model.specs.declared.column.Column.{Column}
use Rattle.prettyless_model.specs.declared.mode.Mode.TheVariants.{Break}
use Rattle.prettyless_summary.specs.Summary.{has_summary, look_by}
use Rattle.prettyless_probe.specs.Stack.{Task, in_break, nodes, tasks_look}
use Rattle.prettyless_probe.specs.Sums.{SumsUp, below_run, bottom, combined}
use Rattle.prettyless_probe.specs.Reads.{read_after, reads_below}
use Rattle.prettyless_probe.specs.declared.stack.Below.{Below}
use Rattle.prettyless_probe.proofs.Counting.{after-each, after-then, read_known}
use Rattle.prettyless_probe.proofs.Sums.{bottom_all, bottom_below, run_begins, run_less, run_more, run_none, combined_more, combined_none}

-- what is below the run is at the bottom
bottom_run_at : (b : Bool) (t : Task) (ts : List Task) → has_summary t.tree Break ≡ b → bottom (length (below_run ts)) ts ≡ below_run ts →
    bottom (length (below_run (t ∷ ts))) (t ∷ ts) ≡ below_run (t ∷ ts)
bottom_run_at true t ts e h =
    ap (λ (z : List Task). bottom (length z) (t ∷ ts)) (run_more t ts e) ∙ bottom_below (length (below_run ts)) t ts (run_less ts) ∙ h
    ∙ sym (run_more t ts e)
bottom_run_at false t ts e h = bottom_all (length (below_run (t ∷ ts))) (t ∷ ts) (ap length (run_none t ts e)) ∙ sym (run_none t ts e)

bottom_run : (ts : List Task) → bottom (length (below_run ts)) ts ≡ below_run ts
bottom_run [] = refl
bottom_run (t ∷ ts) = bottom_run_at (has_summary t.tree Break) t ts refl (bottom_run ts)

-- what is read of tasks after a look at those on top of n
abbrev reads_past : ℕ → ℕ → List Task → List Task → Column → Bool → ℕ
reads_past w n ts left c p = read_after (tasks_look w (in_break (combined n ts)) c p) (reads_below true w false left)

in_run_at : (b : Bool) (w : ℕ) (t : Task) (ts : List Task) (c : Column) (p : Bool) → has_summary t.tree Break ≡ b →
    ((e : Column) (q : Bool) → reads_below true w true ts e q ≡ reads_past w (length (below_run ts)) ts (below_run ts) e q) →
    reads_below true w true (t ∷ ts) c p ≡ reads_past w (length (below_run (t ∷ ts))) (t ∷ ts) (below_run (t ∷ ts)) c p
in_run_at true w t ts c p e h =
    let left : List Task = below_run ts in
    let n : ℕ = length left in
    let first : Look = look w t.tree t.indent Break c p in
    let start : reads_below true w true (t ∷ ts) c p ≡ read_after first (reads_below true w true ts) = rw e (omega arith) in
    start
    ∙ after-each first (λ d q. reads_below true w true ts d q) (λ d q. reads_past w n ts left d q) h
    ∙ sym (after-then first (tasks_look w (in_break (combined n ts))) (reads_below true w false left))
    ∙ ap (λ (z : List Task). read_after (tasks_look w (in_break z) c p) (reads_below true w false left)) (sym (combined_more n t ts (run_less ts)))
    ∙ ap (λ (z : List Task). reads_past w (length z) (t ∷ ts) z c p) (sym (run_more t ts e))
in_run_at false w t ts c p e h =
    let start : reads_below true w true (t ∷ ts) c p ≡ reads_below true w false (t ∷ ts) c p = rw e refl in
    start
    ∙ ap (λ (z : List Task). read_after (tasks_look w (in_break z) c p) (reads_below true w false (t ∷ ts)))
    (sym (combined_none (length (t ∷ ts)) (t ∷ ts) refl))
    ∙ ap (λ (z : List Task). reads_past w (length z) (t ∷ ts) z c p) (sym (run_none t ts e))

-- in a run its tasks are not read
in_run : (w : ℕ) (ts : List Task) (c : Column) (p : Bool) →
    reads_below true w true ts c p ≡ reads_past w (length (below_run ts)) ts (below_run ts) c p
in_run w [] c p = refl
in_run w (t ∷ ts) c p = in_run_at (has_summary t.tree Break) w t ts c p refl (λ e q. in_run w ts e q)

-- where the first task has a summary, one sum is read
begins : (w : ℕ) (t : Task) (ts : List Task) (c : Column) (p : Bool) → has_summary t.tree Break ≡ true →
    reads_below true w false (t ∷ ts) c p ≡ 1 + reads_below true w true (t ∷ ts) c p
begins w t ts c p h = rw h (omega (arith, read_known w t.tree t.indent Break c p h))

-- a sum that combines a task is read, and then what it leaves
pub sum_reads : {b : Below} (ts : List Task) → SumsUp b ts → nodes ts < 2 ^ 32 → b.left < length ts → (w : ℕ) (c : Column) (p : Bool) →
    reads_below true w false ts c p ≡ 1 + read_after (look_by w b.sum c p) (reads_below true w false (bottom b.left ts))
sum_reads {b} [] sum few some w c p = absurd (omega (arith, some))
sum_reads {b} (t ∷ ts) sum few some w c p =
    let us : List Task = t ∷ ts in
    let run = (sum.run few).0 in
    begins w t ts c p (run_begins t ts (omega (arith, some, run)))
    ∙ ap (λ (k : ℕ). 1 + k) (in_run w us c p
    ∙ ap (λ (z : List Task). reads_past w (length (below_run us)) us z c p) (sym (bottom_run us))
    ∙ ap (λ (k : ℕ). reads_past w k us (bottom k us) c p) (sym run)
    ∙ ap (λ (x : Look). read_after x (reads_below true w false (bottom b.left us))) (sym (sum.looks w c p)))
