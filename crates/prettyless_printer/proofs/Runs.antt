-- A step keeps what the stack lays.
use Rattle.std.proofs.Common.{◌≡◌, ℕ, List, [], ◌∷◌, ◌++◌, length, refl, ap, sym, ◌∙◌, append_assoc, Bool, true, false, ◌&&◌, if◌then◌else◌}
use Rattle.prettyless_model.specs.Spaces.{spaces}
use Rattle.prettyless_model.specs.declared.options.RenderOptions.{RenderOptions}
use Rattle.prettyless_model.specs.declared.options.IndentationPolicy.{IndentationPolicy}
use Rattle.prettyless_model.specs.declared.options.IndentationPolicy.TheVariants.{Eager, Deferred}
use Rattle.prettyless_model.specs.Tree.{Tree, Nil, Fail, Text, TextWithLen, MultilineText, WeakSpace, HardLine, WeakLine, Append}
use Rattle.prettyless_model.specs.Tree.{LineSuffix, Indented, ExpandParent, Flatten, BreakOrFlat, Group, Union, PartialUnion, Chosen}
use Rattle.prettyless_model.specs.Indent.{indent_by}
use Rattle.prettyless_model.specs.Choice.{choice_holds}
use Rattle.prettyless_model.specs.Metrics.{metrics}
use Rattle.prettyless_model.specs.Column.{gap, prospective, start, commit, padding_fits}
use Rattle.prettyless_model.specs.declared.metrics.Metrics.{Metrics}
use Rattle.prettyless_model.specs.Look.{by_mode}
use Rattle.prettyless_model.specs.Layout.{State, Outcome, Done, Failed, Entry, Breaks, after_bytes, and_then, lay, lay_each, lay_text}
use Rattle.prettyless_model.specs.Layout.{lay_payload, payload_fits, after_payload, lay_ending, probe, some_pending, accept, in_trial}
use Rattle.prettyless_model.specs.Layout.{flushed, entry, entries, next_indent, is_suppressed, plain_break, break_with}
use Rattle.prettyless_model.proofs.Outcomes.{after-nil, then-after, then-then}
use Rattle.prettyless_model.proofs.Levels.{Fixed}
use Rattle.prettyless_model.specs.declared.mode.Mode.{Mode}
use Rattle.prettyless_model.specs.declared.mode.Mode.TheVariants.{Break, Flat}
use Rattle.prettyless_probe.specs.Stack.{Task, make_task, tasks, follow}
use Rattle.prettyless_step.specs.Steps.{lay_all, step_of, break_step, union_step, decided_by_metrics, at_once, chosen}
use Rattle.prettyless_step.proofs.Shown.{step_outcome}

-- ---- What tasks lay

pub follow-tasks : (i : ℕ) (m : Mode) (ds : List Tree) (us : List Task) → follow (tasks i m ds ++ us) ≡ entries i ds ++ follow us
follow-tasks i m [] us = refl
follow-tasks i m (d ∷ ds) us = ap (λ (x : List Entry). entry i d ∷ x) (follow-tasks i m ds us)

-- trees of one list, as tasks
pub lay_all-tasks : (o : RenderOptions) (brk : Breaks) (ds : List Tree) (i : ℕ) (m : Mode) (us : List Task)
    (outer : List Entry) (st : State) →
    lay_all o brk (tasks i m ds ++ us) outer st ≡ and_then (lay_each o brk ds i m (follow us ++ outer) st) (λ u. lay_all o brk us outer u)
unfolding lay_all lay_each
lay_all-tasks o brk [] i m us outer st = sym (after-nil (lay_all o brk us outer st))
lay_all-tasks o brk (d ∷ ds) i m us outer st =
    ap
    (λ (r : List Entry). and_then (lay o brk d i m r st) (λ u. lay_all o brk (tasks i m ds ++ us) outer u))
    (ap (λ (x : List Entry). x ++ outer) (follow-tasks i m ds us) ∙ append_assoc (entries i ds) (follow us) outer)
    ∙ ap (and_then (lay o brk d i m (entries i ds ++ (follow us ++ outer)) st)) (λ j u. lay_all-tasks o brk ds i m us outer u j)
    ∙ sym (then-then (lay o brk d i m (entries i ds ++ (follow us ++ outer)) st) (λ u. lay_each o brk ds i m (follow us ++ outer) u)
    (λ u. lay_all o brk us outer u))

-- ---- Breaks

-- what an outcome fails with before any byte
abbrev FailsAtOnce : Outcome → Type 0
FailsAtOnce (Done b st) = Unit {0}
FailsAtOnce (Failed b) = b ≡ []

at_once_runs : (o : RenderOptions) (brk : Breaks) (out : Outcome) (ts : List Task) (outer : List Entry) (st : State) → FailsAtOnce out
    → and_then out (λ u. lay_all o brk ts outer u) ≡ step_outcome o brk (at_once out) ts outer st
at_once_runs o brk (Done b u) ts outer st h = refl
at_once_runs o brk (Failed b) ts outer st h = ap Failed h

text_at_once : (o : RenderOptions) (w : ℕ) (s : List ℕ) (st : State) → FailsAtOnce (lay_text o w s st)
text_at_once o w [] st = tt
text_at_once o w (b ∷ bs) st = tt

ending_at_once : (o : RenderOptions) (p : IndentationPolicy) (k : ℕ) (st : State) → FailsAtOnce (lay_ending o p k st)
ending_at_once o Eager k st = tt
ending_at_once o Deferred k st = tt

-- a task that is a break, and the tasks after it
lay_again : (o : RenderOptions) (brk : Breaks) (t : Task) (ts : List Task) (outer : List Entry)
    → lay o brk t.tree t.indent t.mode (follow ts ++ outer) ≡ brk t.tree t.indent t.mode (follow ts ++ outer) →
    lay_all o brk (t ∷ ts) outer ≡ (λ u. and_then (brk t.tree t.indent t.mode (follow ts ++ outer) u) (λ v. lay_all o brk ts outer v))
unfolding lay_all
lay_again o brk t ts outer e =
    ap {B = State → Outcome} (λ (g : State → Outcome) (u : State). and_then (g u) (λ v. lay_all o brk ts outer v)) e

plain_at_once : (o : RenderOptions) (d : Tree) (i : ℕ) (rest : List Entry) (st : State) → FailsAtOnce (plain_break o d i rest st)
plain_at_once o d i rest st =
    elim (is_suppressed d st.column) as
    (λ v. FailsAtOnce (if v then Done [] st else lay_ending o o.indentation_policy (next_indent i rest) st))
    [ true ↦ tt | false ↦ ending_at_once o o.indentation_policy (next_indent i rest) st ]

break_runs : (o : RenderOptions) (brk : Breaks) → (ps : List Tree) (d : Tree) (i : ℕ) (m : Mode) (ts : List Task)
    (outer : List Entry) (st : State) →
    (lay o brk d i m (follow ts ++ outer) ≡ brk d i m (follow ts ++ outer)) →
    and_then (break_with o brk ps d i m (follow ts ++ outer) st) (λ u. lay_all o brk ts outer u) ≡ step_outcome o brk
    (break_step o ps d i m (follow ts ++ outer) st) ts outer st
break_runs o brk [] d i m ts outer st e = at_once_runs o brk (plain_break o d i (follow ts ++ outer) st) ts outer st
    (plain_at_once o d i (follow ts ++ outer) st)
break_runs o brk (p ∷ ps) d i m ts outer st e =
    let rest : List Entry = follow ts ++ outer in
    let self : Task = make_task i m d in
    let k : State → Outcome = λ u. lay_all o brk ts outer u in
    let out : Outcome = lay_each o brk (p ∷ ps) i m (entry i d ∷ rest) (flushed o st) in
    let again : lay_all o brk (self ∷ ts) outer ≡ (λ u. and_then (brk d i m rest u) k) = lay_again o brk self ts outer e in
    then-after (spaces (gap st.column)) (and_then out (brk d i m rest)) k
    ∙ ap (after_bytes (spaces (gap st.column)))
    (then-then out (brk d i m rest) k
    ∙ ap (and_then out) (sym again)
    ∙ sym (lay_all-tasks o brk (p ∷ ps) i m (self ∷ ts) outer (flushed o st))
    ∙ ap (λ (x : List Task). lay_all o brk x outer (flushed o st)) (sym (append_assoc (tasks i m (p ∷ ps)) (self ∷ []) ts)))

-- ---- Moves

-- a move that writes nothing
moved : (o : RenderOptions) (brk : Breaks) (ts : List Task) (outer : List Entry) (st : State) → lay_all o brk ts outer st ≡ after_bytes []
    (lay_all o brk ts outer st)
moved o brk ts outer st = sym (after-nil (lay_all o brk ts outer st))

-- one of two nodes, alone on the tasks after it
either_runs : (o : RenderOptions) (brk : Breaks) (l r : Tree) (i : ℕ) (m : Mode) (ts : List Task) (outer : List Entry)
    (st : State) (v : Bool) →
    and_then (if v then lay o brk l i m (follow ts ++ outer) st else lay o brk r i m (follow ts ++ outer) st)
    (λ u. lay_all o brk ts outer u)
    ≡ after_bytes [] (lay_all o brk (make_task i m (if v then l else r) ∷ ts) outer st)
unfolding lay_all
either_runs o brk l r i m ts outer st true = moved o brk (make_task i m l ∷ ts) outer st
either_runs o brk l r i m ts outer st false = moved o brk (make_task i m r ∷ ts) outer st

-- ---- Payloads and unions

-- the flag after a payload that fits
flag-and : (v : Bool) → v ≡ v && true
flag-and true = refl
flag-and false = refl

-- no padding follows a payload
pub no_padding : (width : ℕ) (pending last : Bool) (m : Metrics)
    → padding_fits width pending (if last then commit m.last_width start else start) ≡ true
no_padding width true true m = refl
no_padding width true false m = refl
no_padding width false true m = refl
no_padding width false false m = refl

-- a payload as the first branch: its metrics decide what a trial would
pub payload_branch : (o : RenderOptions) (m : Metrics) (b : List ℕ) (st : State) (other : Outcome) (v : Bool)
    → v ≡ payload_fits o m st.column →
    accept o st.within (lay_payload o m b (in_trial st)) other ≡ (if v then lay_payload o m b st else other)
payload_branch o m b st other true e =
    let bytes : List ℕ = (if m.first_nonempty then spaces (gap st.column) else []) ++ b in
    ap (λ (x : Bool). if x then Done bytes (record st { column = after_payload m }) else other)
    (ap (λ (x : Bool). x && padding_fits o.width (some_pending st.pending) (after_payload m)) (sym e)
    ∙ no_padding o.width (some_pending st.pending) m.last_nonempty m)
    ∙ ap (λ (x : Bool). Done bytes (record st { column = after_payload m; within = x }))
    (flag-and st.within ∙ ap (λ (x : Bool). st.within && x) e)
payload_branch o m b st other false e =
    let bytes : List ℕ = (if m.first_nonempty then spaces (gap st.column) else []) ++ b in
    ap (λ (x : Bool). if x then Done bytes (record st { column = after_payload m }) else other)
    (ap (λ (x : Bool). x && padding_fits o.width (some_pending st.pending) (after_payload m)) (sym e))

-- a union in Break lays what its step does
union_runs : (o : RenderOptions) (brk : Breaks) (l r : Tree) (i : ℕ) (ts : List Task) (outer : List Entry) (st : State) →
    and_then (chosen o brk i l r (follow ts ++ outer) st) (λ u. lay_all o brk ts outer u) ≡ step_outcome o brk
    (union_step (decided_by_metrics o l st) l r i st) ts outer st
unfolding lay lay_all
union_runs o brk (MultilineText s) r i ts outer st =
    ap (λ (x : Outcome). and_then x (λ u. lay_all o brk ts outer u))
    (payload_branch o (metrics s) s st (lay o brk r i Break (follow ts ++ outer) st) (payload_fits o (metrics s) st.column) refl)
    ∙ either_runs o brk (MultilineText s) r i Break ts outer st (payload_fits o (metrics s) st.column)
union_runs o brk _ r i ts outer st = refl

-- a node and the tasks after it lay what its step and they lay
pub step_runs : (o : RenderOptions) (brk : Breaks) → Fixed o brk → (d : Tree) (i : ℕ) (m : Mode) (ts : List Task)
    (outer : List Entry) (st : State) →
    lay_all o brk (make_task i m d ∷ ts) outer st ≡ step_outcome o brk (step_of o d i m (follow ts ++ outer) st) ts outer st
unfolding lay lay_all
step_runs o brk fixed Nil i m ts outer st = refl
step_runs o brk fixed Fail i m ts outer st = refl
step_runs o brk fixed (Text s) i m ts outer st = at_once_runs o brk (lay_text o (length s) s st) ts outer st
    (text_at_once o (length s) s st)
step_runs o brk fixed (TextWithLen w s) i m ts outer st = at_once_runs o brk (lay_text o w s st) ts outer st (text_at_once o w s st)
step_runs o brk fixed (MultilineText s) i Break ts outer st = refl
step_runs o brk fixed (MultilineText s) i Flat ts outer st = refl
step_runs o brk fixed WeakSpace i m ts outer st = refl
step_runs o brk fixed HardLine i Break ts outer st =
    ap (λ (x : Outcome). and_then x (λ u. lay_all o brk ts outer u)) (fixed HardLine i Break (follow ts ++ outer) st)
    ∙ break_runs o brk st.pending HardLine i Break ts outer st refl
step_runs o brk fixed HardLine i Flat ts outer st = refl
step_runs o brk fixed WeakLine i m ts outer st =
    ap (λ (x : Outcome). and_then x (λ u. lay_all o brk ts outer u)) (fixed WeakLine i m (follow ts ++ outer) st)
    ∙ break_runs o brk st.pending WeakLine i m ts outer st refl
step_runs o brk fixed (Append l r) i m ts outer st =
    then-then (lay o brk l i m (entry i r ∷ (follow ts ++ outer)) st) (λ u. lay o brk r i m (follow ts ++ outer) u)
    (λ u. lay_all o brk ts outer u)
    ∙ moved o brk (make_task i m l ∷ make_task i m r ∷ ts) outer st
step_runs o brk fixed (LineSuffix d) i m ts outer st = refl
step_runs o brk fixed (Indented how d) i m ts outer st = moved o brk (make_task (indent_by how i st.column) m d ∷ ts) outer st
step_runs o brk fixed ExpandParent i m ts outer st = refl
step_runs o brk fixed (Flatten d) i m ts outer st = moved o brk (make_task i Flat d ∷ ts) outer st
step_runs o brk fixed (BreakOrFlat b f) i Break ts outer st = moved o brk (make_task i Break b ∷ ts) outer st
step_runs o brk fixed (BreakOrFlat b f) i Flat ts outer st = moved o brk (make_task i Flat f ∷ ts) outer st
step_runs o brk fixed (Group d) i m ts outer st =
    moved o brk (make_task i (by_mode m (if probe o d i Flat (follow ts ++ outer) st then Flat else Break) Flat) d ∷ ts) outer st
step_runs o brk fixed (Union l r) i Break ts outer st = union_runs o brk l r i ts outer st
step_runs o brk fixed (Union l r) i Flat ts outer st = moved o brk (make_task i Flat l ∷ ts) outer st
step_runs o brk fixed (PartialUnion l r) i Break ts outer st =
    either_runs o brk l r i Break ts outer st (probe o l i Break (follow ts ++ outer) st)
step_runs o brk fixed (PartialUnion l r) i Flat ts outer st = moved o brk (make_task i Flat l ∷ ts) outer st
step_runs o brk fixed (Chosen test l r) i m ts outer st =
    either_runs o brk l r i m ts outer st (choice_holds test (prospective st.column) i)
