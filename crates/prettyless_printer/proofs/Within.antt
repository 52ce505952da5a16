-- A text past the width: the flag stays down, and a trial is rejected.
use Rattle.std.proofs.Common.{◌≡◌, ℕ, zero, suc, List, [], ◌∷◌, ◌++◌, length, refl, ap, Bool, true, false, ◌&&◌, nat_le, if◌then◌else◌}
use Rattle.prettyless_model.specs.Spaces.{spaces}
use Rattle.prettyless_model.specs.declared.options.RenderOptions.{RenderOptions}
use Rattle.prettyless_model.specs.declared.options.IndentationPolicy.{IndentationPolicy}
use Rattle.prettyless_model.specs.declared.options.IndentationPolicy.TheVariants.{Eager, Deferred}
use Rattle.prettyless_model.specs.Tree.{Tree, Nil, Fail, Text, TextWithLen, MultilineText, WeakSpace, HardLine, WeakLine, Append}
use Rattle.prettyless_model.specs.Tree.{LineSuffix, Indented, ExpandParent, Flatten, BreakOrFlat, Group, Union, PartialUnion, Chosen}
use Rattle.prettyless_model.specs.Metrics.{metrics}
use Rattle.prettyless_model.specs.Indent.{indent_by}
use Rattle.prettyless_model.specs.Choice.{choice_holds}
use Rattle.prettyless_model.specs.Column.{gap, commit, prospective, padding_fits}
use Rattle.prettyless_model.specs.Look.{by_mode}
use Rattle.prettyless_model.specs.Layout.{State, Outcome, Done, Failed, Entry, Breaks, after_bytes, and_then, lay, lay_each, lay_text}
use Rattle.prettyless_model.specs.Layout.{lay_ending, payload_fits, probe, some_pending, accept, in_trial, is_suppressed, flushed, entry}
use Rattle.prettyless_model.specs.Layout.{entries, next_indent, break_with, breaks}
use Rattle.prettyless_model.specs.Levels.{settle, queued}
use Rattle.prettyless_model.specs.declared.mode.Mode.{Mode}
use Rattle.prettyless_model.specs.declared.mode.Mode.TheVariants.{Break, Flat}
use Rattle.prettyless_probe.specs.Stack.{Task, follow}
use Rattle.prettyless_step.specs.Steps.{lay_all}

-- something went past the width, or failed
abbrev pub Past : Outcome → Type 0
Past (Done b st) = st.within ≡ false
Past (Failed b) = Unit {0}

pub past-after : (b : List ℕ) (o : Outcome) → Past o → Past (after_bytes b o)
past-after b (Done c st) h = h
past-after b (Failed c) h = tt

past-then : (o : Outcome) (f : State → Outcome) → Past o → ((u : State) → u.within ≡ false → Past (f u)) → Past (and_then o f)
past-then (Done b st) f h g = past-after b (f st) (g st h)
past-then (Failed b) f h g = tt

past-accept : (o : RenderOptions) (was : Bool) (x other : Outcome) → was ≡ false → Past other → Past (accept o was x other)
past-accept o was (Done b st) other w g =
    elim (st.within && padding_fits o.width (some_pending st.pending) st.column) as
    (λ v. Past (if v then Done b (record st { within = was }) else other)) [ true ↦ w | false ↦ g ]
past-accept o was (Failed b) other w g = g

past-either : (v : Bool) (x y : Outcome) → Past x → Past y → Past (if v then x else y)
past-either true x y h g = h
past-either false x y h g = g

-- a break keeps the flag down
abbrev StaysPast : Breaks → Type 0
StaysPast brk = (d : Tree) (i : ℕ) (m : Mode) (rest : List Entry) (st : State) → st.within ≡ false → Past (brk d i m rest st)

text_past : (o : RenderOptions) (w : ℕ) (s : List ℕ) (st : State) → st.within ≡ false → Past (lay_text o w s st)
text_past o w [] st h = h
text_past o w (b ∷ bs) st h = ap (λ (v : Bool). v && nat_le (commit w st.column).position o.width) h

ending_past : (o : RenderOptions) (p : IndentationPolicy) (k : ℕ) (st : State) → st.within ≡ false → Past (lay_ending o p k st)
ending_past o Eager k st h = h
ending_past o Deferred k st h = h

lay_past : (o : RenderOptions) (brk : Breaks) → StaysPast brk → (d : Tree) (i : ℕ) (m : Mode) (rest : List Entry) (st : State)
    → st.within ≡ false → Past (lay o brk d i m rest st)
unfolding lay
lay_past o brk k Nil i m rest st h = h
lay_past o brk k Fail i m rest st h = tt
lay_past o brk k (Text s) i m rest st h = text_past o (length s) s st h
lay_past o brk k (TextWithLen w s) i m rest st h = text_past o w s st h
lay_past o brk k (MultilineText s) i Break rest st h = ap (λ (v : Bool). v && payload_fits o (metrics s) st.column) h
lay_past o brk k (MultilineText s) i Flat rest st h = tt
lay_past o brk k WeakSpace i m rest st h = h
lay_past o brk k HardLine i Break rest st h = k HardLine i Break rest st h
lay_past o brk k HardLine i Flat rest st h = tt
lay_past o brk k WeakLine i m rest st h = k WeakLine i m rest st h
lay_past o brk k (Append l r) i m rest st h =
    past-then (lay o brk l i m (entry i r ∷ rest) st) (λ u. lay o brk r i m rest u) (lay_past o brk k l i m (entry i r ∷ rest) st h)
    (λ u q. lay_past o brk k r i m rest u q)
lay_past o brk k (LineSuffix d) i m rest st h = h
lay_past o brk k (Indented how d) i m rest st h = lay_past o brk k d (indent_by how i st.column) m rest st h
lay_past o brk k ExpandParent i m rest st h = h
lay_past o brk k (Flatten d) i m rest st h = lay_past o brk k d i Flat rest st h
lay_past o brk k (BreakOrFlat b f) i Break rest st h = lay_past o brk k b i Break rest st h
lay_past o brk k (BreakOrFlat b f) i Flat rest st h = lay_past o brk k f i Flat rest st h
lay_past o brk k (Group d) i m rest st h =
    lay_past o brk k d i (by_mode m (if probe o d i Flat rest st then Flat else Break) Flat) rest st h
lay_past o brk k (Union l r) i Break rest st h =
    past-accept o st.within (lay o brk l i Break rest (in_trial st)) (lay o brk r i Break rest st) h (lay_past o brk k r i Break rest st h)
lay_past o brk k (Union l r) i Flat rest st h = lay_past o brk k l i Flat rest st h
lay_past o brk k (PartialUnion l r) i Break rest st h =
    past-either (probe o l i Break rest st) (lay o brk l i Break rest st) (lay o brk r i Break rest st)
    (lay_past o brk k l i Break rest st h) (lay_past o brk k r i Break rest st h)
lay_past o brk k (PartialUnion l r) i Flat rest st h = lay_past o brk k l i Flat rest st h
lay_past o brk k (Chosen test l r) i m rest st h =
    past-either (choice_holds test (prospective st.column) i) (lay o brk l i m rest st) (lay o brk r i m rest st)
    (lay_past o brk k l i m rest st h) (lay_past o brk k r i m rest st h)

each_past : (o : RenderOptions) (brk : Breaks) → StaysPast brk → (ds : List Tree) (i : ℕ) (m : Mode) (rest : List Entry) (st : State)
    → st.within ≡ false → Past (lay_each o brk ds i m rest st)
unfolding lay_each
each_past o brk k [] i m rest st h = h
each_past o brk k (d ∷ ds) i m rest st h =
    past-then (lay o brk d i m (entries i ds ++ rest) st) (λ u. lay_each o brk ds i m rest u)
    (lay_past o brk k d i m (entries i ds ++ rest) st h) (λ u q. each_past o brk k ds i m rest u q)

break_past : (o : RenderOptions) (brk : Breaks) → StaysPast brk → (ps : List Tree) (d : Tree) (i : ℕ) (m : Mode) (rest : List Entry)
    (st : State) → st.within ≡ false → Past (break_with o brk ps d i m rest st)
break_past o brk k [] d i m rest st h =
    past-either (is_suppressed d st.column) (Done [] st) (lay_ending o o.indentation_policy (next_indent i rest) st) h
    (ending_past o o.indentation_policy (next_indent i rest) st h)
break_past o brk k (p ∷ ps) d i m rest st h =
    past-after (spaces (gap st.column)) (and_then (lay_each o brk (p ∷ ps) i m (entry i d ∷ rest) (flushed o st)) (brk d i m rest))
    (past-then (lay_each o brk (p ∷ ps) i m (entry i d ∷ rest) (flushed o st)) (brk d i m rest)
    (each_past o brk k (p ∷ ps) i m (entry i d ∷ rest) (flushed o st) (ap (λ (v : Bool). v && padding_fits o.width true st.column) h))
    (λ u q. k d i m rest u q))

breaks_past : (o : RenderOptions) (n : ℕ) → StaysPast (breaks o n)
unfolding breaks
breaks_past o zero = λ d i m rest st h. tt
breaks_past o (suc n) = λ d i m rest st h. break_past o (breaks o n) (breaks_past o n) st.pending d i m rest st h

settle_past : (o : RenderOptions) → StaysPast (settle o)
unfolding settle
settle_past o = λ d i m rest st h. breaks_past o (suc (queued st.pending)) d i m rest st h

pub all_past : (o : RenderOptions) (ts : List Task) (outer : List Entry) (st : State) → st.within ≡ false
    → Past (lay_all o (settle o) ts outer st)
unfolding lay_all
all_past o [] outer st h = h
all_past o (t ∷ ts) outer st h =
    past-then (lay o (settle o) t.tree t.indent t.mode (follow ts ++ outer) st) (λ u. lay_all o (settle o) ts outer u)
    (lay_past o (settle o) (settle_past o) t.tree t.indent t.mode (follow ts ++ outer) st h) (λ u q. all_past o ts outer u q)

-- what went past the width is rejected
pub accept_past : (o : RenderOptions) (was : Bool) (x other : Outcome) → Past x → accept o was x other ≡ other
accept_past o was (Done b st) other h =
    ap (λ (v : Bool). if v && padding_fits o.width (some_pending st.pending) st.column
    then Done b (record st { within = was }) else other) h
accept_past o was (Failed b) other h = refl
