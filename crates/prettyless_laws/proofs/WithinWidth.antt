-- The law of widths: what is laid in a flat group, or in a branch that a union kept, stays within the width.
use Rattle.std.proofs.Common.{◌≡◌, ℕ, zero, suc, ◌+◌, ◌≤◌, List, [], ◌∷◌, ◌++◌, length, map, refl, ap, sym, subst, ◌∙◌, arith}
use Rattle.std.proofs.Common.{Bool, true, false, not, ◌&&◌, nat_le, if◌then◌else◌, ◌⊎◌, inl, inr}
use Rattle.std.specs.Prelude.{All, ⊤}
use Rattle.std.proofs.lemmas.Bool.{and_parts, leb-true}
use Rattle.std.proofs.lemmas.List.Elements.{All-nil, All-cons, All-append, All-map, All-weaker}
use Rattle.prettyless_model.specs.declared.options.RenderOptions.{RenderOptions}
use Rattle.prettyless_model.specs.declared.options.IndentationPolicy.{IndentationPolicy}
use Rattle.prettyless_model.specs.declared.options.IndentationPolicy.TheVariants.{Eager, Deferred}
use Rattle.prettyless_model.specs.Tree.{Tree, Nil, Fail, Text, TextWithLen, MultilineText, WeakSpace, HardLine, WeakLine, ExpandParent}
use Rattle.prettyless_model.specs.Tree.{Append, LineSuffix, Indented, Flatten, BreakOrFlat, Group, Union, PartialUnion, Chosen, size}
use Rattle.prettyless_model.specs.Metrics.{metrics}
use Rattle.prettyless_model.specs.Choice.{choice_holds}
use Rattle.prettyless_model.specs.Column.{commit, prospective, padding_fits}
use Rattle.prettyless_model.specs.Indent.{indent_by}
use Rattle.prettyless_model.specs.Look.{answer_of, look, look_text}
use Rattle.prettyless_model.specs.Layout.{State, Entry, entry, entries, some_pending, probe, rest_fits, in_trial, flushed, initial}
use Rattle.prettyless_model.specs.Layout.{is_suppressed, next_indent}
use Rattle.prettyless_model.specs.declared.column.Column.{Column}
use Rattle.prettyless_model.specs.declared.metrics.Metrics.{Metrics}
use Rattle.prettyless_model.specs.declared.mode.Mode.{Mode}
use Rattle.prettyless_model.specs.declared.mode.Mode.TheVariants.{Break, Flat}
use Rattle.prettyless_model.proofs.Looks.{answer-then}
use Rattle.prettyless_laws.specs.Trace as traces
use Rattle.prettyless_laws.specs.Trace.{Piece, Ending, Indent, Gap, Source, Alternative, Side, First, Second, Tracing, Traced, Stopped}
use Rattle.prettyless_laws.specs.Trace.{trace_text, trace_payload, trace_ending, trace_plain_break}
use Rattle.prettyless_laws.specs.FlatLines.{IsOnOneLine}
use Rattle.prettyless_laws.specs.Enclosed.{Enclosure, KeptBranch, FlatGroup, BrokenGroup, Flattened, Enclosed, EnclosedTracing}
use Rattle.prettyless_laws.specs.Enclosed.{TracedIn, StoppedIn, EnclosedBreaks, enclosed_alone, bare_trace, put_in, laid_in, after_enclosed}
use Rattle.prettyless_laws.specs.Enclosed.{enclosed_then, enclosed_choice, enclosed_accept}
use Rattle.prettyless_laws.specs.Enclosed.{enclosed_at, enclosed_each, enclosed_pending, enclosed_break_with, enclosed_breaks}
use Rattle.prettyless_laws.specs.Enclosed.{enclosed_end_with, enclosed_finish, enclosed_by, enclosed_trace, enclosed_pieces}
use Rattle.prettyless_laws.specs.Width.{IsInFlatGroup, IsInKeptBranch, GroupsAreBroken, EndsPast}
use Rattle.prettyless_laws.proofs.FlatLines.{only_on, none_pending, some_pending-more}

-- ---- what holds of each piece of a trace

abbrev Each : (Enclosed → Type 0) → EnclosedTracing → Type 0
Each P (TracedIn ps st) = All P ps
Each P (StoppedIn ps) = All P ps

each_bare : (P : Enclosed → Type 0) → ((p : Piece) → P (enclosed_alone p)) → (x : Tracing) → Each P (bare_trace x)
each_bare P f (Traced ps st) = All-map P enclosed_alone ps (λ k d l. f _)
each_bare P f (Stopped ps) = All-map P enclosed_alone ps (λ k d l. f _)

each_laid : (P Q : Enclosed → Type 0) (e : Enclosure) → ((p : Enclosed) → P p → Q (put_in e p)) → (x : EnclosedTracing) → Each P x
    → Each Q (laid_in e x)
each_laid P Q e f (TracedIn ps st) h = All-map Q (put_in e) ps (All-weaker P (λ p. Q (put_in e p)) f ps h)
each_laid P Q e f (StoppedIn ps) h = All-map Q (put_in e) ps (All-weaker P (λ p. Q (put_in e p)) f ps h)

each_after : (P : Enclosed → Type 0) (ps : List Enclosed) (x : EnclosedTracing) → All P ps → Each P x → Each P (after_enclosed ps x)
each_after P ps (TracedIn qs st) h k = All-append P ps qs h k
each_after P ps (StoppedIn qs) h k = All-append P ps qs h k

each_then : (P : Enclosed → Type 0) (x : EnclosedTracing) (f : State → EnclosedTracing) → Each P x → ((u : State) → Each P (f u))
    → Each P (enclosed_then x f)
each_then P (TracedIn ps st) f h k = each_after P ps (f st) h (k st)
each_then P (StoppedIn ps) f h k = h

each_one : (P : Enclosed → Type 0) → ((p : Piece) → P (enclosed_alone p)) → (p : Piece) (x : EnclosedTracing) → Each P x
    → Each P (after_enclosed (enclosed_alone p ∷ []) x)
each_one P f p x h = each_after P (enclosed_alone p ∷ []) x (All-cons P (enclosed_alone p) [] (f p) (All-nil P)) h

each_either : (P : Enclosed → Type 0) → ((p : Piece) → P (enclosed_alone p)) → (t : Bool) (x y : EnclosedTracing) → (t ≡ true
    → Each P x) → Each P y
    → Each P (if t then enclosed_choice First x else enclosed_choice Second y)
each_either P f true x y h k = each_one P f (Alternative First) x (h refl)
each_either P f false x y h k = each_one P f (Alternative Second) y k

-- ---- flat lines that fit

-- the piece stays on its line, and within the width
abbrev IsOnLine : ℕ → Enclosed → Type 0
IsOnLine width p = IsOnOneLine width p.piece

-- the pieces stay on their line, and with what follows the look still answers yes
abbrev StaysOnLine : ℕ → (Column → Bool → Bool) → EnclosedTracing → Type 0
StaysOnLine width next (TracedIn ps u) =
    All (IsOnLine width) ps × (next u.column (some_pending u.pending) ≡ true)
StaysOnLine width next (StoppedIn ps) = All (IsOnLine width) ps

-- a break that leaves out a weak line where the line is fresh and nothing is pending, if it has levels
pub record LeavesOutWeakLines (brk : EnclosedBreaks) : Type 0 where
  pub leaves_out : (i : ℕ) (rest : List Entry) (st : State) → st.pending ≡ [] → st.column.fresh ≡ true
      → (brk WeakLine i Flat rest st ≡ TracedIn [] st) ⊎ (brk WeakLine i Flat rest st ≡ StoppedIn [])

stays_none : (width : ℕ) → All (IsOnLine width) []
stays_none width = All-nil (IsOnLine width)

stays_text : (o : RenderOptions) (w : ℕ) (s : List ℕ) (next : Column → Bool → Bool) (st : State)
    → answer_of (look_text o.width w s st.column (some_pending st.pending)) next ≡ true
    → StaysOnLine o.width next (bare_trace (trace_text o w s st))
stays_text o w [] next st h = (stays_none o.width, h)
stays_text o w (b ∷ bs) next st h =
    let parts = only_on (nat_le (commit w st.column).position o.width) (commit w st.column) (some_pending st.pending) next h in
    let text = traces.Text (b ∷ bs) (commit w st.column).position in (
      All-cons (IsOnLine o.width) (enclosed_alone (Gap st.column.padding)) (enclosed_alone text ∷ []) tt
          (All-cons (IsOnLine o.width) (enclosed_alone text) [] (leb-true _ _ parts.0) (stays_none o.width)),
      parts.1,
    )

stays_laid : (width : ℕ) (next : Column → Bool → Bool) (e : Enclosure) (x : EnclosedTracing) → StaysOnLine width next x
    → StaysOnLine width next (laid_in e x)
stays_laid width next e (TracedIn ps u) h = (All-map (IsOnLine width) (put_in e) ps h.0, h.1)
stays_laid width next e (StoppedIn ps) h = All-map (IsOnLine width) (put_in e) ps h

stays_after : (width : ℕ) (next : Column → Bool → Bool) (ps : List Enclosed) (x : EnclosedTracing)
    → All (IsOnLine width) ps → StaysOnLine width next x → StaysOnLine width next (after_enclosed ps x)
stays_after width next ps (TracedIn qs u) h k = (All-append (IsOnLine width) ps qs h k.0, k.1)
stays_after width next ps (StoppedIn qs) h k = All-append (IsOnLine width) ps qs h k

stays_then : (width : ℕ) (mid next : Column → Bool → Bool) (x : EnclosedTracing) (f : State → EnclosedTracing) → StaysOnLine width mid x
    → ((u : State) → mid u.column (some_pending u.pending) ≡ true → StaysOnLine width next (f u))
    → StaysOnLine width next (enclosed_then x f)
stays_then width mid next (TracedIn ps u) f h k = stays_after width next ps (f u) h.0 (k u h.1)
stays_then width mid next (StoppedIn ps) f h k = h

stays_noted : (width : ℕ) (next : Column → Bool → Bool) (side : Side) (x : EnclosedTracing) → StaysOnLine width next x
    → StaysOnLine width next (enclosed_choice side x)
stays_noted width next side x h =
    stays_after width next (enclosed_alone (Alternative side) ∷ []) x
    (All-cons (IsOnLine width) (enclosed_alone (Alternative side)) [] tt (stays_none width)) h

-- one of two documents by a test
stays_choice : (o : RenderOptions) (brk : EnclosedBreaks) (y n : Tree) (i : ℕ) (next : Column → Bool → Bool) (rest : List Entry)
    (st : State) (t : Bool)
    → answer_of (if t then look o.width y i Flat st.column (some_pending st.pending) else look o.width n i Flat st.column
    (some_pending st.pending)) next ≡ true
    → (answer_of (look o.width y i Flat st.column (some_pending st.pending)) next ≡ true
    → StaysOnLine o.width next (enclosed_at o brk y i Flat rest st))
    → (answer_of (look o.width n i Flat st.column (some_pending st.pending)) next ≡ true
    → StaysOnLine o.width next (enclosed_at o brk n i Flat rest st))
    → StaysOnLine o.width next (if t then enclosed_choice First (enclosed_at o brk y i Flat rest st) else enclosed_choice Second
    (enclosed_at o brk n i Flat rest st))
stays_choice o brk y n i next rest st true h f g = stays_noted o.width next First (enclosed_at o brk y i Flat rest st) (f h)
stays_choice o brk y n i next rest st false h f g = stays_noted o.width next Second (enclosed_at o brk n i Flat rest st) (g h)

stays_weak : (o : RenderOptions) (next : Column → Bool → Bool) (x : EnclosedTracing) (st : State)
    → next st.column (some_pending st.pending) ≡ true → (x ≡ TracedIn [] st) ⊎ (x ≡ StoppedIn []) → StaysOnLine o.width next x
stays_weak o next x st h (inl e) = subst (StaysOnLine o.width next) (sym e) (stays_none o.width, h)
stays_weak o next x st h (inr e) = subst (StaysOnLine o.width next) (sym e) (stays_none o.width)

flat_stays : (o : RenderOptions) {brk : EnclosedBreaks} → LeavesOutWeakLines brk
    → (d : Tree) (i : ℕ) (next : Column → Bool → Bool) (rest : List Entry) (st : State)
    → answer_of (look o.width d i Flat st.column (some_pending st.pending)) next ≡ true
    → StaysOnLine o.width next (enclosed_at o brk d i Flat rest st)
unfolding enclosed_at
flat_stays o k Nil i next rest st h = (stays_none o.width, h)
flat_stays o k Fail i next rest st h = stays_none o.width
flat_stays o k (Text s) i next rest st h = stays_text o (length s) s next st h
flat_stays o k (TextWithLen w s) i next rest st h = stays_text o w s next st h
flat_stays o k (MultilineText s) i next rest st h = stays_none o.width
flat_stays o k WeakSpace i next rest st h = (stays_none o.width, h)
flat_stays o k HardLine i next rest st h = stays_none o.width
flat_stays o {brk} k WeakLine i next rest st h =
    let taken = only_on (st.column.fresh && not (some_pending st.pending)) st.column (some_pending st.pending) next h in
    let parts = and_parts _ _ taken.0 in
    stays_weak o next (brk WeakLine i Flat rest st) st taken.1
    (k.leaves_out i rest st (none_pending st.pending parts.1) parts.0)
flat_stays o k ExpandParent i next rest st h = absurd (cc)
flat_stays o {brk} k (Append l r) i next rest st h =
    stays_then o.width (λ e q. answer_of (look o.width r i Flat e q) next) next (enclosed_at o brk l i Flat (entry i r ∷ rest) st)
    (λ u. enclosed_at o brk r i Flat rest u)
    (flat_stays o k l i (λ e q. answer_of (look o.width r i Flat e q) next) (entry i r ∷ rest) st
    (sym (answer-then (look o.width l i Flat st.column (some_pending st.pending)) (λ e q. look o.width r i Flat e q) next) ∙ h))
    (λ u e. flat_stays o k r i next rest u e)
flat_stays o k (LineSuffix d) i next rest st h = (stays_none o.width, rw (some_pending-more st.pending d) h)
flat_stays o k (Indented how d) i next rest st h = flat_stays o k d (indent_by how i st.column) next rest st h
flat_stays o {brk} k (Flatten d) i next rest st h =
    stays_laid o.width next Flattened (enclosed_at o brk d i Flat rest st) (flat_stays o k d i next rest st h)
flat_stays o k (BreakOrFlat b f) i next rest st h = flat_stays o k f i next rest st h
flat_stays o {brk} k (Group d) i next rest st h =
    stays_laid o.width next FlatGroup (enclosed_at o brk d i Flat rest st) (flat_stays o k d i next rest st h)
flat_stays o k (Union l r) i next rest st h = flat_stays o k l i next rest st h
flat_stays o k (PartialUnion l r) i next rest st h = flat_stays o k l i next rest st h
flat_stays o {brk} k (Chosen test y n) i next rest st h =
    stays_choice o brk y n i next rest st (choice_holds test (prospective st.column) i) h (flat_stays o k y i next rest st)
    (flat_stays o k n i next rest st)

-- ---- branches that are kept

-- the piece is no text past the width
abbrev IsWithin : ℕ → Enclosed → Type 0
IsWithin width p = EndsPast width p.piece → ⊥

-- where the flag is set after a trace from a state, it was set there, and no text ended past the width
abbrev Keeps : ℕ → State → EnclosedTracing → Type 0
Keeps width st (TracedIn ps u) = u.within ≡ true → (st.within ≡ true) × All (IsWithin width) ps
Keeps width st (StoppedIn ps) = ⊤

-- the same of a break
pub record BreaksKeep (width : ℕ) (brk : EnclosedBreaks) : Type 0 where
  pub keeps : (d : Tree) (i : ℕ) (m : Mode) (rest : List Entry) (st : State) → Keeps width st (brk d i m rest st)

none_within : (width : ℕ) → All (IsWithin width) []
none_within width = All-nil (IsWithin width)

keeps_text : (o : RenderOptions) (w : ℕ) (s : List ℕ) (st : State) → Keeps o.width st (bare_trace (trace_text o w s st))
keeps_text o w [] st = λ e. (e, none_within o.width)
keeps_text o w (b ∷ bs) st = λ e.
    let parts = and_parts _ _ e in
    let below : (commit w st.column).position ≤ o.width = leb-true _ _ parts.1 in
    let text = traces.Text (b ∷ bs) (commit w st.column).position in (
      parts.0,
      All-cons (IsWithin o.width) (enclosed_alone (Gap st.column.padding)) (enclosed_alone text ∷ []) (λ n. n)
          (All-cons (IsWithin o.width) (enclosed_alone text) [] (λ n. omega (arith, n, below)) (none_within o.width)),
    )

payload_within : (width g : ℕ) (s : List ℕ) (b : Bool)
    → All (IsWithin width) (map enclosed_alone ((if b then Gap g ∷ [] else []) ++ (Source s ∷ [])))
payload_within width g s true =
    All-cons (IsWithin width) (enclosed_alone (Gap g)) (enclosed_alone (Source s) ∷ []) (λ n. n)
    (All-cons (IsWithin width) (enclosed_alone (Source s)) [] (λ n. n) (none_within width))
payload_within width g s false = All-cons (IsWithin width) (enclosed_alone (Source s)) [] (λ n. n) (none_within width)

keeps_payload : (o : RenderOptions) (m : Metrics) (s : List ℕ) (st : State) → Keeps o.width st (bare_trace (trace_payload o m s st))
keeps_payload o m s st = λ e. ((and_parts _ _ e).0, payload_within o.width st.column.padding s m.first_nonempty)

keeps_ending : (width : ℕ) (policy : IndentationPolicy) (k : ℕ) (st : State) → Keeps width st (bare_trace (trace_ending policy k st))
keeps_ending width Eager k st = λ e. (
  e,
  All-cons (IsWithin width) (enclosed_alone Ending) (enclosed_alone (Indent k false) ∷ []) (λ n. n)
      (All-cons (IsWithin width) (enclosed_alone (Indent k false)) [] (λ n. n) (none_within width)),
)
keeps_ending width Deferred k st = λ e. (
  e,
  All-cons (IsWithin width) (enclosed_alone Ending) (enclosed_alone (Indent k false) ∷ []) (λ n. n)
      (All-cons (IsWithin width) (enclosed_alone (Indent k false)) [] (λ n. n) (none_within width)),
)

keeps_skip : (o : RenderOptions) (k : ℕ) (st : State) (t : Bool)
    → Keeps o.width st (bare_trace (if t then Traced [] st else trace_ending o.indentation_policy k st))
keeps_skip o k st true = λ e. (e, none_within o.width)
keeps_skip o k st false = keeps_ending o.width o.indentation_policy k st

keeps_laid : (width : ℕ) (st : State) (e : Enclosure) (x : EnclosedTracing) → Keeps width st x → Keeps width st (laid_in e x)
keeps_laid width st e (TracedIn ps u) h = λ n. let x = h n in (x.0, All-map (IsWithin width) (put_in e) ps x.1)
keeps_laid width st e (StoppedIn ps) h = tt

keeps_after : (width : ℕ) (st u : State) (ps : List Enclosed) (x : EnclosedTracing)
    → (u.within ≡ true → (st.within ≡ true) × All (IsWithin width) ps) → Keeps width u x → Keeps width st (after_enclosed ps x)
keeps_after width st u ps (TracedIn qs v) h k = λ n.
    let y = k n in
    let x = h y.0 in
    (x.0, All-append (IsWithin width) ps qs x.1 y.1)
keeps_after width st u ps (StoppedIn qs) h k = tt

keeps_then : (width : ℕ) (st : State) (x : EnclosedTracing) (f : State → EnclosedTracing) → Keeps width st x
    → ((u : State) → Keeps width u (f u)) → Keeps width st (enclosed_then x f)
keeps_then width st (TracedIn ps u) f h k = keeps_after width st u ps (f u) h (k u)
keeps_then width st (StoppedIn ps) f h k = tt

-- a piece that is no text before a trace
keeps_one : (width : ℕ) (st : State) (p : Piece) (x : EnclosedTracing) → (EndsPast width p → ⊥) → Keeps width st x
    → Keeps width st (after_enclosed (enclosed_alone p ∷ []) x)
keeps_one width st p x n h =
    keeps_after width st st (enclosed_alone p ∷ []) x (λ e. (e, All-cons (IsWithin width) (enclosed_alone p) [] n (none_within width))) h

keeps_either : (width : ℕ) (st : State) (t : Bool) (x y : EnclosedTracing) → (t ≡ true → Keeps width st x) → Keeps width st y
    → Keeps width st (if t then enclosed_choice First x else enclosed_choice Second y)
keeps_either width st true x y h k = keeps_one width st (Alternative First) x (λ n. n) (h refl)
keeps_either width st false x y h k = keeps_one width st (Alternative Second) y (λ n. n) k

keeps_accept : (o : RenderOptions) (st : State) (x y : EnclosedTracing) → Keeps o.width (in_trial st) x → Keeps o.width st y
    → Keeps o.width st (enclosed_accept o st.within x y)
keeps_accept o st (TracedIn ps u) y h k =
    keeps_either o.width st (u.within && padding_fits o.width (some_pending u.pending) u.column)
    (laid_in KeptBranch (TracedIn ps (record u { within = st.within }))) y
    (λ e. keeps_laid o.width st KeptBranch (TracedIn ps (record u { within = st.within })) (λ n. (n, (h (and_parts _ _ e).0).1))) k
keeps_accept o st (StoppedIn ps) y h k = keeps_one o.width st (Alternative Second) y (λ n. n) k

keeps_at : (o : RenderOptions) {brk : EnclosedBreaks} → BreaksKeep o.width brk
    → (d : Tree) (i : ℕ) (m : Mode) (rest : List Entry) (st : State) → Keeps o.width st (enclosed_at o brk d i m rest st)
unfolding enclosed_at
keeps_at o g Fail i m rest st = tt
keeps_at o g (Text s) i m rest st = keeps_text o (length s) s st
keeps_at o g (TextWithLen w s) i m rest st = keeps_text o w s st
keeps_at o g (MultilineText s) i Break rest st = keeps_payload o (metrics s) s st
keeps_at o g (MultilineText s) i Flat rest st = tt
keeps_at o g HardLine i Break rest st = g.keeps HardLine i Break rest st
keeps_at o g HardLine i Flat rest st = tt
keeps_at o g WeakLine i m rest st = g.keeps WeakLine i m rest st
keeps_at o {brk} g (Append l r) i m rest st =
    keeps_then o.width st (enclosed_at o brk l i m (entry i r ∷ rest) st) (λ u. enclosed_at o brk r i m rest u)
    (keeps_at o g l i m (entry i r ∷ rest) st) (keeps_at o g r i m rest)
keeps_at o g (Indented how d) i m rest st = keeps_at o g d (indent_by how i st.column) m rest st
keeps_at o {brk} g (Flatten d) i m rest st =
    keeps_laid o.width st Flattened (enclosed_at o brk d i Flat rest st) (keeps_at o g d i Flat rest st)
keeps_at o g (BreakOrFlat b f) i Break rest st = keeps_at o g b i Break rest st
keeps_at o g (BreakOrFlat b f) i Flat rest st = keeps_at o g f i Flat rest st
keeps_at o {brk} g (Group d) i Break rest st =
    keeps_either o.width st (probe o d i Flat rest st) (laid_in FlatGroup (enclosed_at o brk d i Flat rest st))
    (laid_in BrokenGroup (enclosed_at o brk d i Break rest st))
    (λ e. keeps_laid o.width st FlatGroup (enclosed_at o brk d i Flat rest st) (keeps_at o g d i Flat rest st))
    (keeps_laid o.width st BrokenGroup (enclosed_at o brk d i Break rest st) (keeps_at o g d i Break rest st))
keeps_at o {brk} g (Group d) i Flat rest st =
    keeps_laid o.width st FlatGroup (enclosed_at o brk d i Flat rest st) (keeps_at o g d i Flat rest st)
keeps_at o {brk} g (Union l r) i Break rest st =
    keeps_accept o st (enclosed_at o brk l i Break rest (in_trial st)) (enclosed_at o brk r i Break rest st)
    (keeps_at o g l i Break rest (in_trial st)) (keeps_at o g r i Break rest st)
keeps_at o g (Union l r) i Flat rest st = keeps_at o g l i Flat rest st
keeps_at o {brk} g (PartialUnion l r) i Break rest st =
    keeps_either o.width st (probe o l i Break rest st) (enclosed_at o brk l i Break rest st) (enclosed_at o brk r i Break rest st)
    (λ e. keeps_at o g l i Break rest st) (keeps_at o g r i Break rest st)
keeps_at o g (PartialUnion l r) i Flat rest st = keeps_at o g l i Flat rest st
keeps_at o {brk} g (Chosen test y n) i m rest st =
    keeps_either o.width st (choice_holds test (prospective st.column) i) (enclosed_at o brk y i m rest st)
    (enclosed_at o brk n i m rest st)
    (λ e. keeps_at o g y i m rest st) (keeps_at o g n i m rest st)
-- every other node lays no piece
keeps_at o g _ i m rest st = λ e. (e, none_within o.width)

keeps_each : (o : RenderOptions) {brk : EnclosedBreaks} → BreaksKeep o.width brk
    → (ds : List Tree) (i : ℕ) (m : Mode) (rest : List Entry) (st : State) → Keeps o.width st (enclosed_each o brk ds i m rest st)
unfolding enclosed_each
keeps_each o g [] i m rest st = λ e. (e, none_within o.width)
keeps_each o {brk} g (d ∷ ds) i m rest st =
    keeps_then o.width st (enclosed_at o brk d i m (entries i ds ++ rest) st) (λ u. enclosed_each o brk ds i m rest u)
    (keeps_at o g d i m (entries i ds ++ rest) st) (keeps_each o g ds i m rest)

keeps_flush : (o : RenderOptions) (st : State) (x : EnclosedTracing) → Keeps o.width (flushed o st) x → Keeps o.width st x
keeps_flush o st (TracedIn ps u) h = λ n. let x = h n in ((and_parts _ _ x.0).0, x.1)
keeps_flush o st (StoppedIn ps) h = tt

keeps_break : (o : RenderOptions) {brk : EnclosedBreaks} → BreaksKeep o.width brk
    → (ps : List Tree) (d : Tree) (i : ℕ) (m : Mode) (rest : List Entry) (st : State)
    → Keeps o.width st (enclosed_break_with o brk ps d i m rest st)
keeps_break o g [] d i m rest st = keeps_skip o (next_indent i rest) st (is_suppressed d st.column)
keeps_break o {brk} g (p ∷ ps) d i m rest st =
    let x = enclosed_then (enclosed_each o brk (p ∷ ps) i m (entry i d ∷ rest) (flushed o st)) (brk d i m rest) in
    keeps_one o.width st (Gap st.column.padding) x (λ n. n)
    (keeps_flush o st x
    (keeps_then o.width (flushed o st) (enclosed_each o brk (p ∷ ps) i m (entry i d ∷ rest) (flushed o st)) (brk d i m rest)
    (keeps_each o g (p ∷ ps) i m (entry i d ∷ rest) (flushed o st)) (g.keeps d i m rest)))

breaks_keep : (o : RenderOptions) (n : ℕ) → BreaksKeep o.width (enclosed_breaks o n)
unfolding enclosed_breaks
breaks_keep o zero = record { keeps = λ d i m rest st. tt }
breaks_keep o (suc n) = record { keeps = λ d i m rest st. keeps_break o (breaks_keep o n) st.pending d i m rest st }

-- ---- any document

-- in Break both laws hold of the piece; in Flat the one of branches that are kept
abbrev Holds : ℕ → Mode → Enclosed → Type 0
Holds width Break p = (IsInFlatGroup p.around → IsOnOneLine width p.piece) × (IsInKeptBranch p.around → IsWithin width p)
Holds width Flat p = IsInKeptBranch p.around → IsWithin width p

-- a break whose pieces are such
pub record BreaksHold (width : ℕ) (brk : EnclosedBreaks) : Type 0 where
  pub leaves : LeavesOutWeakLines brk
  pub keep : BreaksKeep width brk
  pub holds : (d : Tree) (i : ℕ) (m : Mode) (rest : List Entry) (st : State) → Each (Holds width m) (brk d i m rest st)

bare_holds : (width : ℕ) (m : Mode) (p : Piece) → Holds width m (enclosed_alone p)
bare_holds width Break p = (λ n. absurd n, λ n. absurd n)
bare_holds width Flat p = λ n. absurd n

none_holds : (width : ℕ) (m : Mode) → All (Holds width m) []
none_holds width m = All-nil (Holds width m)

flattened_holds : (width : ℕ) (m : Mode) (x : EnclosedTracing) → Each (Holds width Flat) x → Each (Holds width m) (laid_in Flattened x)
flattened_holds width Break x h =
    each_laid (Holds width Flat) (Holds width Break) Flattened (λ p k. (λ n. absurd n, k)) x h
flattened_holds width Flat x h = each_laid (Holds width Flat) (Holds width Flat) Flattened (λ p k. k) x h

each_both : (P Q R : Enclosed → Type 0) → ((p : Enclosed) → P p → Q p → R p) → (ps : List Enclosed) → All P ps → All Q ps → All R ps
each_both P Q R f ps h k = λ n d l. f _ (h n d l) (k n d l)

-- a flat group whose pieces stay on their line
fitting_holds : (width : ℕ) (next : Column → Bool → Bool) (x : EnclosedTracing) → StaysOnLine width next x → Each (Holds width Flat) x
    → Each (Holds width Break) (laid_in FlatGroup x)
fitting_holds width next (TracedIn ps u) h k =
    All-map (Holds width Break) (put_in FlatGroup) ps
    (each_both (IsOnLine width) (Holds width Flat) (λ p. Holds width Break (put_in FlatGroup p))
    (λ p a b. (λ n. a, b)) ps h.0 k)
fitting_holds width next (StoppedIn ps) h k =
    All-map (Holds width Break) (put_in FlatGroup) ps
    (each_both (IsOnLine width) (Holds width Flat) (λ p. Holds width Break (put_in FlatGroup p))
    (λ p a b. (λ n. a, b)) ps h k)

accept_holds : (o : RenderOptions) (st : State) (x y : EnclosedTracing) → Keeps o.width (in_trial st) x → Each (Holds o.width Break) x
    → Each (Holds o.width Break) y → Each (Holds o.width Break) (enclosed_accept o st.within x y)
accept_holds o st (TracedIn ps u) y h k g =
    each_either (Holds o.width Break) (bare_holds o.width Break) (u.within && padding_fits o.width (some_pending u.pending) u.column)
    (laid_in KeptBranch (TracedIn ps (record u { within = st.within }))) y
    (λ e. All-map (Holds o.width Break) (put_in KeptBranch) ps
    (each_both (IsWithin o.width) (Holds o.width Break) (λ p. Holds o.width Break (put_in KeptBranch p))
    (λ p a b. (b.0, λ n. a)) ps (h (and_parts _ _ e).0).1 k)) g
accept_holds o st (StoppedIn ps) y h k g =
    each_one (Holds o.width Break) (bare_holds o.width Break) (Alternative Second) y g

holds_at : (o : RenderOptions) {brk : EnclosedBreaks} → BreaksHold o.width brk
    → (d : Tree) (i : ℕ) (m : Mode) (rest : List Entry) (st : State) → Each (Holds o.width m) (enclosed_at o brk d i m rest st)
unfolding enclosed_at
holds_at o g (Text s) i m rest st = each_bare (Holds o.width m) (bare_holds o.width m) (trace_text o (length s) s st)
holds_at o g (TextWithLen w s) i m rest st = each_bare (Holds o.width m) (bare_holds o.width m) (trace_text o w s st)
holds_at o g (MultilineText s) i Break rest st =
    each_bare (Holds o.width Break) (bare_holds o.width Break) (trace_payload o (metrics s) s st)
holds_at o g (MultilineText s) i Flat rest st = none_holds o.width Flat
holds_at o g HardLine i Break rest st = g.holds HardLine i Break rest st
holds_at o g HardLine i Flat rest st = none_holds o.width Flat
holds_at o g WeakLine i m rest st = g.holds WeakLine i m rest st
holds_at o {brk} g (Append l r) i m rest st =
    each_then (Holds o.width m) (enclosed_at o brk l i m (entry i r ∷ rest) st) (λ u. enclosed_at o brk r i m rest u)
    (holds_at o g l i m (entry i r ∷ rest) st) (holds_at o g r i m rest)
holds_at o g (Indented how d) i m rest st = holds_at o g d (indent_by how i st.column) m rest st
holds_at o {brk} g (Flatten d) i m rest st = flattened_holds o.width m (enclosed_at o brk d i Flat rest st) (holds_at o g d i Flat rest st)
holds_at o g (BreakOrFlat b f) i Break rest st = holds_at o g b i Break rest st
holds_at o g (BreakOrFlat b f) i Flat rest st = holds_at o g f i Flat rest st
holds_at o {brk} g (Group d) i Break rest st =
    each_either (Holds o.width Break) (bare_holds o.width Break) (probe o d i Flat rest st)
    (laid_in FlatGroup (enclosed_at o brk d i Flat rest st)) (laid_in BrokenGroup (enclosed_at o brk d i Break rest st))
    (λ e. fitting_holds o.width (λ c p. rest_fits o.width rest c p) (enclosed_at o brk d i Flat rest st)
    (flat_stays o g.leaves d i (λ c p. rest_fits o.width rest c p) rest st e) (holds_at o g d i Flat rest st))
    (each_laid (Holds o.width Break) (Holds o.width Break) BrokenGroup (λ p k. k) (enclosed_at o brk d i Break rest st)
    (holds_at o g d i Break rest st))
holds_at o {brk} g (Group d) i Flat rest st =
    each_laid (Holds o.width Flat) (Holds o.width Flat) FlatGroup (λ p k. k) (enclosed_at o brk d i Flat rest st)
    (holds_at o g d i Flat rest st)
holds_at o {brk} g (Union l r) i Break rest st =
    accept_holds o st (enclosed_at o brk l i Break rest (in_trial st)) (enclosed_at o brk r i Break rest st)
    (keeps_at o g.keep l i Break rest (in_trial st)) (holds_at o g l i Break rest (in_trial st)) (holds_at o g r i Break rest st)
holds_at o g (Union l r) i Flat rest st = holds_at o g l i Flat rest st
holds_at o {brk} g (PartialUnion l r) i Break rest st =
    each_either (Holds o.width Break) (bare_holds o.width Break) (probe o l i Break rest st) (enclosed_at o brk l i Break rest st)
    (enclosed_at o brk r i Break rest st) (λ e. holds_at o g l i Break rest st) (holds_at o g r i Break rest st)
holds_at o g (PartialUnion l r) i Flat rest st = holds_at o g l i Flat rest st
holds_at o {brk} g (Chosen test y n) i m rest st =
    each_either (Holds o.width m) (bare_holds o.width m) (choice_holds test (prospective st.column) i) (enclosed_at o brk y i m rest st)
    (enclosed_at o brk n i m rest st) (λ e. holds_at o g y i m rest st) (holds_at o g n i m rest st)
-- every other node lays no piece
holds_at o g _ i m rest st = none_holds o.width m

holds_each : (o : RenderOptions) {brk : EnclosedBreaks} → BreaksHold o.width brk
    → (ds : List Tree) (i : ℕ) (m : Mode) (rest : List Entry) (st : State) → Each (Holds o.width m) (enclosed_each o brk ds i m rest st)
unfolding enclosed_each
holds_each o g [] i m rest st = none_holds o.width m
holds_each o {brk} g (d ∷ ds) i m rest st =
    each_then (Holds o.width m) (enclosed_at o brk d i m (entries i ds ++ rest) st) (λ u. enclosed_each o brk ds i m rest u)
    (holds_at o g d i m (entries i ds ++ rest) st) (holds_each o g ds i m rest)

holds_pending : (o : RenderOptions) {brk : EnclosedBreaks} → BreaksHold o.width brk
    → (ps : List Tree) (i : ℕ) (m : Mode) (rest : List Entry) (st : State) (next : State → EnclosedTracing)
    → ((u : State) → Each (Holds o.width m) (next u)) → Each (Holds o.width m) (enclosed_pending o brk ps i m rest st next)
holds_pending o {brk} g ps i m rest st next h =
    each_one (Holds o.width m) (bare_holds o.width m) (Gap st.column.padding)
    (enclosed_then (enclosed_each o brk ps i m rest (flushed o st)) next)
    (each_then (Holds o.width m) (enclosed_each o brk ps i m rest (flushed o st)) next (holds_each o g ps i m rest (flushed o st)) h)

-- ---- breaks and the end

holds_break : (o : RenderOptions) {brk : EnclosedBreaks} → BreaksHold o.width brk
    → (ps : List Tree) (d : Tree) (i : ℕ) (m : Mode) (rest : List Entry) (st : State)
    → Each (Holds o.width m) (enclosed_break_with o brk ps d i m rest st)
holds_break o g [] d i m rest st = each_bare (Holds o.width m) (bare_holds o.width m) (trace_plain_break o d i rest st)
holds_break o {brk} g (p ∷ ps) d i m rest st = holds_pending o g (p ∷ ps) i m (entry i d ∷ rest) st (brk d i m rest) (g.holds d i m rest)

left_out : (o : RenderOptions) (brk : EnclosedBreaks) (i : ℕ) (rest : List Entry) (st : State) → st.pending ≡ [] → st.column.fresh ≡ true
    → enclosed_break_with o brk st.pending WeakLine i Flat rest st ≡ TracedIn [] st
left_out o brk i rest st e f =
    ap (λ (ps : List Tree). enclosed_break_with o brk ps WeakLine i Flat rest st) e
    ∙ ap (λ (t : Bool). bare_trace (if t then Traced [] st else trace_ending o.indentation_policy (next_indent i rest) st)) f

breaks_hold : (o : RenderOptions) (n : ℕ) → BreaksHold o.width (enclosed_breaks o n)
unfolding enclosed_breaks
breaks_hold o zero = record {
  leaves = record { leaves_out = λ i rest st e f. inr refl };
  keep = breaks_keep o zero;
  holds = λ d i m rest st. none_holds o.width m;
}
breaks_hold o (suc n) = record {
  leaves = record { leaves_out = λ i rest st e f. inl (left_out o (enclosed_breaks o n) i rest st e f) };
  keep = breaks_keep o (suc n);
  holds = λ d i m rest st. holds_break o (breaks_hold o n) st.pending d i m rest st;
}

holds_end : (o : RenderOptions) {brk : EnclosedBreaks} → BreaksHold o.width brk → (again : State → EnclosedTracing)
    → ((u : State) → Each (Holds o.width Break) (again u)) → (ps : List Tree) (st : State)
    → Each (Holds o.width Break) (enclosed_end_with o brk again ps st)
holds_end o g again h [] st = none_holds o.width Break
holds_end o g again h (p ∷ ps) st = holds_pending o g (p ∷ ps) 0 Break [] st again h

holds_finish : (o : RenderOptions) {brk : EnclosedBreaks} → BreaksHold o.width brk → (n : ℕ) (st : State)
    → Each (Holds o.width Break) (enclosed_finish o brk n st)
unfolding enclosed_finish
holds_finish o g zero st = none_holds o.width Break
holds_finish o {brk} g (suc n) st = holds_end o g (enclosed_finish o brk n) (holds_finish o g n) st.pending st

-- ---- the whole trace

holds_by : (o : RenderOptions) (n : ℕ) (d : Tree) → Each (Holds o.width Break) (enclosed_by o n d)
unfolding enclosed_by
holds_by o n d =
    each_then (Holds o.width Break) (enclosed_at o (enclosed_breaks o n) d 0 Break [] initial)
    (λ st. enclosed_finish o (enclosed_breaks o n) n st) (holds_at o (breaks_hold o n) d 0 Break [] initial)
    (holds_finish o (breaks_hold o n) n)

pieces_hold : (P : Enclosed → Type 0) (x : EnclosedTracing) → Each P x → All P (enclosed_pieces x)
pieces_hold P (TracedIn ps st) h = h
pieces_hold P (StoppedIn ps) h = h

trace_holds : (o : RenderOptions) (d : Tree) → All (Holds o.width Break) (enclosed_pieces (enclosed_trace o d))
unfolding enclosed_trace
trace_holds o d = pieces_hold (Holds o.width Break) (enclosed_by o (size d + 1) d) (holds_by o (size d + 1) d)

-- a text that ends past the width does not stay on its line
past_width : (width : ℕ) (p : Piece) → IsOnOneLine width p → EndsPast width p → ⊥
past_width width (traces.Text s column) h n = omega (arith, h, n)
past_width width _ h n = n

-- where no flat group is around a piece that no `Flatten` is around, each group there is broken or has one around it
groups_broken : (es : List Enclosure) → (IsInFlatGroup es → ⊥) → GroupsAreBroken es
groups_broken [] n = tt
groups_broken (FlatGroup ∷ es) n = n tt
groups_broken (BrokenGroup ∷ es) n = groups_broken es n
groups_broken (Flattened ∷ es) n = tt
groups_broken (KeptBranch ∷ es) n = groups_broken es n

past_holds : (width : ℕ) (p : Enclosed) → Holds width Break p → EndsPast width p.piece → GroupsAreBroken p.around
past_holds width p h n = groups_broken p.around (λ f. past_width width p.piece (h.0 f) n)

pub flat_groups_stay : (o : RenderOptions) (d : Tree)
    → All (λ (p : Enclosed). IsInFlatGroup p.around → IsOnOneLine o.width p.piece) (enclosed_pieces (enclosed_trace o d))
flat_groups_stay o d = λ k p l. (trace_holds o d k p l).0

pub past_is_broken : (o : RenderOptions) (d : Tree)
    → All (λ (p : Enclosed). EndsPast o.width p.piece → GroupsAreBroken p.around) (enclosed_pieces (enclosed_trace o d))
past_is_broken o d =
    All-weaker (Holds o.width Break) (λ (p : Enclosed). EndsPast o.width p.piece → GroupsAreBroken p.around) (past_holds o.width)
    (enclosed_pieces (enclosed_trace o d)) (trace_holds o d)

pub kept_stays : (o : RenderOptions) (d : Tree)
    → All (λ (p : Enclosed). IsInKeptBranch p.around → EndsPast o.width p.piece → ⊥) (enclosed_pieces (enclosed_trace o d))
kept_stays o d = λ k p l. (trace_holds o d k p l).1
