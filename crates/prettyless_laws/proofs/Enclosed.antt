-- The trace with what is around its pieces is the trace, but for that.
use Rattle.std.proofs.Common.{◌≡◌, ℕ, zero, suc, ◌+◌, List, [], ◌∷◌, ◌++◌, length, map, refl, ap, sym, ◌∙◌, Bool, true, false, ◌&&◌}
use Rattle.std.proofs.Common.{if◌then◌else◌}
use Rattle.std.proofs.lemmas.List.{map-append}
use Rattle.prettyless_model.specs.declared.options.RenderOptions.{RenderOptions}
use Rattle.prettyless_model.specs.Tree.{Tree, Text, TextWithLen, MultilineText, HardLine, WeakLine, Append, Indented, Flatten, BreakOrFlat}
use Rattle.prettyless_model.specs.Tree.{Group, Union, PartialUnion, Chosen, size}
use Rattle.prettyless_model.specs.Metrics.{metrics}
use Rattle.prettyless_model.specs.Choice.{choice_holds}
use Rattle.prettyless_model.specs.Column.{prospective, padding_fits}
use Rattle.prettyless_model.specs.Indent.{indent_by}
use Rattle.prettyless_model.specs.Layout.{State, Entry, entry, entries, some_pending, probe, in_trial, flushed, initial}
use Rattle.prettyless_model.specs.declared.mode.Mode.{Mode}
use Rattle.prettyless_model.specs.declared.mode.Mode.TheVariants.{Break, Flat}
use Rattle.prettyless_laws.specs.Trace.{Piece, Gap, Alternative, Side, First, Second, Tracing, Traced, Stopped, after_pieces, traced_then}
use Rattle.prettyless_laws.specs.Trace.{trace_text, trace_payload, trace_plain_break, noted_choice, trace_accept, BreakTraces, trace_at}
use Rattle.prettyless_laws.specs.Trace.{trace_each, trace_break_with, trace_breaks, trace_end_with, trace_finish, trace_by, trace_of, trace}
use Rattle.prettyless_laws.specs.Enclosed.{Enclosure, KeptBranch, FlatGroup, BrokenGroup, Flattened, Enclosed, EnclosedTracing}
use Rattle.prettyless_laws.specs.Enclosed.{TracedIn, StoppedIn, EnclosedBreaks, enclosed_alone, bare_trace, put_in, laid_in, after_enclosed}
use Rattle.prettyless_laws.specs.Enclosed.{enclosed_then, enclosed_choice, enclosed_accept}
use Rattle.prettyless_laws.specs.Enclosed.{enclosed_at, enclosed_each, enclosed_pending, enclosed_break_with, enclosed_breaks}
use Rattle.prettyless_laws.specs.Enclosed.{enclosed_end_with, enclosed_finish, enclosed_by, enclosed_trace, bare_pieces, without_enclosures}

-- ---- traces without what is around their pieces

alone_pieces : (ps : List Piece) → bare_pieces (map enclosed_alone ps) ≡ ps
alone_pieces [] = refl
alone_pieces (p ∷ ps) = ap (λ (qs : List Piece). p ∷ qs) (alone_pieces ps)

without_bare : (x : Tracing) → without_enclosures (bare_trace x) ≡ x
without_bare (Traced ps st) = ap (λ (qs : List Piece). Traced qs st) (alone_pieces ps)
without_bare (Stopped ps) = ap Stopped (alone_pieces ps)

laid_pieces : (e : Enclosure) (ps : List Enclosed) → bare_pieces (map (put_in e) ps) ≡ bare_pieces ps
laid_pieces e [] = refl
laid_pieces e (p ∷ ps) = ap (λ (qs : List Piece). p.piece ∷ qs) (laid_pieces e ps)

without_laid : (e : Enclosure) (x : EnclosedTracing) → without_enclosures (laid_in e x) ≡ without_enclosures x
without_laid e (TracedIn ps st) = ap (λ (qs : List Piece). Traced qs st) (laid_pieces e ps)
without_laid e (StoppedIn ps) = ap Stopped (laid_pieces e ps)

without_after : (ps : List Enclosed) (x : EnclosedTracing) → without_enclosures (after_enclosed ps x) ≡ after_pieces (bare_pieces ps)
    (without_enclosures x)
without_after ps (TracedIn qs st) = ap (λ (rs : List Piece). Traced rs st) (map-append (λ (p : Enclosed). p.piece) ps qs)
without_after ps (StoppedIn qs) = ap Stopped (map-append (λ (p : Enclosed). p.piece) ps qs)

without_then : (x : EnclosedTracing) (f : State → EnclosedTracing) (g : State → Tracing) → ((u : State) → without_enclosures (f u) ≡ g u)
    → without_enclosures (enclosed_then x f) ≡ traced_then (without_enclosures x) g
without_then (TracedIn ps st) f g e = without_after ps (f st) ∙ ap (after_pieces (bare_pieces ps)) (e st)
without_then (StoppedIn ps) f g e = refl

-- ---- choices

without_noted : (side : Side) (x : EnclosedTracing) (y : Tracing) → without_enclosures x ≡ y
    → without_enclosures (enclosed_choice side x) ≡ noted_choice side y
without_noted side x y e = without_after (enclosed_alone (Alternative side) ∷ []) x ∙ ap (noted_choice side) e

without_either : (t : Bool) (x y : EnclosedTracing) (z w : Tracing) → without_enclosures x ≡ z → without_enclosures y ≡ w
    → without_enclosures (if t then enclosed_choice First x else enclosed_choice Second y) ≡ (if t then noted_choice First z else
    noted_choice Second w)
without_either true x y z w e f = without_noted First x z e
without_either false x y z w e f = without_noted Second y w f

without_accept : (o : RenderOptions) (was : Bool) (x y : EnclosedTracing) (z w : Tracing) → without_enclosures x ≡ z
    → without_enclosures y ≡ w → without_enclosures (enclosed_accept o was x y) ≡ trace_accept o was z w
without_accept o was (TracedIn ps st) y z w e f =
    without_either (st.within && padding_fits o.width (some_pending st.pending) st.column)
    (laid_in KeptBranch (TracedIn ps (record st { within = was }))) y (Traced (bare_pieces ps) (record st { within = was })) w
    (without_laid KeptBranch (TracedIn ps (record st { within = was }))) f
    ∙ ap (λ (v : Tracing). trace_accept o was v w) e
without_accept o was (StoppedIn ps) y z w e f = without_noted Second y w f ∙ ap (λ (v : Tracing). trace_accept o was v w) e

-- ---- documents

-- breaks with one trace
pub record BreaksAgree (a : EnclosedBreaks) (b : BreakTraces) : Type 0 where
  pub agree : (d : Tree) (i : ℕ) (m : Mode) (rest : List Entry) (st : State) → without_enclosures (a d i m rest st) ≡ b d i m rest st

without_at : (o : RenderOptions) {a : EnclosedBreaks} {b : BreakTraces} → BreaksAgree a b
    → (d : Tree) (i : ℕ) (m : Mode) (rest : List Entry) (st : State)
    → without_enclosures (enclosed_at o a d i m rest st) ≡ trace_at o b d i m rest st
unfolding enclosed_at trace_at
without_at o k (Text s) i m rest st = without_bare (trace_text o (length s) s st)
without_at o k (TextWithLen w s) i m rest st = without_bare (trace_text o w s st)
without_at o k (MultilineText s) i Break rest st = without_bare (trace_payload o (metrics s) s st)
without_at o k (MultilineText s) i Flat rest st = refl
without_at o k HardLine i Break rest st = k.agree HardLine i Break rest st
without_at o k HardLine i Flat rest st = refl
without_at o k WeakLine i m rest st = k.agree WeakLine i m rest st
without_at o {a} {b} k (Append l r) i m rest st =
    without_then (enclosed_at o a l i m (entry i r ∷ rest) st) (λ u. enclosed_at o a r i m rest u) (λ u. trace_at o b r i m rest u)
    (without_at o k r i m rest)
    ∙ ap (λ (x : Tracing). traced_then x (λ u. trace_at o b r i m rest u)) (without_at o k l i m (entry i r ∷ rest) st)
without_at o k (Indented how d) i m rest st = without_at o k d (indent_by how i st.column) m rest st
without_at o {a} k (Flatten d) i m rest st = without_laid Flattened (enclosed_at o a d i Flat rest st) ∙ without_at o k d i Flat rest st
without_at o k (BreakOrFlat b f) i Break rest st = without_at o k b i Break rest st
without_at o k (BreakOrFlat b f) i Flat rest st = without_at o k f i Flat rest st
without_at o {a} {b} k (Group d) i Break rest st =
    without_either (probe o d i Flat rest st) (laid_in FlatGroup (enclosed_at o a d i Flat rest st))
    (laid_in BrokenGroup (enclosed_at o a d i Break rest st)) (trace_at o b d i Flat rest st) (trace_at o b d i Break rest st)
    (without_laid FlatGroup (enclosed_at o a d i Flat rest st) ∙ without_at o k d i Flat rest st)
    (without_laid BrokenGroup (enclosed_at o a d i Break rest st) ∙ without_at o k d i Break rest st)
without_at o {a} k (Group d) i Flat rest st = without_laid FlatGroup (enclosed_at o a d i Flat rest st) ∙ without_at o k d i Flat rest st
without_at o {a} {b} k (Union l r) i Break rest st =
    without_accept o st.within (enclosed_at o a l i Break rest (in_trial st)) (enclosed_at o a r i Break rest st)
    (trace_at o b l i Break rest (in_trial st)) (trace_at o b r i Break rest st)
    (without_at o k l i Break rest (in_trial st)) (without_at o k r i Break rest st)
without_at o k (Union l r) i Flat rest st = without_at o k l i Flat rest st
without_at o {a} {b} k (PartialUnion l r) i Break rest st =
    without_either (probe o l i Break rest st) (enclosed_at o a l i Break rest st) (enclosed_at o a r i Break rest st)
    (trace_at o b l i Break rest st) (trace_at o b r i Break rest st)
    (without_at o k l i Break rest st) (without_at o k r i Break rest st)
without_at o k (PartialUnion l r) i Flat rest st = without_at o k l i Flat rest st
without_at o {a} {b} k (Chosen test y n) i m rest st =
    without_either (choice_holds test (prospective st.column) i) (enclosed_at o a y i m rest st) (enclosed_at o a n i m rest st)
    (trace_at o b y i m rest st) (trace_at o b n i m rest st)
    (without_at o k y i m rest st) (without_at o k n i m rest st)
-- every other node lays no piece
without_at o k _ i m rest st = refl

without_each : (o : RenderOptions) {a : EnclosedBreaks} {b : BreakTraces} → BreaksAgree a b
    → (ds : List Tree) (i : ℕ) (m : Mode) (rest : List Entry) (st : State)
    → without_enclosures (enclosed_each o a ds i m rest st) ≡ trace_each o b ds i m rest st
unfolding enclosed_each trace_each
without_each o k [] i m rest st = refl
without_each o {a} {b} k (d ∷ ds) i m rest st =
    without_then (enclosed_at o a d i m (entries i ds ++ rest) st) (λ u. enclosed_each o a ds i m rest u)
    (λ u. trace_each o b ds i m rest u) (without_each o k ds i m rest)
    ∙ ap (λ (x : Tracing). traced_then x (λ u. trace_each o b ds i m rest u)) (without_at o k d i m (entries i ds ++ rest) st)

-- ---- what waits, breaks and the end

without_pending : (o : RenderOptions) {a : EnclosedBreaks} {b : BreakTraces} → BreaksAgree a b
    → (ps : List Tree) (i : ℕ) (m : Mode) (rest : List Entry) (st : State) (f : State → EnclosedTracing) (g : State → Tracing)
    → ((u : State) → without_enclosures (f u) ≡ g u)
    → without_enclosures (enclosed_pending o a ps i m rest st f)
    ≡ after_pieces (Gap st.column.padding ∷ []) (traced_then (trace_each o b ps i m rest (flushed o st)) g)
without_pending o {a} {b} k ps i m rest st f g e =
    without_after (enclosed_alone (Gap st.column.padding) ∷ []) (enclosed_then (enclosed_each o a ps i m rest (flushed o st)) f)
    ∙ ap (after_pieces (Gap st.column.padding ∷ []))
    (without_then (enclosed_each o a ps i m rest (flushed o st)) f g e
    ∙ ap (λ (x : Tracing). traced_then x g) (without_each o k ps i m rest (flushed o st)))

without_break : (o : RenderOptions) {a : EnclosedBreaks} {b : BreakTraces} → BreaksAgree a b
    → (ps : List Tree) (d : Tree) (i : ℕ) (m : Mode) (rest : List Entry) (st : State)
    → without_enclosures (enclosed_break_with o a ps d i m rest st) ≡ trace_break_with o b ps d i m rest st
without_break o k [] d i m rest st = without_bare (trace_plain_break o d i rest st)
without_break o {a} {b} k (p ∷ ps) d i m rest st =
    without_pending o k (p ∷ ps) i m (entry i d ∷ rest) st (a d i m rest) (b d i m rest) (k.agree d i m rest)

breaks_agree : (o : RenderOptions) (n : ℕ) → BreaksAgree (enclosed_breaks o n) (trace_breaks o n)
unfolding enclosed_breaks trace_breaks
breaks_agree o zero = record { agree = λ d i m rest st. refl }
breaks_agree o (suc n) = record { agree = λ d i m rest st. without_break o (breaks_agree o n) st.pending d i m rest st }

without_end : (o : RenderOptions) {a : EnclosedBreaks} {b : BreakTraces} → BreaksAgree a b
    → (f : State → EnclosedTracing) (g : State → Tracing) → ((u : State) → without_enclosures (f u) ≡ g u) → (ps : List Tree) (st : State)
    → without_enclosures (enclosed_end_with o a f ps st) ≡ trace_end_with o b g ps st
without_end o k f g e [] st = refl
without_end o k f g e (p ∷ ps) st = without_pending o k (p ∷ ps) 0 Break [] st f g e

without_finish : (o : RenderOptions) {a : EnclosedBreaks} {b : BreakTraces} → BreaksAgree a b → (n : ℕ) (st : State)
    → without_enclosures (enclosed_finish o a n st) ≡ trace_finish o b n st
unfolding enclosed_finish trace_finish
without_finish o k zero st = refl
without_finish o {a} {b} k (suc n) st =
    without_end o k (enclosed_finish o a n) (trace_finish o b n) (without_finish o k n) st.pending st

-- ---- the whole trace

without_by : (o : RenderOptions) (n : ℕ) (d : Tree) → without_enclosures (enclosed_by o n d) ≡ trace_by o n d
unfolding enclosed_by trace_by
without_by o n d =
    without_then (enclosed_at o (enclosed_breaks o n) d 0 Break [] initial) (λ st. enclosed_finish o (enclosed_breaks o n) n st)
    (λ st. trace_finish o (trace_breaks o n) n st) (without_finish o (breaks_agree o n) n)
    ∙ ap (λ (x : Tracing). traced_then x (λ st. trace_finish o (trace_breaks o n) n st))
    (without_at o (breaks_agree o n) d 0 Break [] initial)

pub enclosed_is_trace : (o : RenderOptions) (d : Tree) → trace o d ≡ trace_of (without_enclosures (enclosed_trace o d))
unfolding trace enclosed_trace
enclosed_is_trace o d = ap trace_of (sym (without_by o (size d + 1) d))
