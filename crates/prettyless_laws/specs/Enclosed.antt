-- The trace with what is around each piece where it is laid. A document of a line suffix is laid at the end of its line: around
-- its pieces is what is around that line end, and not what is around the suffix.
use Rattle.std.specs.Prelude.{ℕ, zero, suc, ◌+◌, Bool, ◌&&◌, List, [], ◌∷◌, ◌++◌, length, map, if◌then◌else◌}
use Rattle.prettyless_model.specs.declared.options.RenderOptions.{RenderOptions}
use Rattle.prettyless_model.specs.Tree as t
use Rattle.prettyless_model.specs.Tree.{Tree, size}
use Rattle.prettyless_model.specs.Metrics.{metrics}
use Rattle.prettyless_model.specs.Column.{prospective, blank, padding_fits}
use Rattle.prettyless_model.specs.Indent.{indent_by}
use Rattle.prettyless_model.specs.Choice.{choice_holds}
use Rattle.prettyless_model.specs.Look.{by_mode}
use Rattle.prettyless_model.specs.Layout.{State, Entry, entry, entries, some_pending, probe, in_trial, flushed, initial}
use Rattle.prettyless_model.specs.declared.mode.Mode.{Mode}
use Rattle.prettyless_model.specs.declared.mode.Mode.TheVariants.{Break, Flat}
use Rattle.prettyless_laws.specs.Trace.{Piece, Gap, Alternative, Side, First, Second, Tracing, Traced, Stopped}
use Rattle.prettyless_laws.specs.Trace.{trace_text, trace_payload, trace_plain_break}

-- what a piece is laid in: a group that is flat, a group that is broken, a `Flatten`, or the first branch of a union that was
-- kept after a trial
pub data Enclosure : Type 0 where
  FlatGroup : Enclosure
  BrokenGroup : Enclosure
  Flattened : Enclosure
  KeptBranch : Enclosure

-- a piece, and what is around it, the outermost first
pub record Enclosed : Type 0 where
  pub piece : Piece
  pub around : List Enclosure

-- the pieces, and the state after them; or the pieces before the node that failed
pub data EnclosedTracing : Type 0 where
  TracedIn : List Enclosed → State → EnclosedTracing
  StoppedIn : List Enclosed → EnclosedTracing

-- a piece with nothing around it
abbrev pub enclosed_alone : Piece → Enclosed
enclosed_alone piece = record { piece = piece; around = [] }

-- a trace of pieces with nothing around them
abbrev pub bare_trace : Tracing → EnclosedTracing
bare_trace (Traced ps st) = TracedIn (map enclosed_alone ps) st
bare_trace (Stopped ps) = StoppedIn (map enclosed_alone ps)

-- a piece with this around all else that is around it
abbrev pub put_in : Enclosure → Enclosed → Enclosed
put_in e p = record p { around = e ∷ p.around }

-- a trace that is laid in this
abbrev pub laid_in : Enclosure → EnclosedTracing → EnclosedTracing
laid_in e (TracedIn ps st) = TracedIn (map (put_in e) ps) st
laid_in e (StoppedIn ps) = StoppedIn (map (put_in e) ps)

-- pieces that come before a trace
abbrev pub after_enclosed : List Enclosed → EnclosedTracing → EnclosedTracing
after_enclosed ps (TracedIn qs st) = TracedIn (ps ++ qs) st
after_enclosed ps (StoppedIn qs) = StoppedIn (ps ++ qs)

-- one trace, and where it ends well the next from its state
abbrev pub enclosed_then : EnclosedTracing → (State → EnclosedTracing) → EnclosedTracing
enclosed_then (TracedIn ps st) next = after_enclosed ps (next st)
enclosed_then (StoppedIn ps) next = StoppedIn ps

-- an alternative, noted before what it lays
abbrev pub enclosed_choice : Side → EnclosedTracing → EnclosedTracing
enclosed_choice side x = after_enclosed (enclosed_alone (Alternative side) ∷ []) x

-- the first branch of a union if it is kept, and else the second
abbrev pub enclosed_accept : RenderOptions → Bool → EnclosedTracing → EnclosedTracing → EnclosedTracing
enclosed_accept o was (TracedIn ps st) other =
    if st.within && padding_fits o.width (some_pending st.pending) st.column then enclosed_choice First
    (laid_in KeptBranch (TracedIn ps (record st { within = was })))
    else enclosed_choice Second other
enclosed_accept o was (StoppedIn ps) other = enclosed_choice Second other

-- The trace of a break.
abbrev pub EnclosedBreaks : Type 0
EnclosedBreaks = Tree → ℕ → Mode → List Entry → State → EnclosedTracing

-- A document at an indent in a mode, as `trace_at` traces it.
unfoldable pub enclosed_at : RenderOptions → EnclosedBreaks → Tree → ℕ → Mode → List Entry → State → EnclosedTracing
enclosed_at o brk t.Nil i m rest st = TracedIn [] st
enclosed_at o brk t.Fail i m rest st = StoppedIn []
enclosed_at o brk (t.Text s) i m rest st = bare_trace (trace_text o (length s) s st)
enclosed_at o brk (t.TextWithLen w s) i m rest st = bare_trace (trace_text o w s st)
enclosed_at o brk (t.MultilineText s) i m rest st = by_mode m (bare_trace (trace_payload o (metrics s) s st)) (StoppedIn [])
enclosed_at o brk t.WeakSpace i m rest st = TracedIn [] (record st { column = blank st.column })
enclosed_at o brk t.HardLine i m rest st = by_mode m (brk t.HardLine i m rest st) (StoppedIn [])
enclosed_at o brk t.WeakLine i m rest st = brk t.WeakLine i m rest st
enclosed_at o brk (t.Append l r) i m rest st =
    enclosed_then (enclosed_at o brk l i m (entry i r ∷ rest) st) (λ u. enclosed_at o brk r i m rest u)
enclosed_at o brk (t.LineSuffix d) i m rest st = TracedIn [] (record st { pending = st.pending ++ d ∷ [] })
enclosed_at o brk (t.Indented how d) i m rest st = enclosed_at o brk d (indent_by how i st.column) m rest st
enclosed_at o brk t.ExpandParent i m rest st = TracedIn [] st
enclosed_at o brk (t.Flatten d) i m rest st = laid_in Flattened (enclosed_at o brk d i Flat rest st)
enclosed_at o brk (t.BreakOrFlat b f) i m rest st = by_mode m (enclosed_at o brk b i m rest st) (enclosed_at o brk f i m rest st)
enclosed_at o brk (t.Group d) i m rest st =
    by_mode m
    (if probe o d i Flat rest st then enclosed_choice First (laid_in FlatGroup (enclosed_at o brk d i Flat rest st))
    else enclosed_choice Second
    (laid_in BrokenGroup (enclosed_at o brk d i Break rest st)))
    (laid_in FlatGroup (enclosed_at o brk d i Flat rest st))
enclosed_at o brk (t.Union l r) i m rest st =
    by_mode m (enclosed_accept o st.within (enclosed_at o brk l i m rest (in_trial st)) (enclosed_at o brk r i m rest st))
    (enclosed_at o brk l i m rest st)
enclosed_at o brk (t.PartialUnion l r) i m rest st =
    by_mode m
    (if probe o l i Break rest st then enclosed_choice First (enclosed_at o brk l i m rest st) else enclosed_choice Second
    (enclosed_at o brk r i m rest st))
    (enclosed_at o brk l i m rest st)
enclosed_at o brk (t.Chosen test y n) i m rest st =
    if choice_holds test (prospective st.column) i then enclosed_choice First (enclosed_at o brk y i m rest st)
    else enclosed_choice Second (enclosed_at o brk n i m rest st)

-- trees one after another at one indent
unfoldable pub enclosed_each : RenderOptions → EnclosedBreaks → List Tree → ℕ → Mode → List Entry → State → EnclosedTracing
enclosed_each o brk [] i m rest st = TracedIn [] st
enclosed_each o brk (d ∷ ds) i m rest st =
    enclosed_then (enclosed_at o brk d i m (entries i ds ++ rest) st) (λ u. enclosed_each o brk ds i m rest u)

-- what is pending, after the weak spaces before it, and then what follows it
abbrev pub enclosed_pending :
    RenderOptions → EnclosedBreaks → List Tree → ℕ → Mode → List Entry → State → (State → EnclosedTracing) → EnclosedTracing
enclosed_pending o brk ps i m rest st next =
    after_enclosed (enclosed_alone (Gap st.column.padding) ∷ []) (enclosed_then (enclosed_each o brk ps i m rest (flushed o st)) next)

-- a break: what is pending comes first
abbrev pub enclosed_break_with : RenderOptions → EnclosedBreaks → List Tree → EnclosedBreaks
enclosed_break_with o brk [] d i m rest st = bare_trace (trace_plain_break o d i rest st)
enclosed_break_with o brk (p ∷ ps) d i m rest st = enclosed_pending o brk (p ∷ ps) i m (entry i d ∷ rest) st (brk d i m rest)

-- breaks of this many levels
unfoldable pub enclosed_breaks : RenderOptions → ℕ → EnclosedBreaks
enclosed_breaks o zero d i m rest st = StoppedIn []
enclosed_breaks o (suc n) d i m rest st = enclosed_break_with o (enclosed_breaks o n) st.pending d i m rest st

-- the end of the document
abbrev pub enclosed_end_with : RenderOptions → EnclosedBreaks → (State → EnclosedTracing) → List Tree → State → EnclosedTracing
enclosed_end_with o brk again [] st = TracedIn [] st
enclosed_end_with o brk again (p ∷ ps) st = enclosed_pending o brk (p ∷ ps) 0 Break [] st again

-- the end, of this many rounds
unfoldable pub enclosed_finish : RenderOptions → EnclosedBreaks → ℕ → State → EnclosedTracing
enclosed_finish o brk zero st = StoppedIn []
enclosed_finish o brk (suc n) st = enclosed_end_with o brk (enclosed_finish o brk n) st.pending st

-- a trace with this many levels and rounds
unfoldable pub enclosed_by : RenderOptions → ℕ → Tree → EnclosedTracing
enclosed_by o n d =
    let brk = enclosed_breaks o n in
    enclosed_then (enclosed_at o brk d 0 Break [] initial) (λ st. enclosed_finish o brk n st)

-- The trace of a document's layout, with what is around each piece.
unfoldable pub enclosed_trace : RenderOptions → Tree → EnclosedTracing
enclosed_trace o d = enclosed_by o (size d + 1) d

-- the pieces, with what is around them
abbrev pub enclosed_pieces : EnclosedTracing → List Enclosed
enclosed_pieces (TracedIn ps st) = ps
enclosed_pieces (StoppedIn ps) = ps

-- the pieces without what is around them
abbrev pub bare_pieces : List Enclosed → List Piece
bare_pieces ps = map (λ (p : Enclosed). p.piece) ps

-- a trace without what is around its pieces
abbrev pub without_enclosures : EnclosedTracing → Tracing
without_enclosures (TracedIn ps st) = Traced (bare_pieces ps) st
without_enclosures (StoppedIn ps) = Stopped (bare_pieces ps)
