-- The trace of a layout: the recursion of `lay`, with pieces in place of bytes.
use Rattle.std.specs.Prelude.{ℕ, zero, suc, ◌+◌, Bool, true, false, ◌&&◌, nat_le, List, [], ◌∷◌, ◌++◌, length, if◌then◌else◌}
use Rattle.prettyless_model.specs.Options.{ending}
use Rattle.prettyless_model.specs.Spaces.{spaces}
use Rattle.prettyless_model.specs.declared.options.RenderOptions.{RenderOptions}
use Rattle.prettyless_model.specs.declared.options.IndentationPolicy.{IndentationPolicy}
use Rattle.prettyless_model.specs.declared.options.IndentationPolicy.TheVariants.{Eager, Deferred}
use Rattle.prettyless_model.specs.Tree as t
use Rattle.prettyless_model.specs.Tree.{Tree, size}
use Rattle.prettyless_model.specs.Metrics.{metrics}
use Rattle.prettyless_model.specs.Column.{indented, deferred, prospective, commit, blank, padding_fits}
use Rattle.prettyless_model.specs.Indent.{indent_by}
use Rattle.prettyless_model.specs.Choice.{choice_holds}
use Rattle.prettyless_model.specs.Look.{by_mode}
use Rattle.prettyless_model.specs.Layout.{State, Entry, Bytes, Whole, Cut, payload_fits, after_payload, next_indent, entry, entries}
use Rattle.prettyless_model.specs.Layout.{some_pending, probe, in_trial, flushed, is_suppressed, initial}
use Rattle.prettyless_model.specs.declared.metrics.Metrics.{Metrics}
use Rattle.prettyless_model.specs.declared.mode.Mode.{Mode}
use Rattle.prettyless_model.specs.declared.mode.Mode.TheVariants.{Break, Flat}

-- an alternative: of a union, of a group, which is flat or else broken, or of a choice by column or nesting
pub data Side : Type 0 where
  First : Side
  Second : Side

-- the end of a line; the indent of the next, and whether content uses it; weak spaces before content, also none; a text,
-- and the column where it ends; a payload; the alternative taken at a union or a group that is laid in Break,
-- or at a choice by column or nesting
pub data Piece : Type 0 where
  Ending : Piece
  Indent : ℕ → Bool → Piece
  Gap : ℕ → Piece
  Text : List ℕ → ℕ → Piece
  Source : List ℕ → Piece
  Alternative : Side → Piece

-- the pieces, and the state after them; or the pieces before the node that failed
pub data Tracing : Type 0 where
  Traced : List Piece → State → Tracing
  Stopped : List Piece → Tracing

-- pieces that come before a trace
abbrev pub after_pieces : List Piece → Tracing → Tracing
after_pieces ps (Traced qs st) = Traced (ps ++ qs) st
after_pieces ps (Stopped qs) = Stopped (ps ++ qs)

-- one trace, and where it ends well the next from its state
abbrev pub traced_then : Tracing → (State → Tracing) → Tracing
traced_then (Traced ps st) next = after_pieces ps (next st)
traced_then (Stopped ps) next = Stopped ps

-- a text: the weak spaces before it come first
abbrev pub trace_text : RenderOptions → ℕ → List ℕ → State → Tracing
trace_text o w [] st = Traced [] st
trace_text o w (b ∷ bs) st =
    let c = commit w st.column in
    Traced (Gap st.column.padding ∷ Text (b ∷ bs) c.position ∷ [])
    (record st { column = c; within = st.within && nat_le c.position o.width })

-- a payload: the weak spaces before it come first, unless its first part is empty
abbrev pub trace_payload : RenderOptions → Metrics → List ℕ → State → Tracing
trace_payload o m s st =
    Traced ((if m.first_nonempty then Gap st.column.padding ∷ [] else []) ++ (Source s ∷ []))
    (record st { column = after_payload m; within = st.within && payload_fits o m st.column })

-- the end of a line, and the indent of the next; what follows them will say whether it is used
abbrev pub trace_ending : IndentationPolicy → ℕ → State → Tracing
trace_ending Eager k st = Traced (Ending ∷ Indent k false ∷ []) (record st { column = indented k })
trace_ending Deferred k st = Traced (Ending ∷ Indent k false ∷ []) (record st { column = deferred k })

-- an alternative, noted before what it lays
abbrev pub noted_choice : Side → Tracing → Tracing
noted_choice side x = after_pieces (Alternative side ∷ []) x

-- the first branch of a union if it is kept, and else the second
abbrev pub trace_accept : RenderOptions → Bool → Tracing → Tracing → Tracing
trace_accept o was (Traced ps st) other =
    if st.within && padding_fits o.width (some_pending st.pending) st.column then noted_choice First
    (Traced ps (record st { within = was }))
    else noted_choice Second other
trace_accept o was (Stopped ps) other = noted_choice Second other

-- The trace of a break.
abbrev pub BreakTraces : Type 0
BreakTraces = Tree → ℕ → Mode → List Entry → State → Tracing

-- A document at an indent in a mode, as `lay` lays it.
unfoldable pub trace_at : RenderOptions → BreakTraces → Tree → ℕ → Mode → List Entry → State → Tracing
trace_at o brk t.Nil i m rest st = Traced [] st
trace_at o brk t.Fail i m rest st = Stopped []
trace_at o brk (t.Text s) i m rest st = trace_text o (length s) s st
trace_at o brk (t.TextWithLen w s) i m rest st = trace_text o w s st
trace_at o brk (t.MultilineText s) i m rest st = by_mode m (trace_payload o (metrics s) s st) (Stopped [])
trace_at o brk t.WeakSpace i m rest st = Traced [] (record st { column = blank st.column })
trace_at o brk t.HardLine i m rest st = by_mode m (brk t.HardLine i m rest st) (Stopped [])
trace_at o brk t.WeakLine i m rest st = brk t.WeakLine i m rest st
trace_at o brk (t.Append l r) i m rest st = traced_then (trace_at o brk l i m (entry i r ∷ rest) st) (λ u. trace_at o brk r i m rest u)
trace_at o brk (t.LineSuffix d) i m rest st = Traced [] (record st { pending = st.pending ++ d ∷ [] })
trace_at o brk (t.Indented how d) i m rest st = trace_at o brk d (indent_by how i st.column) m rest st
trace_at o brk t.ExpandParent i m rest st = Traced [] st
trace_at o brk (t.Flatten d) i m rest st = trace_at o brk d i Flat rest st
trace_at o brk (t.BreakOrFlat b f) i m rest st = by_mode m (trace_at o brk b i m rest st) (trace_at o brk f i m rest st)
trace_at o brk (t.Group d) i m rest st =
    by_mode m
    (if probe o d i Flat rest st then noted_choice First (trace_at o brk d i Flat rest st) else noted_choice Second
    (trace_at o brk d i Break rest st))
    (trace_at o brk d i Flat rest st)
trace_at o brk (t.Union l r) i m rest st =
    by_mode m (trace_accept o st.within (trace_at o brk l i m rest (in_trial st)) (trace_at o brk r i m rest st))
    (trace_at o brk l i m rest st)
trace_at o brk (t.PartialUnion l r) i m rest st =
    by_mode m
    (if probe o l i Break rest st then noted_choice First (trace_at o brk l i m rest st) else noted_choice Second
    (trace_at o brk r i m rest st))
    (trace_at o brk l i m rest st)
trace_at o brk (t.Chosen test y n) i m rest st =
    if choice_holds test (prospective st.column) i then noted_choice First (trace_at o brk y i m rest st)
    else noted_choice Second (trace_at o brk n i m rest st)

-- trees one after another at one indent
unfoldable pub trace_each : RenderOptions → BreakTraces → List Tree → ℕ → Mode → List Entry → State → Tracing
trace_each o brk [] i m rest st = Traced [] st
trace_each o brk (d ∷ ds) i m rest st =
    traced_then (trace_at o brk d i m (entries i ds ++ rest) st) (λ u. trace_each o brk ds i m rest u)

-- a break where nothing is pending
abbrev pub trace_plain_break : RenderOptions → Tree → ℕ → List Entry → State → Tracing
trace_plain_break o d i rest st =
    if is_suppressed d st.column then Traced [] st else trace_ending o.indentation_policy (next_indent i rest) st

-- a break: weak spaces come before the pending documents
abbrev pub trace_break_with : RenderOptions → BreakTraces → List Tree → BreakTraces
trace_break_with o brk [] d i m rest st = trace_plain_break o d i rest st
trace_break_with o brk (p ∷ ps) d i m rest st =
    after_pieces (Gap st.column.padding ∷ [])
    (traced_then (trace_each o brk (p ∷ ps) i m (entry i d ∷ rest) (flushed o st)) (brk d i m rest))

-- breaks of this many levels
unfoldable pub trace_breaks : RenderOptions → ℕ → BreakTraces
trace_breaks o zero d i m rest st = Stopped []
trace_breaks o (suc n) d i m rest st = trace_break_with o (trace_breaks o n) st.pending d i m rest st

-- the end of the document
abbrev pub trace_end_with : RenderOptions → BreakTraces → (State → Tracing) → List Tree → State → Tracing
trace_end_with o brk again [] st = Traced [] st
trace_end_with o brk again (p ∷ ps) st =
    after_pieces (Gap st.column.padding ∷ []) (traced_then (trace_each o brk (p ∷ ps) 0 Break [] (flushed o st)) again)

-- the end, of this many rounds
unfoldable pub trace_finish : RenderOptions → BreakTraces → ℕ → State → Tracing
trace_finish o brk zero st = Stopped []
trace_finish o brk (suc n) st = trace_end_with o brk (trace_finish o brk n) st.pending st

-- a trace with this many levels and rounds
unfoldable pub trace_by : RenderOptions → ℕ → Tree → Tracing
trace_by o n d =
    let brk = trace_breaks o n in
    traced_then (trace_at o brk d 0 Break [] initial) (λ st. trace_finish o brk n st)

-- content comes before the line ends; a payload counts by the gap before it, which an empty first part has not
abbrev pub has_content : List Piece → Bool
has_content [] = false
has_content (Ending ∷ ps) = false
has_content (Indent k used ∷ ps) = false
has_content (Gap g ∷ ps) = true
has_content (Text s c ∷ ps) = true
has_content (Source s ∷ ps) = false
has_content (Alternative side ∷ ps) = has_content ps

-- a piece, given whether content follows it
abbrev pub use_of : Piece → Bool → Piece
use_of (Indent k used) follows = Indent k follows
use_of piece follows = piece

-- an indent is used if content comes after it on its line
abbrev pub settled : List Piece → List Piece
settled [] = []
settled (piece ∷ ps) = use_of piece (has_content ps) ∷ settled ps

-- the pieces of a layout: all, or those before the node that failed
pub data Trace : Type 0 where
  Complete : List Piece → Trace
  Partial : List Piece → Trace

-- the whole trace, with its indents settled
abbrev pub trace_of : Tracing → Trace
trace_of (Traced ps st) = Complete (settled ps)
trace_of (Stopped ps) = Partial (settled ps)

-- The trace of a document's layout.
unfoldable pub trace : RenderOptions → Tree → Trace
trace o d = trace_of (trace_by o (size d + 1) d)

-- an indent is written if the policy is Eager, or if content uses it
abbrev pub indent_bytes : IndentationPolicy → ℕ → Bool → List ℕ
indent_bytes Eager k used = spaces k
indent_bytes Deferred k used = if used then spaces k else []

-- the bytes of a piece
abbrev pub piece_layout : RenderOptions → Piece → List ℕ
piece_layout o Ending = ending o.line_ending
piece_layout o (Indent k used) = indent_bytes o.indentation_policy k used
piece_layout o (Gap g) = spaces g
piece_layout o (Text s c) = s
piece_layout o (Source s) = s
piece_layout o (Alternative side) = []

-- the bytes of pieces, one after another
abbrev pub written_pieces : RenderOptions → List Piece → List ℕ
written_pieces o [] = []
written_pieces o (piece ∷ ps) = piece_layout o piece ++ written_pieces o ps

-- a trace written out as a layout
abbrev pub written_out : RenderOptions → Trace → Bytes
written_out o (Complete ps) = Whole (written_pieces o ps)
written_out o (Partial ps) = Cut (written_pieces o ps)
