-- The layout of a document: a recursion on its tree, from state to state.
use Rattle.std.specs.Prelude.{ℕ, zero, suc, ◌+◌, Bool, true, false, Option, Some, None, not, ◌&&◌, ◌||◌, nat_le, List, [], ◌∷◌, ◌++◌}
use Rattle.std.specs.Prelude.{length, map, if◌then◌else◌}
use Rattle.prettyless_model.specs.Options.{ending}
use Rattle.prettyless_model.specs.Spaces.{spaces}
use Rattle.prettyless_model.specs.declared.options.RenderOptions.{RenderOptions}
use Rattle.prettyless_model.specs.declared.options.IndentationPolicy.{IndentationPolicy}
use Rattle.prettyless_model.specs.declared.options.IndentationPolicy.TheVariants.{Eager, Deferred}
use Rattle.prettyless_model.specs.Tree as t
use Rattle.prettyless_model.specs.Tree.{Tree, size}
use Rattle.prettyless_model.specs.Metrics.{metrics}
use Rattle.prettyless_model.specs.Column.{start, indented, deferred, gap, prospective, commit, blank, padding_fits, saturating_add}
use Rattle.prettyless_model.specs.Indent.{indent_by}
use Rattle.prettyless_model.specs.Look.{by_mode, look, answer_of}
use Rattle.prettyless_model.specs.Choice.{choice_holds}
use Rattle.prettyless_model.specs.declared.column.Column.{Column}
use Rattle.prettyless_model.specs.declared.metrics.Metrics.{Metrics}
use Rattle.prettyless_model.specs.declared.mode.Mode.{Mode}
use Rattle.prettyless_model.specs.declared.mode.Mode.TheVariants.{Break, Flat}

-- between two nodes: the column, the pending documents, and whether nothing went past the width
pub record State : Type 0 where
  pub column : Column
  pub pending : List Tree
  pub within : Bool

-- the bytes, and the state after them; or the bytes before the node that failed
pub data Outcome : Type 0 where
  Done : List ℕ → State → Outcome
  Failed : List ℕ → Outcome

-- a document that follows, with its indent; the nearest comes first in a list
pub record Entry : Type 0 where
  pub indent : ℕ
  pub tree : Tree

-- bytes that come before an outcome
abbrev pub after_bytes : List ℕ → Outcome → Outcome
after_bytes b (Done c st) = Done (b ++ c) st
after_bytes b (Failed c) = Failed (b ++ c)

-- one outcome, and where it is done the next from its state
abbrev pub and_then : Outcome → (State → Outcome) → Outcome
and_then (Done b st) next = after_bytes b (next st)
and_then (Failed b) next = Failed b

-- a text of counted width w: the gap is written before it; an empty text is nothing
abbrev pub lay_text : RenderOptions → ℕ → List ℕ → State → Outcome
lay_text o w [] st = Done [] st
lay_text o w (b ∷ bs) st =
    let c = commit w st.column in
    Done (spaces (gap st.column) ++ (b ∷ bs)) (record st { column = c; within = st.within && nat_le c.position o.width })

-- a payload fits where its first part ends within the width, or is empty, and no later part is wider than the width
abbrev pub payload_fits : RenderOptions → Metrics → Column → Bool
payload_fits o m c = (not m.first_nonempty || nat_le (saturating_add (prospective c) m.first_width) o.width) && nat_le m.rest_width o.width

-- the column after a payload: that of its last part
abbrev pub after_payload : Metrics → Column
after_payload m = if m.last_nonempty then commit m.last_width start else start

-- a payload goes out byte for byte; the gap is written before it unless its first part is empty
abbrev pub lay_payload : RenderOptions → Metrics → List ℕ → State → Outcome
lay_payload o m s st =
    Done ((if m.first_nonempty then spaces (gap st.column) else []) ++ s)
    (record st { column = after_payload m; within = st.within && payload_fits o m st.column })

-- a line ends, and the next has this indent: written at once, or with the first content
abbrev pub lay_ending : RenderOptions → IndentationPolicy → ℕ → State → Outcome
lay_ending o Eager k st = Done (ending o.line_ending ++ spaces k) (record st { column = indented k })
lay_ending o Deferred k st = Done (ending o.line_ending) (record st { column = deferred k })

-- the indent of the nearest document that follows; the break's own where nothing does
abbrev pub next_indent : ℕ → List Entry → ℕ
next_indent i [] = i
next_indent i (e ∷ es) = e.indent

-- a tree that follows at this indent
abbrev pub entry : ℕ → Tree → Entry
entry i d = record { indent = i; tree = d }

-- trees that follow at one indent
abbrev pub entries : ℕ → List Tree → List Entry
entries i ds = map (entry i) ds

-- whether what follows stays within the width: each document at its own indent in Break, up to the end of the line
abbrev pub rest_fits : ℕ → List Entry → Column → Bool → Bool
rest_fits width [] c p = padding_fits width p c
rest_fits width (e ∷ es) c p = answer_of (look width e.tree e.indent Break c p) (λ d q. rest_fits width es d q)

-- whether a document is pending
abbrev pub some_pending : List Tree → Bool
some_pending [] = false
some_pending (d ∷ ds) = true

-- whether a document, at this indent and in this mode, and what follows it stay within the width, up to the end of the line
abbrev pub probe : RenderOptions → Tree → ℕ → Mode → List Entry → State → Bool
probe o d i m rest st = answer_of (look o.width d i m st.column (some_pending st.pending)) (λ c p. rest_fits o.width rest c p)

-- a first branch if it is kept, with the flag as it was before it, and else the second
abbrev pub accept : RenderOptions → Bool → Outcome → Outcome → Outcome
accept o was (Done b st) other =
    if st.within && padding_fits o.width (some_pending st.pending) st.column then Done b (record st { within = was }) else other
accept o was (Failed b) other = other

-- the flag set anew
abbrev pub in_trial : State → State
in_trial st = record st { within = true }

-- How a break is laid: which node it is, its indent and mode, what follows it.
abbrev pub Breaks : Type 0
Breaks = Tree → ℕ → Mode → List Entry → State → Outcome

-- The layout of a document at an indent and in a mode, with what follows it: a recursion on the tree. `brk` lays breaks.
unfoldable pub lay : RenderOptions → Breaks → Tree → ℕ → Mode → List Entry → State → Outcome
-- the empty document writes nothing
lay o brk t.Nil i m rest st = Done [] st
-- a failure ends the layout; what was written before it stays written
lay o brk t.Fail i m rest st = Failed []
-- a text takes a column for each byte
lay o brk (t.Text s) i m rest st = lay_text o (length s) s st
-- a text with a width of its own takes so many columns
lay o brk (t.TextWithLen w s) i m rest st = lay_text o w s st
-- a payload is written as it is; on a flat line it is a failure
lay o brk (t.MultilineText s) i m rest st = by_mode m (lay_payload o (metrics s) s st) (Failed [])
-- a weak space is kept until content follows on its line
lay o brk t.WeakSpace i m rest st = Done [] (record st { column = blank st.column })
-- a hard line breaks the line; on a flat line it is a failure
lay o brk t.HardLine i m rest st = by_mode m (brk t.HardLine i m rest st) (Failed [])
-- a weak line breaks the line in both modes, unless the line has no content yet
lay o brk t.WeakLine i m rest st = brk t.WeakLine i m rest st
-- the left document, then the right one; the right one follows the left one, so probes in the left one read it too
lay o brk (t.Append l r) i m rest st = and_then (lay o brk l i m (entry i r ∷ rest) st) (λ u. lay o brk r i m rest u)
-- a line suffix is kept until the line ends, after those that are kept already
lay o brk (t.LineSuffix d) i m rest st = Done [] (record st { pending = st.pending ++ d ∷ [] })
-- the document has the indent that the node sets
lay o brk (t.Indented how d) i m rest st = lay o brk d (indent_by how i st.column) m rest st
-- nothing is written; the probe of a group answers no to it
lay o brk t.ExpandParent i m rest st = Done [] st
-- the document is laid flat
lay o brk (t.Flatten d) i m rest st = lay o brk d i Flat rest st
-- one document for a broken line, another for a flat one
lay o brk (t.BreakOrFlat b f) i m rest st = by_mode m (lay o brk b i m rest st) (lay o brk f i m rest st)
-- a group is flat where it fits with what follows it, up to the end of the line, and broken where it does not
lay o brk (t.Group d) i m rest st = lay o brk d i (by_mode m (if probe o d i Flat rest st then Flat else Break) Flat) rest st
-- the first branch is laid on trial and kept if nothing in it goes past the width, else the second is laid; on a flat line, the first
lay o brk (t.Union l r) i m rest st =
    by_mode m (accept o st.within (lay o brk l i m rest (in_trial st)) (lay o brk r i m rest st)) (lay o brk l i m rest st)
-- the first branch where its first line fits, else the second; on a flat line, the first
lay o brk (t.PartialUnion l r) i m rest st =
    by_mode m (if probe o l i Break rest st then lay o brk l i m rest st else lay o brk r i m rest st) (lay o brk l i m rest st)
-- the first document where the test holds of the column at which the next content would begin, and the indent; else the second
lay o brk (t.Chosen test y n) i m rest st =
    if choice_holds test (prospective st.column) i then lay o brk y i m rest st else lay o brk n i m rest st

-- trees one after another at one indent, each with the later ones following
unfoldable pub lay_each : RenderOptions → Breaks → List Tree → ℕ → Mode → List Entry → State → Outcome
lay_each o brk [] i m rest st = Done [] st
lay_each o brk (d ∷ ds) i m rest st =
    and_then (lay o brk d i m (entries i ds ++ rest) st) (λ u. lay_each o brk ds i m rest u)

-- the state in which the pending documents are laid: the gap is written first, as before content
abbrev pub flushed : RenderOptions → State → State
flushed o st = record { column = commit 0 st.column; pending = []; within = st.within && padding_fits o.width true st.column }

-- a weak line at the beginning of a line
abbrev pub is_suppressed : Tree → Column → Bool
is_suppressed t.WeakLine c = c.fresh
is_suppressed _ c = false

-- a break where nothing is pending: a line ends, unless a weak line finds it fresh
abbrev pub plain_break : RenderOptions → Tree → ℕ → List Entry → State → Outcome
plain_break o d i rest st = if is_suppressed d st.column then Done [] st else lay_ending o o.indentation_policy (next_indent i rest) st

-- A break: the pending documents are laid first, followed by the break itself, which then begins again.
abbrev pub break_with : RenderOptions → Breaks → List Tree → Breaks
break_with o brk [] d i m rest st = plain_break o d i rest st
break_with o brk (p ∷ ps) d i m rest st =
    after_bytes (spaces (gap st.column))
    (and_then (lay_each o brk (p ∷ ps) i m (entry i d ∷ rest) (flushed o st)) (brk d i m rest))

-- A number of levels makes this a recursion: one is spent where pending documents are laid.
unfoldable pub breaks : RenderOptions → ℕ → Breaks
breaks o zero d i m rest st = Failed []
breaks o (suc n) d i m rest st = break_with o (breaks o n) st.pending d i m rest st

-- The end of the document: the pending documents are laid at indent 0, and those that they queue, round by round.
abbrev pub end_with : RenderOptions → Breaks → (State → Outcome) → List Tree → State → Outcome
end_with o brk again [] st = Done [] st
end_with o brk again (p ∷ ps) st =
    after_bytes (spaces (gap st.column)) (and_then (lay_each o brk (p ∷ ps) 0 Break [] (flushed o st)) again)

-- a number of rounds makes this a recursion
unfoldable pub finish : RenderOptions → Breaks → ℕ → State → Outcome
finish o brk zero st = Failed []
finish o brk (suc n) st = end_with o brk (finish o brk n) st.pending st

-- the state at the beginning of a document
abbrev pub initial : State
initial = record { column = start; pending = []; within = true }

-- the bytes of a layout: all, or those before the node that failed
pub data Bytes : Type 0 where
  Whole : List ℕ → Bytes
  Cut : List ℕ → Bytes

-- the bytes of an outcome, without its state
abbrev pub bytes_of : Outcome → Bytes
bytes_of (Done b st) = Whole b
bytes_of (Failed b) = Cut b

-- a layout with this many levels and rounds
unfoldable pub layout_by : RenderOptions → ℕ → Tree → Outcome
layout_by o n d =
    let brk = breaks o n in
    and_then (lay o brk d 0 Break [] initial) (λ st. finish o brk n st)

-- The layout of a document: at indent 0 in Break, from the start. More levels than its size change nothing.
unfoldable pub layout : RenderOptions → Tree → Bytes
layout o d = bytes_of (layout_by o (size d + 1) d)

-- the bytes of a layout, all or cut
abbrev pub bytes_in : Bytes → List ℕ
bytes_in (Whole b) = b
bytes_in (Cut b) = b

-- the bytes of a layout that does not fail
abbrev pub whole_bytes : Bytes → Option (List ℕ)
whole_bytes (Whole b) = Some b
whole_bytes (Cut b) = None
