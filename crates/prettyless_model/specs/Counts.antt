-- What a layout counts: the nodes that it lays, and the probes that it needs. What a rejected branch of a union counts is
-- left out. A LineSuffix counts as a node, and the document in it is left out, as are breaks that are begun again.
use Rattle.std.specs.Prelude.{ℕ, ◌+◌, ◌&&◌, if◌then◌else◌, ◌∷◌, [], List}
use Rattle.prettyless_model.specs.declared.options.RenderOptions.{RenderOptions}
use Rattle.prettyless_model.specs.Tree as t
use Rattle.prettyless_model.specs.Tree.{Tree}
use Rattle.prettyless_model.specs.Column.{prospective, padding_fits}
use Rattle.prettyless_model.specs.Indent.{indent_by}
use Rattle.prettyless_model.specs.Choice.{choice_holds}
use Rattle.prettyless_model.specs.Look.{by_mode}
use Rattle.prettyless_model.specs.Layout.{State, Outcome, Done, Failed, Entry, entry, lay, probe, some_pending, in_trial, initial}
use Rattle.prettyless_model.specs.Levels.{settle}
use Rattle.prettyless_model.specs.declared.mode.Mode.{Mode}
use Rattle.prettyless_model.specs.declared.mode.Mode.TheVariants.{Break, Flat}

-- what a node counts that is laid in a mode
abbrev pub Weight : Type 0
Weight = Tree → Mode → ℕ

-- each node counts one
abbrev pub each_node : Weight
each_node d m = 1

-- a group and a partial union need one probe in Break
abbrev pub each_probe : Weight
each_probe (t.Group d) m = by_mode m 1 0
each_probe (t.PartialUnion l r) m = by_mode m 1 0
each_probe _ m = 0

-- what is counted from the state after an outcome on: nothing where it failed
abbrev pub counted_then : Outcome → (State → ℕ) → ℕ
counted_then (Done b st) next = next st
counted_then (Failed b) next = 0

-- what a first branch counts if it is kept, and else what the second does
abbrev pub counted_accept : RenderOptions → Outcome → ℕ → ℕ → ℕ
counted_accept o (Done b st) first second =
    if st.within && padding_fits o.width (some_pending st.pending) st.column then first else second
counted_accept o (Failed b) first second = second

-- The weights of the nodes that are laid, added up: of a node, and of those below it that `lay` goes on with.
unfoldable pub tally : RenderOptions → Tree → ℕ → Mode → List Entry → State → Weight → ℕ
tally o (t.Append l r) i m rest st w =
    w (t.Append l r) m + (tally o l i m (entry i r ∷ rest) st w
    + counted_then (lay o (settle o) l i m (entry i r ∷ rest) st) (λ u. tally o r i m rest u w))
tally o (t.Indented how d) i m rest st w = w (t.Indented how d) m + tally o d (indent_by how i st.column) m rest st w
tally o (t.Flatten d) i m rest st w = w (t.Flatten d) m + tally o d i Flat rest st w
tally o (t.BreakOrFlat b f) i m rest st w =
    w (t.BreakOrFlat b f) m + by_mode m (tally o b i m rest st w) (tally o f i m rest st w)
tally o (t.Group d) i m rest st w =
    w (t.Group d) m + tally o d i (by_mode m (if probe o d i Flat rest st then Flat else Break) Flat) rest st w
tally o (t.Union l r) i m rest st w =
    w (t.Union l r) m + by_mode m
    (counted_accept o (lay o (settle o) l i m rest (in_trial st)) (tally o l i m rest (in_trial st) w) (tally o r i m rest st w))
    (tally o l i m rest st w)
tally o (t.PartialUnion l r) i m rest st w =
    w (t.PartialUnion l r) m + by_mode m
    (if probe o l i Break rest st then tally o l i m rest st w else tally o r i m rest st w)
    (tally o l i m rest st w)
tally o (t.Chosen test y n) i m rest st w =
    w (t.Chosen test y n) m + (if choice_holds test (prospective st.column) i then tally o y i m rest st w else tally o n i m rest st w)
-- a node with no document below it, or a line suffix, whose document is laid at the end of the line
tally o d i m rest st w = w d m

-- how many nodes the layout of a document lays
abbrev pub laid_nodes : RenderOptions → Tree → ℕ
laid_nodes o d = tally o d 0 Break [] initial each_node

-- how many probes the layout of a document needs
abbrev pub laid_probes : RenderOptions → Tree → ℕ
laid_probes o d = tally o d 0 Break [] initial each_probe
