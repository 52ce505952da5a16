-- The law of widths: what may end past the width, and what may not.
use Rattle.std.specs.Prelude.{◌≡◌, ℕ, ◌<◌, List, [], ◌∷◌, All, ⊤}
use Rattle.prettyless_model.specs.declared.options.RenderOptions.{RenderOptions}
use Rattle.prettyless_model.specs.Tree.{Tree}
use Rattle.prettyless_laws.specs.Trace as traces
use Rattle.prettyless_laws.specs.Trace.{Piece, trace, trace_of}
use Rattle.prettyless_laws.specs.FlatLines.{IsOnOneLine}
use Rattle.prettyless_laws.specs.Enclosed.{Enclosure, FlatGroup, BrokenGroup, Flattened, KeptBranch, Enclosed, enclosed_trace}
use Rattle.prettyless_laws.specs.Enclosed.{enclosed_pieces, without_enclosures}

-- the trace with what is around its pieces is the trace, but for that
abbrev pub EnclosedTracesAreTraces : Type 0
EnclosedTracesAreTraces = (o : RenderOptions) (d : Tree) → trace o d ≡ trace_of (without_enclosures (enclosed_trace o d))

-- a flat group is around the piece, and no `Flatten` is around that group
abbrev pub IsInFlatGroup : List Enclosure → Type 0
IsInFlatGroup [] = ⊥
IsInFlatGroup (FlatGroup ∷ es) = ⊤
IsInFlatGroup (BrokenGroup ∷ es) = IsInFlatGroup es
IsInFlatGroup (Flattened ∷ es) = ⊥
IsInFlatGroup (KeptBranch ∷ es) = IsInFlatGroup es

-- the first branch of a union, kept after a trial, is around the piece
abbrev pub IsInKeptBranch : List Enclosure → Type 0
IsInKeptBranch [] = ⊥
IsInKeptBranch (KeptBranch ∷ es) = ⊤
IsInKeptBranch (_ ∷ es) = IsInKeptBranch es

-- each group around the piece is broken, or has a `Flatten` around it
abbrev pub GroupsAreBroken : List Enclosure → Type 0
GroupsAreBroken [] = ⊤
GroupsAreBroken (FlatGroup ∷ es) = ⊥
GroupsAreBroken (BrokenGroup ∷ es) = GroupsAreBroken es
GroupsAreBroken (Flattened ∷ es) = ⊤
GroupsAreBroken (KeptBranch ∷ es) = GroupsAreBroken es

-- a text that ends past this width
abbrev pub EndsPast : ℕ → Piece → Type 0
EndsPast width (traces.Text s column) = width < column
EndsPast width _ = ⊥

-- in a flat group nothing but a gap, a text that ends within the width, or an alternative is laid: no line ends there
abbrev pub FlatGroupsStayOnOneLine : Type 0
FlatGroupsStayOnOneLine =
    (o : RenderOptions) (d : Tree)
    → All (λ (p : Enclosed). IsInFlatGroup p.around → IsOnOneLine o.width p.piece) (enclosed_pieces (enclosed_trace o d))

-- around a text that ends past the width each group is broken, or has a `Flatten` around it
abbrev pub TextsPastTheWidthAreBroken : Type 0
TextsPastTheWidthAreBroken =
    (o : RenderOptions) (d : Tree)
    → All (λ (p : Enclosed). EndsPast o.width p.piece → GroupsAreBroken p.around) (enclosed_pieces (enclosed_trace o d))

-- no text of a first branch that was kept after a trial ends past the width
abbrev pub KeptBranchesStayWithin : Type 0
KeptBranchesStayWithin =
    (o : RenderOptions) (d : Tree)
    → All (λ (p : Enclosed). IsInKeptBranch p.around → EndsPast o.width p.piece → ⊥) (enclosed_pieces (enclosed_trace o d))
