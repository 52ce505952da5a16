-- Laws of flat lines: what the probe answers yes to is laid on one line, and its trace shows that.
use Rattle.std.specs.Prelude.{◌≡◌, ℕ, suc, ◌≤◌, Bool, true, List, [], ◌∷◌, ◌++◌, All, ◌⊎◌, ⊤}
use Rattle.prettyless_model.specs.declared.options.RenderOptions.{RenderOptions}
use Rattle.prettyless_model.specs.Tree.{Tree, WeakLine, Append, LineSuffix, Indented, Flatten, BreakOrFlat, Group, Union, PartialUnion}
use Rattle.prettyless_model.specs.Tree.{Chosen}
use Rattle.prettyless_model.specs.Layout.{State, Done, Breaks, Entry, lay, probe, rest_fits, some_pending, in_trial, breaks}
use Rattle.prettyless_model.specs.Levels.{settle}
use Rattle.prettyless_model.specs.declared.column.Column.{Column}
use Rattle.prettyless_model.specs.declared.mode.Mode.{Mode}
use Rattle.prettyless_model.specs.declared.mode.Mode.TheVariants.{Break, Flat}
use Rattle.prettyless_laws.specs.Reading.{IsPlain}
use Rattle.prettyless_laws.specs.Trace as traces
use Rattle.prettyless_laws.specs.Trace.{Piece, Ending, Indent, Gap, Source, Alternative, First, Traced, BreakTraces, trace_at, trace_breaks}

-- A tree leaves these documents pending in Flat, in their order. A choice by column or nesting leaves those of one of its two
-- documents.
abbrev pub LeavesPending : Tree → List Tree → Type 0
LeavesPending (Append l r) ds = (xs : List Tree) × (ys : List Tree) × LeavesPending l xs × LeavesPending r ys × (ds ≡ xs ++ ys)
LeavesPending (LineSuffix d) ds = ds ≡ d ∷ []
LeavesPending (Indented how d) ds = LeavesPending d ds
LeavesPending (Flatten d) ds = LeavesPending d ds
LeavesPending (BreakOrFlat b f) ds = LeavesPending f ds
LeavesPending (Group d) ds = LeavesPending d ds
LeavesPending (Union l r) ds = LeavesPending l ds
LeavesPending (PartialUnion l r) ds = LeavesPending l ds
LeavesPending (Chosen test y n) ds = LeavesPending y ds ⊎ LeavesPending n ds
LeavesPending _ ds = ds ≡ []

-- a meaning of a break that leaves out a weak line where the line is fresh and nothing is pending; of every other
-- break it says nothing
abbrev pub SkipsWeakLines : Breaks → Type 0
SkipsWeakLines brk =
    (i : ℕ) (rest : List Entry) (st : State) → st.pending ≡ [] → st.column.fresh ≡ true → brk WeakLine i Flat rest st ≡ Done [] st

-- an indent at which a tree is laid flat as it is at the first one: any, where no choice by column or nesting stands in it, and
-- else the same
abbrev pub IsLike : Tree → ℕ → ℕ → Type 0
IsLike d i j = IsPlain d ⊎ (j ≡ i)

-- a tree is laid in Flat from a state to these bytes and this state, at an indent and at those that are like it, whatever a
-- break means, and before anything: so no break is laid
abbrev pub LaysFlat : RenderOptions → Tree → ℕ → State → List ℕ → State → Type 0
LaysFlat o d i st bytes after =
    (brk : Breaks) → SkipsWeakLines brk → (j : ℕ) → IsLike d i j → (rest : List Entry) → lay o brk d j Flat rest st ≡ Done bytes after

-- a tree that is laid in Flat at an indent from a state on one line, with what is asked of the column after it
pub record LiesOnOneLine (o : RenderOptions) (d : Tree) (i : ℕ) (next : Column → Bool → Bool) (st : State) : Type 0 where
  -- what it writes
  pub bytes : List ℕ
  -- the state after it
  pub state : State
  -- without a failure and without a break
  pub done : LaysFlat o d i st bytes state
  -- no text goes past the width: the flag is as it was
  pub within : state.within ≡ st.within
  -- also where it is set anew, and then it stays set
  pub anew : LaysFlat o d i (in_trial st) bytes (in_trial state)
  -- the tree's own line suffixes
  pub own : List Tree
  pub leaves : LeavesPending d own
  -- nothing that was pending is laid, and they are pending after it
  pub pending : state.pending ≡ st.pending ++ own
  -- what follows it, up to the end of the line, stays within the width
  pub follows : next state.column (some_pending state.pending) ≡ true

-- what the probe answers yes to in Flat is laid on one line
abbrev pub WhatFitsLiesOnOneLine : Type 0
WhatFitsLiesOnOneLine =
    (o : RenderOptions) (d : Tree) (i : ℕ) (rest : List Entry) (st : State) → probe o d i Flat rest st ≡ true
    → LiesOnOneLine o d i (λ c p. rest_fits o.width rest c p) st

-- a group is laid so wherever its probe answers yes
abbrev pub GroupsThatFitAreFlat : Type 0
GroupsThatFitAreFlat =
    (o : RenderOptions) (brk : Breaks) (d : Tree) (i : ℕ) (m : Mode) (rest : List Entry) (st : State) → probe o d i Flat rest st ≡ true
    → lay o brk (Group d) i m rest st ≡ lay o brk d i Flat rest st

-- breaks with at least one level, and with as many as they need, leave out such weak lines
abbrev pub BreaksSkipWeakLines : Type 0
BreaksSkipWeakLines = (o : RenderOptions) → ((n : ℕ) → SkipsWeakLines (breaks o (suc n))) × SkipsWeakLines (settle o)

-- a piece that stays on its line and within this width: a gap, a text that ends by then, or an alternative; nothing else
abbrev pub IsOnOneLine : ℕ → Piece → Type 0
IsOnOneLine width Ending = ⊥
IsOnOneLine width (Indent k used) = ⊥
IsOnOneLine width (Gap g) = ⊤
IsOnOneLine width (traces.Text s column) = column ≤ width
IsOnOneLine width (Source s) = ⊥
IsOnOneLine width (Alternative side) = ⊤

-- a piece that is no alternative
abbrev pub IsNoAlternative : Piece → Type 0
IsNoAlternative (Alternative side) = ⊥
IsNoAlternative _ = ⊤

-- a trace of breaks that has nothing of a weak line where the line is fresh and nothing is pending; of every other
-- break it says nothing
abbrev pub PassesWeakLines : BreakTraces → Type 0
PassesWeakLines brk =
    (i : ℕ) (rest : List Entry) (st : State) → st.pending ≡ [] → st.column.fresh ≡ true → brk WeakLine i Flat rest st ≡ Traced [] st

-- the trace of a tree in Flat from a state is these pieces, up to this state, at an indent and at those that are like it, whatever
-- the trace of a break, and before anything
abbrev pub TracesFlat : RenderOptions → Tree → ℕ → State → List Piece → State → Type 0
TracesFlat o d i st pieces after =
    (brk : BreakTraces) → PassesWeakLines brk → (j : ℕ) → IsLike d i j → (rest : List Entry)
    → trace_at o brk d j Flat rest st ≡ Traced pieces after

-- a tree that is laid on one line, and its trace
pub record IsTracedOnOneLine (o : RenderOptions) (d : Tree) (i : ℕ) (next : Column → Bool → Bool) (st : State) : Type 0 where
  -- how it is laid
  pub lies : LiesOnOneLine o d i next st
  -- its trace
  pub pieces : List Piece
  -- these, up to the state that its layout reaches
  pub traced : TracesFlat o d i st pieces lies.state
  -- no end of a line is among them, no indent and no payload, and no text that ends past the width
  pub on_one_line : All (IsOnOneLine o.width) pieces
  -- no alternative either, where no choice by column or nesting stands in the tree
  pub plain : IsPlain d → All IsNoAlternative pieces

-- the trace of a group in Break is its first alternative, and then its document on one line
pub record IsTracedAsFlatGroup (o : RenderOptions) (d : Tree) (i : ℕ) (rest : List Entry) (st : State) : Type 0 where
  -- the document
  pub document : IsTracedOnOneLine o d i (λ c p. rest_fits o.width rest c p) st
  -- the group, whatever the trace of a break
  pub traced : (brk : BreakTraces) → PassesWeakLines brk → trace_at o brk (Group d) i Break rest st
      ≡ Traced (Alternative First ∷ document.pieces)
      document.lies.state

-- what the probe answers yes to in Flat has its trace on one line
abbrev pub WhatFitsIsTracedOnOneLine : Type 0
WhatFitsIsTracedOnOneLine =
    (o : RenderOptions) (d : Tree) (i : ℕ) (rest : List Entry) (st : State) → probe o d i Flat rest st ≡ true
    → IsTracedOnOneLine o d i (λ c p. rest_fits o.width rest c p) st

-- a group has such a trace wherever its probe answers yes
abbrev pub GroupsThatFitAreTracedFlat : Type 0
GroupsThatFitAreTracedFlat = (o : RenderOptions) (d : Tree) (i : ℕ) (rest : List Entry) (st : State) → probe o d i Flat rest st ≡ true
    → IsTracedAsFlatGroup o d i rest st

-- the trace's own breaks, of at least one level, have nothing of such weak lines
abbrev pub TraceBreaksPassWeakLines : Type 0
TraceBreaksPassWeakLines = (o : RenderOptions) (n : ℕ) → PassesWeakLines (trace_breaks o (suc n))
