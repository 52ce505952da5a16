-- The probe by what it reads of a document, a list of atoms: where no choice by column or nesting stands in the document or in
-- what follows it, the probe answers whether its atoms stay within the width.
use Rattle.std.specs.Prelude.{◌≡◌, ℕ, Bool, true, false, not, ◌&&◌, ◌||◌, nat_le, List, [], ◌∷◌, ◌++◌, length, if◌then◌else◌, ⊤}
use Rattle.prettyless_model.specs.Tree as t
use Rattle.prettyless_model.specs.Tree.{Tree}
use Rattle.prettyless_model.specs.Look.{by_mode}
use Rattle.prettyless_model.specs.Layout.{State, Entry, probe, some_pending}
use Rattle.prettyless_model.specs.declared.options.RenderOptions.{RenderOptions}
use Rattle.prettyless_model.specs.Metrics.{metrics}
use Rattle.prettyless_model.specs.Column.{commit, blank, padding_fits}
use Rattle.prettyless_model.specs.declared.column.Column.{Column}
use Rattle.prettyless_model.specs.declared.mode.Mode.{Mode}
use Rattle.prettyless_model.specs.declared.mode.Mode.TheVariants.{Break, Flat}

-- text of a counted width, a weak space, a line suffix, what no flat line holds, a hard end of
-- the line, a weak one, a payload by its first width and whether its first part is nonempty
pub data Atom : Type 0 where
  Ink : ℕ → Atom
  Blank : Atom
  Queue : Atom
  Stop : Atom
  Hard : Atom
  Weak : Mode → Atom
  Payload : ℕ → Bool → Atom

-- an empty text is nothing
abbrev pub ink_of : ℕ → List ℕ → List Atom
ink_of w [] = []
ink_of w (b ∷ bs) = Ink w ∷ []

-- what a document shows in a mode; a choice by column or nesting shows different documents at different places, and is left out
abbrev pub reading : Tree → Mode → List Atom
reading t.Nil m = []
reading t.Fail m = Stop ∷ []
reading (t.Text s) m = ink_of (length s) s
reading (t.TextWithLen w s) m = ink_of w s
reading (t.MultilineText s) m = by_mode m (Payload (metrics s).first_width (metrics s).first_nonempty ∷ []) (Stop ∷ [])
reading t.WeakSpace m = Blank ∷ []
reading t.HardLine m = by_mode m (Hard ∷ []) (Stop ∷ [])
reading t.WeakLine m = Weak m ∷ []
reading (t.Append l r) m = reading l m ++ reading r m
reading (t.LineSuffix d) m = Queue ∷ []
reading (t.Indented how d) m = reading d m
reading t.ExpandParent m = by_mode m [] (Stop ∷ [])
reading (t.Flatten d) m = reading d Flat
reading (t.BreakOrFlat b f) m = by_mode m (reading b m) (reading f m)
reading (t.Group d) m = reading d m
reading (t.Union l r) m = by_mode m (reading r m) (reading l m)
reading (t.PartialUnion l r) m = by_mode m (reading r m) (reading l m)
reading (t.Chosen test y n) m = []

-- what is read after the probed document: each document that follows, in Break
abbrev pub rest_atoms : List Entry → List Atom
rest_atoms [] = []
rest_atoms (e ∷ es) = reading e.tree Break ++ rest_atoms es

-- whether the atoms, up to the end of the line, stay within the width; `pending` says that a document is pending
abbrev pub fits : ℕ → Column → Bool → List Atom → Bool
fits width c pending [] = padding_fits width pending c
fits width c pending (Ink w ∷ atoms) = nat_le (commit w c).position width && fits width (commit w c) pending atoms
fits width c pending (Blank ∷ atoms) = fits width (blank c) pending atoms
fits width c pending (Queue ∷ atoms) = fits width c true atoms
fits width c pending (Stop ∷ atoms) = false
fits width c pending (Hard ∷ atoms) = padding_fits width pending c
fits width c pending (Weak m ∷ atoms) =
    if c.fresh && not pending then fits width c pending atoms else by_mode m (padding_fits width pending c) false
fits width c pending (Payload w nonempty ∷ atoms) = not nonempty || nat_le (commit w c).position width

-- no choice by column or nesting stands in a document
abbrev pub IsPlain : Tree → Type 0
IsPlain (t.Append l r) = IsPlain l × IsPlain r
IsPlain (t.LineSuffix d) = IsPlain d
IsPlain (t.Indented how d) = IsPlain d
IsPlain (t.Flatten d) = IsPlain d
IsPlain (t.BreakOrFlat b f) = IsPlain b × IsPlain f
IsPlain (t.Group d) = IsPlain d
IsPlain (t.Union l r) = IsPlain l × IsPlain r
IsPlain (t.PartialUnion l r) = IsPlain l × IsPlain r
IsPlain (t.Chosen test y n) = ⊥
IsPlain _ = ⊤

-- nor in what follows
abbrev pub ArePlain : List Entry → Type 0
ArePlain [] = ⊤
ArePlain (e ∷ es) = IsPlain e.tree × ArePlain es

-- then the probe answers what their atoms do, at any indent
abbrev pub ProbesGoByReadings : Type 0
ProbesGoByReadings =
    (o : RenderOptions) (d : Tree) (i : ℕ) (m : Mode) (rest : List Entry) (st : State) → IsPlain d → ArePlain rest
    → probe o d i m rest st ≡ fits o.width st.column (some_pending st.pending) (reading d m ++ rest_atoms rest)
