-- Lines that are laid out one after another, each from the beginning of a line.
use Rattle.std.specs.Prelude.{◌≡◌, ◌⊎◌, ℕ, Bool, List, []}
use Rattle.prettyless_model.specs.Tree.{Tree, Append, HardLine}
use Rattle.prettyless_model.specs.Column.{start}
use Rattle.prettyless_model.specs.Layout.{Done, Entry, initial, lay, next_indent, Outcome, State}
use Rattle.prettyless_model.specs.Levels.{settle}
use Rattle.prettyless_model.specs.declared.mode.Mode.TheVariants.{Break}
use Rattle.prettyless_model.specs.declared.options.RenderOptions.{RenderOptions}

-- at the beginning of a line, with nothing pending; something before went past the width or not
abbrev pub at_line : Bool → State
at_line w = record { column = start; pending = []; within = w }

-- it is done with these bytes there
abbrev pub EndsAtLine : Outcome → List ℕ → Type 0
EndsAtLine x bytes = (w : Bool) × (x ≡ Done bytes (at_line w))

-- a document is laid to these bytes up to the beginning of a line, whatever follows it at indent 0
abbrev pub AreLines : RenderOptions → Tree → List ℕ → Type 0
AreLines o d bytes = (rest : List Entry) → next_indent 0 rest ≡ 0 → EndsAtLine (lay o (settle o) d 0 Break rest initial) bytes

-- a document ends with a hard line
abbrev pub EndsHard : Tree → Type 0
EndsHard d = (d ≡ HardLine) ⊎ ((x : Tree) × (d ≡ Append x HardLine))
