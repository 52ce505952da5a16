-- What a formatter writes.
use Rattle.std.specs.Prelude.{ℕ, List, ⊤, Option, Result, Ok, Err}
use Rattle.std.specs.Io.KnownBytes.{Appends, Keeps}
use Rattle.formatter_files.specs.declared.formatter.LayoutError.{LayoutError}
use Rattle.formatter_files.specs.declared.formatter.LayoutError.TheVariants.{Text, Writer}
use Rattle.formatter_files.specs.declared.formatter.Verdict.{Verdict}
use Rattle.formatter_files.specs.declared.formatter.Verdict.TheVariants.{LaidOut, Refused}

-- the writer failed
abbrev pub IsOfWriter : LayoutError → Type 0
IsOfWriter (Text e) = ⊥
IsOfWriter (Writer e) = ⊤

-- By its answer, what a writer holds goes from old to new: a layout is appended, or nothing is. Where the writer fails, nothing is known.
abbrev pub WritesLayout : (List ℕ → Type 0) → Option (List ℕ) → Option (List ℕ) → Result Verdict LayoutError → Type 0
WritesLayout IsLayout old new (Ok LaidOut) = (layout : List ℕ) × IsLayout layout × Appends old new layout
WritesLayout IsLayout old new (Ok Refused) = Keeps old new
WritesLayout IsLayout old new (Err (Text e)) = Keeps old new
WritesLayout IsLayout old new (Err (Writer e)) = ⊤

-- the same where parts of a text are laid out each on its own: those that are not refused are written, whether one is refused or not
abbrev pub WritesParts : (List ℕ → Type 0) → Option (List ℕ) → Option (List ℕ) → Result Verdict LayoutError → Type 0
WritesParts IsLayout old new (Ok LaidOut) = (layout : List ℕ) × IsLayout layout × Appends old new layout
WritesParts IsLayout old new (Ok Refused) = ⊤
WritesParts IsLayout old new (Err e) = ⊤
