-- What is known of a document's summary: all of it, or that of what comes before the first choice by column or nesting.
use Rattle.std.specs.Prelude.{◌≡◌, ℕ, ◌^◌, ◌<◌, Bool, true, false, if◌then◌else◌}
use Rattle.prettyless_model.specs.Tree.{Tree, Nil, Append, Indented, Flatten, BreakOrFlat, Group, Union, PartialUnion, Chosen, size}
use Rattle.prettyless_model.specs.Look.{Answers, by_mode, look}
use Rattle.prettyless_model.specs.declared.column.Column.{Column}
use Rattle.prettyless_model.specs.declared.mode.Mode.{Mode}
use Rattle.prettyless_model.specs.declared.mode.Mode.TheVariants.{Flat}
use Rattle.prettyless_summary.specs.Summary.{IsSmall, Summarizes, has_summary, look_by}
use Rattle.prettyless_summary.specs.declared.summary.Summary.{Summary}
use Rattle.prettyless_summary.specs.declared.known.Known.{Known}
use Rattle.prettyless_summary.specs.declared.known.Known.TheVariants.{Whole, Begins}

-- What is read of a document in a mode before its first choice by column or nesting.
abbrev pub before_choice : Tree → Mode → Tree
before_choice (Append l r) m = if has_summary l m then Append l (before_choice r m) else before_choice l m
before_choice (Indented how d) m = Indented how (before_choice d m)
before_choice (Flatten d) m = Flatten (before_choice d Flat)
before_choice (BreakOrFlat b f) m = by_mode m (before_choice b m) (before_choice f m)
before_choice (Group d) m = before_choice d m
before_choice (Union l r) m = by_mode m (before_choice r m) (before_choice l m)
before_choice (PartialUnion l r) m = by_mode m (before_choice r m) (before_choice l m)
before_choice (Chosen test y n) m = Nil
before_choice d m = d

-- where reading a line by a summary has an answer, the document has that answer
abbrev pub AnswersFor : Summary → Tree → Mode → Type 0
AnswersFor s d m =
    (i width : ℕ) (c : Column) (p b : Bool) → look_by width s c p ≡ Answers b → look width d i m c p ≡ Answers b

-- what is known of a document in a mode holds
abbrev pub KnownHolds : Known → Tree → Mode → Type 0
KnownHolds (Whole s) d m = Summarizes s d m
KnownHolds (Begins s) d m = AnswersFor s d m

-- where this is true, the whole is known, and else what comes before the first choice; it counts at most a weak space for each node
abbrev pub FoundIf : Bool → Known → Tree → Mode → Type 0
FoundIf true (Whole s) d m = IsSmall (size d) s
FoundIf false (Begins s) d m = Summarizes s (before_choice d m) m × IsSmall (size d) s
FoundIf _ _ d m = ⊥

-- a document that is not too large is known as a whole just where it has a summary
abbrev pub IsFound : Known → Tree → Mode → Type 0
IsFound k d m = size d < 2 ^ 32 → FoundIf (has_summary d m) k d m

-- What is known of a document in a mode: it holds, and is all that can be known, unless the document is too large.
pub record IsKnown (k : Known) (d : Tree) (m : Mode) : Type 0 where
  pub holds : KnownHolds k d m
  pub found : IsFound k d m
