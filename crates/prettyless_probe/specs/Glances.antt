-- What a probe learns of a document before it reads it.
use Rattle.std.specs.Prelude.{◌≡◌, ℕ, ◌^◌, ◌<◌, Bool, true, false, IsTrue}
use Rattle.prettyless_model.specs.Tree.{Tree, size}
use Rattle.prettyless_model.specs.Look.{Answers, look}
use Rattle.prettyless_model.specs.declared.column.Column.{Column}
use Rattle.prettyless_model.specs.declared.mode.Mode.{Mode}
use Rattle.prettyless_summary.specs.Summary.{Summarizes, has_summary}
use Rattle.prettyless_summary.specs.declared.summary.Summary.{Summary}
use Rattle.prettyless_probe.specs.Reads.{answers_before}
use Rattle.prettyless_probe.specs.declared.visit.ProbeStep.{ProbeStep}
use Rattle.prettyless_probe.specs.declared.visit.ProbeStep.TheVariants.{Answer, Next, Silent}

-- the summary of a document, which has one unless it is too large
pub record IsSum (s : Summary) (d : Tree) (m : Mode) : Type 0 where
  pub known : Summarizes s d m
  pub has : size d < 2 ^ 32 → has_summary d m ≡ true

-- the answer of a document, which comes before its first choice unless it is too large
pub record IsAnswer (b : Bool) (width : ℕ) (d : Tree) (i : ℕ) (m : Mode) (c : Column) (p : Bool) : Type 0 where
  pub answers : look width d i m c p ≡ Answers b
  pub before : size d < 2 ^ 32 → answers_before width d i m c p ≡ true

-- a document has no summary, and what comes before its first choice has no answer, unless it is too large
pub record IsUnknown (width : ℕ) (d : Tree) (i : ℕ) (m : Mode) (c : Column) (p : Bool) : Type 0 where
  pub has : has_summary d m ≡ false
  pub before : answers_before width d i m c p ≡ false

-- what is learned of a document at an indent in a mode, where nodes have summaries or not
abbrev pub IsLearned : Bool → ProbeStep Summary → ℕ → Tree → ℕ → Mode → Column → Bool → Type 0
IsLearned has (Next s) width d i m c p = IsTrue has × IsSum s d m
IsLearned has (Answer b) width d i m c p = IsTrue has × IsAnswer b width d i m c p
IsLearned has Silent width d i m c p = IsTrue has → size d < 2 ^ 32 → IsUnknown width d i m c p
