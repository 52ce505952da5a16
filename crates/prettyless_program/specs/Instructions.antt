-- The instructions of programs.
use Rattle.std.specs.Prelude.{ℕ, ℤ, List}
use Rattle.prettyless_model.specs.declared.choice.ColumnTest.{ColumnTest}
use Rattle.prettyless_model.specs.declared.choice.NestingTest.{NestingTest}
use Rattle.prettyless_model.specs.declared.choice.ChoiceTest.TheVariants as ask
use Rattle.prettyless_model.specs.declared.kind.Indenting.TheVariants as by
use Rattle.prettyless_model.specs.declared.kind.Single.{Single}
use Rattle.prettyless_model.specs.declared.kind.Single.TheVariants as one
use Rattle.prettyless_model.specs.declared.kind.Pair.{Pair}
use Rattle.prettyless_model.specs.declared.kind.Pair.TheVariants as two
use Rattle.prettyless_program.specs.declared.instruction.Leaf.{Leaf}
use Rattle.prettyless_program.specs.declared.instruction.Words.{Words}

-- an instruction with its operands
pub data Instruction : Type 0 where
  -- a document that holds no other
  Put : Leaf → Instruction
  -- a text, by its bytes
  Write : Words → List ℕ → Instruction
  -- a text, and how many columns it counts as
  Count : ℕ → List ℕ → Instruction
  -- a node of this kind over the last document
  Wrap : Single → Instruction
  -- a node of this kind over the last two documents
  Both : Pair → Instruction
  -- what is made between these two is one document
  Open : Instruction
  Close : Instruction

-- kinds that may have a number: names of `Wrap` and `Both`, in patterns as well
pattern abbrev pub WrapNest : ℤ → Instruction
WrapNest k = Wrap (one.Indented (by.Nest k))

pattern abbrev pub BothOnColumn : ColumnTest → Instruction
BothOnColumn test = Both (two.Chosen (ask.OnColumn test))

pattern abbrev pub BothOnNesting : NestingTest → Instruction
BothOnNesting test = Both (two.Chosen (ask.OnNesting test))
