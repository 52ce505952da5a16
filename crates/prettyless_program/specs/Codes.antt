-- The byte that an instruction begins with. A code is for ever: new ones may come, and none changes.
use Rattle.std.specs.Prelude.{ℕ}
use Rattle.prettyless_model.specs.declared.choice.ColumnTest.TheVariants as by_column
use Rattle.prettyless_model.specs.declared.choice.NestingTest.TheVariants as by_nesting
use Rattle.prettyless_model.specs.declared.kind.Indenting.TheVariants as by
use Rattle.prettyless_model.specs.declared.kind.Single.TheVariants as one
use Rattle.prettyless_model.specs.declared.kind.Pair.TheVariants as two
use Rattle.prettyless_program.specs.declared.instruction.Leaf.TheVariants as leaf
use Rattle.prettyless_program.specs.declared.instruction.Words.TheVariants as words
use Rattle.prettyless_program.specs.Instructions.{Instruction, Put, Write, Count, Wrap, WrapNest, Both, BothOnColumn, BothOnNesting, Open, Close}

-- the code of an instruction
abbrev pub code_of : Instruction → ℕ
code_of (Put leaf.Nil) = 0
code_of (Put leaf.Fail) = 1
code_of (Put leaf.WeakSpace) = 2
code_of (Put leaf.HardLine) = 3
code_of (Put leaf.WeakLine) = 4
code_of (Put leaf.ExpandParent) = 5
code_of (Put leaf.Line) = 6
code_of (Put leaf.LineOrNil) = 7
code_of (Write words.Measured s) = 16
code_of (Write words.Ascii s) = 17
code_of (Count n s) = 18
code_of (Write words.Multiline s) = 19
code_of (Wrap one.Group) = 32
code_of (Wrap one.Flatten) = 33
code_of (Wrap (one.Indented by.Align)) = 34
code_of (Wrap (one.Indented by.DedentToRoot)) = 35
code_of (Wrap one.LineSuffix) = 36
code_of (WrapNest k) = 37
code_of (Both two.Append) = 48
code_of (Both two.BreakOrFlat) = 49
code_of (Both two.Union) = 50
code_of (Both two.PartialUnion) = 51
code_of (BothOnColumn (by_column.AtMost n)) = 52
code_of (BothOnColumn (by_column.AtLeast n)) = 53
code_of (BothOnColumn by_column.IsNesting) = 54
code_of (BothOnNesting (by_nesting.AtMost n)) = 55
code_of (BothOnNesting (by_nesting.AtLeast n)) = 56
code_of Open = 64
code_of Close = 65
