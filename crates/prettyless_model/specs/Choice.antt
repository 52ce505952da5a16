-- Choices by column and by nesting: when their tests hold.
use Rattle.std.specs.Prelude.{ℕ, Bool, nat_le, ◌==◌}
use Rattle.prettyless_model.specs.declared.choice.ColumnTest.{ColumnTest}
use Rattle.prettyless_model.specs.declared.choice.ColumnTest.TheVariants as by_column
use Rattle.prettyless_model.specs.declared.choice.NestingTest.{NestingTest}
use Rattle.prettyless_model.specs.declared.choice.NestingTest.TheVariants as by_nesting
use Rattle.prettyless_model.specs.declared.choice.ChoiceTest.{ChoiceTest}
use Rattle.prettyless_model.specs.declared.choice.ChoiceTest.TheVariants.{OnColumn, OnNesting}

-- of the column where the next content would begin, and the indent
abbrev pub column_holds : ColumnTest → ℕ → ℕ → Bool
column_holds (by_column.AtMost limit) column indent = nat_le column limit
column_holds (by_column.AtLeast limit) column indent = nat_le limit column
column_holds by_column.IsNesting column indent = column == indent

-- of the indent
abbrev pub nesting_holds : NestingTest → ℕ → Bool
nesting_holds (by_nesting.AtMost limit) indent = nat_le indent limit
nesting_holds (by_nesting.AtLeast limit) indent = nat_le limit indent

-- of either, from both
abbrev pub choice_holds : ChoiceTest → ℕ → ℕ → Bool
choice_holds (OnColumn test) column indent = column_holds test column indent
choice_holds (OnNesting test) column indent = nesting_holds test indent
