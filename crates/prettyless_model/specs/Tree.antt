-- Documents as trees: the variants of `Doc`, with trees in place of pointers.
use Rattle.std.specs.Prelude.{ℕ, ℤ, ◌+◌, List}
use Rattle.prettyless_model.specs.declared.choice.ColumnTest.{ColumnTest}
use Rattle.prettyless_model.specs.declared.choice.NestingTest.{NestingTest}
use Rattle.prettyless_model.specs.declared.choice.ChoiceTest.{ChoiceTest}
use Rattle.prettyless_model.specs.declared.choice.ChoiceTest.TheVariants as ask
use Rattle.prettyless_model.specs.declared.kind.Indenting.{Indenting}
use Rattle.prettyless_model.specs.declared.kind.Indenting.TheVariants as by
use Rattle.prettyless_model.specs.declared.kind.Single.{Single}
use Rattle.prettyless_model.specs.declared.kind.Single.TheVariants as one
use Rattle.prettyless_model.specs.declared.kind.Pair.{Pair}
use Rattle.prettyless_model.specs.declared.kind.Pair.TheVariants as two

-- a document
pub data Tree : Type 0 where
  Nil : Tree
  Fail : Tree
  Text : List ℕ → Tree
  TextWithLen : ℕ → List ℕ → Tree
  MultilineText : List ℕ → Tree
  WeakSpace : Tree
  HardLine : Tree
  WeakLine : Tree
  ExpandParent : Tree
  One : Single → Tree → Tree
  Two : Pair → Tree → Tree → Tree

-- the variants that hold one document: names of `One`, in patterns as well
pattern abbrev pub LineSuffix : Tree → Tree
LineSuffix d = One one.LineSuffix d

pattern abbrev pub Indented : Indenting → Tree → Tree
Indented how d = One (one.Indented how) d

pattern abbrev pub Nest : ℤ → Tree → Tree
Nest k d = One (one.Indented (by.Nest k)) d

pattern abbrev pub DedentToRoot : Tree → Tree
DedentToRoot d = One (one.Indented by.DedentToRoot) d

pattern abbrev pub Align : Tree → Tree
Align d = One (one.Indented by.Align) d

pattern abbrev pub Flatten : Tree → Tree
Flatten d = One one.Flatten d

pattern abbrev pub Group : Tree → Tree
Group d = One one.Group d

-- those that hold two: names of `Two`
pattern abbrev pub Append : Tree → Tree → Tree
Append l r = Two two.Append l r

pattern abbrev pub BreakOrFlat : Tree → Tree → Tree
BreakOrFlat b f = Two two.BreakOrFlat b f

pattern abbrev pub Union : Tree → Tree → Tree
Union l r = Two two.Union l r

pattern abbrev pub PartialUnion : Tree → Tree → Tree
PartialUnion l r = Two two.PartialUnion l r

pattern abbrev pub Chosen : ChoiceTest → Tree → Tree → Tree
Chosen test y n = Two (two.Chosen test) y n

pattern abbrev pub OnColumn : ColumnTest → Tree → Tree → Tree
OnColumn test y n = Two (two.Chosen (ask.OnColumn test)) y n

pattern abbrev pub OnNesting : NestingTest → Tree → Tree → Tree
OnNesting test y n = Two (two.Chosen (ask.OnNesting test)) y n

-- how many nodes a tree has; a subtree that is in several places counts each time
abbrev pub size : Tree → ℕ
size (One kind d) = size d + 1
size (Two kind l r) = size l + size r + 1
size _ = 1

-- how many nodes of a tree need a probe: its groups and its partial unions
abbrev pub probed : Tree → ℕ
probed (Append l r) = probed l + probed r
probed (LineSuffix d) = probed d
probed (Indented how d) = probed d
probed (Flatten d) = probed d
probed (BreakOrFlat b f) = probed b + probed f
probed (Group d) = probed d + 1
probed (Union l r) = probed l + probed r
probed (PartialUnion l r) = probed l + probed r + 1
probed (Chosen test y n) = probed y + probed n
probed _ = 0
