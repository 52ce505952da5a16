-- The pointers of a node.
use Rattle.std.specs.Prelude.{◌≡◌}
use Rattle.prettyless_doc.specs.declared.doc.Doc.{Doc}
use Rattle.prettyless_doc.specs.declared.doc.Doc.TheVariants.{Nil, Fail, Text, TextWithLen, MultilineText, WeakSpace, HardLine, WeakLine}
use Rattle.prettyless_doc.specs.declared.doc.Doc.TheVariants.{Append, LineSuffix, Nest, DedentToRoot, Align, ExpandParent, Flatten}
use Rattle.prettyless_doc.specs.declared.doc.Doc.TheVariants.{BreakOrFlat, Group, Union, PartialUnion, OnColumn, OnNesting}
use Rattle.prettyless_pointers.specs.declared.children.Children.{Children}
use Rattle.prettyless_pointers.specs.declared.children.Children.TheVariants.{None, One, Two}

-- the pointers of a node
abbrev pub children_of : {T : Type 0} → Doc T → Children T
children_of Nil = None
children_of Fail = None
children_of (Text s) = None
children_of (TextWithLen w s) = None
children_of (MultilineText s) = None
children_of WeakSpace = None
children_of HardLine = None
children_of WeakLine = None
children_of (Append l r) = Two l r
children_of (LineSuffix x) = One x
children_of (Nest k x) = One x
children_of (DedentToRoot x) = One x
children_of (Align x) = One x
children_of ExpandParent = None
children_of (Flatten x) = One x
children_of (BreakOrFlat l r) = Two l r
children_of (Group x) = One x
children_of (Union l r) = Two l r
children_of (PartialUnion l r) = Two l r
children_of (OnColumn test l r) = Two l r
children_of (OnNesting test l r) = Two l r

-- this is the first of the pointers
abbrev pub IsFirstPointer : {T : Type 0} → Children T → T → Type 0
IsFirstPointer None p = ⊥
IsFirstPointer (One x) p = p ≡ x
IsFirstPointer (Two l r) p = p ≡ l

-- the pointers with the first taken away, and this one put after the others
abbrev pub moved_up : {T : Type 0} → Children T → T → Children T
moved_up None p = None
moved_up (One x) p = One p
moved_up (Two l r) p = Two r p
