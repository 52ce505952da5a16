-- How documents are grouped: one after another, in any grouping, they have one layout.
use Rattle.std.specs.Prelude.{◌≡◌}
use Rattle.prettyless_model.specs.declared.options.RenderOptions.{RenderOptions}
use Rattle.prettyless_model.specs.Tree.{Tree, Append, LineSuffix, Indented, Flatten, BreakOrFlat, Group, Union, PartialUnion, Chosen}
use Rattle.prettyless_model.specs.Layout.{layout}

-- a document after another, at the end of the latter's right arms
abbrev pub appended : Tree → Tree → Tree
appended (Append a b) d = Append a (appended b d)
appended l d = Append l d

-- every `Append (Append a b) c`, at any depth, as `Append a (Append b c)`
abbrev pub right : Tree → Tree
right (Append l r) = appended (right l) (right r)
right (LineSuffix d) = LineSuffix (right d)
right (Indented how d) = Indented how (right d)
right (Flatten d) = Flatten (right d)
right (BreakOrFlat b f) = BreakOrFlat (right b) (right f)
right (Group d) = Group (right d)
right (Union l r) = Union (right l) (right r)
right (PartialUnion l r) = PartialUnion (right l) (right r)
right (Chosen test y n) = Chosen test (right y) (right n)
right d = d

-- regrouping changes no layout
abbrev pub RegroupingKeepsLayouts : Type 0
RegroupingKeepsLayouts = (o : RenderOptions) (d : Tree) → layout o d ≡ layout o (right d)

-- documents that differ in their grouping alone have one layout
abbrev pub GroupingsShareLayouts : Type 0
GroupingsShareLayouts = (o : RenderOptions) (d e : Tree) → right d ≡ right e → layout o d ≡ layout o e
