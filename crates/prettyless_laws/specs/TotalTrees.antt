-- Documents that cannot fail.
use Rattle.std.specs.Prelude.{◌≡◌, ℕ, List, ⊤}
use Rattle.prettyless_model.specs.declared.options.RenderOptions.{RenderOptions}
use Rattle.prettyless_model.specs.Tree.{Tree, Fail, Append, LineSuffix, Indented, Flatten, BreakOrFlat, Group, Union, PartialUnion, Chosen}
use Rattle.prettyless_model.specs.Layout.{layout, Whole}

-- a tree with no Fail and no Flatten
abbrev pub IsTotal : Tree → Type 0
IsTotal Fail = ⊥
IsTotal (Append l r) = IsTotal l × IsTotal r
IsTotal (LineSuffix d) = IsTotal d
IsTotal (Indented how d) = IsTotal d
IsTotal (Flatten d) = ⊥
IsTotal (BreakOrFlat b f) = IsTotal b × IsTotal f
IsTotal (Group d) = IsTotal d
IsTotal (Union l r) = IsTotal l × IsTotal r
IsTotal (PartialUnion l r) = IsTotal l × IsTotal r
IsTotal (Chosen test y n) = IsTotal y × IsTotal n
IsTotal _ = ⊤

-- such a tree is laid to its end
abbrev pub TotalTreesDoNotFail : Type 0
TotalTreesDoNotFail = (o : RenderOptions) (d : Tree) → IsTotal d → (b : List ℕ) × (layout o d ≡ Whole b)
