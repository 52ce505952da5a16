-- What is shown of a document.
use Rattle.std.specs.Prelude.{◌<◌, ⊤}
use Rattle.prettyless_model.specs.Tree.{Tree, size}
use Rattle.prettyless_doc.specs.declared.debug.DebugShape.{DebugShape}
use Rattle.prettyless_doc.specs.declared.debug.DebugShape.TheVariants.{Name, Text, Payload, One, Two}

-- the children in a shape are smaller than the tree
abbrev pub IsBelow : {N : Type 0} → (N → Tree) → Tree → DebugShape N → Type 0
IsBelow f t (Name s) = ⊤
IsBelow f t (Text s) = ⊤
IsBelow f t (Payload s) = ⊤
IsBelow f t (One s x) = size (f x) < size t
IsBelow f t (Two s x y) = (size (f x) < size t) × (size (f y) < size t)
