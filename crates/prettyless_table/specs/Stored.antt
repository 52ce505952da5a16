-- Where a document and its parts stand in a table.
use Rattle.std.specs.Prelude.{◌≡◌, ℕ, ◌<◌, Bool, true, false, List, [], ◌∷◌, Option, Some, None, length, get_or, ⊤}
use Rattle.prettyless_model.specs.Tree.{Tree, One}
use Rattle.prettyless_table.specs.declared.cell.Cell.{Cell}
use Rattle.prettyless_table.specs.Parts.{shares, small}
use Rattle.prettyless_table.specs.Cells.{In}

-- this tree is at a place
pub record HasAt (ts : List (Option Tree)) (place : ℕ) (d : Tree) : Type 0 where
  pub within : place < length ts
  pub is : get_or ts place None ≡ Some d

-- the first of trees, if there is one, stands at a place of a table
abbrev pub FirstIn : {N : Type 0} → List (Cell N) → ℕ → List Tree → Type 0
FirstIn cells place [] = ⊤
FirstIn cells place (x ∷ xs) = In cells x place

-- and the second one
abbrev pub SecondIn : {N : Type 0} → List (Cell N) → ℕ → List Tree → Type 0
SecondIn cells place [] = ⊤
SecondIn cells place (x ∷ []) = ⊤
SecondIn cells place (x ∷ y ∷ xs) = In cells y place

-- where one document stands, another one does
abbrev pub Serves : (N : Type 0) → Tree → Tree → Type 0
Serves N d e = (cells : List (Cell N)) (at : ℕ) → In cells d at → In cells e at

-- a node that has the place of its part would have one that is not small; this one gets a cell of its own
abbrev pub IsSmallIf : Bool → Tree → Type 0
IsSmallIf true d = small d ≡ true
IsSmallIf false d = ⊤

abbrev pub IsOwn : Tree → Type 0
IsOwn (One kind d) = IsSmallIf (shares kind) d
IsOwn _ = ⊤
