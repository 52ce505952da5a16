-- What an iterator gives of which documents are made, and the trees of them.
use Rattle.std.specs.Prelude.{◌≡◌, List, [], ◌∷◌, Option, Some}
use Rattle.std.specs.Iterator.{Drains, YieldsThen}
use Rattle.std.specs.List.{FoldsTo}
use Rattle.prettyless_model.specs.Tree.{Tree, Nil}
use Rattle.prettyless_trees.specs.Built.{append, appends}

-- walked on from a state, an iterator gives an item with P
abbrev pub GivesNext : {S A : Type 0} → (S → Option A → S → Type 0) → S → (A → Type 0) → Type 0
GivesNext {S} {A} steps it P = (xs : List A) × (x : A) × (u : S) × YieldsThen steps it xs (Some x) u × P x

-- walked on from a state, an iterator gives two items at least
abbrev pub GivesTwo : {S A : Type 0} → (S → Option A → S → Type 0) → S → Type 0
GivesTwo {S} {A} steps it = (x : A) × (y : A) × (u : S) × YieldsThen steps it (x ∷ []) (Some y) u

module _ {U S A : Type 0} (becomes : U → S → Type 0) (steps : S → Option A → S → Type 0) (docs : U) where
  -- walked to its end, it gives xs
  abbrev pub GivesAll : List A → Type 0
  GivesAll xs = (it : S) × becomes docs it × Drains steps it xs

  -- walked on, it gives an item with P
  abbrev pub GivesSome : (A → Type 0) → Type 0
  GivesSome P = (it : S) × becomes docs it × GivesNext steps it P

  -- walked on, it gives two items at least, so that there is a gap between them
  abbrev pub HasGap : Type 0
  HasGap = (it : S) × becomes docs it × GivesTwo steps it

-- the trees that items may become, appended in order
abbrev pub Concatenates : {A : Type 0} → (A → Tree → Type 0) → List A → Tree → Type 0
Concatenates R xs z = FoldsTo (appends R) Nil xs z

-- a tree with s and then one that d may become appended
abbrev pub appends_after : {A : Type 0} → Tree → (A → Tree → Type 0) → Tree → A → Tree → Type 0
appends_after s R x d z = (y : Tree) × R d y × (z ≡ append (append x s) y)

-- the trees that items may become, in order, with one tree of S in each gap
abbrev pub Intersperses : {A : Type 0} → (A → Tree → Type 0) → (Tree → Type 0) → List A → Tree → Type 0
Intersperses R S [] z = z ≡ Nil
Intersperses R S (d ∷ []) z = R d z
Intersperses R S (d ∷ e ∷ ds) z =
    (x : Tree) × (s : Tree) × R d x × S s × FoldsTo (appends_after s R) x (e ∷ ds) z
