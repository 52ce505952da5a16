-- The parts of a small tree, which are small themselves.
use Rattle.std.proofs.Common.{◌≡◌, Bool, true, false, ◌&&◌, List, [], ◌∷◌, refl}
use Rattle.std.specs.Prelude.{⊤}
use Rattle.prettyless_model.specs.Tree.{Tree}
use Rattle.prettyless_table.specs.Parts.{below_small, leaves, none, parts_of, small, tiny}

and_first : (p q : Bool) → (p && q) ≡ true → p ≡ true
and_first true q e = refl
and_first false q e = cc

and_second : (p q : Bool) → (p && q) ≡ true → q ≡ true
and_second true q e = e
and_second false q e = cc

-- trees are small
abbrev pub AllSmall : List Tree → Type 0
AllSmall [] = ⊤
AllSmall (d ∷ ds) = (small d ≡ true) × AllSmall ds

-- a leaf is small
pub none_small : (ds : List Tree) → none ds ≡ true → below_small ds ≡ true
none_small [] e = refl
none_small (d ∷ ds) e = cc

none_leaves : (ds : List Tree) → none ds ≡ true → leaves ds ≡ true
none_leaves [] e = refl
none_leaves (d ∷ ds) e = cc

both : (p q : Bool) → p ≡ true → q ≡ true → (p && q) ≡ true
both true q d e = e
both false q d e = cc

-- and so is a tiny tree
pub tiny_small : (ds : List Tree) → leaves ds ≡ true → below_small ds ≡ true
tiny_small [] e = refl
tiny_small (x ∷ []) e = e
tiny_small (x ∷ y ∷ []) e = both (none (parts_of x)) (tiny y) (and_first (none (parts_of x)) _ e)
    (none_leaves (parts_of y) (and_first (none (parts_of y)) true (and_second (none (parts_of x)) _ e)))
tiny_small (x ∷ y ∷ z ∷ zs) e = e

leaves_small : (ds : List Tree) → leaves ds ≡ true → AllSmall ds
leaves_small [] e = tt
leaves_small (d ∷ ds) e =
    (none_small (parts_of d) (and_first (none (parts_of d)) (leaves ds) e), leaves_small ds (and_second (none (parts_of d)) (leaves ds) e))

pub parts_small : (ds : List Tree) → below_small ds ≡ true → AllSmall ds
parts_small [] e = tt
parts_small (x ∷ []) e = leaves_small (x ∷ []) e
parts_small (x ∷ y ∷ []) e = (
  none_small (parts_of x) (and_first (none (parts_of x)) (tiny y) e),
  (tiny_small (parts_of y) (and_second (none (parts_of x)) (tiny y) e), tt),
)
parts_small (x ∷ y ∷ z ∷ zs) e = leaves_small (x ∷ y ∷ z ∷ zs) e
