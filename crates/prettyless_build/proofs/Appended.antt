-- Trees that are appended to one another, where they are nothing and where they are something.
use Rattle.std.proofs.Common.{◌≡◌, refl, sym, ap, subst, ◌∙◌, Bool, true, false}
use Rattle.prettyless_model.specs.Tree.{Tree, Nil, Append}
use Rattle.prettyless_trees.specs.Built.{is_nil}
use Rattle.prettyless_trees.specs.Built.{append, append_to, enclose, IsNotNil}

-- the tree of which it is said is Nil
nil_from : (x : Tree) → is_nil x ≡ true → Nil ≡ x
nil_from Nil e = refl
nil_from _ e = cc

-- the tree of which it is denied is something
something_from : (x : Tree) → is_nil x ≡ false → IsNotNil x
something_from Nil e = cc
something_from _ e = tt

-- a tree that was looked at is Nil
pub nothing : {x y : Tree} {b : Bool} → x ≡ y → b ≡ is_nil x → b ≡ true → Nil ≡ y
nothing seen said e = nil_from _ (sym said ∙ e) ∙ seen

-- a tree that was looked at is something
pub something : {x y : Tree} {b : Bool} → x ≡ y → b ≡ is_nil x → b ≡ false → IsNotNil y
something seen said e = subst IsNotNil seen (something_from _ (sym said ∙ e))

-- Nil appended
append_nil : (x : Tree) → x ≡ append x Nil
append_nil Nil = refl
append_nil _ = refl

-- a tree after nothing
pub after_nothing : (x y : Tree) → Nil ≡ x → y ≡ append x y
after_nothing x y e = ap (λ (k : Tree). append k y) e

-- a tree before nothing
pub before_nothing : (x y : Tree) → Nil ≡ y → x ≡ append x y
before_nothing x y e = append_nil x ∙ ap (append x) e

-- something after a tree
something_after : (x y : Tree) → IsNotNil y → Append x y ≡ append_to x y
something_after x Nil h = absurd h
something_after x _ h = refl

-- something after something
pub both_something : (x y : Tree) → IsNotNil x → IsNotNil y → Append x y ≡ append x y
both_something Nil y g h = absurd g
both_something x y g h = something_after x y h

-- a tree between two others
pub enclosed : (x y z u w : Tree) → u ≡ append x y → w ≡ append u z → w ≡ enclose x y z
enclosed x y z u w front made = made ∙ ap (λ (k : Tree). append k z) front

-- something, as it was made
pub made_something : (x y u : Tree) → u ≡ append x y → IsNotNil u → IsNotNil (append x y)
made_something x y u made h = subst IsNotNil made h
