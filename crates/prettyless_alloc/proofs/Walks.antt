-- Iterators that are walked on, and trees with nothing between them.
use Rattle.std.proofs.Common.{◌≡◌, refl, sym, ◌∙◌, ap, subst, true, false, List, [], ◌∷◌, Option, Some}
use Rattle.std.specs.Iterator.{Drains}
use Rattle.std.specs.List.{FoldsTo}
use Rattle.prettyless_model.specs.Tree.{Tree, Nil, Append}
use Rattle.prettyless_trees.specs.Built.{is_nil}
use Rattle.prettyless_trees.specs.Built.{IsNotNil, append, append_to, appends}
use Rattle.prettyless_build.specs.Iterated.{GivesNext, GivesTwo, appends_after}

module _ {S A : Type 0} (steps : S → Option A → S → Type 0) (it j : S) (x : A) (step : steps it (Some x) j) where
  -- the next item
  pub gives_first : (P : A → Type 0) → P x → GivesNext steps it P
  gives_first P p = ([], x, j, (it, refl, step), p)

  -- a later item
  pub gives_later : (P : A → Type 0) → GivesNext steps j P → GivesNext steps it P
  gives_later P h = (x ∷ h.0, h.1, h.2, (h.3.0, (j, step, h.3.1), h.3.2), h.4)

  -- a first item and a second
  pub gives_two : (y : A) (u : S) → steps j (Some y) u → GivesTwo steps it
  gives_two y u next = (x, y, u, (j, (j, step, refl), next))

  -- all the items
  pub drains_later : (xs : List A) → Drains steps j xs → Drains steps it (x ∷ xs)
  drains_later xs h = (h.0, (h.1.0, (j, step, h.1.1), h.1.2))

-- nothing appended
append_nothing : (x : Tree) → append x Nil ≡ x
append_nothing Nil = refl
append_nothing _ = refl

-- the tree of which it is said is Nil
pub nil_from : (x : Tree) → is_nil x ≡ true → x ≡ Nil
nil_from Nil e = refl
nil_from _ e = cc

-- with nothing between them, trees are appended
pub between_nothing : {A : Type 0} (R : A → Tree → Type 0) (s : Tree) (xs : List A) (a z : Tree) → s ≡ Nil
    → FoldsTo (appends R) a xs z → FoldsTo (appends_after s R) a xs z
between_nothing R s [] a z e h = h
between_nothing R s (x ∷ xs) a z e h =
    let gone : a ≡ append a s = sym (ap (append a) e ∙ append_nothing a) in
    (h.0, (h.1.0, h.1.1, h.1.2 ∙ ap (λ (b : Tree). append b h.1.0) gone), between_nothing R s xs h.0 z e h.2)

-- the same, with one tree that is appended first
pub nothing_between : (s a b z : Tree) → s ≡ Nil → z ≡ append a b → z ≡ append (append a s) b
nothing_between s a b z e h = h ∙ ap (λ (t : Tree). append t b) (sym (ap (append a) e ∙ append_nothing a))

-- ---- Trees that are something

-- the tree of which it is said is something
pub some_from : (x : Tree) → is_nil x ≡ false → IsNotNil x
some_from Nil e = cc
some_from _ e = tt

append_to_some : (x y : Tree) → IsNotNil y → append_to x y ≡ Append x y
append_to_some x Nil h = absurd h
append_to_some x _ h = refl

append_some : (x y : Tree) → IsNotNil x → append x y ≡ append_to x y
append_some Nil y h = absurd h
append_some _ y h = refl

some_to : (x y : Tree) → IsNotNil x → IsNotNil (append_to x y)
some_to x Nil h = h
some_to x _ h = tt

-- two of them are one node
pub two_appended : (x y : Tree) → IsNotNil x → IsNotNil y → append x y ≡ Append x y
two_appended x y h k = append_some x y h ∙ append_to_some x y k

-- something stays so where a tree is appended
pub some_before : (x y : Tree) → IsNotNil x → IsNotNil (append x y)
some_before x y h = subst IsNotNil (sym (append_some x y h)) (some_to x y h)

-- and where it is appended
pub some_after : (x y : Tree) → IsNotNil y → IsNotNil (append x y)
some_after Nil y h = h
some_after x y h = some_before x y tt

-- a node of two of them and of a third one
pub placed_after : (all gap doc front back : Tree) → IsNotNil all → IsNotNil gap → IsNotNil doc → front ≡ Append all gap → back ≡ doc
    → Append front back ≡ append (append all gap) doc
placed_after all gap doc front back h k l e f =
    ap (λ (x : Tree). Append x back) (e ∙ sym (two_appended all gap h k)) ∙ ap (Append (append all gap)) f
    ∙ sym (two_appended (append all gap) doc (some_before all gap h) l)
