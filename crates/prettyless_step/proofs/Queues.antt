-- The queue: what waits, what is put off, and whether anything does.
use Rattle.std.proofs.Common.{◌≡◌, ℕ, suc, ◌+◌, ◌-◌, ◌≤◌, ◌<◌, List, [], ◌∷◌, ◌++◌, length, refl, ap, ◌∙◌, append_assoc, append-nil, arith}
use Rattle.std.proofs.Common.{drop, length-drop, true, false}
use Rattle.std.proofs.lemmas.List.{map-append, drop-append-le, drop_all}
use Rattle.prettyless_model.specs.Tree.{Tree}
use Rattle.prettyless_model.specs.Layout.{some_pending}
use Rattle.prettyless_probe.specs.Stack.{trees}

pub trees-append : {N : Type 0} (f : N → Tree) (xs ys : List N) → trees f (xs ++ ys) ≡ trees f xs ++ trees f ys
trees-append f xs ys = map-append f xs ys

-- what waits, one document on
pub trees_push : {N : Type 0} (f : N → Tree) (xs : List N) (n : ℕ) (x : N) → n ≤ length xs → trees f (drop n (xs ++ x ∷ [])) ≡ trees f
    (drop n xs) ++ f x ∷ []
trees_push f xs n x h = ap (trees f) (drop-append-le n xs (x ∷ []) h) ∙ trees-append f (drop n xs) (x ∷ [])

pub trees_none : {N : Type 0} (f : N → Tree) (xs : List N) (n : ℕ) → length xs ≤ n → trees f (drop n xs) ≡ []
trees_none f xs n h = ap (trees f) (drop_all n xs h)

length-trees : {N : Type 0} (f : N → Tree) (xs : List N) → length (trees f xs) ≡ length xs
length-trees f [] = refl
length-trees f (x ∷ xs) = ap suc (length-trees f xs)

pub length-pending : {N : Type 0} (f : N → Tree) (xs : List N) (n : ℕ) → length (trees f (drop n xs)) ≡ length xs - n
length-pending f xs n = length-trees f (drop n xs) ∙ length-drop n xs

some : (ds : List Tree) → 0 < length ds → some_pending ds ≡ true
some [] l = absurd (omega arith)
some (d ∷ ds) l = refl

none : (ds : List Tree) → length ds ≤ 0 → some_pending ds ≡ false
none [] l = refl
none (d ∷ ds) l = absurd (omega arith)

pub pending_some : {N : Type 0} (f : N → Tree) (xs : List N) (n : ℕ) → n < length xs → some_pending (trees f (drop n xs)) ≡ true
pending_some f xs n h = some (trees f (drop n xs)) (omega (arith, length-pending f xs n))

pub pending_none : {N : Type 0} (f : N → Tree) (xs : List N) (n : ℕ) → length xs ≤ n → some_pending (trees f (drop n xs)) ≡ false
pending_none f xs n h = none (trees f (drop n xs)) (omega (arith, length-pending f xs n))

pub ruleset queues = (trees_push, trees_none, pending_some, pending_none, append-nil, append_assoc)

pub length_some : (ds : List Tree) → some_pending ds ≡ true → 0 < length ds
length_some [] h = cc
length_some (d ∷ ds) h = omega arith

pub length_none : (ds : List Tree) → some_pending ds ≡ false → length ds ≤ 0
length_none [] h = omega arith
length_none (d ∷ ds) h = cc
