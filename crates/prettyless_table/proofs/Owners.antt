-- The nodes of documents that take cells: their list, read from its end, has the parts of each node right after it.
use Rattle.std.proofs.Common.{◌≡◌, ℕ, zero, suc, ◌+◌, ◌≤◌, Bool, true, false, ◌&&◌, if◌then◌else◌, List, [], ◌∷◌, ◌++◌, length, drop, refl}
use Rattle.std.proofs.Common.{ap, subst, sym, ◌∙◌, arith, append-nil, append_assoc, length-append}
use Rattle.std.specs.Prelude.{⊤}
use Rattle.std.proofs.Math.Seq.{drop-append_seam}
use Rattle.prettyless_model.specs.Tree.{Tree, Nil, One, Two, size}
use Rattle.prettyless_model.specs.declared.kind.Single.{Single}
use Rattle.prettyless_probe.proofs.Sizes.{size_positive}
use Rattle.prettyless_table.specs.Parts.{below_small, none, parts_of, shares, small, takes, takes_own}
use Rattle.prettyless_table.specs.Stored.{IsOwn, IsSmallIf, Serves}
use Rattle.prettyless_table.specs.Owners.{all_owners, keeper, keeper_by, keepers, owners_of, with_own}
use Rattle.prettyless_table.proofs.Sharing.{serves_part}
use Rattle.prettyless_table.proofs.Small.{AllSmall, none_small, parts_small}

-- ---- The size of a tree

-- the sizes of trees together
abbrev pub sizes : List Tree → ℕ
sizes [] = 0
sizes (d ∷ ds) = size d + sizes ds

-- the size of a tree, from those of its parts
pub size-is : (d : Tree) → size d ≡ sizes (parts_of d) + 1
size-is (One kind d) = omega arith
size-is (Two kind l r) = omega arith
size-is Nil = omega arith
size-is _ = omega arith

pub size_one : (d x : Tree) → x ∷ [] ≡ parts_of d → size d ≡ size x + 1
size_one d x e = omega (arith, size-is d, ap sizes e)

pub size_two : (d x y : Tree) → x ∷ y ∷ [] ≡ parts_of d → size d ≡ size x + size y + 1
size_two d x y e = omega (arith, size-is d, ap sizes e)

-- ---- Which nodes take cells

-- the nodes of a tree that take cells, by its parts
pub owners-is : (d : Tree) → owners_of d ≡ with_own d (all_owners (parts_of d))
owners-is (One kind d) = ap (with_own (One kind d)) (sym (append-nil (owners_of d)))
owners-is (Two kind l r) = ap (λ ds. with_own (Two kind l r) (owners_of l ++ ds)) (sym (append-nil (owners_of r)))
owners-is Nil = refl
owners-is _ = refl

pub owners_own : (d : Tree) → takes d ≡ true → owners_of d ≡ d ∷ all_owners (parts_of d)
owners_own d e = owners-is d ∙ ap (λ (b : Bool). if b then d ∷ all_owners (parts_of d) else all_owners (parts_of d)) e

pub owners_not : (d : Tree) → takes d ≡ false → owners_of d ≡ all_owners (parts_of d)
owners_not d e = owners-is d ∙ ap (λ (b : Bool). if b then d ∷ all_owners (parts_of d) else all_owners (parts_of d)) e

-- what holds of a node that takes a cell
pub record IsOwner (d : Tree) : Type 0 where
  pub large : small d ≡ false
  pub own : IsOwn d
  pub keeper : keeper d ≡ d

not_true : (b : Bool) → (if b then false else true) ≡ true → b ≡ false
not_true true e = cc
not_true false e = refl

not_false : (b : Bool) → (if b then false else true) ≡ false → b ≡ true
not_false true e = refl
not_false false e = cc

lone_large : (p b : Bool) → (if p then false else b) ≡ true → (p && true) ≡ false
lone_large true b e = cc
lone_large false b e = refl

lone_small : (p b : Bool) → (if p then false else b) ≡ true → b ≡ true
lone_small true b e = cc
lone_small false b e = e

owner_of : (s : Bool) (kind : Single) (d : Tree) → shares kind ≡ s → takes_own s (One kind d) d ≡ true → IsOwner (One kind d)
owner_of true kind d is e =
    let b = lone_small (none (parts_of d)) (small d) e in
    record {
      large = lone_large (none (parts_of d)) (small d) e;
      own = subst (λ (s : Bool). IsSmallIf s d) (sym is) b;
      keeper = rw is (rw b refl);
    }
owner_of false kind d is e = record {
  large = not_true (small (One kind d)) e;
  own = subst (λ (s : Bool). IsSmallIf s d) (sym is) tt;
  keeper = rw is refl;
}

pub owner : (d : Tree) → takes d ≡ true → IsOwner d
owner (One kind d) e = owner_of (shares kind) kind d refl e
owner (Two kind l r) e = record { large = not_true (small (Two kind l r)) e; own = tt; keeper = refl }
owner Nil e = cc
owner _ e = cc

-- ---- Of which node a document has the cell

pub keepers_small : (d : Tree) (ds : List Tree) → small d ≡ true → keepers (d ∷ ds) ≡ keepers ds
keepers_small d ds e = ap (λ (b : Bool). if b then keepers ds else keeper d ∷ keepers ds) e

pub keepers_large : (d : Tree) (ds : List Tree) → small d ≡ false → keepers (d ∷ ds) ≡ keeper d ∷ keepers ds
keepers_large d ds e = ap (λ (b : Bool). if b then keepers ds else keeper d ∷ keepers ds) e

-- the parts of a small tree have no cells
keepers_below : (ds : List Tree) → AllSmall ds → keepers ds ≡ []
keepers_below [] h = refl
keepers_below (d ∷ ds) h = keepers_small d ds h.0 ∙ keepers_below ds h.1

keepers_less : (d : Tree) (ds : List Tree) → small d ≡ true → keepers (d ∷ ds) ≡ keepers (parts_of d) ++ keepers ds
keepers_less d ds e =
    keepers_small d ds e
    ∙ ap (λ (es : List Tree). es ++ keepers ds) (sym (keepers_below (parts_of d) (parts_small (parts_of d) e)))

keepers_shared : (p b : Bool) (x y : Tree) (zs : List Tree) → (p ≡ true → b ≡ true) → (if p then false else b) ≡ false
    → (if (p && true) then zs else keeper_by true b x y ∷ zs) ≡ (if b then [] else y ∷ []) ++ zs
keepers_shared true true x y zs g e = refl
keepers_shared true false x y zs g e = absurd (cc (g refl))
keepers_shared false true x y zs g e = cc
keepers_shared false false x y zs g e = refl

keepers_not_of : (s : Bool) (kind : Single) (d : Tree) (ds : List Tree) → shares kind ≡ s → takes_own s (One kind d) d ≡ false
    → (if small (One kind d) then keepers ds else keeper_by s (small d) (One kind d) (keeper d) ∷ keepers ds)
    ≡ keepers (d ∷ []) ++ keepers ds
keepers_not_of true kind d ds is e =
    keepers_shared (none (parts_of d)) (small d) (One kind d) (keeper d) (keepers ds) (none_small (parts_of d)) e
keepers_not_of false kind d ds is e =
    subst (λ (s : Bool). (if small (One kind d) then keepers ds else keeper_by s (small d) (One kind d) (keeper d) ∷ keepers ds)
    ≡ keepers (d ∷ []) ++ keepers ds)
    is (keepers_less (One kind d) ds (not_false (small (One kind d)) e))

-- a node that takes no cell has that of its part, if there is one
pub keepers_not : (d : Tree) (ds : List Tree) → takes d ≡ false → keepers (d ∷ ds) ≡ keepers (parts_of d) ++ keepers ds
keepers_not (One kind d) ds e = keepers_not_of (shares kind) kind d ds refl e
keepers_not (Two kind l r) ds e = keepers_less (Two kind l r) ds (not_false (small (Two kind l r)) e)
keepers_not Nil ds e = refl
keepers_not _ ds e = refl

-- ---- Nodes in a list

-- the documents that wait once listed nodes have their cells, from the end of the list: each takes its parts and waits itself
abbrev pub waiting : List Tree → List Tree
waiting [] = []
waiting (d ∷ ds) = d ∷ drop (length (keepers (parts_of d))) (waiting ds)

-- a listed node takes a cell, and its parts are the first that wait
pub record Fits (d : Tree) (ds : List Tree) : Type 0 where
  pub takes : takes d ≡ true
  pub parts : ds ≡ keepers (parts_of d) ++ drop (length (keepers (parts_of d))) ds

-- and so does each of a list
abbrev pub AllFit : List Tree → Type 0
AllFit [] = ⊤
AllFit (d ∷ ds) = Fits d (waiting ds) × AllFit ds

-- documents before listed nodes were listed
pub record IsListed (ds : List Tree) (rest : List Tree) : Type 0 where
  pub waits : waiting (all_owners ds ++ rest) ≡ keepers ds ++ waiting rest
  pub fit : AllFit (all_owners ds ++ rest)

listed_own : (d : Tree) (ds rest : List Tree) → takes d ≡ true → IsListed (parts_of d) (all_owners ds ++ rest) → IsListed ds rest
    → IsListed (d ∷ ds) rest
listed_own d ds rest e below after =
    let more : List Tree = all_owners ds ++ rest in
    let inner : List Tree = all_owners (parts_of d) ++ more in
    let parts : List Tree = keepers (parts_of d) in
    let is = owner d e in
    let list : all_owners (d ∷ ds) ++ rest ≡ d ∷ inner =
    ap (λ (es : List Tree). (es ++ all_owners ds) ++ rest) (owners_own d e)
    ∙ ap (λ (es : List Tree). d ∷ es) (append_assoc (all_owners (parts_of d)) (all_owners ds) rest) in
    let rest_of : drop (length parts) (waiting inner) ≡ waiting more =
    ap (drop (length parts)) below.waits ∙ drop-append_seam parts (waiting more) in
    record {
      waits = ap waiting list ∙ ap (λ (es : List Tree). d ∷ es) (rest_of ∙ after.waits)
          ∙ ap (λ (x : Tree). x ∷ (keepers ds ++ waiting rest)) (sym is.keeper)
          ∙ ap (λ (es : List Tree). es ++ waiting rest) (sym (keepers_large d ds is.large));
      fit = subst AllFit (sym list) (
        record { takes = e; parts = below.waits ∙ ap (λ (es : List Tree). parts ++ es) (sym rest_of) },
        below.fit,
      );
    }

listed_not : (d : Tree) (ds rest : List Tree) → takes d ≡ false → IsListed (parts_of d) (all_owners ds ++ rest) → IsListed ds rest
    → IsListed (d ∷ ds) rest
listed_not d ds rest e below after =
    let more : List Tree = all_owners ds ++ rest in
    let inner : List Tree = all_owners (parts_of d) ++ more in
    let parts : List Tree = keepers (parts_of d) in
    let list : all_owners (d ∷ ds) ++ rest ≡ inner =
    ap (λ (es : List Tree). (es ++ all_owners ds) ++ rest) (owners_not d e) ∙ append_assoc (all_owners (parts_of d)) (all_owners ds) rest in
    record {
      waits = ap waiting list ∙ below.waits ∙ ap (λ (es : List Tree). parts ++ es) after.waits
          ∙ sym (append_assoc parts (keepers ds) (waiting rest))
          ∙ ap (λ (es : List Tree). es ++ waiting rest) (sym (keepers_not d ds e));
      fit = subst AllFit (sym list) below.fit;
    }

listed_by : (b : Bool) (d : Tree) (ds rest : List Tree) → takes d ≡ b → IsListed (parts_of d) (all_owners ds ++ rest) → IsListed ds rest
    → IsListed (d ∷ ds) rest
listed_by true d ds rest e below after = listed_own d ds rest e below after
listed_by false d ds rest e below after = listed_not d ds rest e below after

listed_within : (n : ℕ) (ds rest : List Tree) → sizes ds ≤ n → AllFit rest → IsListed ds rest
listed_within n [] rest h fit = record { waits = refl; fit = fit }
listed_within zero (d ∷ ds) rest h fit = absurd (omega (arith, h, size_positive d))
listed_within (suc n) (d ∷ ds) rest h fit =
    let after : IsListed ds rest = listed_within n ds rest (omega (arith, h, size_positive d)) fit in
    listed_by (takes d) d ds rest refl (listed_within n (parts_of d) (all_owners ds ++ rest) (omega (arith, h, size-is d)) after.fit) after

-- whatever documents are listed, all nodes of the list fit, and in the end just these documents wait
pub listed : (ds : List Tree) → IsListed ds []
listed ds = listed_within (sizes ds) ds [] (omega arith) tt

some_parts : (ds : List Tree) → below_small ds ≡ false → 1 ≤ length ds
some_parts [] e = cc
some_parts (d ∷ ds) e = omega arith

fewer_by : (b : Bool) (d : Tree) → takes d ≡ b → length (all_owners (parts_of d)) + length (parts_of d) ≤ sizes (parts_of d)
    → length (owners_of d) + 1 ≤ size d
fewer_by true d e h = omega (arith, ap length (owners_own d e), h, size-is d, some_parts (parts_of d) (owner d e).large)
fewer_by false d e h = omega (arith, ap length (owners_not d e), h, size-is d)

fewer_within : (n : ℕ) (ds : List Tree) → sizes ds ≤ n → length (all_owners ds) + length ds ≤ sizes ds
fewer_within n [] h = omega arith
fewer_within zero (d ∷ ds) h = absurd (omega (arith, h, size_positive d))
fewer_within (suc n) (d ∷ ds) h = omega (
  arith,
  fewer_within n ds (omega (arith, h, size_positive d)),
  fewer_by (takes d) d refl (fewer_within n (parts_of d) (omega (arith, h, size-is d))),
  length-append (owners_of d) (all_owners ds),
)

-- ---- How many take cells

-- documents have more nodes than take cells, each by one at least
pub owners_fewer : (ds : List Tree) → length (all_owners ds) + length ds ≤ sizes ds
owners_fewer ds = fewer_within (sizes ds) ds (omega arith)

-- a document stands where the node does whose cell it has
shared_serves : (N : Type 0) (s b : Bool) (kind : Single) (d : Tree) → shares kind ≡ s → small d ≡ b → Serves N (keeper d) d
    → Serves N (keeper_by s b (One kind d) (keeper d)) (One kind d)
shared_serves N true false kind d is little below = λ cells at h. serves_part N kind d is little cells at (below cells at h)
shared_serves N true true kind d is little below = λ cells at h. h
shared_serves N false true kind d is little below = λ cells at h. h
shared_serves N false false kind d is little below = λ cells at h. h

pub keeper_serves : (N : Type 0) (d : Tree) → Serves N (keeper d) d
keeper_serves N (One kind d) = shared_serves N (shares kind) (small d) kind d refl refl (keeper_serves N d)
keeper_serves N (Two kind l r) = λ cells at h. h
keeper_serves N Nil = λ cells at h. h
keeper_serves N _ = λ cells at h. h
