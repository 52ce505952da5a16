-- Nodes that take cells, as a count lists them.
use Rattle.std.proofs.Common.{◌≡◌, ℕ, Bool, true, false, if◌then◌else◌, List, [], ◌∷◌, ◌++◌, map, refl, ap, ap₂, sym, ◌∙◌, append-nil}
use Rattle.std.proofs.Common.{append_assoc}
use Rattle.prettyless_model.specs.Tree.{Tree, Nil, One, Two}
use Rattle.prettyless_table.specs.Parts.{parts_of, small, takes}
use Rattle.prettyless_table.specs.Owners.{all_owners, owners_of, waiting_owners, with_own}
use Rattle.prettyless_table.proofs.Owners.{owner, owners-is, owners_not}
use Rattle.prettyless_table.proofs.Small.{parts_small}

takes_small_by : (d : Tree) (b : Bool) → takes d ≡ b → small d ≡ true → takes d ≡ false
takes_small_by d true e h = absurd (cc (sym h ∙ (owner d e).large))
takes_small_by d false e h = e

-- a small document takes no cells
pub small_owners : (d : Tree) → small d ≡ true → owners_of d ≡ []
small_owners (One kind d) e =
    owners_not (One kind d) (takes_small_by (One kind d) (takes (One kind d)) refl e)
    ∙ ap (λ ds. ds ++ []) (small_owners d (parts_small (d ∷ []) e).0)
small_owners (Two kind l r) e =
    let parts = parts_small (l ∷ r ∷ []) e in
    owners_not (Two kind l r) (takes_small_by (Two kind l r) (takes (Two kind l r)) refl e)
    ∙ ap₂ (λ xs ys. xs ++ (ys ++ [])) (small_owners l parts.0) (small_owners r parts.1.0)
small_owners Nil e = refl
small_owners _ e = refl

with_own_before : (b : Bool) (d : Tree) (ds rest : List Tree)
    → (if b then d ∷ ds else ds) ++ rest ≡ (if b then d ∷ (ds ++ rest) else ds ++ rest)
with_own_before true d ds rest = refl
with_own_before false d ds rest = refl

-- a node was listed: what is left to list are its parts
pub lists_parts : (d : Tree) (old new parts rest : List Tree) → parts ≡ parts_of d
    → ((more : List Tree) → new ++ more ≡ old ++ with_own d more) → new ++ (all_owners parts ++ rest) ≡ old ++ (owners_of d ++ rest)
lists_parts d old new parts rest e own =
    ap (λ ps. new ++ (all_owners ps ++ rest)) e ∙ own (all_owners (parts_of d) ++ rest)
    ∙ ap (λ ds. old ++ ds) (sym (with_own_before (takes d) d (all_owners (parts_of d)) rest))
    ∙ ap (λ ds. old ++ (ds ++ rest)) (sym (owners-is d))

pub lists_one : (d x : Tree) (old new rest : List Tree) → x ∷ [] ≡ parts_of d
    → ((more : List Tree) → new ++ more ≡ old ++ with_own d more) → new ++ (owners_of x ++ rest) ≡ old ++ (owners_of d ++ rest)
lists_one d x old new rest e own =
    ap (λ ds. new ++ (ds ++ rest)) (sym (append-nil (owners_of x))) ∙ lists_parts d old new (x ∷ []) rest e own

pub lists_two : (d x y : Tree) (old new rest : List Tree) → x ∷ y ∷ [] ≡ parts_of d
    → ((more : List Tree) → new ++ more ≡ old ++ with_own d more)
    → new ++ (owners_of x ++ (owners_of y ++ rest)) ≡ old ++ (owners_of d ++ rest)
lists_two d x y old new rest e own =
    ap (λ ds. new ++ ds) (sym (append_assoc (owners_of x) (owners_of y) rest))
    ∙ ap (λ ds. new ++ ((owners_of x ++ ds) ++ rest)) (sym (append-nil (owners_of y))) ∙ lists_parts d old new (x ∷ y ∷ []) rest e own

-- the node that waits last is the next one
pub waiting_push : {N : Type 0} (f : N → Tree) (ns : List N) (n : N)
    → waiting_owners f (ns ++ n ∷ []) ≡ owners_of (f n) ++ waiting_owners f ns
waiting_push f [] n = sym (append-nil (owners_of (f n)))
waiting_push f (m ∷ ns) n =
    ap (λ ds. ds ++ owners_of (f m)) (waiting_push f ns n) ∙ append_assoc (owners_of (f n)) (waiting_owners f ns) (owners_of (f m))

-- a document counted at once is small
pub small_counted : (b : Bool) (n r : ℕ) → r ≡ (if b then n else 0) → (r ≡ 0 → ⊥) → b ≡ true
small_counted true n r e some = refl
small_counted false n r e some = absurd (some e)

pub all_owners-append : (ds es : List Tree) → all_owners (ds ++ es) ≡ all_owners ds ++ all_owners es
all_owners-append [] es = refl
all_owners-append (d ∷ ds) es =
    ap (λ us. owners_of d ++ us) (all_owners-append ds es) ∙ sym (append_assoc (owners_of d) (all_owners ds) (all_owners es))

pub listed_none : {N : Type 0} (f : N → Tree) (old : List N) (n : N) (rest : List Tree) → takes (f n) ≡ false
    → map f old ++ rest ≡ map f old ++ with_own (f n) rest
listed_none f old n rest e = ap (λ (t : Bool). map f old ++ (if t then f n ∷ rest else rest)) (sym e)

-- a document is listed, and others after it
pub lists_next : (old new all left start : List Tree) (d : Tree) (later : List Tree) → new ≡ old ++ owners_of d → left ≡ d ∷ later
    → old ++ all_owners left ≡ start ++ all → new ++ all_owners later ≡ start ++ all
lists_next old new all left start d later e read h =
    ap (λ ds. ds ++ all_owners later) e ∙ append_assoc old (owners_of d) (all_owners later) ∙ ap (λ ds. old ++ all_owners ds) (sym read) ∙ h
