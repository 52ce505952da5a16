-- Where documents stand in a table.
use Rattle.std.proofs.Common.{◌≡◌, ℕ, zero, suc, ◌-◌, ◌<◌, ◌≤◌, Bool, true, false, List, [], ◌∷◌, ◌++◌, length, get_or, refl, ap, sym}
use Rattle.std.proofs.Common.{subst, ◌∙◌, arith, length-append}
use Rattle.std.proofs.lemmas.List.{get_or_push, get_or_append_left}
use Rattle.std.proofs.Math.ListN.{get_or-eq_default}
use Rattle.prettyless_model.specs.Tree.{Tree, Nil, One, Two}
use Rattle.prettyless_table.specs.declared.cell.Cell.{Cell}
use Rattle.prettyless_table.specs.Parts.{parts_of, shares, small}
use Rattle.prettyless_table.specs.Cells.{HasCell, In, KeepsBoth, Unless, no_cell, part_at, second_at, second_of}
use Rattle.prettyless_table.specs.Stored.{FirstIn, SecondIn, IsOwn, IsSmallIf}

unless_map : (b : Bool) {P Q : Type 0} → (P → Q) → Unless b P → Unless b Q
unless_map true g h = tt
unless_map false g h = g h

unless_true : (b : Bool) (P : Type 0) → b ≡ true → Unless b P
unless_true true P e = tt
unless_true false P e = cc

unless_false : (b : Bool) (P : Type 0) → b ≡ false → Unless b P → P
unless_false true P e h = cc
unless_false false P e h = h

pub unless_some : (b : Bool) {P : Type 0} → P → Unless b P
unless_some true h = tt
unless_some false h = h

get_or_any : {A : Type 0} (xs : List A) (i : ℕ) (x y : A) → i < length xs → get_or xs i x ≡ get_or xs i y
get_or_any [] i x y h = absurd (omega (arith, h))
get_or_any (z ∷ xs) zero x y h = refl
get_or_any (z ∷ xs) (suc i) x y h = get_or_any xs i x y (omega (arith, h))

-- ---- One cell more

-- a cell stays where it is
cell_stays : {N : Type 0} (cells : List (Cell N)) (c : Cell N) (at : ℕ) (d : Tree) → HasCell cells at d → HasCell (cells ++ c ∷ []) at d
cell_stays {N} cells c at d h = record {
  within = omega (arith, h.within, length-append cells (c ∷ []));
  keeps = λ x. subst (λ (y : Cell N). KeepsBoth y d) (sym (get_or_append_left cells (c ∷ []) x at h.within)) (h.keeps x);
}

second_stays : {N : Type 0} (cells : List (Cell N)) (c : Cell N) (at : ℕ) → at < length cells
    → second_at (cells ++ c ∷ []) at ≡ second_at cells at
second_stays {N} cells c at h = ap second_of (get_or_append_left cells (c ∷ []) no_cell at h)

pair_stays : {N : Type 0} (b : Bool) (cells : List (Cell N)) (c : Cell N) (at : ℕ) (d : Tree) {P P' : Type 0} (Q Q' : ℕ → Type 0)
    → (P → P') → ((i : ℕ) → Q i → Q' i)
    → Unless b (HasCell cells at d × (P × Q (second_at cells at)))
    → Unless b (HasCell (cells ++ c ∷ []) at d × (P' × Q' (second_at (cells ++ c ∷ []) at)))
pair_stays b cells c at d Q Q' g k = unless_map b (λ h.
    (cell_stays cells c at d h.0, (g h.1.0, subst Q' (sym (second_stays cells c at h.0.within)) (k (second_at cells at) h.1.1))))

single_stays : {N : Type 0} (b : Bool) (cells : List (Cell N)) (c : Cell N) (at : ℕ) (d : Tree) {P P' : Type 0}
    → (P → P') → Unless b (HasCell cells at d × P) → Unless b (HasCell (cells ++ c ∷ []) at d × P')
single_stays b cells c at d g = unless_map b (λ h. (cell_stays cells c at d h.0, g h.1))

-- a document stands where it stood, after one more cell
pub stays : {N : Type 0} (cells : List (Cell N)) (c : Cell N) (d : Tree) (at : ℕ) → In cells d at → In (cells ++ c ∷ []) d at
stays cells c (One kind d) at =
    single_stays (small (One kind d)) cells c at (One kind d) (stays cells c d (part_at (shares kind) at))
stays cells c (Two kind l r) at = pair_stays (small (Two kind l r)) cells c at (Two kind l r) (In cells r) (In (cells ++ c ∷ []) r)
    (stays cells c l (at - 1)) (stays cells c r)
stays cells c Nil at = λ h. h
stays cells c _ at = λ h. h

-- ---- A node that is read

-- a small document stands anywhere
pub small_in : {N : Type 0} (cells : List (Cell N)) (d : Tree) (at : ℕ) → small d ≡ true → In cells d at
small_in cells (One kind d) at e = unless_true (small (One kind d)) _ e
small_in cells (Two kind l r) at e = unless_true (small (Two kind l r)) _ e
small_in cells Nil at e = tt
small_in cells _ at e = tt

-- another one has its summaries in the cell
pub in_cell : {N : Type 0} (cells : List (Cell N)) (d : Tree) (at : ℕ) → small d ≡ false → In cells d at → HasCell cells at d
in_cell cells (One kind d) at e h = (unless_false (small (One kind d)) _ e h).0
in_cell cells (Two kind l r) at e h = (unless_false (small (Two kind l r)) _ e h).0
in_cell cells Nil at e h = cc
in_cell cells _ at e h = cc

-- ---- A cell that was added

-- a cell that was added
cell_new : {N : Type 0} (cells : List (Cell N)) (c : Cell N) (d : Tree) → KeepsBoth c d → HasCell (cells ++ c ∷ []) (length cells) d
cell_new {N} cells c d keeps = record {
  within = omega (arith, length-append cells (c ∷ []));
  keeps = λ x. subst (λ (y : Cell N). KeepsBoth y d) (sym (get_or_push cells c x (length cells) refl)) keeps;
}

pair_new : {N : Type 0} (b : Bool) (cells : List (Cell N)) (c : Cell N) (d l r : Tree) → KeepsBoth c d → In cells l (length cells - 1)
    → In cells r (second_of c)
    → Unless b (HasCell (cells ++ c ∷ []) (length cells) d
    × (In (cells ++ c ∷ []) l (length cells - 1) × In (cells ++ c ∷ []) r (second_at (cells ++ c ∷ []) (length cells))))
pair_new {N} b cells c d l r keeps first second = unless_some b (
  cell_new cells c d keeps,
  (
    stays cells c l (length cells - 1) first,
    subst (In (cells ++ c ∷ []) r) (sym (ap second_of (get_or_push cells c no_cell (length cells) refl)))
        (stays cells c r (second_of c) second),
  ),
)

single_new : {N : Type 0} (s b : Bool) (cells : List (Cell N)) (c : Cell N) (d e : Tree) → KeepsBoth c d
    → In cells e (length cells - 1) → IsSmallIf s e
    → Unless b (HasCell (cells ++ c ∷ []) (length cells) d × In (cells ++ c ∷ []) e (part_at s (length cells)))
single_new true b cells c d e keeps first own =
    unless_some b (cell_new cells c d keeps, small_in (cells ++ c ∷ []) e (length cells) own)
single_new false b cells c d e keeps first own =
    unless_some b (cell_new cells c d keeps, stays cells c e (length cells - 1) first)

-- a node stands where its cell was added
pub stands_new : {N : Type 0} (cells : List (Cell N)) (c : Cell N) (d : Tree) → KeepsBoth c d
    → FirstIn cells (length cells - 1) (parts_of d)
    → SecondIn cells (second_of c) (parts_of d) → IsOwn d → In (cells ++ c ∷ []) d (length cells)
stands_new cells c (One kind d) keeps first second own =
    single_new (shares kind) (small (One kind d)) cells c (One kind d) d keeps first own
stands_new cells c (Two kind l r) keeps first second own = pair_new (small (Two kind l r)) cells c (Two kind l r) l r keeps first second
stands_new cells c Nil keeps first second own = tt
stands_new cells c _ keeps first second own = tt

-- ---- The second part

-- the place of a second part, in a cell that was read
pub second_past : {N : Type 0} (cells : List (Cell N)) (at : ℕ) → length cells ≤ at → second_at cells at ≡ 0
second_past cells at h = ap second_of (get_or-eq_default cells no_cell h)

pub second_read : {N : Type 0} (cells : List (Cell N)) (at : ℕ) (x : Cell N) → at < length cells → x ≡ get_or cells at x
    → second_of x ≡ second_at cells at
second_read cells at x h e = ap second_of (e ∙ get_or_any cells at x no_cell h)
