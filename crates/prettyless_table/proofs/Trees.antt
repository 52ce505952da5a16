-- What a cell that is added changes.
use Rattle.std.proofs.Common.{◌≡◌, ℕ, zero, suc, ◌<◌, ◌≤◌, List, [], ◌∷◌, ◌++◌, Option, Some, None, length, get_or, refl, ap, sym, subst}
use Rattle.std.proofs.Common.{◌∙◌, arith, length-append, inl, inr}
use Rattle.std.proofs.lemmas.List.{get_or_push, get_or_append_left}
use Rattle.std.proofs.Math.Nat.{eq-or-lt_of_le}
use Rattle.prettyless_model.specs.Tree.{Tree}
use Rattle.prettyless_table.specs.declared.cell.Cell.{Cell}
use Rattle.prettyless_table.specs.declared.cell.Cell.TheVariants.{Root, Sums, Wide}
use Rattle.prettyless_table.specs.Stored.{HasAt}
use Rattle.prettyless_table.specs.Cells.{HasRoot, IsRoot, no_cell, root_tree, tree_or_nil, cell_trees, tree_at, IsPlaced, CellsAreSound}
use Rattle.prettyless_table.specs.Cells.{CellsGrow}
use Rattle.prettyless_table.proofs.Cells.{stays}

pub length-trees : {N : Type 0} (f : N → Tree) (cells : List (Cell N)) → length (cell_trees f cells) ≡ length cells
length-trees f [] = refl
length-trees f (c ∷ cs) = omega (arith, length-trees f cs)

trees-push : {N : Type 0} (f : N → Tree) (cells : List (Cell N)) (c : Cell N)
    → cell_trees f (cells ++ c ∷ []) ≡ cell_trees f cells ++ root_tree f c ∷ []
trees-push f [] c = refl
trees-push f (x ∷ cs) c = ap (λ (us : List (Option Tree)). root_tree f x ∷ us) (trees-push f cs c)

-- the document that was added
pub has_new : {N : Type 0} (f : N → Tree) (cells : List (Cell N)) (place : ℕ) (n : N)
    → HasAt (cell_trees f (cells ++ Root place n ∷ [])) (length cells) (f n)
has_new f cells place n = record {
  within = omega (arith, length-trees f (cells ++ Root place n ∷ []), length-append cells (Root place n ∷ []));
  is = ap (λ (us : List (Option Tree)). get_or us (length cells) None) (trees-push f cells (Root place n))
      ∙ get_or_push (cell_trees f cells) (Some (f n)) None (length cells) (length-trees f cells);
}

cell_root : {N : Type 0} (f : N → Tree) (c : Cell N) (d : Tree) → root_tree f c ≡ Some d → HasRoot c
cell_root f (Root place n) d e = tt
cell_root f (Sums a b second flat broken) d e = cc
cell_root f (Wide second sums) d e = cc

get_or-trees : {N : Type 0} (f : N → Tree) (cells : List (Cell N)) (i : ℕ) (x : Cell N) → i < length cells
    → get_or (cell_trees f cells) i None ≡ root_tree f (get_or cells i x)
get_or-trees f [] i x h = absurd (omega (arith, h))
get_or-trees f (c ∷ cs) zero x h = refl
get_or-trees f (c ∷ cs) (suc i) x h = get_or-trees f cs i x (omega (arith, h))

-- the document of a cell that was read
pub root_read : {N : Type 0} (f : N → Tree) (cells : List (Cell N)) (i : ℕ) (x : Cell N) (place : ℕ) (n : N) → i < length cells
    → x ≡ get_or cells i x → x ≡ Root place n → f n ≡ tree_at f cells i
root_read f cells i x place n h at is =
    ap (λ c. tree_or_nil (root_tree f c)) (sym is ∙ at) ∙ ap tree_or_nil (sym (get_or-trees f cells i x h))

-- where a document is, the cell is for one
pub at_root : {N : Type 0} (f : N → Tree) (cells : List (Cell N)) (i : ℕ) (d : Tree) → HasAt (cell_trees f cells) i d → IsRoot cells i
at_root {N} f cells i d h =
    let within : i < length cells = omega (arith, h.within, length-trees f cells) in
    record {
      within = within;
      root = λ x. cell_root f (get_or cells i x) d (sym (get_or-trees f cells i x within) ∙ h.is);
    }

-- earlier documents stay
pub tree_same : {N : Type 0} (f : N → Tree) (old new : List (Cell N)) (i : ℕ) → CellsGrow f old new → IsRoot old i
    → tree_at f new i ≡ tree_at f old i
tree_same f old new i g h =
    ap tree_or_nil (get_or-trees f new i no_cell (omega (arith, h.within, g.longer))
    ∙ ap (root_tree f) (g.same i no_cell h.within) ∙ sym (get_or-trees f old i no_cell h.within))

pub root_stays : {N : Type 0} (f : N → Tree) (old new : List (Cell N)) (i : ℕ) → CellsGrow f old new → IsRoot old i → IsRoot new i
root_stays {N} f old new i g h = record {
  within = omega (arith, h.within, g.longer);
  root = λ x. subst (λ (y : Cell N). HasRoot y) (sym (g.same i x h.within)) (h.root x);
}

placed_stays : {N : Type 0} (f : N → Tree) (cells : List (Cell N)) (c x : Cell N) → IsPlaced f cells x → IsPlaced f (cells ++ c ∷ []) x
placed_stays f cells c (Root place n) h = stays cells c (f n) place h
placed_stays f cells c (Sums a b second flat broken) h = h
placed_stays f cells c (Wide second sums) h = h

-- one more cell leaves all documents where they stand
sound_more : {N : Type 0} (f : N → Tree) (cells : List (Cell N)) (c : Cell N) → IsPlaced f cells c → CellsAreSound f cells
    → CellsAreSound f (cells ++ c ∷ [])
sound_more {N} f cells c new old i x h =
    let here_or_earlier : i ≤ length cells = omega (arith, h, length-append cells (c ∷ [])) in
    let P : Cell N → Type 0 = λ y. IsPlaced f (cells ++ c ∷ []) y in
    elim (eq-or-lt_of_le here_or_earlier) [
      | inl here ↦ subst P (sym (get_or_push cells c x i (sym here))) (placed_stays f cells c c new)
      | inr earlier ↦
          subst P (sym (get_or_append_left cells (c ∷ []) x i earlier)) (placed_stays f cells c (get_or cells i x) (old i x earlier))
    ]

-- what a cell that is added changes
pub grows : {N : Type 0} (f : N → Tree) (cells : List (Cell N)) (c : Cell N) → IsPlaced f cells c → CellsGrow f cells (cells ++ c ∷ [])
grows f cells c placed = record {
  longer = omega (arith, length-append cells (c ∷ []));
  same = λ i x h. get_or_append_left cells (c ∷ []) x i h;
  sound = sound_more f cells c placed;
}

pub grows_then : {N : Type 0} (f : N → Tree) (a b c : List (Cell N)) → CellsGrow f a b → CellsGrow f b c → CellsGrow f a c
grows_then f a b c g h = record {
  longer = omega (arith, g.longer, h.longer);
  same = λ i x l. h.same i x (omega (arith, l, g.longer)) ∙ g.same i x l;
  sound = λ s. h.sound (g.sound s);
}
