-- Documents that wait in a table for the node above them, or for a cell of their own.
use Rattle.std.proofs.Common.{◌≡◌, ℕ, ◌+◌, ◌-◌, ◌<◌, ◌≤◌, Bool, true, false, if◌then◌else◌, List, [], ◌∷◌, ◌++◌, zero, suc, append-nil}
use Rattle.std.proofs.Common.{length, drop, get_or, map, reverse, ap, subst, sym, ◌∙◌, arith, length-append}
use Rattle.std.proofs.lemmas.List.{drop_more, reverse-append}
use Rattle.prettyless_model.specs.Tree.{Tree}
use Rattle.prettyless_table.specs.declared.cell.Cell.{Cell}
use Rattle.prettyless_table.specs.declared.cell.Cell.TheVariants.{Root, Sums, Wide}
use Rattle.prettyless_table.specs.Parts.{parts_of, small, takes}
use Rattle.prettyless_table.specs.Cells.{In, IsPlaced, KeepsBoth, second_of}
use Rattle.prettyless_table.specs.Stored.{SecondIn}
use Rattle.prettyless_table.specs.Owners.{AreFound, Stand, StandAt, WaitsInTable, all_owners, keeper, keepers, large}
use Rattle.prettyless_table.proofs.Cells.{small_in, stands_new, stays}
use Rattle.prettyless_table.proofs.Owners.{AllFit, keeper_serves, keepers_large, keepers_small, listed, owner, waiting}

pub reverse_push : (places : List ℕ) (at : ℕ) → reverse (places ++ at ∷ []) ≡ at ∷ reverse places
reverse_push places at = reverse-append places (at ∷ [])

-- the first of documents stands at the first of places, and the others at the others
pub stands_first : {N : Type 0} (cells : List (Cell N)) (d : Tree) (ds : List Tree) (places : List ℕ) → StandAt cells (d ∷ ds) places
    → In cells d (get_or places 0 0) × StandAt cells ds (drop 1 places)
stands_first cells d ds [] h = absurd h
stands_first cells d ds (at ∷ places) h = (h.0, h.1)

-- the document that has the last cell goes on waiting, and its place is the first of all
pub goes_on : {N : Type 0} (cells : List (Cell N)) (ds : List Tree) (at : ℕ) (places : List ℕ) → at ≡ length cells - 1
    → WaitsInTable cells ds places → StandAt cells ds (at ∷ places)
goes_on cells [] at places e h = tt
goes_on cells (d ∷ ds) at places e h = (subst (In cells d) (sym e) h.0, h.1)

-- ---- The parts of a node

-- the parts of a node, by how many there are and which of them are small
pub found_nothing : {N : Type 0} (cells : List (Cell N)) (at : ℕ) (ds : List Tree) (places : List ℕ) → at ≡ length cells - 1
    → WaitsInTable cells ds places → AreFound cells [] 0 ds (at ∷ places)
found_nothing cells at ds places e h = record { first = tt; second = tt; others = goes_on cells ds at places e h }

pub found_one : {N : Type 0} (cells : List (Cell N)) (x : Tree) (at : ℕ) (ds : List Tree) (places : List ℕ) → small x ≡ true
    → at ≡ length cells - 1 → WaitsInTable cells (keepers (x ∷ []) ++ ds) places → AreFound cells (x ∷ []) 0 ds (at ∷ places)
found_one {N} cells x at ds places small_x e h = record {
  first = small_in cells x (length cells - 1) small_x;
  second = tt;
  others = goes_on cells ds at places e (subst (λ (es : List Tree). WaitsInTable cells (es ++ ds) places) (keepers_small x [] small_x) h);
}

pub found_large : {N : Type 0} (cells : List (Cell N)) (x : Tree) (ds : List Tree) (places : List ℕ) → small x ≡ false
    → WaitsInTable cells (keepers (x ∷ []) ++ ds) places → AreFound cells (x ∷ []) 0 ds places
found_large {N} cells x ds places large_x h =
    let waits : WaitsInTable cells (keeper x ∷ ds) places =
    subst (λ (es : List Tree). WaitsInTable cells (es ++ ds) places) (keepers_large x [] large_x) h in
    record { first = keeper_serves N x cells (length cells - 1) waits.0; second = tt; others = waits.1 }

pub found_none : {N : Type 0} (cells : List (Cell N)) (x y : Tree) (at : ℕ) (ds : List Tree) (places : List ℕ) → small x ≡ true
    → small y ≡ true → at ≡ length cells - 1 → WaitsInTable cells (keepers (x ∷ y ∷ []) ++ ds) places
    → AreFound cells (x ∷ y ∷ []) 0 ds (at ∷ places)
found_none {N} cells x y at ds places small_x small_y e h = record {
  first = small_in cells x (length cells - 1) small_x;
  second = small_in cells y 0 small_y;
  others = goes_on cells ds at places e
      (subst (λ (es : List Tree). WaitsInTable cells (es ++ ds) places) (keepers_small x (y ∷ []) small_x ∙ keepers_small y [] small_y) h);
}

pub found_second : {N : Type 0} (cells : List (Cell N)) (x y : Tree) (at : ℕ) (ds : List Tree) (places : List ℕ) → small x ≡ true
    → small y ≡ false → at ≡ length cells - 1 → WaitsInTable cells (keepers (x ∷ y ∷ []) ++ ds) places
    → AreFound cells (x ∷ y ∷ []) at ds places
found_second {N} cells x y at ds places small_x large_y e h =
    let waits : WaitsInTable cells (keeper y ∷ ds) places =
    subst (λ (es : List Tree). WaitsInTable cells (es ++ ds) places) (keepers_small x (y ∷ []) small_x ∙ keepers_large y [] large_y) h in
    record {
      first = small_in cells x (length cells - 1) small_x;
      second = subst (In cells y) (sym e) (keeper_serves N y cells (length cells - 1) waits.0);
      others = waits.1;
    }

pub found_first : {N : Type 0} (cells : List (Cell N)) (x y : Tree) (ds : List Tree) (places : List ℕ) → small x ≡ false
    → small y ≡ true → WaitsInTable cells (keepers (x ∷ y ∷ []) ++ ds) places → AreFound cells (x ∷ y ∷ []) 0 ds places
found_first {N} cells x y ds places large_x small_y h =
    let waits : WaitsInTable cells (keeper x ∷ ds) places =
    subst (λ (es : List Tree). WaitsInTable cells (es ++ ds) places)
    (keepers_large x (y ∷ []) large_x ∙ ap (λ (es : List Tree). keeper x ∷ es) (keepers_small y [] small_y)) h in
    record {
      first = keeper_serves N x cells (length cells - 1) waits.0;
      second = small_in cells y 0 small_y;
      others = waits.1;
    }

pub found_both : {N : Type 0} (cells : List (Cell N)) (x y : Tree) (ds : List Tree) (places : List ℕ) → small x ≡ false
    → small y ≡ false → WaitsInTable cells (keepers (x ∷ y ∷ []) ++ ds) places
    → AreFound cells (x ∷ y ∷ []) (get_or places 0 0) ds (drop 1 places)
found_both {N} cells x y ds places large_x large_y h =
    let waits : WaitsInTable cells (keeper x ∷ keeper y ∷ ds) places =
    subst (λ (es : List Tree). WaitsInTable cells (es ++ ds) places)
    (keepers_large x (y ∷ []) large_x ∙ ap (λ (es : List Tree). keeper x ∷ es) (keepers_large y [] large_y)) h in
    let others = stands_first cells (keeper y) ds places waits.1 in
    record {
      first = keeper_serves N x cells (length cells - 1) waits.0;
      second = keeper_serves N y cells (get_or places 0 0) others.0;
      others = others.1;
    }

-- the same parts, as they were read
pub same_found : {N : Type 0} (cells : List (Cell N)) (at : ℕ) (ds : List Tree) (places left : List ℕ) {xs ys : List Tree} → xs ≡ ys
    → (WaitsInTable cells (keepers xs ++ ds) places → AreFound cells xs at ds left)
    → WaitsInTable cells (keepers ys ++ ds) places → AreFound cells ys at ds left
same_found {N} cells at ds places left {xs} {ys} e =
    subst (λ (zs : List Tree). WaitsInTable cells (keepers zs ++ ds) places → AreFound cells zs at ds left) e

-- ---- The next node of a list

-- documents stand where they stood after one more cell
pub stand_grown : {N : Type 0} (cells : List (Cell N)) (c : Cell N) (ds : List Tree) (places : List ℕ) → StandAt cells ds places
    → StandAt (cells ++ c ∷ []) ds places
stand_grown cells c [] places h = tt
stand_grown cells c (d ∷ ds) [] h = h
stand_grown cells c (d ∷ ds) (at ∷ places) h = (stays cells c d at h.0, stand_grown cells c ds places h.1)

-- the nodes of a list from one on fit, if all of it do
pub fit_from : {N : Type 0} (f : N → Tree) (k : ℕ) (ns : List N) → AllFit (map f ns) → AllFit (map f (drop k ns))
fit_from f zero ns h = h
fit_from f (suc k) [] h = h
fit_from f (suc k) (n ∷ ns) h = fit_from f k ns h.1

pub list_fits : (ds es : List Tree) → es ≡ all_owners ds → AllFit es × (waiting es ≡ keepers ds)
list_fits ds es e =
    let is = listed ds in
    let P : List Tree → Type 0 = λ us. AllFit us × (waiting us ≡ keepers ds) in
    let same : all_owners ds ++ [] ≡ es = append-nil (all_owners ds) ∙ sym e in
    subst P same (is.fit, is.waits ∙ append-nil (keepers ds))

-- the parts of a node that comes next in the list
pub found_next : {N : Type 0} (cells : List (Cell N)) (d : Tree) (ds : List Tree) (places : List ℕ) → AllFit (d ∷ ds)
    → WaitsInTable cells (waiting ds) places
    → WaitsInTable cells (keepers (parts_of d) ++ drop (length (keepers (parts_of d))) (waiting ds)) places
found_next cells d ds places fit h = subst (λ (es : List Tree). WaitsInTable cells es places) fit.0.parts h

-- the nodes from the one before, which was read
pub read_back : {N : Type 0} (ns : List N) (k : ℕ) (n : N) → 0 < k → k ≤ length ns → n ≡ get_or ns (k - 1) n
    → drop (k - 1) ns ≡ n ∷ drop k ns
read_back {N} ns k n some within e =
    let next : k - 1 + 1 ≡ k = omega (arith, some) in
    drop_more ns (k - 1) n (omega (arith, some, within)) ∙ ap (λ (m : N). m ∷ drop (k - 1 + 1) ns) (sym e)
    ∙ ap (λ (i : ℕ). n ∷ drop i ns) next

-- a node of the list is the next one that takes a cell, and its parts are the first documents that wait
pub record IsNext {N : Type 0} (f : N → Tree) (cells : List (Cell N)) (ns : List N) (n : N) (places : List ℕ) : Type 0 where
  pub takes : takes (f n) ≡ true
  pub waits : WaitsInTable cells (keepers (parts_of (f n)) ++ drop (length (keepers (parts_of (f n)))) (waiting (map f ns))) places

pub is_next : {N : Type 0} (f : N → Tree) (cells : List (Cell N)) (ns : List N) (k : ℕ) (n : N) (places : List ℕ) (ds : List Tree)
    → map f ns ≡ all_owners ds → drop (k - 1) ns ≡ n ∷ drop k ns → WaitsInTable cells (waiting (map f (drop k ns))) places
    → IsNext f cells (drop k ns) n places
is_next {N} f cells ns k n places ds list read h =
    let fit : AllFit (f n ∷ map f (drop k ns)) =
    subst (λ (ms : List N). AllFit (map f ms)) read (fit_from f (k - 1) ns (list_fits ds (map f ns) list).0) in
    record { takes = fit.0.takes; waits = found_next cells (f n) (map f (drop k ns)) places fit h }

-- ---- A node that gets its cell

-- a cell of summaries has no document to stand anywhere
pub keeps_placed : {N : Type 0} (f : N → Tree) (cells : List (Cell N)) (c : Cell N) (d : Tree) → KeepsBoth c d → IsPlaced f cells c
keeps_placed f cells (Sums a b second flat broken) d h = tt
keeps_placed f cells (Wide second sums) d h = tt
keeps_placed f cells (Root place n) d h = absurd h

-- a node gets its cell, and waits
pub waits_next : {N : Type 0} (cells : List (Cell N)) (c : Cell N) (d : Tree) (second : ℕ) (ds : List Tree) (places : List ℕ)
    → takes d ≡ true → AreFound cells (parts_of d) second ds places → KeepsBoth c d → second_of c ≡ second
    → WaitsInTable (cells ++ c ∷ []) (d ∷ ds) places
waits_next {N} cells c d second ds places e found keeps is =
    let at : length (cells ++ c ∷ []) - 1 ≡ length cells = omega (arith, length-append cells (c ∷ [])) in
    let stands : In (cells ++ c ∷ []) d (length cells) =
    stands_new cells c d keeps found.first (subst (λ (i : ℕ). SecondIn cells i (parts_of d)) (sym is) found.second) (owner d e).own in
    (subst (In (cells ++ c ∷ []) d) (sym at) stands, stand_grown cells c ds places found.others)

large_by : {N : Type 0} (cells : List (Cell N)) (b : Bool) (d : Tree) (ds es : List Tree) (places : List ℕ)
    → ((ps : List ℕ) → StandAt cells ds ps → StandAt cells es ps)
    → StandAt cells (if b then ds else keeper d ∷ ds) places → StandAt cells (if b then es else d ∷ es) places
large_by cells true d ds es places g h = g places h
large_by cells false d ds es [] g h = h
large_by {N} cells false d ds es (at ∷ places) g h = (keeper_serves N d cells at h.0, g places h.1)

-- documents stand where the nodes do whose cells they have
pub stand_large : {N : Type 0} (cells : List (Cell N)) (ds : List Tree) (places : List ℕ) → StandAt cells (keepers ds) places
    → StandAt cells (large ds) places
stand_large cells [] places h = tt
stand_large cells (d ∷ ds) places h =
    large_by cells (small d) d (keepers ds) (large ds) places (λ ps. stand_large cells ds ps) h

-- the next document has the last place, and a small one has none
pub stand_small : {N : Type 0} (cells : List (Cell N)) (d : Tree) (ds : List Tree) (places : List ℕ) → small d ≡ true
    → Stand cells (d ∷ ds) places → In cells d 0 × Stand cells ds places
stand_small cells d ds places e h =
    (small_in cells d 0 e, subst (λ (b : Bool). StandAt cells (if b then large ds else d ∷ large ds) (reverse places)) e h)

pub stand_next : {N : Type 0} (cells : List (Cell N)) (d : Tree) (ds : List Tree) (places left : List ℕ) (at : ℕ) → small d ≡ false
    → at ≡ get_or (reverse places) 0 0 → reverse left ≡ drop 1 (reverse places)
    → Stand cells (d ∷ ds) places → In cells d at × Stand cells ds left
stand_next cells d ds places left at e is rest h =
    let first = stands_first cells d (large ds) (reverse places)
    (subst (λ (b : Bool). StandAt cells (if b then large ds else d ∷ large ds) (reverse places)) e h) in
    (subst (In cells d) (sym is) first.0, subst (λ (ps : List ℕ). StandAt cells (large ds) ps) (sym rest) first.1)
