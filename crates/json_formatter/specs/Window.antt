-- What the scanner ahead of a reader knows of the lists that it has seen opened.
use Rattle.std.specs.Prelude.{◌≡◌, ℕ, ◌+◌, ◌-◌, ◌<◌, ◌≤◌, Bool, not, nat_le, if◌then◌else◌, Option, Some, None, MatchOption, IfSome}
use Rattle.std.specs.Prelude.{List, [], ◌∷◌, length, drop, slice_index_or, slice_set, ⊤}
use Rattle.json.specs.Ascii.{comma}
use Rattle.json_formatter.specs.Documents.{closes, greatest_width, is_json_sign, next_is, opens}
use Rattle.json_formatter.specs.Flat.{piece_columns, wider}
use Rattle.json_formatter.specs.declared.scanner.Opened.{Opened}
use Rattle.json_formatter.specs.declared.scanner.Scanner.{Scanner}

-- for each piece that opens a list, in their order, the pieces after it
abbrev pub rests_of : List (List ℕ) → List (List (List ℕ))
rests_of [] = []
rests_of (s ∷ ss) = if opens s then ss ∷ rests_of ss else rests_of ss

-- the pieces after the one that opens the list of this index
abbrev pub rest_at : List (List (List ℕ)) → ℕ → List (List ℕ)
rest_at rests i = slice_index_or rests i []

-- the columns of the comma that comes next, if one does
abbrev pub comma_columns : List (List ℕ) → ℕ
comma_columns ss = if next_is (is_json_sign comma) ss then 1 else 0

-- Where the list is closed of which so many are open, one inside the other: its columns from here on, with what closes it and the comma
-- after that, if one comes next; None where it is not closed.
abbrev pub width_with_comma : Bool → ℕ → List (List ℕ) → Option ℕ
width_with_comma compact n [] = None
width_with_comma compact n (s ∷ ss) =
    if opens s
    then wider (piece_columns compact s ss) (width_with_comma compact (n + 1) ss)
    else (if not (closes s)
    then wider (piece_columns compact s ss) (width_with_comma compact n ss)
    else (if nat_le n 1
    then Some (piece_columns compact s ss + comma_columns ss)
    else wider (piece_columns compact s ss) (width_with_comma compact (n - 1) ss)))

-- a list of which nothing is known
abbrev pub no_list : Opened
no_list = record { start = 0; width = None }

abbrev pub list_at : List Opened → ℕ → Opened
list_at lists i = slice_index_or lists i no_list

-- From a total of columns on come these pieces; a list is open there, and n - 1 lists in it.
pub record IsUnclosed (compact : Bool) (rest : List (List ℕ)) (start total n : ℕ) (left : List (List ℕ)) : Type 0 where
  pub begun : start ≤ total
  pub width : width_with_comma compact 1 rest ≡ wider (total - start) (width_with_comma compact n left)

-- The scanner has seen these lists opened, has these of them still to see closed, the innermost last, and has passed so many columns.
pub record IsScanned
    (compact : Bool) (rests : List (List (List ℕ))) (lists : List Opened) (unclosed : List ℕ) (total : ℕ) (left : List (List ℕ))
    : Type 0 where
  -- The lists that it has not seen opened.
  pub unseen : rests_of left ≡ drop (length lists) rests
  -- It knows the width of those that it has seen closed.
  pub known : (i w : ℕ) → i < length lists → (list_at lists i).width ≡ Some w → width_with_comma compact 1 (rest_at rests i) ≡ Some w
  -- It has the others still to see closed.
  pub unknown : (i : ℕ) → i < length lists → (list_at lists i).width ≡ None
      → (p : ℕ) × (p < length unclosed) × (slice_index_or unclosed p 0 ≡ i)
  pub within : (p : ℕ) → p < length unclosed → slice_index_or unclosed p 0 < length lists
  pub inner : (p : ℕ) → p < length unclosed
      → IsUnclosed compact (rest_at rests (slice_index_or unclosed p 0)) (list_at lists (slice_index_or unclosed p 0)).start total
      (length unclosed - p) left

-- none of these is part of a list that fits: none is left, or the first is as wide as is counted
abbrev pub IsLast : Bool → List (List ℕ) → Type 0
IsLast compact [] = ⊤
IsLast compact (s ∷ ss) = greatest_width ≤ piece_columns compact s ss

-- where this list is closed at this total, with so many columns after it, its width is known
abbrev pub closed_at : List Opened → ℕ → ℕ → ℕ → List Opened
closed_at lists i total after =
    slice_set lists i (record (list_at lists i) { width = Some (total - (list_at lists i).start + after) })

-- the same of the innermost list
abbrev pub closed_last : List Opened → List ℕ → ℕ → ℕ → List Opened
closed_last lists [] total after = lists
closed_last lists (i ∷ is) total after = closed_at lists (slice_index_or (i ∷ is) (length is) 0) total after

-- the lists still to be seen closed are among these, and none begins after this total
abbrev pub AreWithin : List Opened → List ℕ → ℕ → Type 0
AreWithin lists unclosed total =
    (p : ℕ) → p < length unclosed
    → (slice_index_or unclosed p 0 < length lists) × ((list_at lists (slice_index_or unclosed p 0)).start ≤ total)

-- the same of a scanner
abbrev pub Knows : Scanner → List (List (List ℕ)) → Type 0
Knows s rests = IsScanned s.compact rests s.lists.items s.unclosed.items s.total s.pieces

-- what it knows is right
abbrev pub IsRight : Scanner → Type 0
IsRight s = (rests : List (List (List ℕ))) × Knows s rests

-- the width of a list, if it is closed and takes at most so many columns
abbrev pub IsWidthUpTo : Bool → ℕ → List (List ℕ) → Option ℕ → Type 0
IsWidthUpTo compact most rest width =
    MatchOption width
    ((w : ℕ) → width_with_comma compact 1 rest ≡ Some w → most < w)
    (λ w. (width_with_comma compact 1 rest ≡ Some w) × (w ≤ most))

-- The reader has these pieces left, and has opened so many of the scanner's lists; the one of index `here` it has just opened.
pub record IsWindow (left : List (List ℕ)) (scanner : Scanner) (passed : ℕ) (here : Option ℕ) : Type 0 where
  pub rests : List (List (List ℕ))
  pub knows : Knows scanner rests
  pub seen : passed ≤ length scanner.lists.items
  pub ahead : rests_of left ≡ drop passed rests
  pub opened : IfSome here (λ i. (i < length scanner.lists.items) × (rest_at rests i ≡ left))
