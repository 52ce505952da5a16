-- A flat line: its bytes, and the columns that it takes.
use Rattle.std.specs.Prelude.{ℕ, ◌+◌, ◌-◌, Bool, true, false, not, ◌&&◌, ◌||◌, nat_le, List, [], ◌∷◌, ◌++◌, Option, Some, None}
use Rattle.std.specs.Prelude.{if◌then◌else◌}
use Rattle.json.specs.Ascii as ascii
use Rattle.prettyless_model.specs.Metrics.{text_width}
use Rattle.json_formatter.specs.Documents.{keeps_broken, greatest_width, is_json_sign, opens, closes, stops}

-- the bytes of texts
abbrev pub flat_line : List (List ℕ) → List ℕ
flat_line [] = []
flat_line (s ∷ ss) = s ++ flat_line ss

-- the columns that they take
abbrev pub flat_width : List (List ℕ) → ℕ
flat_width [] = 0
flat_width (s ∷ ss) = text_width s + flat_width ss

-- a space, if there is to be one
abbrev pub blank_if : Bool → List (List ℕ)
blank_if true = (32 ∷ []) ∷ []
blank_if false = []

-- ---- piece by piece

-- a piece after which a space stands on a flat line: a comma or a colon
abbrev pub is_mark : List ℕ → Bool
is_mark s = is_json_sign ascii.comma s || is_json_sign ascii.colon s

-- it opens an object that has blanks inside its braces: one with members, where lines are not compact
abbrev pub opens_blanks : Bool → List ℕ → List (List ℕ) → Bool
opens_blanks compact s ss = is_json_sign ascii.open_brace s && (not (stops closes ss) && not compact)

-- the columns of the spaces that are counted with a piece: that after a comma or a colon, and both inside braces with the first brace
abbrev pub blank_columns : Bool → List ℕ → List (List ℕ) → ℕ
blank_columns compact s ss = if is_mark s then 1 else (if opens_blanks compact s ss then 2 else 0)

-- the columns of a piece without them; a bracket with a line end takes more than a line has
abbrev pub piece_width : List ℕ → ℕ
piece_width s = if keeps_broken s then greatest_width else text_width s

-- the columns that a piece takes on a flat line with these spaces, before others
abbrev pub piece_columns : Bool → List ℕ → List (List ℕ) → ℕ
piece_columns compact s ss = piece_width s + blank_columns compact s ss

-- so many columns more, if they are known
abbrev pub wider : ℕ → Option ℕ → Option ℕ
wider w None = None
wider w (Some n) = Some (w + n)

-- Where the list is closed of which so many are open, one inside the other: its columns from here on, with what closes it; None where
-- it is not closed.
abbrev pub width_to_close : Bool → ℕ → List (List ℕ) → Option ℕ
width_to_close compact n [] = None
width_to_close compact n (s ∷ ss) =
    if opens s
    then wider (piece_columns compact s ss) (width_to_close compact (n + 1) ss)
    else (if not (closes s)
    then wider (piece_columns compact s ss) (width_to_close compact n ss)
    else (if nat_le n 1
    then Some (piece_columns compact s ss)
    else wider (piece_columns compact s ss) (width_to_close compact (n - 1) ss)))
