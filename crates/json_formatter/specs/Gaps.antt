-- How a JSON text is laid out piece by piece: what stands before each, and what is known after it.
use Rattle.std.specs.Prelude.{ℕ, ◌+◌, ◌-◌, ◌*◌, ◌^◌, Bool, false, not, ◌&&◌, ◌||◌, nat_le, min, List, [], ◌∷◌, Option, Some, None}
use Rattle.std.specs.Prelude.{if◌then◌else◌}
use Rattle.json.specs.Ascii as ascii
use Rattle.json_lexemes.specs.SpacedLexemes.{Spaced, after_gap}
use Rattle.prettyless_model.specs.Column.{saturating_add}
use Rattle.prettyless_model.specs.Metrics.{text_width}
use Rattle.json_formatter.specs.ByValue.{new_line}
use Rattle.json_formatter.specs.Documents.{closes, is_json_sign, lexeme_of, may_fill, next_is, opens, stops}
use Rattle.json_formatter.specs.Flat.{is_mark, piece_columns, width_to_close}
use Rattle.json_formatter.specs.declared.gaps.Gap.{Gap}
use Rattle.json_formatter.specs.declared.gaps.Gap.TheVariants as gap
use Rattle.json_formatter.specs.declared.gaps.Joint.{Joint}
use Rattle.json_formatter.specs.declared.gaps.Joint.TheVariants as joint
use Rattle.json_formatter.specs.declared.gaps.State.{State}
use Rattle.json_formatter.specs.declared.style.Fill.{Fill}
use Rattle.json_formatter.specs.declared.style.Style.{Style}

-- the bytes of a gap
abbrev pub gap_bytes : Gap → List ℕ
gap_bytes gap.Nothing = []
gap_bytes gap.Space = 32 ∷ []
gap_bytes (gap.Line i) = new_line i
gap_bytes (gap.BlankLine i) = ascii.line_feed ∷ new_line i

-- the indent of what stands in so many lists
abbrev pub indent_at : Style → ℕ → ℕ
indent_at style depth = min (depth * style.indent) (2 ^ 64 - 1)

-- one column, if there is a comma
abbrev pub comma_column : Bool → ℕ
comma_column comma = if comma then 1 else 0

-- ---- what is read ahead

-- a comma comes after what closes the list of which n are open, one inside the other
abbrev pub comma_after : ℕ → List (List ℕ) → Bool
comma_after n [] = false
comma_after n (s ∷ ss) =
    if opens s then comma_after (n + 1) ss
    else (if closes s then (if nat_le n 1 then next_is (is_json_sign ascii.comma) ss else comma_after (n - 1) ss) else comma_after n ss)

-- nothing but items that may fill lines stands in the list that is open, with commas
abbrev pub all_fill : Fill → List (List ℕ) → Bool
all_fill fill [] = false
all_fill fill (s ∷ ss) = closes s || ((may_fill fill s || is_json_sign ascii.comma s) && all_fill fill ss)

-- the column after a list whose bracket is at column c and takes k columns, with a comma after it; one that is not closed goes on for ever
abbrev pub list_end : ℕ → ℕ → Option ℕ → Bool → ℕ
list_end c k None comma = 2 ^ 64 - 1
list_end c k (Some w) comma = saturating_add c (k + w + comma_column comma)

-- the list that is opened with s at column c stays within the width
abbrev pub list_fits : Style → ℕ → List ℕ → List (List ℕ) → Bool
list_fits style c s ss =
    nat_le (list_end c (piece_columns style.compact s ss) (width_to_close style.compact 1 ss) (comma_after 1 ss)) style.width

-- ---- on one line

-- a space, or nothing
abbrev pub space_if : Bool → Gap
space_if b = if b then gap.Space else gap.Nothing

-- the gap before a piece: unless the style is compact, blanks stand inside the braces of an object that has members
abbrev pub flat_gap : Style → Joint → List ℕ → Gap
flat_gap style joint.Space s = gap.Space
flat_gap style joint.Brace s = space_if (not (closes s) && not style.compact)
flat_gap style _ s = space_if (is_json_sign ascii.close_brace s && not style.compact)

-- what joins the next piece to one of a line
abbrev pub flat_joint : List ℕ → Joint
flat_joint s = if is_mark s then joint.Space else (if is_json_sign ascii.open_brace s then joint.Brace else joint.Nothing)

-- how many lists are open after a piece
abbrev pub open_after : ℕ → List ℕ → ℕ
open_after n s = if opens s then saturating_add n 1 else (if closes s then n - 1 else n)

-- the state after a piece of a list on one line
abbrev pub flat_after : State → List ℕ → State
flat_after st s = record st { flat = open_after st.flat s; joint = flat_joint s }

-- ---- in lines of their own

-- after a comma or a colon
abbrev pub mark_after : State → Joint → State
mark_after st next = record st { column = saturating_add st.column 1; joint = next }

-- after what closes a list
abbrev pub close_after : State → State
close_after st = record st { depth = st.depth - 1; fills = false; joint = joint.Nothing }

-- a number fits the line after a space, with its comma
abbrev pub number_fits : Style → ℕ → List ℕ → Bool → Bool
number_fits style c s comma =
    nat_le (saturating_add (saturating_add (saturating_add c 1) (text_width (lexeme_of s))) (comma_column comma)) style.width

-- the gap before a value or a key
abbrev pub value_gap : Style → State → Joint → List ℕ → Bool → Gap
value_gap style st joint.Nothing s comma = gap.Nothing
value_gap style st joint.Brace s comma = gap.Nothing
value_gap style st joint.Space s comma = gap.Space
value_gap style st joint.Line s comma = gap.Line (indent_at style st.depth)
value_gap style st joint.Fill s comma =
    if number_fits style st.column s comma then gap.Space else gap.Line (indent_at style st.depth)

-- the column after a gap
abbrev pub gap_end : ℕ → Gap → ℕ
gap_end c gap.Nothing = c
gap_end c gap.Space = saturating_add c 1
gap_end c (gap.Line i) = i
gap_end c (gap.BlankLine i) = i

-- after the bracket s that opens a list at this column: it is laid out on one line if it fits or is empty, and else in lines of their own
abbrev pub open_at : Style → State → ℕ → List ℕ → List (List ℕ) → State
open_at style st c s ss =
    if stops closes ss || list_fits style c s ss
    then record st { flat = 1; column = c; joint = flat_joint s }
    else record st {
      depth = saturating_add st.depth 1;
      column = c;
      fills = is_json_sign ascii.open_bracket s && all_fill style.fill ss;
      joint = joint.Line;
    }

-- the column after a word or a key at this column; it is not counted where a comma comes next, and then a new line
abbrev pub word_end : Bool → ℕ → List ℕ → List (List ℕ) → ℕ
word_end fills c s ss = if not fills && next_is (is_json_sign ascii.comma) ss then c else saturating_add c (text_width (lexeme_of s))

-- after the first piece of a value, or a key, at this column
abbrev pub value_at : Style → State → ℕ → List ℕ → List (List ℕ) → State
value_at style st c s ss =
    if opens s then open_at style st c s ss
    else record st { column = word_end st.fills c s ss; joint = joint.Nothing }

-- ---- a piece

-- the gap before a piece, after which others come
abbrev pub gap_before : Style → State → List ℕ → List (List ℕ) → Gap
gap_before style st s ss =
    if nat_le 1 st.flat then flat_gap style st.joint s
    else (if is_mark s then gap.Nothing
    else (if closes s then gap.Line (indent_at style (st.depth - 1)) else value_gap style st st.joint s
    (next_is (is_json_sign ascii.comma) ss)))

-- the state after it
abbrev pub state_after : Style → State → List ℕ → List (List ℕ) → State
state_after style st s ss =
    if nat_le 1 st.flat then flat_after st s
    else (if is_json_sign ascii.comma s then mark_after st (if st.fills then joint.Fill else joint.Line)
    else (if is_json_sign ascii.colon s then mark_after st joint.Space
    else (if closes s then close_after st
    else value_at style st (gap_end st.column (value_gap style st st.joint s (next_is (is_json_sign ascii.comma) ss))) s ss)))

-- the lexemes of pieces, each after its gap
abbrev pub spaced_from : Style → State → List (List ℕ) → List Spaced
spaced_from style st [] = []
spaced_from style st (s ∷ ss) =
    after_gap (gap_bytes (gap_before style st s ss)) (lexeme_of s) ∷ spaced_from style (state_after style st s ss) ss

-- before the first piece
abbrev pub start_state : State
start_state = record { depth = 0; flat = 0; column = 0; fills = false; joint = joint.Nothing }
