-- The layout of a JSON text by the value that its pieces spell.
use Rattle.std.specs.Prelude.{◌≡◌, ℕ, ◌+◌, ◌-◌, ◌≤◌, Bool, true, false, not, ◌&&◌, ◌||◌, nat_le, List, [], ◌∷◌, ◌++◌, length, Some}
use Rattle.std.specs.Prelude.{if◌then◌else◌}
use Rattle.json.specs.Ascii as ascii
use Rattle.json.specs.Json.{Json}
use Rattle.json_validity.specs.Document.{document, max_depth}
use Rattle.json_lexemes.specs.Lexemes.{lexemes}
use Rattle.json_grammar.specs.Grammar as g
use Rattle.prettyless_model.specs.Column.{saturating_add}
use Rattle.prettyless_model.specs.Spaces.{spaces}
use Rattle.json_formatter.specs.BlankLines.{layout_of, with_kept_lines}
use Rattle.json_formatter.specs.Documents.{bounded, greatest_width, may_fill}
use Rattle.json_formatter.specs.Flat.{blank_if, flat_line, flat_width}
use Rattle.json_formatter.specs.Pieces.{text_pieces}
use Rattle.json_formatter.specs.Spelling.{with_spelling}
use Rattle.json_formatter.specs.Values.{PiecedValue as Value, alone, array, object, PiecedItems as Items, no_items, item}
use Rattle.json_formatter.specs.Values.{PiecedMembers as Members, no_members, member}
use Rattle.json_formatter.specs.Values.{bare, pieced as spelled, pieced_depth as depth, IsFormedPieced as IsFormed}
use Rattle.json_formatter.specs.declared.style.Fill.{Fill}
use Rattle.json_formatter.specs.declared.style.Style.{Style}

-- ---- lines

-- a line ends, and the next one has this indent
abbrev pub new_line : ℕ → List ℕ
new_line i = ascii.line_feed ∷ spaces i

-- the indent of what is in a list whose brackets have indent i
abbrev pub inner : Style → ℕ → ℕ
inner style i = saturating_add i style.indent

-- the column at which w columns end that begin at column c, with k columns after them
abbrev pub end_column : ℕ → ℕ → ℕ → ℕ
end_column c w k = saturating_add c (w + k)

-- they stay within the width
abbrev pub fits_width : Style → ℕ → ℕ → ℕ → Bool
fits_width style c k w = nat_le (end_column c w k) style.width

-- the comma after an item or a member, where these come after it
abbrev pub item_comma : Items → List ℕ
item_comma no_items = []
item_comma (item v vs) = ascii.comma ∷ []

abbrev pub member_comma : Members → List ℕ
member_comma no_members = []
member_comma (member key v ms) = ascii.comma ∷ []

-- there are none
abbrev pub is_empty_array : Items → Bool
is_empty_array no_items = true
is_empty_array (item v vs) = false

abbrev pub is_empty_object : Members → Bool
is_empty_object no_members = true
is_empty_object (member key v ms) = false

-- ---- flat lines

-- what stands inside braces: a blank, unless the style is compact
abbrev pub brace_blank : Style → List (List ℕ)
brace_blank style = blank_if (not style.compact)

-- the texts of a value on a flat line: its lexemes, with a space after each comma and colon, and blanks inside the braces of each object
-- that has members
abbrev mutual
  pub flat : Style → Value → List (List ℕ)
  flat style (alone s) = s ∷ []
  flat style (array b vs) = (ascii.open_bracket ∷ []) ∷ flat_items style vs
  flat style (object b ms) = (ascii.open_brace ∷ []) ∷ flat_members style ms

  -- with the closing bracket
  pub flat_items : Style → Items → List (List ℕ)
  flat_items style no_items = (ascii.close_bracket ∷ []) ∷ []
  flat_items style (item v vs) = flat style v ++ more_flat_items style vs

  -- the same after an item
  pub more_flat_items : Style → Items → List (List ℕ)
  more_flat_items style no_items = (ascii.close_bracket ∷ []) ∷ []
  more_flat_items style (item v vs) = (ascii.comma ∷ []) ∷ (32 ∷ []) ∷ (flat style v ++ more_flat_items style vs)

  -- with the closing brace
  pub flat_members : Style → Members → List (List ℕ)
  flat_members style no_members = (ascii.close_brace ∷ []) ∷ []
  flat_members style (member key v ms) =
      brace_blank style ++ (key ∷ (ascii.colon ∷ []) ∷ (32 ∷ []) ∷ (flat style v ++ more_flat_members style ms))

  -- the same after a member
  pub more_flat_members : Style → Members → List (List ℕ)
  more_flat_members style no_members = brace_blank style ++ (ascii.close_brace ∷ []) ∷ []
  more_flat_members style (member key v ms) =
      (ascii.comma ∷ []) ∷ (32 ∷ []) ∷ key ∷ (ascii.colon ∷ []) ∷ (32 ∷ []) ∷ (flat style v ++ more_flat_members style ms)

-- the columns that a line end adds to its bracket, which then takes the greatest width
abbrev pub kept_if : Bool → ℕ
kept_if b = if b then greatest_width - 1 else 0

-- those that the line ends add to a value
abbrev mutual
  pub kept_width : Value → ℕ
  kept_width (alone s) = 0
  kept_width (array b vs) = kept_if b + items_kept vs
  kept_width (object b ms) = kept_if b + members_kept ms

  pub items_kept : Items → ℕ
  items_kept no_items = 0
  items_kept (item v vs) = kept_width v + items_kept vs

  pub members_kept : Members → ℕ
  members_kept no_members = 0
  members_kept (member key v ms) = kept_width v + members_kept ms

-- the columns of a value on a flat line
abbrev pub value_width : Style → Value → ℕ
value_width style v = flat_width (flat style v) + kept_width v

-- ---- items that fill lines

-- an item that may fill lines
abbrev pub item_fills : Fill → Value → Bool
item_fills fill (alone s) = may_fill fill s
item_fills fill _ = false

-- all may
abbrev pub items_fill : Fill → Items → Bool
items_fill fill no_items = true
items_fill fill (item v vs) = item_fills fill v && items_fill fill vs

-- an item on a flat line, with its comma
abbrev pub flat_item : Style → Value → Items → List ℕ
flat_item style v vs = flat_line (flat style v) ++ item_comma vs

-- the column after it, from column c on
abbrev pub item_end : Style → ℕ → Value → Items → ℕ
item_end style c v vs = end_column c (flat_width (flat style v)) (length (item_comma vs))

-- items after one that ends at column c with its comma: a space, or where the next doesn't fit after that, a line that has indent j
abbrev pub filled_after : Style → ℕ → ℕ → Items → List ℕ
filled_after style j c no_items = []
filled_after style j c (item v vs) =
    if fits_width style (saturating_add c 1) (length (item_comma vs)) (flat_width (flat style v))
    then 32 ∷ (flat_item style v vs ++ filled_after style j (item_end style (saturating_add c 1) v vs) vs)
    else new_line j ++ (flat_item style v vs ++ filled_after style j (item_end style j v vs) vs)

-- items in lines that are filled, at indent j
abbrev pub filled_lines : Style → ℕ → Items → List ℕ
filled_lines style j no_items = []
filled_lines style j (item v vs) = new_line j ++ (flat_item style v vs ++ filled_after style j (item_end style j v vs) vs)

-- ---- values

-- the column after a key, its colon and a space, in a line with indent j
abbrev pub after_key : ℕ → List ℕ → ℕ
after_key j key = end_column j (flat_width (key ∷ (ascii.colon ∷ []) ∷ (32 ∷ []) ∷ [])) 0

-- A value from column c on of a line with indent i, with k columns after it: a comma, or nothing. A list that is empty or fits is one
-- flat line; none fits that is kept broken, or has one in it that is. Else what is in it stands in lines of its own between its
-- brackets, indented; the items of an array fill lines where all of them may.
abbrev mutual
  pub laid_value : Style → ℕ → ℕ → ℕ → Value → List ℕ
  laid_value style i c k (alone s) = s
  laid_value style i c k (array b vs) =
      if is_empty_array vs || fits_width style c k (value_width style (array b vs))
      then flat_line (flat style (array b vs))
      else ascii.open_bracket
      ∷ ((if items_fill style.fill vs then filled_lines style (inner style i) vs else item_lines style (inner style i) vs)
      ++ (new_line i ++ ascii.close_bracket ∷ []))
  laid_value style i c k (object b ms) =
      if is_empty_object ms || fits_width style c k (value_width style (object b ms))
      then flat_line (flat style (object b ms))
      else ascii.open_brace ∷ (member_lines style (inner style i) ms ++ (new_line i ++ ascii.close_brace ∷ []))

  -- each item in a line of its own
  pub item_lines : Style → ℕ → Items → List ℕ
  item_lines style j no_items = []
  item_lines style j (item v vs) =
      new_line j ++ (laid_value style j j (length (item_comma vs)) v ++ (item_comma vs ++ item_lines style j vs))

  -- each member in a line of its own
  pub member_lines : Style → ℕ → Members → List ℕ
  member_lines style j no_members = []
  member_lines style j (member key v ms) =
      new_line j
      ++ (key ++ ascii.colon ∷ 32 ∷ (laid_value style j (after_key j key) (length (member_comma ms)) v
      ++ (member_comma ms ++ member_lines style j ms)))

-- a text whose pieces spell a value is laid out by that value, from the beginning of a line with no indent, with the blank lines that
-- are kept, and spelled as the style says
abbrev pub LayoutsGoByValues : Type 0
LayoutsGoByValues =
    (style : Style) (text : List ℕ) (v : Value) → text_pieces style text ≡ spelled v → depth v ≤ max_depth → IsFormed v
    → layout_of style text ≡ with_spelling style text (with_kept_lines style text (laid_value (bounded style) 0 0 0 v))

-- and so is each text that is JSON: its pieces spell a value, and its lexemes the same without line ends
abbrev pub TextsAreLaidByValues : Type 0
TextsAreLaidByValues =
    (style : Style) (text : List ℕ) (j : Json) → document text ≡ Some j
    → (v : Value) × (text_pieces style text ≡ spelled v) × (lexemes text ≡ g.spelled (bare v))
    × (layout_of style text ≡ with_spelling style text (with_kept_lines style text (laid_value (bounded style) 0 0 0 v)))
