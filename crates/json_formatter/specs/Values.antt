-- Values by pieces, of which a bracket has a line end with it where its list is kept broken.
use Rattle.std.specs.Prelude.{ℕ, Bool, true, false, List, [], ◌∷◌, ◌++◌}
use Rattle.json.specs.Ascii as ascii
use Rattle.json_grammar.specs.Grammar as g

-- a string, a number or a literal; or an array or an object, and whether it is kept broken
mutual
  pub data PiecedValue : Type 0 where
    alone : List ℕ → PiecedValue
    array : Bool → PiecedItems → PiecedValue
    object : Bool → PiecedMembers → PiecedValue

  pub data PiecedItems : Type 0 where
    no_items : PiecedItems
    item : PiecedValue → PiecedItems → PiecedItems

  pub data PiecedMembers : Type 0 where
    no_members : PiecedMembers
    member : List ℕ → PiecedValue → PiecedMembers → PiecedMembers

-- ---- pieces

-- the line end that keeps a list broken
abbrev pub line_end_if : Bool → List ℕ
line_end_if true = ascii.line_feed ∷ []
line_end_if false = []

-- a bracket, and that line end
abbrev pub bracket : ℕ → Bool → List ℕ
bracket a b = a ∷ line_end_if b

-- the pieces of a value, in their order
abbrev mutual
  pub pieced : PiecedValue → List (List ℕ)
  pieced (alone s) = s ∷ []
  pieced (array b vs) = bracket ascii.open_bracket b ∷ pieced_items vs
  pieced (object b ms) = bracket ascii.open_brace b ∷ pieced_members ms

  pub pieced_items : PiecedItems → List (List ℕ)
  pieced_items no_items = (ascii.close_bracket ∷ []) ∷ []
  pieced_items (item v vs) = pieced v ++ more_pieced_items vs

  pub more_pieced_items : PiecedItems → List (List ℕ)
  more_pieced_items no_items = (ascii.close_bracket ∷ []) ∷ []
  more_pieced_items (item v vs) = (ascii.comma ∷ []) ∷ (pieced v ++ more_pieced_items vs)

  pub pieced_members : PiecedMembers → List (List ℕ)
  pieced_members no_members = (ascii.close_brace ∷ []) ∷ []
  pieced_members (member k v ms) = k ∷ (ascii.colon ∷ []) ∷ (pieced v ++ more_pieced_members ms)

  pub more_pieced_members : PiecedMembers → List (List ℕ)
  more_pieced_members no_members = (ascii.close_brace ∷ []) ∷ []
  more_pieced_members (member k v ms) = (ascii.comma ∷ []) ∷ k ∷ (ascii.colon ∷ []) ∷ (pieced v ++ more_pieced_members ms)

-- ---- without line ends

-- the value that the lexemes spell
abbrev mutual
  pub bare : PiecedValue → g.Value
  bare (alone s) = g.alone s
  bare (array b vs) = g.array (bare_items vs)
  bare (object b ms) = g.object (bare_members ms)

  pub bare_items : PiecedItems → g.Items
  bare_items no_items = g.no_items
  bare_items (item v vs) = g.item (bare v) (bare_items vs)

  pub bare_members : PiecedMembers → g.Members
  bare_members no_members = g.no_members
  bare_members (member k v ms) = g.member k (bare v) (bare_members ms)

abbrev pub pieced_depth : PiecedValue → ℕ
pieced_depth v = g.depth (bare v)

abbrev pub pieced_items_depth : PiecedItems → ℕ
pieced_items_depth vs = g.items_depth (bare_items vs)

abbrev pub pieced_members_depth : PiecedMembers → ℕ
pieced_members_depth ms = g.members_depth (bare_members ms)

abbrev pub IsFormedPieced : PiecedValue → Type 0
IsFormedPieced v = g.IsFormed (bare v)

abbrev pub AreFormedPiecedItems : PiecedItems → Type 0
AreFormedPiecedItems vs = g.AreFormedItems (bare_items vs)

abbrev pub AreFormedPiecedMembers : PiecedMembers → Type 0
AreFormedPiecedMembers ms = g.AreFormedMembers (bare_members ms)
