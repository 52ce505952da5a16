-- Values as they are spelled, lexeme by lexeme.
use Rattle.std.specs.Prelude.{◌≡◌, ℕ, suc, ◌≤◌, max, false, List, [], ◌∷◌, ◌++◌, ⊤}
use Rattle.json.specs.Ascii as ascii
use Rattle.json.specs.Word.{head, ends_word}
use Rattle.json_validity.specs.Document.{max_depth}

-- a string, a number or a literal, as it is spelled; or an array or an object, which has each key as it is spelled, with its quotes
mutual
  pub data Value : Type 0 where
    alone : List ℕ → Value
    array : Items → Value
    object : Members → Value

  pub data Items : Type 0 where
    no_items : Items
    item : Value → Items → Items

  pub data Members : Type 0 where
    no_members : Members
    member : List ℕ → Value → Members → Members

-- the lexemes of a value, in their order, with a comma between two items or members, and a colon after a key
abbrev mutual
  pub spelled : Value → List (List ℕ)
  spelled (alone s) = s ∷ []
  spelled (array vs) = (ascii.open_bracket ∷ []) ∷ spelled_items vs
  spelled (object ms) = (ascii.open_brace ∷ []) ∷ spelled_members ms

  -- with the closing bracket
  pub spelled_items : Items → List (List ℕ)
  spelled_items no_items = (ascii.close_bracket ∷ []) ∷ []
  spelled_items (item v vs) = spelled v ++ more_items vs

  -- the same after an item
  pub more_items : Items → List (List ℕ)
  more_items no_items = (ascii.close_bracket ∷ []) ∷ []
  more_items (item v vs) = (ascii.comma ∷ []) ∷ (spelled v ++ more_items vs)

  -- with the closing brace
  pub spelled_members : Members → List (List ℕ)
  spelled_members no_members = (ascii.close_brace ∷ []) ∷ []
  spelled_members (member k v ms) = k ∷ (ascii.colon ∷ []) ∷ (spelled v ++ more_members ms)

  -- the same after a member
  pub more_members : Members → List (List ℕ)
  more_members no_members = (ascii.close_brace ∷ []) ∷ []
  more_members (member k v ms) = (ascii.comma ∷ []) ∷ k ∷ (ascii.colon ∷ []) ∷ (spelled v ++ more_members ms)

-- how deep arrays and objects nest
abbrev mutual
  pub depth : Value → ℕ
  depth (alone s) = 0
  depth (array vs) = suc (items_depth vs)
  depth (object ms) = suc (members_depth ms)

  pub items_depth : Items → ℕ
  items_depth no_items = 0
  items_depth (item v vs) = max (depth v) (items_depth vs)

  pub members_depth : Members → ℕ
  members_depth no_members = 0
  members_depth (member k v ms) = max (depth v) (members_depth ms)

-- what stands alone begins with no sign and no space, so it is not empty; and a key begins with a quote
abbrev mutual
  pub IsFormed : Value → Type 0
  IsFormed (alone s) = ends_word s ≡ false
  IsFormed (array vs) = AreFormedItems vs
  IsFormed (object ms) = AreFormedMembers ms

  pub AreFormedItems : Items → Type 0
  AreFormedItems no_items = ⊤
  AreFormedItems (item v vs) = IsFormed v × AreFormedItems vs

  pub AreFormedMembers : Members → Type 0
  AreFormedMembers no_members = ⊤
  AreFormedMembers (member k v ms) = (head k ≡ ascii.quote) × IsFormed v × AreFormedMembers ms

-- these are the lexemes of one value
pub record SpellValue (ss : List (List ℕ)) : Type 0 where
  pub value : Value
  pub spells : ss ≡ spelled value
  pub shallow : depth value ≤ max_depth
  pub formed : IsFormed value
