-- Statements whose keys have parts.
use Rattle.std.specs.Prelude.{List, [], ◌∷◌, ⊤}
use Rattle.toml_syntax.specs.Tree.{Key, no_parts, with_word, with_string, TomlValue, plain, moment, quoted, array, table, ArrayItems}
use Rattle.toml_syntax.specs.Tree.{no_items, with_item, TableMembers, no_members, with_member, Body, note, header, pair, Statement}

-- a key has a part
abbrev pub HasKeyParts : Key → Type 0
HasKeyParts no_parts = ⊥
HasKeyParts (with_word k w) = ⊤
HasKeyParts (with_string k t) = ⊤

abbrev mutual
  -- so has each key in a value
  pub IsKeyed : TomlValue → Type 0
  IsKeyed (plain w) = ⊤
  IsKeyed (moment d t) = ⊤
  IsKeyed (quoted t) = ⊤
  IsKeyed (array cs is b l) = AreKeyedItems is
  IsKeyed (table ms) = AreKeyedMembers ms

  -- and in items
  pub AreKeyedItems : ArrayItems → Type 0
  AreKeyedItems no_items = ⊤
  AreKeyedItems (with_item is l v cs) = AreKeyedItems is × IsKeyed v

  -- and each key of members, and in their values
  pub AreKeyedMembers : TableMembers → Type 0
  AreKeyedMembers no_members = ⊤
  AreKeyedMembers (with_member ms k v) = AreKeyedMembers ms × HasKeyParts k × IsKeyed v

-- and the key before `=`, and each in the value after it
abbrev pub IsKeyedBody : Body → Type 0
IsKeyedBody (note t) = ⊤
IsKeyedBody (header b k) = ⊤
IsKeyedBody (pair k g v) = HasKeyParts k × IsKeyed v

-- and so it is in each statement
abbrev pub AreKeyed : List Statement → Type 0
AreKeyed [] = ⊤
AreKeyed (t ∷ ts) = IsKeyedBody t.body × AreKeyed ts
