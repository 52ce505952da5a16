-- Keys of statements that may be spelled have parts.
use Rattle.std.proofs.Common.{sym, false, [], ◌∷◌}
use Rattle.std.proofs.lemmas.Bool.{true≢false}
use Rattle.toml_syntax.specs.Tree.{Key, no_parts, with_word, with_string, TomlValue, plain, moment, quoted, array, table, ArrayItems}
use Rattle.toml_syntax.specs.Tree.{no_items, with_item, TableMembers, no_members, with_member, Body, note, header, pair}
use Rattle.toml_syntax.specs.Formed.{IsFormedKey, IsFormedValue, AreFormedArrayItems, AreFormedTableMembers, IsFormedBody}
use Rattle.toml_layouts.specs.Keyed.{HasKeyParts, IsKeyed, AreKeyedItems, AreKeyedMembers, IsKeyedBody}
use Rattle.toml_layouts.specs.Laws.{FormedAreKeyed}

has_parts : (k : Key) → IsFormedKey k false → HasKeyParts k
has_parts no_parts h = absurd (true≢false (sym h))
has_parts (with_word k w) h = tt
has_parts (with_string k t) h = tt

mutual
  value_keyed : (v : TomlValue) → IsFormedValue v → IsKeyed v
  value_keyed (plain w) h = tt
  value_keyed (moment d t) h = tt
  value_keyed (quoted t) h = tt
  value_keyed (array cs is b l) h = items_keyed is h.1
  value_keyed (table ms) h = members_keyed ms h

  items_keyed : (is : ArrayItems) → AreFormedArrayItems is → AreKeyedItems is
  items_keyed no_items h = tt
  items_keyed (with_item is l v cs) h = (items_keyed is h.0, value_keyed v h.2)

  members_keyed : (ms : TableMembers) → AreFormedTableMembers ms → AreKeyedMembers ms
  members_keyed no_members h = tt
  members_keyed (with_member ms k v) h = (members_keyed ms h.0, has_parts k h.1, value_keyed v h.2)

body_keyed : (d : Body) → IsFormedBody d → IsKeyedBody d
body_keyed (note t) h = tt
body_keyed (header b k) h = tt
body_keyed (pair k g v) h = (has_parts k h.0, value_keyed v h.2)

pub formed_are_keyed : FormedAreKeyed
formed_are_keyed [] h = tt
formed_are_keyed (t ∷ ts) h = (body_keyed t.body h.0.1, formed_are_keyed ts h.1)
