-- What the layout of entries shows: each name, value and comment, in order, with the gaps between them.
use Rattle.std.specs.Prelude.{◌≡◌, ℕ, codes, List, [], ◌∷◌, ◌++◌, map, Option, Some, None, String, string_bytes}
use Rattle.prettyless_shapes.specs.Shown.{text_items, with_gaps}
use Rattle.prettyless_shapes.specs.Shows.{Item, Shown, spaced, apart, ended, AreShown}
use Rattle.example_formatters.specs.declared.entry.ConfigurationSetting.{ConfigurationSetting}
use Rattle.example_formatters.specs.declared.entry.ConfigurationEntry.{ConfigurationEntry}
use Rattle.example_formatters.specs.declared.entry.ConfigurationEntry.TheOpen.{ConfigurationEntry-F}
use Rattle.example_formatters.specs.declared.entry.ConfigurationEntry.TheFolds.{fold-ConfigurationEntry}

-- a name, and a sign on its line
abbrev pub headed : List ℕ → List ℕ → List Item
headed name sign = text_items name ++ (spaced ∷ Shown sign ∷ [])

-- a value, and the sign that ends it
abbrev pub ended_value : List ℕ → List Item
ended_value value = text_items value ++ Shown (codes ";") ∷ []

-- items, and on the line where they end a comment
abbrev pub commented_items : {A : Type 0} → List Item → Option (String A) → List Item
commented_items items None = items
commented_items items (Some comment) = items ++ (spaced ∷ text_items (string_bytes comment))

-- a setting, whose value may be on the next line
abbrev pub setting_items : ConfigurationSetting → List Item
setting_items s = commented_items (headed (string_bytes s.name) (codes "=") ++ (apart ∷ ended_value (string_bytes s.value))) s.comment

-- entries in braces, each of them on lines of its own
abbrev pub block_items : List ℕ → List (List Item) → List Item
block_items name lists =
    headed name (codes "{") ++ (ended ∷ (with_gaps (ended ∷ []) lists ++ (ended ∷ Shown (codes "}") ∷ [])))

-- one level, with the items of each entry in its place
abbrev pub entry_level : ConfigurationEntry-F (List Item) → List Item
entry_level (ConfigurationEntry-F.Setting s) = setting_items s
entry_level (ConfigurationEntry-F.Block name lists) = block_items (string_bytes name) lists.items

-- an entry
abbrev pub entry_items : ConfigurationEntry → List Item
entry_items = fold-ConfigurationEntry (List Item) entry_level

-- entries, each of which ends its line
abbrev pub entries_items : List ConfigurationEntry → List Item
entries_items entries = with_gaps (ended ∷ []) (map entry_items entries) ++ ended ∷ []

-- what was appended shows these items
abbrev pub Appends : List Item → List ℕ → List ℕ → Type 0
Appends items old new = (bytes : List ℕ) × (new ≡ old ++ bytes) × AreShown bytes items
