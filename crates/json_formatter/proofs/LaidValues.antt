-- Values are laid out as the definition by values says.
use Rattle.std.proofs.Common.{◌≡◌, refl, ◌∙◌, ap, subst, ℕ, ◌≤◌, Bool, true, false, not, List, ◌∷◌, ◌++◌, length, append_assoc}
use Rattle.std.specs.Prelude.{if◌then◌else◌}
use Rattle.json.specs.Word.{ends_word}
use Rattle.prettyless_model.specs.Layout.{State, Entry}
use Rattle.prettyless_trees.specs.Built.{append}
use Rattle.json_formatter.specs.declared.style.Style.{Style}
use Rattle.json_formatter.specs.ByValue.{laid_value, items_fill, after_key, flat, filled_lines, item_lines, member_lines, item_comma}
use Rattle.json_formatter.specs.ByValue.{member_comma, inner, new_line, value_width}
use Rattle.json_formatter.specs.Flat.{flat_line}
use Rattle.json_formatter.specs.Values.{PiecedValue as Value, alone, array, object, PiecedItems as Items, no_items, item}
use Rattle.json_formatter.specs.Values.{PiecedMembers as Members, no_members}
use Rattle.json_formatter.specs.Values as g
use Rattle.json_formatter.specs.Values.{IsFormedPieced as IsFormed, AreFormedPiecedItems as AreFormedItems}
use Rattle.json_formatter.specs.Values.{AreFormedPiecedMembers as AreFormedMembers}
use Rattle.json_formatter.proofs.Chains.{append_some, value_some, items_some, members_some, key_some}
use Rattle.json_formatter.proofs.FlatTrees.{value_flat}
use Rattle.json_formatter.proofs.Filled.{filled_items}
use Rattle.json_formatter.proofs.LaidLists.{LaysAtIndent, LaysAfter, LaysLines, lays_none, lays_more, first_and_later, list_lays}
use Rattle.json_formatter.proofs.LaidLists.{empty_lays, word_lays, pair_lays, marked_lays, member_marked_lays}
use Rattle.json_formatter.proofs.LaidParts.{Rested, StandsAt, in_break, Writes, greatest, writes_rested, sum_within}
use Rattle.json_formatter.proofs.ValueTrees.{tree, item_trees, member_trees, item_marked, member_marked, key_tree, key_formed}

-- ---- items and members

-- items in lines of their own, or in lines that are filled
array_lines : (style : Style) (n j : ℕ) (fills : Bool) (v : Value) (vs : Items) → items_fill style.fill (item v vs) ≡ fills
    → j ≤ greatest → AreFormedItems (item v vs)
    → LaysLines style n j false (item_marked (tree style v) vs) (item_trees style vs) (item_lines style j (item v vs))
    → LaysLines style n j fills (item_marked (tree style v) vs) (item_trees style vs)
    (if fills then filled_lines style j (item v vs) else item_lines style j (item v vs))
array_lines style n j false v vs e l h lines = lines
array_lines style n j true v vs e l h lines = filled_items style n j v vs l e h

-- the lines of one more item, and of one more member
item_bytes : (style : Style) (j : ℕ) (v : Value) (vs : Items)
    → new_line j ++ ((laid_value style j j (length (item_comma vs)) v ++ item_comma vs) ++ item_lines style j vs)
    ≡ item_lines style j (item v vs)
item_bytes style j v vs =
    ap (λ (x : List ℕ). new_line j ++ x)
    (append_assoc (laid_value style j j (length (item_comma vs)) v) (item_comma vs) (item_lines style j vs))

member_bytes : (style : Style) (j : ℕ) (key : List ℕ) (v : Value) (ms : Members)
    → new_line j ++ (((key ++ 58 ∷ 32 ∷ laid_value style j (after_key j key) (length (member_comma ms)) v) ++ member_comma ms)
    ++ member_lines style j ms)
    ≡ member_lines style j (g.member key v ms)
member_bytes style j key v ms =
    let s = laid_value style j (after_key j key) (length (member_comma ms)) v in
    ap (λ (x : List ℕ). new_line j ++ x)
    (append_assoc (key ++ 58 ∷ 32 ∷ s) (member_comma ms) (member_lines style j ms)
    ∙ append_assoc key (58 ∷ 32 ∷ s) (member_comma ms ++ member_lines style j ms))

-- how a value is laid, wherever it stands
abbrev ValueLays : Style → ℕ → Value → Type 0
ValueLays style n v =
    (i c k : ℕ) (rest : List Entry) (st : State) → i ≤ greatest → StandsAt style.width c k rest st
    → Writes (in_break style n (tree style v) i rest st) (laid_value style i c k v) Rested

-- an item, or a member, with its comma at the beginning of a line
one_item : {style : Style} {n j : ℕ} (v : Value) (vs : Items) → j ≤ greatest → IsFormed v → ValueLays style n v
    → LaysAtIndent style n (item_marked (tree style v) vs) j (laid_value style j j (length (item_comma vs)) v ++ item_comma vs)
one_item {style} {n} {j} v vs l h value = λ u r. marked_lays (tree style v) vs (value_some style v h)
    (λ rest f. value j j (length (item_comma vs)) rest u l (record { at = r; follows = f }))

one_member : {style : Style} {n j : ℕ} (key : List ℕ) (v : Value) (ms : Members) → j ≤ greatest → ends_word key ≡ false → IsFormed v
    → ValueLays style n v
    → LaysAtIndent style n (member_marked (append (key_tree key) (tree style v)) ms) j
    ((key ++ 58 ∷ 32 ∷ laid_value style j (after_key j key) (length (member_comma ms)) v) ++ member_comma ms)
one_member {style} {n} {j} key v ms l e h value = λ u r.
    member_marked_lays (append (key_tree key) (tree style v)) ms
    (append_some (key_tree key) (tree style v) (key_some key e) (value_some style v h))
    (λ rest f. pair_lays style n key (tree style v) rest e (value_some style v h) r
    (λ w q. value j (after_key j key) (length (member_comma ms)) rest w l (record { at = q; follows = f })))

-- ---- values

mutual
  pub value_lays : (style : Style) (n : ℕ) (v : Value) → IsFormed v → ValueLays style n v
  value_lays style n (alone s) h = λ i c k rest st l place. writes_rested (word_lays _ _ s i c rest st h place.at)
  value_lays style n (array keeps no_items) h = λ i c k rest st l place. empty_lays style n i false true 91 keeps 93 rest st place.at.0
  value_lays style n (array keeps (item v vs)) h = λ i c k rest st l place.
      let j = inner style i in
      let m = sum_within i style.indent in
      let fills = items_fill style.fill (item v vs) in
      let whole = array keeps (item v vs) in
      list_lays false keeps i 93 (flat_line (flat style whole)) (value_width style whole) (items_some style (item v vs) h)
      (value_flat style whole h) refl l place
      (array_lines style n j fills v vs refl m h
      (first_and_later (item_lines style j vs) (one_item v vs m h.0 (value_lays style n v h.0))
      (items_lay style n vs h.1 j m) (item_bytes style j v vs)))
  value_lays style n (object keeps no_members) h = λ i c k rest st l place.
      empty_lays style n i (not style.compact) false 123 keeps 125 rest st place.at.0
  value_lays style n (object keeps (g.member key v ms)) h = λ i c k rest st l place.
      let j = inner style i in
      let m = sum_within i style.indent in
      let whole = object keeps (g.member key v ms) in
      list_lays (not style.compact) keeps i 125 (flat_line (flat style whole)) (value_width style whole)
      (members_some style (g.member key v ms) h) (value_flat style whole h) refl l place
      (first_and_later (member_lines style j ms) (one_member key v ms m (key_formed key h.0) h.1 (value_lays style n v h.1))
      (members_lay style n ms h.2 j m) (member_bytes style j key v ms))

  items_lay : (style : Style) (n : ℕ) (vs : Items) → AreFormedItems vs → (j : ℕ) → j ≤ greatest
      → LaysAfter style n (item_trees style vs) j (item_lines style j vs)
  items_lay style n no_items h j l = lays_none style n j
  items_lay style n (item v vs) h j l =
      subst (LaysAfter style n (item_trees style (item v vs)) j) (item_bytes style j v vs)
      (lays_more (item_trees style vs) (item_lines style j vs) l (one_item v vs l h.0 (value_lays style n v h.0))
      (items_lay style n vs h.1 j l))

  members_lay : (style : Style) (n : ℕ) (ms : Members) → AreFormedMembers ms → (j : ℕ) → j ≤ greatest
      → LaysAfter style n (member_trees style ms) j (member_lines style j ms)
  members_lay style n no_members h j l = lays_none style n j
  members_lay style n (g.member key v ms) h j l =
      subst (LaysAfter style n (member_trees style (g.member key v ms)) j) (member_bytes style j key v ms)
      (lays_more (member_trees style ms) (member_lines style j ms) l
      (one_member key v ms l (key_formed key h.0) h.1 (value_lays style n v h.1)) (members_lay style n ms h.2 j l))
