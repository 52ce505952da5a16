-- Values whose arrays are not broken are one text on a flat line.
use Rattle.std.proofs.Common.{◌≡◌, refl, sym, ◌∙◌, ap, ap₂, subst, ℕ, ◌+◌, Bool, true, false, ◌&&◌, ◌||◌, List, [], ◌∷◌, ◌++◌, length}
use Rattle.std.proofs.Common.{arith, append-nil}
use Rattle.std.specs.Prelude.{if◌then◌else◌, None}
use Rattle.std.proofs.lemmas.Bool.{true≢false, or_parts, or_from, and_right}
use Rattle.prettyless_model.specs.Metrics.{is_ascii, text_width}
use Rattle.prettyless_model.specs.Tree.{Tree, Nil, Text, TextWithLen, Append, BreakOrFlat, Flatten, Group}
use Rattle.prettyless_trees.specs.Built.{append, between, flatten, group}
use Rattle.prettyless_trees.specs.Counted.{text}
use Rattle.prettyless_trees.specs.Lines.{space}
use Rattle.prettyless_laws.specs.Parts.{IsInline, flat_bytes}
use Rattle.prettyless_laws.specs.Parts as parts
use Rattle.toml_lexemes.specs.Bytes as byte
use Rattle.toml_syntax.specs.TypedLexemes.{one_blank}
use Rattle.toml_syntax.specs.Tree.{Key, no_parts, with_word, with_string, Comments, no_comments, with_comment, TomlValue, plain, moment}
use Rattle.toml_syntax.specs.Tree.{quoted, array, table, ArrayItems, no_items, with_item, TableMembers, no_members, with_member}
use Rattle.toml_syntax.specs.Spelled.{comma_if, comma_after_members, brace_gap}
use Rattle.toml_syntax.specs.Settled.{Style, key_columns, value_columns, items_columns, members_columns, separator_columns}
use Rattle.toml_syntax.specs.Settled.{member_separator_columns, brace_columns, has_comments, has_items, is_broken, are_broken, has_broken}
use Rattle.toml_syntax.specs.Settled.{begins_below, array_breaks, settled_comments, is_first, item_lead, closing_lead, inner_indent}
use Rattle.toml_syntax.specs.Settled.{settled_value, settled_items, settled_members}
use Rattle.toml_layouts.specs.Documents.{text_style, key_parts_tree, pair_tree, item_mark, item_edge, closing_edge, member_mark, array_as}
use Rattle.toml_layouts.specs.Documents.{value_tree, items_tree, members_tree, array_comments_tree}
use Rattle.toml_syntax.specs.Formatted.{lexemes_text}
use Rattle.toml_layouts.specs.Keyed.{IsKeyed, AreKeyedItems, AreKeyedMembers}
use Rattle.toml_layouts.proofs.Bytes.{key_bytes, word_bytes, string_bytes, value_bytes, lead_bytes, comments_bytes, items_bytes}
use Rattle.toml_layouts.proofs.Bytes.{item_more, members_bytes, member_more, array_bytes, table_bytes}

-- on a flat line a document is this text, in so many columns
pub record IsOneLine (d : Tree) (s : List ℕ) (w : ℕ) : Type 0 where
  pub inline : IsInline d
  pub bytes : flat_bytes d ≡ s
  pub columns : parts.flat_columns d ≡ w

pub flat_as : {d : Tree} {s t : List ℕ} {w v : ℕ} → s ≡ t → w ≡ v → IsOneLine d s w → IsOneLine d t v
flat_as e f h = record { inline = h.inline; bytes = h.bytes ∙ e; columns = h.columns ∙ f }

flat_nothing : IsOneLine Nil [] 0
flat_nothing = record { inline = tt; bytes = refl; columns = refl }

flat_sign : (b : ℕ) (bs : List ℕ) → IsOneLine (Text (b ∷ bs)) (b ∷ bs) (length (b ∷ bs))
flat_sign b bs = record { inline = tt; bytes = refl; columns = refl }

flat_either : (t : Bool) (w b : ℕ) (bs : List ℕ)
    → IsOneLine (if t then Text (b ∷ bs) else TextWithLen (if t then length (b ∷ bs) else w) (b ∷ bs)) (b ∷ bs)
    (if t then length (b ∷ bs) else w)
flat_either true w b bs = record { inline = tt; bytes = refl; columns = refl }
flat_either false w b bs = record { inline = tt; bytes = refl; columns = refl }

flat_text : (s : List ℕ) → IsOneLine (text s) s (text_width s)
flat_text [] = record { inline = tt; bytes = refl; columns = refl }
flat_text (b ∷ bs) = flat_either (is_ascii (b ∷ bs)) _ b bs

none_before : (w v : ℕ) → 0 ≡ w → v ≡ w + v
none_before w v h = omega (arith, h)

none_after : (w v : ℕ) → 0 ≡ v → w ≡ w + v
none_after w v h = omega (arith, h)

flat_append : {s t : List ℕ} {w v : ℕ} (x y : Tree) → IsOneLine x s w → IsOneLine y t v → IsOneLine (append x y) (s ++ t) (w + v)
flat_append {s} {t} {w} {v} Nil y h k =
    record {
      inline = k.inline;
      bytes = k.bytes ∙ ap (λ (z : List ℕ). z ++ t) h.bytes;
      columns = k.columns ∙ none_before w v h.columns;
    }
flat_append {s} {t} {w} {v} x Nil h k =
    record {
      inline = h.inline;
      bytes = h.bytes ∙ sym (append-nil s) ∙ ap (λ (z : List ℕ). s ++ z) k.bytes;
      columns = h.columns ∙ none_after w v k.columns;
    }
flat_append x y h k =
    record {
      inline = (h.inline, k.inline);
      bytes = ap₂ (λ (a b : List ℕ). a ++ b) h.bytes k.bytes;
      columns = ap₂ (λ (a b : ℕ). a + b) h.columns k.columns;
    }

flat_broken : {s : List ℕ} {w : ℕ} (b f : Tree) → IsOneLine f s w → IsOneLine (BreakOrFlat b f) s w
flat_broken b f h = record { inline = h.inline; bytes = h.bytes; columns = h.columns }

pub flat_between : {s : List ℕ} {w : ℕ} (a z : ℕ) (x : Tree) → IsOneLine x s w
    → IsOneLine (between a z x) ((a ∷ s) ++ (z ∷ [])) ((1 + w) + 1)
flat_between a z x h =
    flat_append (append (Text (a ∷ [])) x) (Text (z ∷ [])) (flat_append (Text (a ∷ [])) x (flat_sign a []) h) (flat_sign z [])

-- ---- what is between signs

between_is : (a z : ℕ) (x : Tree) → between a z x ≡ Append (append (Text (a ∷ [])) x) (Text (z ∷ []))
between_is a z Nil = refl
between_is a z x = refl

pub grouped_is : (a z : ℕ) (x : Tree) → group (between a z x) ≡ Group (between a z x)
grouped_is a z x =
    ap (λ (d : Tree). group d) (between_is a z x) ∙ sym (ap (λ (d : Tree). Group d) (between_is a z x))

pub flattened_is : (a z : ℕ) (x : Tree) → flatten (between a z x) ≡ Flatten (between a z x)
flattened_is a z x =
    ap (λ (d : Tree). flatten d) (between_is a z x) ∙ sym (ap (λ (d : Tree). Flatten d) (between_is a z x))

flat_grouped : {s : List ℕ} {w : ℕ} (d : Tree) → IsOneLine d s w → IsOneLine (Group d) s w
flat_grouped d h = record { inline = h.inline; bytes = h.bytes; columns = h.columns }

flat_flattened : {s : List ℕ} {w : ℕ} (d : Tree) → IsOneLine d s w → IsOneLine (Flatten d) s w
flat_flattened d h = record { inline = h.inline; bytes = h.bytes; columns = h.columns }

-- an array that is not broken anyway
flat_array : {s : List ℕ} {w : ℕ} (t may : Bool) (a z : ℕ) (x : Tree) → t ≡ false → IsOneLine (between a z x) s w
    → IsOneLine (array_as t may (between a z x)) s w
flat_array true may a z x e h = absurd (true≢false e)
flat_array {s} {w} false true a z x e h =
    subst (λ (d : Tree). IsOneLine d s w) (sym (grouped_is a z x)) (flat_grouped (between a z x) h)
flat_array {s} {w} false false a z x e h =
    subst (λ (d : Tree). IsOneLine d s w) (sym (flattened_is a z x)) (flat_flattened (between a z x) h)

-- ---- parts of values

pub flat_parts : (width : ℕ) (ind : List ℕ) (k : Key) → IsOneLine (key_parts_tree k) (key_bytes k) (key_columns (text_style width ind) k)
flat_parts width ind no_parts = flat_nothing
flat_parts width ind (with_word k w) =
    flat_as (sym (word_bytes k w)) refl (flat_append (key_parts_tree k) (text w) (flat_parts width ind k) (flat_text w))
flat_parts width ind (with_string k w) =
    flat_as (sym (string_bytes k w)) refl (flat_append (key_parts_tree k) (text w) (flat_parts width ind k) (flat_text w))

abbrev mark_columns : Bool → ℕ
mark_columns true = 1
mark_columns false = 0

flat_mark : (b : Bool) → IsOneLine (item_mark b) (lexemes_text (comma_if b)) (mark_columns b)
flat_mark true = record { inline = tt; bytes = refl; columns = refl }
flat_mark false = record { inline = tt; bytes = refl; columns = refl }

abbrev edge_columns : Bool → ℕ
edge_columns true = 0
edge_columns false = 1

flat_edge : (f : Bool) (inner : List ℕ) (n : ℕ)
    → IsOneLine (item_edge f inner n) (lead_bytes (item_lead false f inner n)) (edge_columns f)
flat_edge true inner n = record { inline = tt; bytes = refl; columns = refl }
flat_edge false inner n = record { inline = tt; bytes = refl; columns = refl }

flat_closing : (indent : List ℕ) → IsOneLine (closing_edge indent) (lead_bytes (closing_lead false indent)) 0
flat_closing indent = record { inline = tt; bytes = refl; columns = refl }

flat_comments : (f : Bool) (inner : List ℕ) (cs : Comments) → has_comments cs ≡ false
    → IsOneLine (array_comments_tree (settled_comments inner f cs)) (comments_bytes (settled_comments inner f cs)) 0
flat_comments f inner no_comments h = flat_nothing
flat_comments f inner (with_comment cs l s) h = absurd (true≢false h)

-- the comma after items, which take so many columns more than those counted
abbrev marks : Bool → ArrayItems → ℕ
marks b no_items = 0
marks b (with_item is l v cs) = mark_columns b

no_marks : (is : ArrayItems) → marks false is ≡ 0
no_marks no_items = refl
no_marks (with_item is l v cs) = refl

separated_by : (is : ArrayItems) → marks true is + edge_columns (is_first no_comments is) ≡ separator_columns is
separated_by no_items = refl
separated_by (with_item is l v cs) = refl

item_sum : (a m e v k q : ℕ) → m + e ≡ q → (a + m) + (e + (v + (k + 0))) ≡ (a + (q + v)) + k
item_sum a m e v k q h = omega (arith, h)

flat_member_mark : (s : Style) (indent : List ℕ) (ms : TableMembers)
    → IsOneLine (member_mark ms) (lexemes_text (comma_after_members (settled_members s indent ms)))
    (length (lexemes_text (comma_after_members ms)))
flat_member_mark s indent no_members = record { inline = tt; bytes = refl; columns = refl }
flat_member_mark s indent (with_member ms k v) = record { inline = tt; bytes = refl; columns = refl }

-- the blank after the brace, before the first member
abbrev first_blank : TableMembers → ℕ
first_blank no_members = 0
first_blank (with_member ms k v) = 1

members_separated : (ms : TableMembers) → first_blank ms + length (lexemes_text (comma_after_members ms)) ≡ member_separator_columns ms
members_separated no_members = refl
members_separated (with_member ms k v) = refl

member_sum : (a m e k v q : ℕ) → m + e ≡ q → (a + m) + (e + (1 + (k + (1 + (2 + v))))) ≡ (a + (q + (k + (3 + v)))) + 1
member_sum a m e k v q h = omega (arith, h)

braces_are : (ms : TableMembers) → (1 + first_blank ms) + (text_width (brace_gap ms) + 1) ≡ brace_columns ms
braces_are no_members = refl
braces_are (with_member ms k v) = refl

table_sum : (a m g q : ℕ) → (1 + m) + (g + 1) ≡ q → (1 + ((a + m) + g)) + 1 ≡ q + a
table_sum a m g q h = omega (arith, h)

pub brace_gap_kept : (s : Style) (indent : List ℕ) (ms : TableMembers) → brace_gap (settled_members s indent ms) ≡ brace_gap ms
brace_gap_kept s indent no_members = refl
brace_gap_kept s indent (with_member ms k v) = refl

array_sum : (a m : ℕ) → m ≡ 0 → (1 + (0 + ((a + m) + 0))) + 1 ≡ 2 + a
array_sum a m h = omega (arith, h)

-- ---- arrays, laid out broken or not

abbrev pub settled_array : Style → List ℕ → Bool → Comments → ArrayItems → TomlValue
settled_array s indent b cs is =
    array (settled_comments (inner_indent s indent) true cs) (settled_items s (inner_indent s indent) b cs is) (has_items is && b)
    (closing_lead b indent)

-- what an array's document has between its brackets
abbrev pub inside_tree : Style → List ℕ → Comments → ArrayItems → Tree
inside_tree s indent cs is =
    append (array_comments_tree (settled_comments (inner_indent s indent) true cs))
    (append (items_tree s (inner_indent s indent) cs false is) (closing_edge indent))

abbrev pub array_tree : Style → List ℕ → Comments → ArrayItems → Tree
array_tree s indent cs is = between byte.open_bracket byte.close_bracket (inside_tree s indent cs is)

-- it stays on its line, whatever its width
pub never_breaks : (s : Style) (cs : Comments) (is : ArrayItems) → has_comments cs || are_broken is ≡ false
    → array_breaks s None cs is ≡ false
never_breaks s cs is h = or_from (has_comments cs || are_broken is) (has_items is && false) h (and_right (has_items is) false refl)

array_of_items : (width : ℕ) (ind : List ℕ) (cs : Comments) (is : ArrayItems) (indent : List ℕ) → has_comments cs || are_broken is ≡ false
    → IsOneLine (items_tree (text_style width ind) (inner_indent (text_style width ind) indent) no_comments false is)
    (items_bytes false (settled_items (text_style width ind) (inner_indent (text_style width ind) indent) false no_comments is))
    (items_columns (text_style width ind) is + marks false is)
    → IsOneLine (array_tree (text_style width ind) indent cs is) (value_bytes (settled_array (text_style width ind) indent false cs is))
    (2 + items_columns (text_style width ind) is)
array_of_items width ind (with_comment cs l t) is indent h items = absurd (true≢false h)
array_of_items width ind no_comments is indent h items =
    let s = text_style width ind in
    let inner = inner_indent s indent in
    let settled = settled_items s inner false no_comments is in
    flat_as
    (ap (λ (t : Bool). (byte.open_bracket ∷ (items_bytes t settled ++ lead_bytes (closing_lead false indent))) ++ (byte.close_bracket ∷ []))
    (sym (and_right (has_items is) false refl))
    ∙ sym (array_bytes no_comments settled (has_items is && false) (closing_lead false indent)))
    (array_sum (items_columns s is) (marks false is) (no_marks is))
    (flat_between byte.open_bracket byte.close_bracket (inside_tree s indent no_comments is)
    (flat_append Nil (append (items_tree s inner no_comments false is) (closing_edge indent)) flat_nothing
    (flat_append (items_tree s inner no_comments false is) (closing_edge indent) items (flat_closing indent))))

mutual
  pub value_flat : (width : ℕ) (ind : List ℕ) (v : TomlValue) → is_broken v ≡ false → IsKeyed v → (indent : List ℕ) (may : Bool)
      → IsOneLine (value_tree (text_style width ind) indent may v)
      (value_bytes (settled_value (text_style width ind) indent None v)) (value_columns (text_style width ind) v)
  value_flat width ind (plain w) h k indent may = flat_as (sym (append-nil w)) refl (flat_text w)
  value_flat width ind (moment d t) h k indent may =
      flat_as (ap (λ (s : List ℕ). d ++ (byte.blank_space ∷ s)) (sym (append-nil t))) refl
      (flat_append (text d) (append space (text t)) (flat_text d)
      (flat_append space (text t) (flat_sign byte.blank_space []) (flat_text t)))
  value_flat width ind (quoted t) h k indent may = flat_as (sym (append-nil t)) refl (flat_text t)
  value_flat width ind (array cs is b l) h k indent may =
      let s = text_style width ind in
      flat_as (ap (λ (t : Bool). value_bytes (settled_array s indent t cs is)) (sym (never_breaks s cs is h))) refl
      (flat_array (has_comments cs || are_broken is) (may && has_items is) byte.open_bracket byte.close_bracket (inside_tree s indent cs is)
      h
      (array_of_items width ind cs is indent h
      (items_flat width ind is (or_parts (has_comments cs) (are_broken is) h).1 k (inner_indent s indent) false)))
  value_flat width ind (table ms) h k indent may =
      let s = text_style width ind in
      let a = members_columns s ms in
      flat_as
      (ap (λ (g : List ℕ). (byte.open_brace ∷ (members_bytes (settled_members s indent ms) ++ g)) ++ (byte.close_brace ∷ []))
      (sym (brace_gap_kept s indent ms))
      ∙ sym (table_bytes (settled_members s indent ms)))
      (table_sum a (first_blank ms) (text_width (brace_gap ms)) (brace_columns ms) (braces_are ms))
      (flat_between byte.open_brace byte.close_brace (append (members_tree s indent ms) (text (brace_gap ms)))
      (flat_append (members_tree s indent ms) (text (brace_gap ms)) (members_flat width ind ms h k indent) (flat_text (brace_gap ms))))

  pub items_flat : (width : ℕ) (ind : List ℕ) (is : ArrayItems) → are_broken is ≡ false → AreKeyedItems is → (inner : List ℕ) (b : Bool)
      → IsOneLine (items_tree (text_style width ind) inner no_comments b is)
      (items_bytes b (settled_items (text_style width ind) inner false no_comments is))
      (items_columns (text_style width ind) is + marks b is)
  items_flat width ind no_items h k inner b = flat_nothing
  items_flat width ind (with_item is l v cs) h k inner b =
      let s = text_style width ind in
      let before = or_parts (are_broken is) (begins_below is l.line_ends || (is_broken v || has_comments cs)) h in
      let below = or_parts (begins_below is l.line_ends) (is_broken v || has_comments cs) before.1 in
      let after = or_parts (is_broken v) (has_comments cs) below.1 in
      let first = is_first no_comments is in
      let noted = array_comments_tree (settled_comments inner false cs) in
      flat_as
      (sym
      (item_more b (settled_items s inner false no_comments is) (item_lead false first inner l.line_ends) (settled_value s inner None v)
      (settled_comments inner false cs)))
      (item_sum (items_columns s is) (marks true is) (edge_columns first) (value_columns s v) (mark_columns b) (separator_columns is)
      (separated_by is))
      (flat_append (items_tree s inner no_comments true is)
      (append (item_edge first inner l.line_ends) (append (value_tree s inner true v) (append (item_mark b) noted)))
      (items_flat width ind is before.0 k.0 inner true)
      (flat_append (item_edge first inner l.line_ends) (append (value_tree s inner true v) (append (item_mark b) noted))
      (flat_edge first inner l.line_ends)
      (flat_append (value_tree s inner true v) (append (item_mark b) noted) (value_flat width ind v after.0 k.1 inner true)
      (flat_append (item_mark b) noted (flat_mark b) (flat_comments false inner cs after.1)))))

  pub members_flat : (width : ℕ) (ind : List ℕ) (ms : TableMembers) → has_broken ms ≡ false → AreKeyedMembers ms → (indent : List ℕ)
      → IsOneLine (members_tree (text_style width ind) indent ms) (members_bytes (settled_members (text_style width ind) indent ms))
      (members_columns (text_style width ind) ms + first_blank ms)
  members_flat width ind no_members h k indent = flat_nothing
  members_flat width ind (with_member ms key v) h k indent =
      let s = text_style width ind in
      let both = or_parts (has_broken ms) (is_broken v) h in
      let value = value_tree s indent false v in
      let signs = Text (byte.equals ∷ byte.blank_space ∷ []) in
      let after_key = append (text one_blank) (append signs value) in
      flat_as
      (sym (member_more (settled_members s indent ms) key (settled_value s indent None v) k.1))
      (member_sum (members_columns s ms) (first_blank ms) (length (lexemes_text (comma_after_members ms))) (key_columns s key)
      (value_columns s v) (member_separator_columns ms) (members_separated ms))
      (flat_append (members_tree s indent ms) (append (member_mark ms) (pair_tree one_blank key one_blank value))
      (members_flat width ind ms both.0 k.0 indent)
      (flat_append (member_mark ms) (pair_tree one_blank key one_blank value) (flat_member_mark s indent ms)
      (flat_append (text one_blank) (append (key_parts_tree key) after_key) (flat_text one_blank)
      (flat_append (key_parts_tree key) after_key (flat_parts width ind key)
      (flat_append (text one_blank) (append signs value) (flat_text one_blank)
      (flat_append signs value (flat_sign byte.equals (byte.blank_space ∷ [])) (value_flat width ind v both.1 k.2 indent false)))))))

pub array_flat : (width : ℕ) (ind : List ℕ) (cs : Comments) (is : ArrayItems) → has_comments cs || are_broken is ≡ false → AreKeyedItems is
    → (indent : List ℕ)
    → IsOneLine (array_tree (text_style width ind) indent cs is) (value_bytes (settled_array (text_style width ind) indent false cs is))
    (2 + items_columns (text_style width ind) is)
array_flat width ind cs is h k indent =
    array_of_items width ind cs is indent h
    (items_flat width ind is (or_parts (has_comments cs) (are_broken is) h).1 k (inner_indent (text_style width ind) indent) false)
