-- The bytes of lexemes one after another, and of the parts of statements.
use Rattle.std.proofs.Common.{◌≡◌, refl, sym, ◌∙◌, ap, ℕ, Bool, true, List, [], ◌∷◌, ◌++◌, append_assoc, append-nil}
use Rattle.toml_lexemes.specs.Bytes as byte
use Rattle.toml_syntax.specs.TypedLexemes.{TypedAfterGap, lexeme_bytes, typed_after_gap, equals, one_blank}
use Rattle.toml_syntax.specs.Tree.{Lead, Key, no_parts, with_word, with_string, Comments, with_comment, TomlValue, plain, moment, quoted}
use Rattle.toml_syntax.specs.Tree.{array, table, ArrayItems, with_item, TableMembers, with_member}
use Rattle.toml_syntax.specs.Spelled.{spelled_line_ends, part_gap, spelled_key, spelled_comments, comma_if, comma_after_members}
use Rattle.toml_syntax.specs.Spelled.{spelled_value, spelled_array_items, spelled_table_members, brace_gap}
use Rattle.toml_syntax.specs.Formatted.{lexemes_text}
use Rattle.toml_layouts.specs.Keyed.{HasKeyParts}

pub bytes_append : (ps qs : List TypedAfterGap) → lexemes_text (ps ++ qs) ≡ lexemes_text ps ++ lexemes_text qs
bytes_append [] qs = refl
bytes_append (p ∷ ps) qs =
    ap (λ (s : List ℕ). p.gap ++ (lexeme_bytes p.lexeme ++ s)) (bytes_append ps qs)
    ∙ ap (λ (s : List ℕ). p.gap ++ s) (sym (append_assoc (lexeme_bytes p.lexeme) (lexemes_text ps) (lexemes_text qs)))
    ∙ sym (append_assoc p.gap (lexeme_bytes p.lexeme ++ lexemes_text ps) (lexemes_text qs))

-- ---- keys

abbrev pub key_bytes : Key → List ℕ
key_bytes k = lexemes_text (spelled_key [] k)

no_part_gap : (k : Key) → part_gap [] k ≡ []
no_part_gap no_parts = refl
no_part_gap (with_word k w) = refl
no_part_gap (with_string k s) = refl

pub word_bytes : (k : Key) (w : List ℕ) → key_bytes (with_word k w) ≡ key_bytes k ++ w
word_bytes k w =
    bytes_append (spelled_key [] k) _
    ∙ ap (λ (g : List ℕ). key_bytes k ++ (g ++ (w ++ []))) (no_part_gap k)
    ∙ ap (λ (s : List ℕ). key_bytes k ++ s) (append-nil w)

pub string_bytes : (k : Key) (w : List ℕ) → key_bytes (with_string k w) ≡ key_bytes k ++ w
string_bytes k w =
    bytes_append (spelled_key [] k) _
    ∙ ap (λ (g : List ℕ). key_bytes k ++ (g ++ (w ++ []))) (no_part_gap k)
    ∙ ap (λ (s : List ℕ). key_bytes k ++ s) (append-nil w)

-- one more part of a key that has one
one_part_more : (g a b : List ℕ) (k : Key) (p : TypedAfterGap) → lexemes_text (spelled_key g k) ≡ g ++ a → key_bytes k ≡ a
    → lexemes_text (p ∷ []) ≡ b
    → lexemes_text (spelled_key g k ++ p ∷ []) ≡ g ++ (a ++ b)
one_part_more g a b k p h e f =
    bytes_append (spelled_key g k) (p ∷ [])
    ∙ ap (λ (s : List ℕ). s ++ lexemes_text (p ∷ [])) h
    ∙ ap (λ (s : List ℕ). (g ++ a) ++ s) f
    ∙ append_assoc g a b

pub key_after : (g : List ℕ) (k : Key) → HasKeyParts k → lexemes_text (spelled_key g k) ≡ g ++ key_bytes k
key_after g no_parts h = absurd h
key_after g (with_word no_parts w) h = refl
key_after g (with_string no_parts w) h = refl
key_after g (with_word (with_word k v) w) h =
    one_part_more g (key_bytes (with_word k v)) w (with_word k v) _ (key_after g (with_word k v) tt) refl (append-nil w)
    ∙ ap (λ (s : List ℕ). g ++ s) (sym (word_bytes (with_word k v) w))
key_after g (with_word (with_string k v) w) h =
    one_part_more g (key_bytes (with_string k v)) w (with_string k v) _ (key_after g (with_string k v) tt) refl (append-nil w)
    ∙ ap (λ (s : List ℕ). g ++ s) (sym (word_bytes (with_string k v) w))
key_after g (with_string (with_word k v) w) h =
    one_part_more g (key_bytes (with_word k v)) w (with_word k v) _ (key_after g (with_word k v) tt) refl (append-nil w)
    ∙ ap (λ (s : List ℕ). g ++ s) (sym (string_bytes (with_word k v) w))
key_after g (with_string (with_string k v) w) h =
    one_part_more g (key_bytes (with_string k v)) w (with_string k v) _ (key_after g (with_string k v) tt) refl (append-nil w)
    ∙ ap (λ (s : List ℕ). g ++ s) (sym (string_bytes (with_string k v) w))

-- ---- values

-- a value with nothing before it
abbrev pub value_bytes : TomlValue → List ℕ
value_bytes v = lexemes_text (spelled_value [] v)

pub value_after : (g : List ℕ) (v : TomlValue) → lexemes_text (spelled_value g v) ≡ g ++ value_bytes v
value_after g (plain w) = refl
value_after g (moment d t) = refl
value_after g (quoted t) = refl
value_after g (array cs is b l) = refl
value_after g (table ms) = refl

abbrev pub lead_bytes : Lead → List ℕ
lead_bytes l = lexemes_text (spelled_line_ends l.line_ends) ++ l.gap

abbrev pub comments_bytes : Comments → List ℕ
comments_bytes cs = lexemes_text (spelled_comments cs)

pub comment_more : (cs : Comments) (l : Lead) (s : List ℕ)
    → comments_bytes (with_comment cs l s) ≡ comments_bytes cs ++ (lexemes_text (spelled_line_ends l.line_ends) ++ (l.gap ++ s))
comment_more cs l s =
    bytes_append (spelled_comments cs) _
    ∙ ap (λ (b : List ℕ). comments_bytes cs ++ b)
    (bytes_append (spelled_line_ends l.line_ends) _
    ∙ ap (λ (b : List ℕ). lexemes_text (spelled_line_ends l.line_ends) ++ (l.gap ++ b)) (append-nil s))

abbrev pub items_bytes : Bool → ArrayItems → List ℕ
items_bytes b is = lexemes_text (spelled_array_items b is)

-- one more item
pub item_more : (b : Bool) (is : ArrayItems) (l : Lead) (v : TomlValue) (cs : Comments)
    → items_bytes b (with_item is l v cs)
    ≡ items_bytes true is ++ (lead_bytes l ++ (value_bytes v ++ (lexemes_text (comma_if b) ++ comments_bytes cs)))
item_more b is l v cs =
    let rest = lexemes_text (comma_if b) ++ comments_bytes cs in
    let ends = lexemes_text (spelled_line_ends l.line_ends) in
    let after_lead : lexemes_text (spelled_value l.gap v ++ (comma_if b ++ spelled_comments cs)) ≡ l.gap ++ (value_bytes v ++ rest) =
    bytes_append (spelled_value l.gap v) _
    ∙ ap (λ (s : List ℕ). lexemes_text (spelled_value l.gap v) ++ s) (bytes_append (comma_if b) (spelled_comments cs))
    ∙ ap (λ (s : List ℕ). s ++ rest) (value_after l.gap v)
    ∙ append_assoc l.gap (value_bytes v) rest in
    bytes_append (spelled_array_items true is) _
    ∙ ap (λ (s : List ℕ). items_bytes true is ++ s)
    (bytes_append (spelled_line_ends l.line_ends) _
    ∙ ap (λ (s : List ℕ). ends ++ s) after_lead
    ∙ sym (append_assoc ends l.gap (value_bytes v ++ rest)))

-- blanks, a key, blanks, `=`, a blank and a value
pub pair_bytes : (g : List ℕ) (k : Key) (b : List ℕ) (v : TomlValue) → HasKeyParts k
    → lexemes_text (spelled_key g k ++ typed_after_gap b equals ∷ spelled_value one_blank v)
    ≡ g ++ (key_bytes k ++ (b ++ ((byte.equals ∷ byte.blank_space ∷ []) ++ value_bytes v)))
pair_bytes g k b v h =
    let rest = b ++ (byte.equals ∷ byte.blank_space ∷ value_bytes v) in
    bytes_append (spelled_key g k) _
    ∙ ap (λ (s : List ℕ). lexemes_text (spelled_key g k) ++ (b ++ (byte.equals ∷ s))) (value_after one_blank v)
    ∙ ap (λ (s : List ℕ). s ++ rest) (key_after g k h)
    ∙ append_assoc g (key_bytes k) rest

abbrev pub members_bytes : TableMembers → List ℕ
members_bytes ms = lexemes_text (spelled_table_members ms)

-- one more member
pub member_more : (ms : TableMembers) (k : Key) (v : TomlValue) → HasKeyParts k
    → members_bytes (with_member ms k v)
    ≡ members_bytes ms ++ (lexemes_text (comma_after_members ms)
    ++ (one_blank ++ (key_bytes k ++ (one_blank ++ ((byte.equals ∷ byte.blank_space ∷ []) ++ value_bytes v)))))
member_more ms k v h =
    bytes_append (spelled_table_members ms) _
    ∙ ap (λ (s : List ℕ). members_bytes ms ++ s)
    (bytes_append (comma_after_members ms) _
    ∙ ap (λ (s : List ℕ). lexemes_text (comma_after_members ms) ++ s) (pair_bytes one_blank k one_blank v h))

-- ---- arrays and tables

-- the bytes between the brackets of an array
pub array_bytes : (cs : Comments) (is : ArrayItems) (b : Bool) (l : Lead)
    → value_bytes (array cs is b l)
    ≡ (byte.open_bracket ∷ (comments_bytes cs ++ (items_bytes b is ++ lead_bytes l))) ++ (byte.close_bracket ∷ [])
array_bytes cs is b l =
    let close = byte.close_bracket ∷ [] in
    let c = comments_bytes cs in
    let i = items_bytes b is in
    let ends = lexemes_text (spelled_line_ends l.line_ends) in
    ap (λ (s : List ℕ). byte.open_bracket ∷ s)
    (bytes_append (spelled_comments cs) _
    ∙ ap (λ (s : List ℕ). c ++ s)
    (bytes_append (spelled_array_items b is) _
    ∙ ap (λ (s : List ℕ). i ++ s) (bytes_append (spelled_line_ends l.line_ends) _ ∙ sym (append_assoc ends l.gap close))
    ∙ sym (append_assoc i (lead_bytes l) close))
    ∙ sym (append_assoc c (i ++ lead_bytes l) close))

-- the bytes between the braces of an inline table
pub table_bytes : (ms : TableMembers)
    → value_bytes (table ms) ≡ (byte.open_brace ∷ (members_bytes ms ++ brace_gap ms)) ++ (byte.close_brace ∷ [])
table_bytes ms =
    let close = byte.close_brace ∷ [] in
    ap (λ (s : List ℕ). byte.open_brace ∷ s)
    (bytes_append (spelled_table_members ms) _ ∙ sym (append_assoc (members_bytes ms) (brace_gap ms) close))
