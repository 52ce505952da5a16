-- Statements laid out: what stands before each part of a tree, by the rules of a style.
use Rattle.std.specs.Prelude.{ℕ, zero, suc, ◌+◌, ◌-◌, Bool, true, false, cond, ◌&&◌, ◌||◌, ◌==◌, nat_lt, List, [], ◌∷◌, ◌++◌, Option}
use Rattle.std.specs.Prelude.{Some, None}
use Rattle.std.specs.List.{list_any}
use Rattle.toml_lexemes.specs.Bytes.{line_feed}
use Rattle.toml_lexemes.specs.Statements.{trimmed}
use Rattle.toml_syntax.specs.TypedLexemes.{one_blank}
use Rattle.toml_syntax.specs.Tree.{Lead, lead, Key, no_parts, with_word, with_string, Comments, no_comments, with_comment}
use Rattle.toml_syntax.specs.Tree.{TomlValue, plain, moment, quoted, array, table, ArrayItems, no_items, with_item, TableMembers}
use Rattle.toml_syntax.specs.Tree.{no_members, with_member}
use Rattle.toml_syntax.specs.Tree.{Body, note, header, pair, Remark, Statement, statement_of_parts}

-- how wide texts are, how many columns a line has, and by what the items of an array are indented
pub record Style : Type 0 where
  pub columns : List ℕ → ℕ
  pub width : ℕ
  pub indent : List ℕ

-- ---- widths

abbrev pub key_columns : Style → Key → ℕ
key_columns s no_parts = 0
key_columns s (with_word k w) = key_columns s k + s.columns w
key_columns s (with_string k t) = key_columns s k + s.columns t

-- a comma and a blank before another item or member
abbrev pub separator_columns : ArrayItems → ℕ
separator_columns no_items = 0
separator_columns (with_item is l v cs) = 2

abbrev pub member_separator_columns : TableMembers → ℕ
member_separator_columns no_members = 0
member_separator_columns (with_member ms k v) = 2

-- the blanks within the braces
abbrev pub brace_columns : TableMembers → ℕ
brace_columns no_members = 2
brace_columns (with_member ms k v) = 4

-- the width of a value on one line, without comments
abbrev mutual
  pub value_columns : Style → TomlValue → ℕ
  value_columns s (plain w) = s.columns w
  value_columns s (moment d t) = s.columns d + (1 + s.columns t)
  value_columns s (quoted t) = s.columns t
  value_columns s (array cs is b l) = 2 + items_columns s is
  value_columns s (table ms) = brace_columns ms + members_columns s ms

  pub items_columns : Style → ArrayItems → ℕ
  items_columns s no_items = 0
  items_columns s (with_item is l v cs) = items_columns s is + (separator_columns is + value_columns s v)

  pub members_columns : Style → TableMembers → ℕ
  members_columns s no_members = 0
  members_columns s (with_member ms k v) =
      members_columns s ms + (member_separator_columns ms + (key_columns s k + (3 + value_columns s v)))

-- ---- what is broken

abbrev pub has_comments : Comments → Bool
has_comments no_comments = false
has_comments (with_comment cs l s) = true

abbrev pub has_items : ArrayItems → Bool
has_items no_items = false
has_items (with_item is l v cs) = true

-- a line end comes before the first item
abbrev pub begins_below : ArrayItems → ℕ → Bool
begins_below no_items zero = false
begins_below no_items (suc n) = true
begins_below (with_item is l v cs) n = false

-- Whether lines end in a value as it stands: an array is broken that begins with a line end or has comments in it; and so is
-- one around a string of several lines or around an array that is broken.
abbrev mutual
  pub is_broken : TomlValue → Bool
  is_broken (plain w) = false
  is_broken (moment d t) = false
  is_broken (quoted t) = list_any (λ x. x == line_feed) t
  is_broken (array cs is b l) = has_comments cs || are_broken is
  is_broken (table ms) = has_broken ms

  pub are_broken : ArrayItems → Bool
  are_broken no_items = false
  are_broken (with_item is l v cs) = are_broken is || (begins_below is l.line_ends || (is_broken v || has_comments cs))

  pub has_broken : TableMembers → Bool
  has_broken no_members = false
  has_broken (with_member ms k v) = has_broken ms || is_broken v

-- more columns than there are; in an inline table there is no end of columns
abbrev pub is_past : Option ℕ → ℕ → Bool
is_past None n = false
is_past (Some room) n = nat_lt room n

-- an array is to be broken: lines end in it as it stands, or it has items and is too wide
abbrev pub array_breaks : Style → Option ℕ → Comments → ArrayItems → Bool
array_breaks s room cs is = (has_comments cs || are_broken is) || (has_items is && is_past room (2 + items_columns s is))

-- ---- leads

abbrev pub one_if : Bool → ℕ
one_if b = cond b 1 0

-- a line of its own: one blank line before it stays, but none after an opening bracket
abbrev pub own_line : Bool → ℕ → List ℕ → Lead
own_line true n g = lead 1 g
own_line false n g = lead (suc (one_if (nat_lt 1 n))) g

-- the blanks before a comment stay; where there are none, one comes
abbrev pub comment_gap : List ℕ → List ℕ
comment_gap [] = one_blank
comment_gap (x ∷ xs) = x ∷ xs

-- the first comment after something stays on its line
abbrev pub first_comment : List ℕ → Bool → ℕ → List ℕ → Lead
first_comment inner f zero g = lead 0 (comment_gap g)
first_comment inner f (suc n) g = own_line f (suc n) inner

abbrev pub comment_lead : List ℕ → Bool → Comments → Lead → Lead
comment_lead inner f no_comments l = first_comment inner f l.line_ends l.gap
comment_lead inner f (with_comment cs k s) l = own_line false l.line_ends inner

-- comments in an array, directly after its bracket or not
abbrev pub settled_comments : List ℕ → Bool → Comments → Comments
settled_comments inner f no_comments = no_comments
settled_comments inner f (with_comment cs l s) =
    with_comment (settled_comments inner f cs) (comment_lead inner f cs l) (trimmed s)

-- whether an item is the first thing in its array
abbrev pub is_first : Comments → ArrayItems → Bool
is_first no_comments no_items = true
is_first no_comments (with_item is l v cs) = false
is_first (with_comment cs l s) is = false

-- an item is on a line of its own, or on the line of the bracket
abbrev pub item_lead : Bool → Bool → List ℕ → ℕ → Lead
item_lead true f inner n = own_line f n inner
item_lead false true inner n = lead 0 []
item_lead false false inner n = lead 0 one_blank

abbrev pub closing_lead : Bool → List ℕ → Lead
closing_lead true indent = lead 1 indent
closing_lead false indent = lead 0 []

-- ---- values

-- the indent of the items of an array
abbrev pub inner_indent : Style → List ℕ → List ℕ
inner_indent s indent = indent ++ s.indent

-- what is left of a line for an item and the comma after it
abbrev pub item_room : Style → Bool → List ℕ → Option ℕ
item_room s true inner = Some (s.width - (s.columns inner + 1))
item_room s false inner = None

-- A value laid out from a line with this indent, where so many columns are left. The comments `head` stand before the items.
abbrev mutual
  pub settled_value : Style → List ℕ → Option ℕ → TomlValue → TomlValue
  settled_value s indent room (plain w) = plain w
  settled_value s indent room (moment d t) = moment d t
  settled_value s indent room (quoted t) = quoted t
  settled_value s indent room (array cs is b l) =
      array (settled_comments (inner_indent s indent) true cs) (settled_items s (inner_indent s indent) (array_breaks s room cs is) cs is)
      (has_items is && array_breaks s room cs is) (closing_lead (array_breaks s room cs is) indent)
  settled_value s indent room (table ms) = table (settled_members s indent ms)

  pub settled_items : Style → List ℕ → Bool → Comments → ArrayItems → ArrayItems
  settled_items s inner broken head no_items = no_items
  settled_items s inner broken head (with_item is l v cs) =
      with_item (settled_items s inner broken head is) (item_lead broken (is_first head is) inner l.line_ends)
      (settled_value s inner (item_room s broken inner) v) (settled_comments inner false cs)

  pub settled_members : Style → List ℕ → TableMembers → TableMembers
  settled_members s indent no_members = no_members
  settled_members s indent (with_member ms k v) = with_member (settled_members s indent ms) k (settled_value s indent None v)

-- ---- statements

-- the column of `=`, where blanks stand before it
abbrev pub equals_of : Style → List ℕ → Body → Option ℕ
equals_of s indent (note t) = None
equals_of s indent (header b k) = None
equals_of s indent (pair k [] v) = None
equals_of s indent (pair k (x ∷ g) v) = Some (s.columns indent + (key_columns s k + s.columns (x ∷ g)))

abbrev pub equals_column : Style → Option Statement → Option ℕ
equals_column s None = None
equals_column s (Some t) = equals_of s t.before.gap t.body

abbrev pub is_same_column : Option ℕ → Option ℕ → Bool
is_same_column None n = false
is_same_column (Some m) None = false
is_same_column (Some m) (Some n) = m == n

-- the blanks before `=` stay where `=` of the statement before or after stands in the same column
abbrev pub keeps_equals : Style → Option Statement → Statement → Option Statement → Bool
keeps_equals s before t after =
    is_same_column (equals_column s before) (equals_column s (Some t)) || is_same_column (equals_column s (Some t)) (equals_column s after)

-- these blanks, or one
abbrev pub gap_if : Bool → List ℕ → List ℕ
gap_if true g = g
gap_if false g = one_blank

-- what is left of a line after its indent, a key, blanks and `=`
abbrev pub pair_room : Style → List ℕ → Key → List ℕ → Option ℕ
pair_room s indent k g = Some (s.width - (s.columns indent + (key_columns s k + (s.columns g + 2))))

-- a body laid out, where the blanks before `=` stay or not
abbrev pub settled_body : Style → List ℕ → Bool → Body → Body
settled_body s indent b (note t) = note (trimmed t)
settled_body s indent b (header d k) = header d k
settled_body s indent b (pair k g v) = pair k (gap_if b g) (settled_value s indent (pair_room s indent k (gap_if b g)) v)

abbrev pub settled_remark : Option Remark → Option Remark
settled_remark None = None
settled_remark (Some r) = Some record { gap = comment_gap r.gap; text = trimmed r.text }

-- at most two blank lines stay, and none before the first statement
abbrev pub blank_lines_kept : Bool → ℕ → ℕ
blank_lines_kept true n = 0
blank_lines_kept false n = cond (nat_lt 2 n) 2 n

-- a statement, which is the first one or not, and whose blanks before `=` stay or not; its indent stays
abbrev pub settled_statement : Style → Bool → Bool → Statement → Statement
settled_statement s f b t =
    statement_of_parts (lead (blank_lines_kept f t.before.line_ends) t.before.gap) (settled_body s t.before.gap b t.body)
    (settled_remark t.remark)

abbrev pub is_none : Option Statement → Bool
is_none None = true
is_none (Some t) = false

abbrev pub first_of : List Statement → Option Statement
first_of [] = None
first_of (t ∷ ts) = Some t

-- statements laid out, after another one or none
abbrev pub settled_from : Style → Option Statement → List Statement → List Statement
settled_from s before [] = []
settled_from s before (t ∷ ts) =
    settled_statement s (is_none before) (keeps_equals s before t (first_of ts)) t ∷ settled_from s (Some t) ts

-- statements laid out in a style
abbrev pub settled_statements : Style → List Statement → List Statement
settled_statements s ts = settled_from s None ts
