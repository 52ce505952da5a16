-- The documents of statements. What stands before each part is that of statements laid out, but whether an array is broken that may stay
-- on its line is left to a group.
use Rattle.std.specs.Prelude.{ℕ, zero, suc, Bool, true, false, ◌&&◌, ◌||◌, List, [], ◌∷◌, Option, Some, None}
use Rattle.prettyless_model.specs.Metrics.{text_width}
use Rattle.prettyless_model.specs.Tree.{Tree, Nil, Text, TextWithLen, HardLine, BreakOrFlat}
use Rattle.prettyless_trees.specs.Built.{append, between, flatten, group}
use Rattle.prettyless_trees.specs.Counted.{text}
use Rattle.prettyless_trees.specs.Lines.{space}
use Rattle.toml_lexemes.specs.Bytes as byte
use Rattle.toml_lexemes.specs.Statements.{trimmed}
use Rattle.toml_syntax.specs.TypedLexemes.{one_blank}
use Rattle.toml_syntax.specs.Tree.{Lead, Key, no_parts, with_word, with_string, Comments, no_comments, with_comment, TomlValue, plain}
use Rattle.toml_syntax.specs.Tree.{moment, quoted, array, table, ArrayItems, no_items, with_item, TableMembers, no_members, with_member}
use Rattle.toml_syntax.specs.Tree.{Body, note, header, pair, Remark, Statement}
use Rattle.toml_syntax.specs.Spelled.{brace_gap}
use Rattle.toml_syntax.specs.Settled.{Style, has_comments, has_items, are_broken, settled_comments, is_first, item_lead, closing_lead}
use Rattle.toml_syntax.specs.Settled.{inner_indent, comment_gap, gap_if, keeps_equals, blank_lines_kept, is_none, first_of}

-- a style of such lines and indents, which counts columns as the printer does
abbrev pub text_style : ℕ → List ℕ → Style
text_style width indent = record { columns = text_width; width = width; indent = indent }

-- ---- gaps and comments

-- so many line ends
abbrev pub hard_lines : ℕ → Tree
hard_lines zero = Nil
hard_lines (suc n) = append HardLine (hard_lines n)

-- line ends, and after them blanks. An indent is a text, so it may have tabs.
abbrev pub lead_tree : Lead → Tree
lead_tree l = append (hard_lines l.line_ends) (text l.gap)

-- a comment after blanks, which count no columns
abbrev pub blanks_and_comment : List ℕ → List ℕ → Tree
blanks_and_comment g s = append (TextWithLen 0 g) (TextWithLen 0 s)

-- comments in an array, each with what stands before it
abbrev pub array_comments_tree : Comments → Tree
array_comments_tree no_comments = Nil
array_comments_tree (with_comment cs l s) = append (array_comments_tree cs) (append (hard_lines l.line_ends) (blanks_and_comment l.gap s))

-- ---- keys

-- the parts of a key, with no blanks between them
abbrev pub key_parts_tree : Key → Tree
key_parts_tree no_parts = Nil
key_parts_tree (with_word k w) = append (key_parts_tree k) (text w)
key_parts_tree (with_string k t) = append (key_parts_tree k) (text t)

-- blanks, a key, blanks, `=`, a blank and a value
abbrev pub pair_tree : List ℕ → Key → List ℕ → Tree → Tree
pair_tree g k b value =
    append (text g) (append (key_parts_tree k) (append (text b) (append (Text (byte.equals ∷ byte.blank_space ∷ [])) value)))

-- ---- values

-- a comma where another item follows; after the last item it stands only if lines are broken
abbrev pub item_mark : Bool → Tree
item_mark true = Text (byte.comma ∷ [])
item_mark false = BreakOrFlat (Text (byte.comma ∷ [])) Nil

-- what stands before an item, which is the first thing in its array or not
abbrev pub item_edge : Bool → List ℕ → ℕ → Tree
item_edge f inner n = BreakOrFlat (lead_tree (item_lead true f inner n)) (lead_tree (item_lead false f inner n))

-- what stands before the bracket that closes an array
abbrev pub closing_edge : List ℕ → Tree
closing_edge indent = BreakOrFlat (lead_tree (closing_lead true indent)) (lead_tree (closing_lead false indent))

-- the comma before another member
abbrev pub member_mark : TableMembers → Tree
member_mark no_members = Nil
member_mark (with_member ms k v) = Text (byte.comma ∷ [])

-- an array whose lines are broken anyway, or one that may be broken, or one that stays on its line
abbrev pub array_as : Bool → Bool → Tree → Tree
array_as true may x = x
array_as false true x = group x
array_as false false x = flatten x

-- a value from a line with this indent, where an array may be broken or not: in an inline table it is broken only where it is so anyway
abbrev mutual
  pub value_tree : Style → List ℕ → Bool → TomlValue → Tree
  value_tree s indent may (plain w) = text w
  value_tree s indent may (moment d t) = append (text d) (append space (text t))
  value_tree s indent may (quoted t) = text t
  value_tree s indent may (array cs is b l) =
      array_as (has_comments cs || are_broken is) (may && has_items is)
      (between byte.open_bracket byte.close_bracket
      (append (array_comments_tree (settled_comments (inner_indent s indent) true cs))
      (append (items_tree s (inner_indent s indent) cs false is) (closing_edge indent))))
  value_tree s indent may (table ms) =
      between byte.open_brace byte.close_brace (append (members_tree s indent ms) (text (brace_gap ms)))

  -- Items, each with its comma and the comments after it; another item follows them or not. The comments `head` stand before them.
  pub items_tree : Style → List ℕ → Comments → Bool → ArrayItems → Tree
  items_tree s inner head follows no_items = Nil
  items_tree s inner head follows (with_item is l v cs) =
      append (items_tree s inner head true is)
      (append (item_edge (is_first head is) inner l.line_ends)
      (append (value_tree s inner true v) (append (item_mark follows) (array_comments_tree (settled_comments inner false cs)))))

  -- the members of an inline table
  pub members_tree : Style → List ℕ → TableMembers → Tree
  members_tree s indent no_members = Nil
  members_tree s indent (with_member ms k v) =
      append (members_tree s indent ms) (append (member_mark ms) (pair_tree one_blank k one_blank (value_tree s indent false v)))

-- ---- statements

-- what a line has after this indent; the blanks before `=` stay or not
abbrev pub body_tree : Style → List ℕ → Bool → Body → Tree
body_tree s indent b (note t) = append (text indent) (text (trimmed t))
body_tree s indent b (header false k) = append (text indent) (between byte.open_bracket byte.close_bracket (key_parts_tree k))
body_tree s indent b (header true k) =
    append (text indent)
    (between byte.open_bracket byte.close_bracket (between byte.open_bracket byte.close_bracket (key_parts_tree k)))
body_tree s indent b (pair k g v) = pair_tree indent k (gap_if b g) (value_tree s indent true v)

-- the comment at the end of a line
abbrev pub remark_tree : Option Remark → Tree
remark_tree None = Nil
remark_tree (Some r) = blanks_and_comment (comment_gap r.gap) (trimmed r.text)

-- a statement, which is the first one or not, and whose blanks before `=` stay or not
abbrev pub statement_tree : Style → Bool → Bool → Statement → Tree
statement_tree s f b t =
    append (hard_lines (blank_lines_kept f t.before.line_ends))
    (append (body_tree s t.before.gap b t.body) (append (remark_tree t.remark) HardLine))

-- a document, and then statements, after another one or none
abbrev pub tree_with : Style → Tree → Option Statement → List Statement → Tree
tree_with s done before [] = done
tree_with s done before (t ∷ ts) =
    tree_with s (append done (statement_tree s (is_none before) (keeps_equals s before t (first_of ts)) t)) (Some t) ts

-- the document of statements
abbrev pub statements_tree : Style → List Statement → Tree
statements_tree s ts = tree_with s Nil None ts
