-- What statements say, apart from how they are laid out: the same trees with no blanks and no line ends.
use Rattle.std.specs.Prelude.{false, List, [], map, Option, Some, None}
use Rattle.toml_lexemes.specs.Statements.{trimmed}
use Rattle.toml_syntax.specs.Tree.{Lead, lead, Comments, no_comments, with_comment}
use Rattle.toml_syntax.specs.Tree.{TomlValue, plain, moment, quoted, array, table, ArrayItems, no_items, with_item, TableMembers}
use Rattle.toml_syntax.specs.Tree.{no_members, with_member}
use Rattle.toml_syntax.specs.Tree.{Body, note, header, pair, Remark, Statement, statement_of_parts}

-- nothing before it
abbrev pub no_lead : Lead
no_lead = lead 0 []

abbrev pub said_comments : Comments → Comments
said_comments no_comments = no_comments
said_comments (with_comment cs l s) = with_comment (said_comments cs) no_lead (trimmed s)

abbrev mutual
  pub said_value : TomlValue → TomlValue
  said_value (plain w) = plain w
  said_value (moment d t) = moment d t
  said_value (quoted s) = quoted s
  said_value (array cs is b l) = array (said_comments cs) (said_items is) false no_lead
  said_value (table ms) = table (said_members ms)

  pub said_items : ArrayItems → ArrayItems
  said_items no_items = no_items
  said_items (with_item is l v cs) = with_item (said_items is) no_lead (said_value v) (said_comments cs)

  pub said_members : TableMembers → TableMembers
  said_members no_members = no_members
  said_members (with_member ms k v) = with_member (said_members ms) k (said_value v)

abbrev pub said_body : Body → Body
said_body (note s) = note (trimmed s)
said_body (header b k) = header b k
said_body (pair k g v) = pair k [] (said_value v)

abbrev pub said_remark : Option Remark → Option Remark
said_remark None = None
said_remark (Some r) = Some record { gap = []; text = trimmed r.text }

abbrev pub said_statement : Statement → Statement
said_statement s = statement_of_parts no_lead (said_body s.body) (said_remark s.remark)

-- the keys, the values and the comments, in their order
abbrev pub content : List Statement → List Statement
content ss = map said_statement ss
