-- Statements spelled as lexemes.
use Rattle.std.specs.Prelude.{ℕ, zero, suc, Bool, true, false, List, [], ◌∷◌, ◌++◌, Option, Some, None}
use Rattle.toml_syntax.specs.TypedLexemes.{open_array, close_array, open_table, close_table, comma, equals, line_end, comment}
use Rattle.toml_syntax.specs.TypedLexemes.{string, word, text_end, TypedAfterGap, typed_after_gap, one_blank}
use Rattle.toml_syntax.specs.Tree.{Key, no_parts, with_word, with_string, Comments, no_comments, with_comment}
use Rattle.toml_syntax.specs.Tree.{TomlValue, plain, moment, quoted, array, table, ArrayItems, no_items, with_item, TableMembers}
use Rattle.toml_syntax.specs.Tree.{no_members, with_member}
use Rattle.toml_syntax.specs.Tree.{Body, note, header, pair, Remark, Statement}

-- so many line ends
abbrev pub spelled_line_ends : ℕ → List TypedAfterGap
spelled_line_ends zero = []
spelled_line_ends (suc n) = typed_after_gap [] line_end ∷ spelled_line_ends n

-- the gap before a part of a key: g before the first one
abbrev pub part_gap : List ℕ → Key → List ℕ
part_gap g no_parts = g
part_gap g (with_word k w) = []
part_gap g (with_string k s) = []

-- a key after a gap
abbrev pub spelled_key : List ℕ → Key → List TypedAfterGap
spelled_key g no_parts = []
spelled_key g (with_word k w) = spelled_key g k ++ typed_after_gap (part_gap g k) (word w) ∷ []
spelled_key g (with_string k s) = spelled_key g k ++ typed_after_gap (part_gap g k) (string s) ∷ []

abbrev pub spelled_comments : Comments → List TypedAfterGap
spelled_comments no_comments = []
spelled_comments (with_comment cs l s) = spelled_comments cs ++ (spelled_line_ends l.line_ends ++ typed_after_gap l.gap (comment s) ∷ [])

-- a comma, or none
abbrev pub comma_if : Bool → List TypedAfterGap
comma_if false = []
comma_if true = typed_after_gap [] comma ∷ []

-- the comma before another member
abbrev pub comma_after_members : TableMembers → List TypedAfterGap
comma_after_members no_members = []
comma_after_members (with_member ms k v) = typed_after_gap [] comma ∷ []

-- the gap before the brace that closes an inline table
abbrev pub brace_gap : TableMembers → List ℕ
brace_gap no_members = []
brace_gap (with_member ms k v) = one_blank

abbrev mutual
  -- a value after a gap
  pub spelled_value : List ℕ → TomlValue → List TypedAfterGap
  spelled_value g (plain w) = typed_after_gap g (word w) ∷ []
  spelled_value g (moment d t) = typed_after_gap g (word d) ∷ typed_after_gap one_blank (word t) ∷ []
  spelled_value g (quoted s) = typed_after_gap g (string s) ∷ []
  spelled_value g (array cs is b l) =
      typed_after_gap g open_array ∷
      (spelled_comments cs ++ (spelled_array_items b is ++ (spelled_line_ends l.line_ends ++ typed_after_gap l.gap close_array ∷ [])))
  spelled_value g (table ms) = typed_after_gap g open_table ∷ (spelled_table_members ms ++ typed_after_gap (brace_gap ms) close_table ∷ [])

  -- items with a comma after each but the last, and after that one where b is so
  pub spelled_array_items : Bool → ArrayItems → List TypedAfterGap
  spelled_array_items b no_items = []
  spelled_array_items b (with_item is l v cs) =
      spelled_array_items true is ++ (spelled_line_ends l.line_ends ++ (spelled_value l.gap v ++ (comma_if b ++ spelled_comments cs)))

  pub spelled_table_members : TableMembers → List TypedAfterGap
  spelled_table_members no_members = []
  spelled_table_members (with_member ms k v) =
      spelled_table_members ms ++
      (comma_after_members ms ++ (spelled_key one_blank k ++ typed_after_gap one_blank equals ∷ spelled_value one_blank v))

-- what a line has, after its indent
abbrev pub spelled_body : List ℕ → Body → List TypedAfterGap
spelled_body g (note s) = typed_after_gap g (comment s) ∷ []
spelled_body g (header false k) = typed_after_gap g open_array ∷ (spelled_key [] k ++ typed_after_gap [] close_array ∷ [])
spelled_body g (header true k) =
    typed_after_gap g open_array ∷ typed_after_gap [] open_array ∷
    (spelled_key [] k ++ typed_after_gap [] close_array ∷ typed_after_gap [] close_array ∷ [])
spelled_body g (pair k b v) = spelled_key g k ++ typed_after_gap b equals ∷ spelled_value one_blank v

-- the comment at the end of a line
abbrev pub spelled_remark : Option Remark → List TypedAfterGap
spelled_remark None = []
spelled_remark (Some r) = typed_after_gap r.gap (comment r.text) ∷ []

-- a statement with the line ends before and after it
abbrev pub spelled_statement : Statement → List TypedAfterGap
spelled_statement s =
    spelled_line_ends s.before.line_ends ++
    (spelled_body s.before.gap s.body ++ (spelled_remark s.remark ++ typed_after_gap [] line_end ∷ []))

-- the lexemes of a text with these statements
abbrev pub spelled_statements : List Statement → List TypedAfterGap
spelled_statements [] = typed_after_gap [] text_end ∷ []
spelled_statements (s ∷ ss) = spelled_statement s ++ spelled_statements ss
