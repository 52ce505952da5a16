-- The statements of a TOML text as trees. Lists grow at their end, as they are read.
use Rattle.std.specs.Prelude.{ℕ, Bool, List, Option}

-- what stands before something in a text: so many line ends, and after them blanks
pub record Lead : Type 0 where
  pub line_ends : ℕ
  pub gap : List ℕ

abbrev pub lead : ℕ → List ℕ → Lead
lead n g = record { line_ends = n; gap = g }

-- A key: words, with the dots in them, and strings. Words side by side are one.
pub data Key : Type 0 where
  no_parts : Key
  with_word : Key → List ℕ → Key
  with_string : Key → List ℕ → Key

-- comments that follow each other
pub data Comments : Type 0 where
  no_comments : Comments
  with_comment : Comments → Lead → List ℕ → Comments

-- A value: a word; a date and its time; a string; an array, which has the comments before its first item, its items, whether a comma
-- comes last, and what stands before its closing bracket; or an inline table.
mutual
  pub data TomlValue : Type 0 where
    plain : List ℕ → TomlValue
    moment : List ℕ → List ℕ → TomlValue
    quoted : List ℕ → TomlValue
    array : Comments → ArrayItems → Bool → Lead → TomlValue
    table : TableMembers → TomlValue

  -- the items of an array, each with what stands before it, and with the comments after it
  pub data ArrayItems : Type 0 where
    no_items : ArrayItems
    with_item : ArrayItems → Lead → TomlValue → Comments → ArrayItems

  -- the members of an inline table
  pub data TableMembers : Type 0 where
    no_members : TableMembers
    with_member : TableMembers → Key → TomlValue → TableMembers

-- what a line has: a comment alone, a header of a table or of an array of tables, or a key, the blanks before `=`, and a value
pub data Body : Type 0 where
  note : List ℕ → Body
  header : Bool → Key → Body
  pair : Key → List ℕ → TomlValue → Body

-- a comment at the end of a line, and the blanks before it
pub record Remark : Type 0 where
  pub gap : List ℕ
  pub text : List ℕ

-- a statement: the blank lines and the blanks before it, what it has, and the comment at its end
pub record Statement : Type 0 where
  pub before : Lead
  pub body : Body
  pub remark : Option Remark

abbrev pub statement_of_parts : Lead → Body → Option Remark → Statement
statement_of_parts l b r = record { before = l; body = b; remark = r }
