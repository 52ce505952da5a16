-- Lexemes read as statements.
use Rattle.std.specs.Prelude.{ℕ, zero, suc, Bool, true, false, cond, ◌&&◌, List, [], ◌∷◌, ◌++◌, Option, Some, None}
use Rattle.toml_grammar.specs.Dates.{is_date, is_time}
use Rattle.toml_grammar.specs.Keys.{key_word}
use Rattle.toml_grammar.specs.Comments.{is_comment}
use Rattle.toml_grammar.specs.Grammar.{is_empty_gap, is_one_space}
use Rattle.toml_grammar.specs.Strings.{is_key_string, is_string}
use Rattle.toml_grammar.specs.Values.{is_value}
use Rattle.toml_syntax.specs.TypedLexemes.{TomlLexeme, open_array, close_array, open_table, close_table, comma, equals, line_end, comment}
use Rattle.toml_syntax.specs.TypedLexemes.{string, word, text_end, TypedAfterGap, is_line_end_lexeme, is_clear_gap}
use Rattle.toml_syntax.specs.Tree.{Lead, lead, Key, no_parts, with_word, with_string, Comments, no_comments, with_comment}
use Rattle.toml_syntax.specs.Tree.{TomlValue, plain, moment, quoted, array, table, ArrayItems, no_items, with_item, TableMembers}
use Rattle.toml_syntax.specs.Tree.{no_members, with_member}
use Rattle.toml_syntax.specs.Tree.{Body, note, header, pair, Statement, statement_of_parts}

-- ---- where a reader is

-- what a value is a part of: a line, after a key and the blanks before `=`; an array, after its comments and its items; an inline
-- table, after its members and a key
pub data Outside : Type 0 where
  of_line : Lead → Key → List ℕ → Outside
  of_array : Outside → Comments → ArrayItems → Lead → Outside
  of_table : Outside → TableMembers → Key → Outside

-- what a key is read for: a header, of an array of tables or not; a line; a member
pub data KeyOf : Type 0 where
  for_header : Lead → Bool → KeyOf
  for_line : Lead → KeyOf
  for_member : Outside → TableMembers → KeyOf

-- what has been read of the statement that has not ended
pub data Now : Type 0 where
  -- so many blank lines
  at_line : ℕ → Now
  -- a bracket at the beginning of a line
  at_header : Lead → Now
  -- a part of a key, after which another part is due or not
  in_key : KeyOf → Key → Bool → Now
  -- one of the two brackets after a key
  at_closing : Lead → Key → Now
  -- all before a value
  at_value : Outside → Now
  -- a part of an array, so many line ends after it, and whether an item may come
  in_array : Outside → Comments → ArrayItems → ℕ → Bool → Now
  -- a part of an inline table
  in_table : Outside → TableMembers → Now
  -- a statement but for the comment at its end
  at_end : Statement → Now
  -- a statement with that comment
  after_remark : Statement → Now

-- what a lexeme leads to: more of the statement, the end of a statement, the end of the text, both, or nothing that TOML allows
pub data ReadTurn : Type 0 where
  more : Now → ReadTurn
  says : Statement → Now → ReadTurn
  ends : ReadTurn
  says_last : Statement → ReadTurn
  refuses : ReadTurn

-- goes on where this is so
abbrev pub more_if : Bool → Now → ReadTurn
more_if b n = cond b (more n) refuses

-- ---- keys

-- a word after a part of a key
abbrev pub joined_word : Key → List ℕ → Key
joined_word (with_word k v) w = with_word k (v ++ w)
joined_word no_parts w = with_word no_parts w
joined_word (with_string k s) w = with_word (with_string k s) w

-- a word in a key, which says whether a part is due after it
abbrev pub word_in_key : KeyOf → Key → Option Bool → ReadTurn
word_in_key o k None = refuses
word_in_key o k (Some due) = more (in_key o k due)

-- `=` after a key
abbrev pub after_equals : KeyOf → Key → List ℕ → ReadTurn
after_equals (for_header l b) k g = refuses
after_equals (for_line l) k g = more (at_value (of_line l k g))
after_equals (for_member o ms) k g = more (at_value (of_table o ms k))

-- `]` after a key
abbrev pub after_bracket : KeyOf → Key → ReadTurn
after_bracket (for_header l false) k = more (at_end (statement_of_parts l (header false k) None))
after_bracket (for_header l true) k = more (at_closing l k)
after_bracket _ k = refuses

abbrev pub in_key_turn : KeyOf → Key → Bool → List ℕ → TomlLexeme → ReadTurn
in_key_turn o k due g (word w) = word_in_key o (joined_word k w) (key_word due w)
in_key_turn o k true g (string s) = more_if (is_key_string s) (in_key o (with_string k s) false)
in_key_turn o k false g equals = after_equals o k g
in_key_turn o k false g close_array = after_bracket o k
in_key_turn o k due g _ = refuses

-- the first part of a key
abbrev pub key_turn_of : KeyOf → List ℕ → TomlLexeme → ReadTurn
key_turn_of o g l = in_key_turn o no_parts true g l

-- ---- values

-- what has been read after a value
abbrev pub now_after_value : Outside → TomlValue → Now
now_after_value (of_line l k g) v = at_end (statement_of_parts l (pair k g v) None)
now_after_value (of_array o cs is l) v = in_array o cs (with_item is l v no_comments) 0 false
now_after_value (of_table o ms k) v = in_table o (with_member ms k v)

abbrev pub value_turn_of : Outside → List ℕ → TomlLexeme → ReadTurn
value_turn_of o g (word w) = more_if (is_value w) (now_after_value o (plain w))
value_turn_of o g (string s) = more_if (is_string s) (now_after_value o (quoted s))
value_turn_of o g open_array = more (in_array o no_comments no_items 0 true)
value_turn_of o g open_table = more (in_table o no_members)
value_turn_of o g _ = refuses

-- a word after a value: after a date and one space a time
abbrev pub time_turn : Outside → TomlValue → List ℕ → List ℕ → ReadTurn
time_turn o (plain d) g t = more_if (is_date d && (is_one_space g && is_time t)) (now_after_value o (moment d t))
time_turn o _ g t = refuses

-- ---- arrays

-- a comma comes last, where there is an item before it
abbrev pub last_comma : ArrayItems → Bool → Bool
last_comma no_items b = false
last_comma (with_item is l v cs) b = b

-- a comment in an array: after an item, or before the first one
abbrev pub comment_in : Outside → Comments → ArrayItems → Lead → List ℕ → Bool → Now
comment_in o cs no_items l s due = in_array o (with_comment cs l s) no_items 0 due
comment_in o cs (with_item is k v ds) l s due = in_array o cs (with_item is k v (with_comment ds l s)) 0 due

-- a word after an item
abbrev pub time_in_array : Outside → Comments → ArrayItems → ℕ → List ℕ → List ℕ → ReadTurn
time_in_array o cs (with_item is l v no_comments) zero g t = time_turn (of_array o cs is l) v g t
time_in_array o cs is n g t = refuses

abbrev pub array_turn : Outside → Comments → ArrayItems → ℕ → Bool → List ℕ → TomlLexeme → ReadTurn
array_turn o cs is n due g line_end = more (in_array o cs is (suc n) due)
array_turn o cs is n due g (comment s) = more_if (is_comment s) (comment_in o cs is (lead n g) s due)
array_turn o cs is n due g close_array = more (now_after_value o (array cs is (last_comma is due) (lead n g)))
array_turn o cs is n false g comma = more (in_array o cs is n true)
array_turn o cs is n false g (word t) = time_in_array o cs is n g t
array_turn o cs is n true g (word w) = value_turn_of (of_array o cs is (lead n g)) g (word w)
array_turn o cs is n true g (string s) = value_turn_of (of_array o cs is (lead n g)) g (string s)
array_turn o cs is n true g open_array = value_turn_of (of_array o cs is (lead n g)) g open_array
array_turn o cs is n true g open_table = value_turn_of (of_array o cs is (lead n g)) g open_table
array_turn o cs is n due g _ = refuses

-- ---- inline tables

abbrev pub table_turn : Outside → TableMembers → List ℕ → TomlLexeme → ReadTurn
table_turn o ms g close_table = more (now_after_value o (table ms))
table_turn o no_members g (word w) = key_turn_of (for_member o no_members) g (word w)
table_turn o no_members g (string s) = key_turn_of (for_member o no_members) g (string s)
table_turn o (with_member ms k v) g comma = more (in_key (for_member o (with_member ms k v)) no_parts true)
table_turn o (with_member ms k v) g (word t) = time_turn (of_table o ms k) v g t
table_turn o ms g _ = refuses

-- ---- lines

-- the statement with a comment at its end
abbrev pub with_remark : Statement → List ℕ → List ℕ → Statement
with_remark s g t = statement_of_parts s.before s.body (Some record { gap = g; text = t })

abbrev pub line_turn_of : ℕ → List ℕ → TomlLexeme → ReadTurn
line_turn_of n g line_end = more (at_line (suc n))
line_turn_of n g (comment s) = more_if (is_comment s) (after_remark (statement_of_parts (lead n g) (note s) None))
line_turn_of n g open_array = more (at_header (lead n g))
line_turn_of n g (word w) = key_turn_of (for_line (lead n g)) g (word w)
line_turn_of n g (string s) = key_turn_of (for_line (lead n g)) g (string s)
line_turn_of n g text_end = ends
line_turn_of n g _ = refuses

abbrev pub header_turn : Lead → List ℕ → TomlLexeme → ReadTurn
header_turn l g open_array = more_if (is_empty_gap g) (in_key (for_header l true) no_parts true)
header_turn l g (word w) = key_turn_of (for_header l false) g (word w)
header_turn l g (string s) = key_turn_of (for_header l false) g (string s)
header_turn l g _ = refuses

abbrev pub closing_turn : Lead → Key → List ℕ → TomlLexeme → ReadTurn
closing_turn l k g close_array = more_if (is_empty_gap g) (at_end (statement_of_parts l (header true k) None))
closing_turn l k g _ = refuses

-- a word after the value of a line
abbrev pub time_at_end : Lead → Body → List ℕ → List ℕ → ReadTurn
time_at_end l (pair k b v) g t = time_turn (of_line l k b) v g t
time_at_end l _ g t = refuses

abbrev pub end_turn_of : Statement → List ℕ → TomlLexeme → ReadTurn
end_turn_of s g (comment c) = more_if (is_comment c) (after_remark (with_remark s g c))
end_turn_of s g (word t) = time_at_end s.before s.body g t
end_turn_of s g line_end = says s (at_line 0)
end_turn_of s g text_end = says_last s
end_turn_of s g _ = refuses

abbrev pub remark_turn : Statement → TomlLexeme → ReadTurn
remark_turn s line_end = says s (at_line 0)
remark_turn s text_end = says_last s
remark_turn s _ = refuses

-- ---- texts

-- a lexeme after a gap that may stand before it
abbrev pub clear_turn : Now → List ℕ → TomlLexeme → ReadTurn
clear_turn (at_line n) g l = line_turn_of n g l
clear_turn (at_header h) g l = header_turn h g l
clear_turn (in_key o k due) g l = in_key_turn o k due g l
clear_turn (at_closing h k) g l = closing_turn h k g l
clear_turn (at_value o) g l = value_turn_of o g l
clear_turn (in_array o cs is n due) g l = array_turn o cs is n due g l
clear_turn (in_table o ms) g l = table_turn o ms g l
clear_turn (at_end s) g l = end_turn_of s g l
clear_turn (after_remark s) g l = remark_turn s l

-- a lexeme after its gap
abbrev pub read_turn : Now → TypedAfterGap → ReadTurn
read_turn n p = cond (is_clear_gap p.gap (is_line_end_lexeme p.lexeme)) (clear_turn n p.gap p.lexeme) refuses

-- a statement in front of others
abbrev pub said_before : Statement → Option (List Statement) → Option (List Statement)
said_before s None = None
said_before s (Some ss) = Some (s ∷ ss)

-- the statements after a turn, where k reads on
abbrev pub then_statements : ReadTurn → (Now → Option (List Statement)) → Option (List Statement)
then_statements (more n) k = k n
then_statements (says s n) k = said_before s (k n)
then_statements ends k = Some []
then_statements (says_last s) k = Some (s ∷ [])
then_statements refuses k = None

-- the statements that these lexemes end; None where they are not TOML
abbrev pub read_from : Now → List TypedAfterGap → Option (List Statement)
read_from n [] = None
read_from n (p ∷ ps) = then_statements (read_turn n p) (λ next. read_from next ps)

-- the statements of a text, by its lexemes
abbrev pub read_statements : List TypedAfterGap → Option (List Statement)
read_statements ps = read_from (at_line 0) ps
