-- The lexemes that are kept of a tree, in front of others, and that these are kept of how the tree is spelled.
use Rattle.std.proofs.Common.{◌≡◌, refl, ◌∙◌, ap, ℕ, zero, suc, Bool, true, false, List, [], ◌∷◌, ◌++◌, append_assoc, Option, Some, None}
use Rattle.toml_syntax.specs.TypedLexemes.{TomlLexeme, open_array, close_array, open_table, close_table, comma, equals, line_end, comment}
use Rattle.toml_syntax.specs.TypedLexemes.{string, word, TypedAfterGap, typed_after_gap, one_blank}
use Rattle.toml_syntax.specs.Tree.{Key, no_parts, with_word, with_string, Comments, no_comments, with_comment}
use Rattle.toml_syntax.specs.Tree.{TomlValue, plain, moment, quoted, array, table, ArrayItems, no_items, with_item, TableMembers}
use Rattle.toml_syntax.specs.Tree.{no_members, with_member}
use Rattle.toml_syntax.specs.Tree.{Body, note, header, pair, Remark, Statement}
use Rattle.toml_syntax.specs.Spelled.{spelled_line_ends, part_gap, spelled_key, spelled_comments, comma_if, comma_after_members, brace_gap}
use Rattle.toml_syntax.specs.Spelled.{spelled_value, spelled_array_items, spelled_table_members, spelled_body, spelled_remark}
use Rattle.toml_syntax.specs.Spelled.{spelled_statement, spelled_statements}
use Rattle.toml_syntax.specs.Kept.{with_kept, kept_lexemes}

-- ---- trees

abbrev pub key_kept : Key → List TomlLexeme → List TomlLexeme
key_kept no_parts r = r
key_kept (with_word k w) r = key_kept k (with_kept (word w) r)
key_kept (with_string k s) r = key_kept k (string s ∷ r)

abbrev pub comments_kept : Comments → List TomlLexeme → List TomlLexeme
comments_kept no_comments r = r
comments_kept (with_comment cs l s) r = comments_kept cs (comment s ∷ r)

abbrev mutual
  pub value_kept : TomlValue → List TomlLexeme → List TomlLexeme
  value_kept (plain w) r = with_kept (word w) r
  value_kept (moment d t) r = with_kept (word d) (with_kept (word t) r)
  value_kept (quoted s) r = string s ∷ r
  value_kept (array cs is b l) r = open_array ∷ comments_kept cs (items_kept is (close_array ∷ r))
  value_kept (table ms) r = open_table ∷ members_kept ms (close_table ∷ r)

  pub items_kept : ArrayItems → List TomlLexeme → List TomlLexeme
  items_kept no_items r = r
  items_kept (with_item is l v cs) r = items_kept is (value_kept v (comments_kept cs r))

  pub members_kept : TableMembers → List TomlLexeme → List TomlLexeme
  members_kept no_members r = r
  members_kept (with_member ms k v) r = members_kept ms (key_kept k (equals ∷ value_kept v r))

abbrev pub body_kept : Body → List TomlLexeme → List TomlLexeme
body_kept (note s) r = comment s ∷ r
body_kept (header false k) r = open_array ∷ key_kept k (close_array ∷ r)
body_kept (header true k) r = open_array ∷ open_array ∷ key_kept k (close_array ∷ close_array ∷ r)
body_kept (pair k g v) r = key_kept k (equals ∷ value_kept v r)

abbrev pub remark_kept : Option Remark → List TomlLexeme → List TomlLexeme
remark_kept None r = r
remark_kept (Some c) r = comment c.text ∷ r

abbrev pub statement_kept : Statement → List TomlLexeme → List TomlLexeme
statement_kept s r = body_kept s.body (remark_kept s.remark r)

abbrev pub statements_kept : List Statement → List TomlLexeme
statements_kept [] = []
statements_kept (s ∷ ss) = statement_kept s (statements_kept ss)

-- ---- spelled

-- what f puts in front is kept of these
record Spells (a : List TypedAfterGap) (f : List TomlLexeme → List TomlLexeme) : Type 0 where
  on : (rest : List TypedAfterGap) → kept_lexemes (a ++ rest) ≡ f (kept_lexemes rest)

-- one after the other
infixr 4 ◌▸◌
◌▸◌ : {a b : List TypedAfterGap} {f h : List TomlLexeme → List TomlLexeme} → Spells a f → Spells b h → Spells (a ++ b) (λ r. f (h r))
◌▸◌ {a} {b} {f} {h} x y = record { on = λ rest. ap kept_lexemes (append_assoc a b rest) ∙ x.on (b ++ rest) ∙ ap f (y.on rest) }

none : Spells [] (λ r. r)
none = record { on = λ rest. refl }

one : (g : List ℕ) (l : TomlLexeme) → Spells (typed_after_gap g l ∷ []) (with_kept l)
one g l = record { on = λ rest. refl }

first : (g : List ℕ) (l : TomlLexeme) {b : List TypedAfterGap} {h : List TomlLexeme → List TomlLexeme} → Spells b h
    → Spells (typed_after_gap g l ∷ b) (λ r. with_kept l (h r))
first g l {b} {h} y = record { on = λ rest. ap (with_kept l) (y.on rest) }

line_ends_spelled : (n : ℕ) → Spells (spelled_line_ends n) (λ r. r)
line_ends_spelled zero = none
line_ends_spelled (suc n) = first [] line_end (line_ends_spelled n)

key_spelled : (g : List ℕ) (k : Key) → Spells (spelled_key g k) (key_kept k)
key_spelled g no_parts = none
key_spelled g (with_word k w) = key_spelled g k ▸ one (part_gap g k) (word w)
key_spelled g (with_string k s) = key_spelled g k ▸ one (part_gap g k) (string s)

comments_spelled : (cs : Comments) → Spells (spelled_comments cs) (comments_kept cs)
comments_spelled no_comments = none
comments_spelled (with_comment cs l s) = comments_spelled cs ▸ line_ends_spelled l.line_ends ▸ one l.gap (comment s)

comma_spelled : (b : Bool) → Spells (comma_if b) (λ r. r)
comma_spelled false = none
comma_spelled true = one [] comma

comma_after_spelled : (ms : TableMembers) → Spells (comma_after_members ms) (λ r. r)
comma_after_spelled no_members = none
comma_after_spelled (with_member ms k v) = one [] comma

mutual
  value_spelled : (v : TomlValue) (g : List ℕ) → Spells (spelled_value g v) (value_kept v)
  value_spelled (plain w) g = one g (word w)
  value_spelled (moment d t) g = first g (word d) (one one_blank (word t))
  value_spelled (quoted s) g = one g (string s)
  value_spelled (array cs is b l) g =
      first g open_array (comments_spelled cs ▸ items_spelled is b ▸ line_ends_spelled l.line_ends ▸ one l.gap close_array)
  value_spelled (table ms) g = first g open_table (members_spelled ms ▸ one (brace_gap ms) close_table)

  items_spelled : (is : ArrayItems) (b : Bool) → Spells (spelled_array_items b is) (items_kept is)
  items_spelled no_items b = none
  items_spelled (with_item is l v cs) b =
      items_spelled is true ▸ line_ends_spelled l.line_ends ▸ value_spelled v l.gap ▸ comma_spelled b ▸ comments_spelled cs

  members_spelled : (ms : TableMembers) → Spells (spelled_table_members ms) (members_kept ms)
  members_spelled no_members = none
  members_spelled (with_member ms k v) =
      members_spelled ms ▸ comma_after_spelled ms ▸ key_spelled one_blank k ▸ first one_blank equals (value_spelled v one_blank)

body_spelled : (b : Body) (g : List ℕ) → Spells (spelled_body g b) (body_kept b)
body_spelled (note s) g = one g (comment s)
body_spelled (header false k) g = first g open_array (key_spelled [] k ▸ one [] close_array)
body_spelled (header true k) g = first g open_array (first [] open_array (key_spelled [] k ▸ first [] close_array (one [] close_array)))
body_spelled (pair k b v) g = key_spelled g k ▸ first b equals (value_spelled v one_blank)

remark_spelled : (c : Option Remark) → Spells (spelled_remark c) (remark_kept c)
remark_spelled None = none
remark_spelled (Some c) = one c.gap (comment c.text)

statement_spelled : (s : Statement) → Spells (spelled_statement s) (statement_kept s)
statement_spelled s =
    line_ends_spelled s.before.line_ends ▸ body_spelled s.body s.before.gap ▸ remark_spelled s.remark ▸ one [] line_end

pub statements_spelled : (ss : List Statement) → kept_lexemes (spelled_statements ss) ≡ statements_kept ss
statements_spelled [] = refl
statements_spelled (s ∷ ss) = (statement_spelled s).on (spelled_statements ss) ∙ ap (statement_kept s) (statements_spelled ss)
