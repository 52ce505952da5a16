-- What is spelled is read again.
use Rattle.std.proofs.Common.{◌≡◌, refl, ◌∙◌, ap, ℕ, zero, suc, ◌+◌, Bool, true, false, ◌&&◌, List, [], ◌∷◌, ◌++◌, Option, Some, None}
use Rattle.std.proofs.Common.{append_assoc, arith, subst}
use Rattle.toml_grammar.specs.Dates.{is_date, is_time}
use Rattle.toml_grammar.specs.Comments.{is_comment}
use Rattle.toml_grammar.specs.Strings.{is_string}
use Rattle.toml_grammar.specs.Values.{is_value}
use Rattle.toml_syntax.specs.TypedLexemes.{TypedAfterGap, typed_after_gap, one_blank, comma, comment, word, string, line_end, open_array}
use Rattle.toml_syntax.specs.TypedLexemes.{close_array, open_table}
use Rattle.toml_syntax.specs.TypedLexemes.{close_table, equals}
use Rattle.toml_syntax.specs.Tree.{Lead, lead, Key, no_parts, Comments, no_comments, with_comment}
use Rattle.toml_syntax.specs.Tree.{TomlValue, plain, moment, quoted, array, table, ArrayItems, no_items, with_item, TableMembers}
use Rattle.toml_syntax.specs.Tree.{no_members, with_member}
use Rattle.toml_syntax.specs.Tree.{Body, note, header, pair, Remark, Statement, statement_of_parts}
use Rattle.toml_syntax.specs.Reading.{Outside, of_line, of_array, of_table, for_header, for_line, for_member, Now, at_line, at_header}
use Rattle.toml_syntax.specs.Reading.{in_key, at_closing}
use Rattle.toml_syntax.specs.Reading.{at_value, in_array, in_table, at_end, after_remark, now_after_value, last_comma, comment_in}
use Rattle.toml_syntax.specs.Reading.{read_from, said_before}
use Rattle.toml_syntax.specs.Spelled.{spelled_line_ends, spelled_key, spelled_comments, comma_if, comma_after_members, brace_gap}
use Rattle.toml_syntax.specs.Spelled.{spelled_value, spelled_array_items, spelled_table_members}
use Rattle.toml_syntax.specs.Spelled.{spelled_body, spelled_remark, spelled_statement, spelled_statements}
use Rattle.toml_syntax.specs.Formed.{IsClearGap, IsFormedKey, AreFormedComments, IsFormedValue, AreFormedArrayItems}
use Rattle.toml_syntax.specs.Formed.{AreFormedTableMembers, IsFormedBody, IsFormedRemark}
use Rattle.toml_syntax.specs.Formed.{IsFormedStatement}
use Rattle.toml_syntax.specs.Laws.{SpelledAreRead}
use Rattle.toml_syntax.proofs.Leading.{ReadsOver, ◌▸◌, reads_none, reads_to, reads_one, reads_if}
use Rattle.toml_syntax.proofs.ReadKeys.{key_read, whole_key_read}

blank_clear : IsClearGap one_blank
blank_clear = ((refl, tt), refl)

none_clear : IsClearGap []
none_clear = (tt, refl)

-- ---- line ends

more_lines : (o : Outside) (cs : Comments) (is : ArrayItems) (due : Bool) (m n : ℕ)
    → ReadsOver (in_array o cs is n due) (spelled_line_ends m) (in_array o cs is (m + n) due)
more_lines o cs is due zero n = reads_to (in_array o cs is (0 + n) due) (reads_none (in_array o cs is n due))
    (ap (λ k. in_array o cs is k due) (omega arith))
more_lines o cs is due (suc m) n =
    reads_to (in_array o cs is (suc m + n) due)
    (reads_one (in_array o cs is n due) (in_array o cs is (suc n) due) [] line_end refl refl ▸ more_lines o cs is due m (suc n))
    (ap (λ k. in_array o cs is k due) (omega arith))

lines_in_array : (o : Outside) (cs : Comments) (is : ArrayItems) (due : Bool) (m : ℕ)
    → ReadsOver (in_array o cs is 0 due) (spelled_line_ends m) (in_array o cs is m due)
lines_in_array o cs is due m =
    reads_to (in_array o cs is m due) (more_lines o cs is due m 0) (ap (λ k. in_array o cs is k due) (omega arith))

more_blank_lines : (m n : ℕ) → ReadsOver (at_line n) (spelled_line_ends m) (at_line (m + n))
more_blank_lines zero n = reads_to (at_line (0 + n)) (reads_none (at_line n)) (ap at_line (omega arith))
more_blank_lines (suc m) n =
    reads_to (at_line (suc m + n)) (reads_one (at_line n) (at_line (suc n)) [] line_end refl refl ▸ more_blank_lines m (suc n))
    (ap at_line (omega arith))

blank_lines : (m : ℕ) → ReadsOver (at_line 0) (spelled_line_ends m) (at_line m)
blank_lines m = reads_to (at_line m) (more_blank_lines m 0) (ap at_line (omega arith))

-- ---- comments

-- a comment in an array, after line ends
comment_read : (o : Outside) (cs : Comments) (is : ArrayItems) (due : Bool) (l : Lead) (s : List ℕ) → IsClearGap l.gap → is_comment s ≡ true
    → ReadsOver (in_array o cs is 0 due) (spelled_line_ends l.line_ends ++ typed_after_gap l.gap (comment s) ∷ [])
    (comment_in o cs is l s due)
comment_read o cs is due l s c h =
    lines_in_array o cs is due l.line_ends
    ▸ reads_if (in_array o cs is l.line_ends due) (comment_in o cs is l s due) l.gap (comment s) (is_comment s) c.1 refl h

comments_before : (o : Outside) (cs : Comments) → AreFormedComments cs
    → ReadsOver (in_array o no_comments no_items 0 true) (spelled_comments cs) (in_array o cs no_items 0 true)
comments_before o no_comments h = reads_none (in_array o no_comments no_items 0 true)
comments_before o (with_comment cs l s) h = comments_before o cs h.0 ▸ comment_read o cs no_items true l s h.1 h.2

comments_after : (o : Outside) (cs : Comments) (is : ArrayItems) (l : Lead) (v : TomlValue) (b : Bool) (ds : Comments)
    → AreFormedComments ds
    → ReadsOver (in_array o cs (with_item is l v no_comments) 0 b) (spelled_comments ds) (in_array o cs (with_item is l v ds) 0 b)
comments_after o cs is l v b no_comments h = reads_none (in_array o cs (with_item is l v no_comments) 0 b)
comments_after o cs is l v b (with_comment ds k s) h =
    comments_after o cs is l v b ds h.0 ▸ comment_read o cs (with_item is l v ds) b k s h.1 h.2

-- ---- values

-- whether an item may come after these items, where b says whether a comma comes last
abbrev due_after : Bool → ArrayItems → Bool
due_after b no_items = true
due_after b (with_item is l v cs) = b

due_after_commas : (is : ArrayItems) → due_after true is ≡ true
due_after_commas no_items = refl
due_after_commas (with_item is l v cs) = refl

last_comma_due : (is : ArrayItems) (b : Bool) → last_comma is (due_after b is) ≡ last_comma is b
last_comma_due no_items b = refl
last_comma_due (with_item is l v cs) b = refl

-- the first lexeme of an item
item_begins : (v : TomlValue) (o : Outside) (cs : Comments) (is : ArrayItems) (n : ℕ) (g : List ℕ) (m : Now)
    → ReadsOver (at_value (of_array o cs is (lead n g))) (spelled_value g v) m → ReadsOver (in_array o cs is n true) (spelled_value g v) m
item_begins (plain w) o cs is n g m h = record { on = h.on }
item_begins (moment d t) o cs is n g m h = record { on = h.on }
item_begins (quoted s) o cs is n g m h = record { on = h.on }
item_begins (array ds js b l) o cs is n g m h = record { on = h.on }
item_begins (table ms) o cs is n g m h = record { on = h.on }

comma_read : (b : Bool) (o : Outside) (cs : Comments) (is : ArrayItems)
    → ReadsOver (in_array o cs is 0 false) (comma_if b) (in_array o cs is 0 b)
comma_read false o cs is = reads_none (in_array o cs is 0 false)
comma_read true o cs is = reads_one (in_array o cs is 0 false) (in_array o cs is 0 true) [] comma refl refl

-- a time after its date
time_read : (o : Outside) (d t : List ℕ) → is_date d ≡ true → is_time t ≡ true
    → ReadsOver (now_after_value o (plain d)) (typed_after_gap one_blank (word t) ∷ []) (now_after_value o (moment d t))
time_read (of_line l k g) d t h i =
    reads_if (now_after_value (of_line l k g) (plain d)) (now_after_value (of_line l k g) (moment d t)) one_blank (word t)
    (is_date d && is_time t) refl refl
    (ap (λ x. x && is_time t) h ∙ i)
time_read (of_array o cs is l) d t h i =
    reads_if (now_after_value (of_array o cs is l) (plain d)) (now_after_value (of_array o cs is l) (moment d t)) one_blank (word t)
    (is_date d && is_time t)
    refl refl (ap (λ x. x && is_time t) h ∙ i)
time_read (of_table o ms k) d t h i =
    reads_if (now_after_value (of_table o ms k) (plain d)) (now_after_value (of_table o ms k) (moment d t)) one_blank (word t)
    (is_date d && is_time t) refl refl
    (ap (λ x. x && is_time t) h ∙ i)

-- the first lexeme of a member, or the comma before it
member_begins : (ms : TableMembers) (o : Outside) (k : Key) → IsFormedKey k false
    → ReadsOver (in_table o ms) (comma_after_members ms ++ spelled_key one_blank k) (in_key (for_member o ms) k false)
member_begins no_members o k h =
    whole_key_read (in_table o no_members) (for_member o no_members) k one_blank
    (record { with_words = λ w. refl; with_strings = λ s. refl }) blank_clear h
member_begins (with_member ms j v) o k h =
    reads_one (in_table o (with_member ms j v)) (in_key (for_member o (with_member ms j v)) no_parts true) [] comma refl refl
    ▸ key_read (for_member o (with_member ms j v)) k false one_blank blank_clear h

member_read : (ms : TableMembers) (o : Outside) (k : Key) (v : TomlValue) → IsFormedKey k false
    → ReadsOver (at_value (of_table o ms k)) (spelled_value one_blank v) (in_table o (with_member ms k v))
    → ReadsOver (in_table o ms)
    (comma_after_members ms ++ (spelled_key one_blank k ++ typed_after_gap one_blank equals ∷ spelled_value one_blank v))
    (in_table o (with_member ms k v))
member_read ms o k v h f =
    subst (λ a. ReadsOver (in_table o ms) a (in_table o (with_member ms k v)))
    (append_assoc (comma_after_members ms) (spelled_key one_blank k) (typed_after_gap one_blank equals ∷ spelled_value one_blank v))
    (member_begins ms o k h ▸ reads_one (in_key (for_member o ms) k false) (at_value (of_table o ms k)) one_blank equals refl refl ▸ f)

brace_read : (ms : TableMembers) (o : Outside)
    → ReadsOver (in_table o ms) (typed_after_gap (brace_gap ms) close_table ∷ []) (now_after_value o (table ms))
brace_read no_members o = reads_one (in_table o no_members) (now_after_value o (table no_members)) [] close_table refl refl
brace_read (with_member ms k v) o =
    reads_one (in_table o (with_member ms k v)) (now_after_value o (table (with_member ms k v))) one_blank close_table refl refl

mutual
  pub value_read : (v : TomlValue) (o : Outside) (g : List ℕ) → IsClearGap g → IsFormedValue v
      → ReadsOver (at_value o) (spelled_value g v) (now_after_value o v)
  value_read (plain w) o g c h = reads_if (at_value o) (now_after_value o (plain w)) g (word w) (is_value w) c.1 refl h.0
  value_read (moment d t) o g c h =
      reads_if (at_value o) (now_after_value o (plain d)) g (word d) (is_value d) c.1 refl h.0 ▸ time_read o d t h.1 h.2
  value_read (quoted s) o g c h = reads_if (at_value o) (now_after_value o (quoted s)) g (string s) (is_string s) c.1 refl h.0
  value_read (array cs is b l) o g c h =
      reads_one (at_value o) (in_array o no_comments no_items 0 true) g open_array c.1 refl
      ▸ comments_before o cs h.0
      ▸ items_read is o cs b h.1
      ▸ lines_in_array o cs is (due_after b is) l.line_ends
      ▸ reads_to (now_after_value o (array cs is b l))
      (reads_one (in_array o cs is l.line_ends (due_after b is))
      (now_after_value o (array cs is (last_comma is (due_after b is)) l)) l.gap close_array h.3.1 refl)
      (ap (λ x. now_after_value o (array cs is x l)) (last_comma_due is b ∙ h.2))
  value_read (table ms) o g c h =
      reads_one (at_value o) (in_table o no_members) g open_table c.1 refl ▸ members_read ms o h ▸ brace_read ms o

  items_read : (is : ArrayItems) (o : Outside) (cs : Comments) (b : Bool) → AreFormedArrayItems is
      → ReadsOver (in_array o cs no_items 0 true) (spelled_array_items b is) (in_array o cs is 0 (due_after b is))
  items_read no_items o cs b h = reads_none (in_array o cs no_items 0 true)
  items_read (with_item is l v ds) o cs b h =
      reads_to (in_array o cs is 0 true) (items_read is o cs true h.0) (ap (in_array o cs is 0) (due_after_commas is))
      ▸ lines_in_array o cs is true l.line_ends
      ▸ item_begins v o cs is l.line_ends l.gap (in_array o cs (with_item is l v no_comments) 0 false)
      (value_read v (of_array o cs is l) l.gap h.1 h.2)
      ▸ comma_read b o cs (with_item is l v no_comments)
      ▸ comments_after o cs is l v b ds h.3

  members_read : (ms : TableMembers) (o : Outside) → AreFormedTableMembers ms
      → ReadsOver (in_table o no_members) (spelled_table_members ms) (in_table o ms)
  members_read no_members o h = reads_none (in_table o no_members)
  members_read (with_member ms k v) o h =
      members_read ms o h.0
      ▸ member_read ms o k v h.1 (value_read v (of_table o ms k) one_blank blank_clear h.2)

-- ---- statements

-- what has been read of a line that has this
abbrev body_read : Lead → Body → Now
body_read l (note s) = after_remark (statement_of_parts l (note s) None)
body_read l (header b k) = at_end (statement_of_parts l (header b k) None)
body_read l (pair k b v) = at_end (statement_of_parts l (pair k b v) None)

line_read : (b : Body) (n : ℕ) (g : List ℕ) → IsClearGap g → IsFormedBody b
    → ReadsOver (at_line n) (spelled_body g b) (body_read (lead n g) b)
line_read (note s) n g c h =
    reads_if (at_line n) (after_remark (statement_of_parts (lead n g) (note s) None)) g (comment s) (is_comment s) c.1 refl h
line_read (header false k) n g c h =
    reads_one (at_line n) (at_header (lead n g)) g open_array c.1 refl
    ▸ whole_key_read (at_header (lead n g)) (for_header (lead n g) false) k []
    (record { with_words = λ w. refl; with_strings = λ s. refl }) none_clear h
    ▸ reads_one (in_key (for_header (lead n g) false) k false)
    (at_end (statement_of_parts (lead n g) (header false k) None)) [] close_array refl refl
line_read (header true k) n g c h =
    reads_one (at_line n) (at_header (lead n g)) g open_array c.1 refl
    ▸ reads_one (at_header (lead n g)) (in_key (for_header (lead n g) true) no_parts true) [] open_array refl refl
    ▸ key_read (for_header (lead n g) true) k false [] none_clear h
    ▸ reads_one (in_key (for_header (lead n g) true) k false) (at_closing (lead n g) k) [] close_array refl refl
    ▸ reads_one (at_closing (lead n g) k) (at_end (statement_of_parts (lead n g) (header true k) None)) [] close_array refl refl
line_read (pair k b v) n g c h =
    whole_key_read (at_line n) (for_line (lead n g)) k g (record { with_words = λ w. refl; with_strings = λ s. refl }) c h.0
    ▸ reads_one (in_key (for_line (lead n g)) k false) (at_value (of_line (lead n g) k b)) b equals h.1.1 refl
    ▸ value_read v (of_line (lead n g) k b) one_blank blank_clear h.2

-- a comment at the end of a line
remark_read : (s : Statement) (g c : List ℕ) → IsClearGap g → is_comment c ≡ true
    → ReadsOver (at_end s) (typed_after_gap g (comment c) ∷ [])
    (after_remark (statement_of_parts s.before s.body (Some record { gap = g; text = c })))
remark_read s g c h i =
    reads_if (at_end s) (after_remark (statement_of_parts s.before s.body (Some record { gap = g; text = c }))) g (comment c)
    (is_comment c) h.1 refl i

end_read : (l : Lead) (b : Body) (r : Option Remark) (rest : List TypedAfterGap) → IsFormedRemark b r
    → read_from (body_read l b) ((spelled_remark r ++ typed_after_gap [] line_end ∷ []) ++ rest)
    ≡ said_before (statement_of_parts l b r) (read_from (at_line 0) rest)
end_read l (note s) None rest h = refl
end_read l (note s) (Some r) rest h = absurd h
end_read l (header b k) None rest h = refl
end_read l (header b k) (Some r) rest h = (remark_read (statement_of_parts l (header b k) None) r.gap r.text h.0 h.1).on
    (typed_after_gap [] line_end ∷ rest)
end_read l (pair k b v) None rest h = refl
end_read l (pair k b v) (Some r) rest h = (remark_read (statement_of_parts l (pair k b v) None) r.gap r.text h.0 h.1).on
    (typed_after_gap [] line_end ∷ rest)

statement_read : (s : Statement) (rest : List TypedAfterGap) → IsFormedStatement s
    → read_from (at_line 0) (spelled_statement s ++ rest) ≡ said_before s (read_from (at_line 0) rest)
statement_read s rest h =
    let ends = spelled_remark s.remark ++ typed_after_gap [] line_end ∷ [] in
    let body = spelled_body s.before.gap s.body in
    ap (read_from (at_line 0)) (append_assoc (spelled_line_ends s.before.line_ends) (body ++ ends) rest)
    ∙ (blank_lines s.before.line_ends).on ((body ++ ends) ++ rest)
    ∙ ap (read_from (at_line s.before.line_ends)) (append_assoc body ends rest)
    ∙ (line_read s.body s.before.line_ends s.before.gap h.0 h.1).on (ends ++ rest)
    ∙ end_read s.before s.body s.remark rest h.2

pub spelled_are_read : SpelledAreRead
spelled_are_read [] h = refl
spelled_are_read (s ∷ ss) h = statement_read s (spelled_statements ss) h.0 ∙ ap (said_before s) (spelled_are_read ss h.1)
