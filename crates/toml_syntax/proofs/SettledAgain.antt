-- What is laid out stays when it is laid out again.
use Rattle.std.proofs.Common.{◌≡◌, refl, sym, ◌∙◌, ap, ℕ, zero, suc, ◌+◌, Bool, true, false, cond, ◌&&◌, ◌||◌, List, [], ◌∷◌, Option}
use Rattle.std.proofs.Common.{Some, None}
use Rattle.std.proofs.Common.{inl, inr}
use Rattle.std.proofs.lemmas.Bool.{or_cases}
use Rattle.std.specs.Prelude.{nat_lt}
use Rattle.toml_lexemes.specs.Statements.{trimmed}
use Rattle.toml_lexemes.proofs.Trimmed.{trimmed_twice}
use Rattle.toml_syntax.specs.Tree.{Lead, lead, Comments, no_comments, with_comment, TomlValue, plain, moment, quoted, array, table}
use Rattle.toml_syntax.specs.Tree.{ArrayItems, no_items, with_item}
use Rattle.toml_syntax.specs.Tree.{TableMembers, no_members, with_member, Body, note, header, pair, Remark, Statement, statement_of_parts}
use Rattle.toml_syntax.specs.Settled.{Style, separator_columns, member_separator_columns, brace_columns, value_columns}
use Rattle.toml_syntax.specs.Settled.{items_columns, members_columns}
use Rattle.toml_syntax.specs.Settled.{has_comments, has_items, begins_below, is_broken, are_broken, has_broken, is_past, array_breaks}
use Rattle.toml_syntax.specs.Settled.{one_if, own_line, comment_gap, first_comment}
use Rattle.toml_syntax.specs.Settled.{comment_lead, settled_comments, is_first, item_lead, closing_lead, inner_indent, item_room}
use Rattle.toml_syntax.specs.Settled.{settled_value, settled_items}
use Rattle.toml_syntax.specs.Settled.{settled_members, pair_room, settled_body, settled_remark, blank_lines_kept, settled_statement}
use Rattle.toml_syntax.specs.Settled.{settled_from, equals_of, equals_column, is_same_column}
use Rattle.toml_syntax.specs.Settled.{keeps_equals, gap_if, is_none, first_of}
use Rattle.toml_syntax.specs.Laws.{SettledStay}

-- ---- what laying out keeps

comments_kept : (inner : List ℕ) (f : Bool) (cs : Comments) → has_comments (settled_comments inner f cs) ≡ has_comments cs
comments_kept inner f no_comments = refl
comments_kept inner f (with_comment cs l s) = refl

items_kept : (s : Style) (inner : List ℕ) (b : Bool) (head : Comments) (is : ArrayItems)
    → has_items (settled_items s inner b head is) ≡ has_items is
items_kept s inner b head no_items = refl
items_kept s inner b head (with_item is l v cs) = refl

separator_kept : (s : Style) (inner : List ℕ) (b : Bool) (head : Comments) (is : ArrayItems)
    → separator_columns (settled_items s inner b head is) ≡ separator_columns is
separator_kept s inner b head no_items = refl
separator_kept s inner b head (with_item is l v cs) = refl

member_separator_kept : (s : Style) (indent : List ℕ) (ms : TableMembers)
    → member_separator_columns (settled_members s indent ms) ≡ member_separator_columns ms
member_separator_kept s indent no_members = refl
member_separator_kept s indent (with_member ms k v) = refl

braces_kept : (s : Style) (indent : List ℕ) (ms : TableMembers) → brace_columns (settled_members s indent ms) ≡ brace_columns ms
braces_kept s indent no_members = refl
braces_kept s indent (with_member ms k v) = refl

mutual
  columns_kept : (s : Style) (v : TomlValue) (indent : List ℕ) (room : Option ℕ)
      → value_columns s (settled_value s indent room v) ≡ value_columns s v
  columns_kept s (plain w) indent room = refl
  columns_kept s (moment d t) indent room = refl
  columns_kept s (quoted t) indent room = refl
  columns_kept s (array cs is b l) indent room = ap (λ n. 2 + n)
      (items_columns_kept s is (inner_indent s indent) (array_breaks s room cs is) cs)
  columns_kept s (table ms) indent room =
      ap (λ n. n + members_columns s (settled_members s indent ms)) (braces_kept s indent ms)
      ∙ ap (λ n. brace_columns ms + n) (members_columns_kept s ms indent)

  items_columns_kept : (s : Style) (is : ArrayItems) (inner : List ℕ) (b : Bool) (head : Comments)
      → items_columns s (settled_items s inner b head is) ≡ items_columns s is
  items_columns_kept s no_items inner b head = refl
  items_columns_kept s (with_item is l v cs) inner b head =
      let one = items_columns_kept s is inner b head in
      let two = separator_kept s inner b head is in
      let three = columns_kept s v inner (item_room s b inner) in
      cc

  members_columns_kept : (s : Style) (ms : TableMembers) (indent : List ℕ)
      → members_columns s (settled_members s indent ms) ≡ members_columns s ms
  members_columns_kept s no_members indent = refl
  members_columns_kept s (with_member ms k v) indent =
      let one = members_columns_kept s ms indent in
      let two = member_separator_kept s indent ms in
      let three = columns_kept s v indent None in
      cc

-- ---- what is broken

or_false : (a b : Bool) → (a || b) ≡ false → (a ≡ false) × (b ≡ false)
or_false true b h = absurd (cc)
or_false false b h = (refl, h)

false_or : (a b : Bool) → a ≡ false → b ≡ false → (a || b) ≡ false
false_or a b h k = ap (λ x. x || b) h ∙ k

or_true : (a : Bool) → (a || true) ≡ true
or_true true = refl
or_true false = refl

or_none : (a b : Bool) → (a || (b && false)) ≡ a
or_none true b = refl
or_none false true = refl
or_none false false = refl

and_true : (a b : Bool) → (a && b) ≡ true → a ≡ true
and_true true b h = refl
and_true false b h = h

begun : (s : Style) (inner : List ℕ) (head : Comments) (l : Lead) (v : TomlValue) (cs : Comments) (f : Bool)
    → (false || (begins_below no_items (item_lead true f inner l.line_ends).line_ends
    || (is_broken (settled_value s inner (item_room s true inner) v) || has_comments (settled_comments inner false cs)))) ≡ true
begun s inner head l v cs true = refl
begun s inner head l v cs false = refl

-- what a break in a value with items or comments comes from
broken_items : (s : Style) (inner : List ℕ) (head : Comments) (is : ArrayItems)
    → are_broken (settled_items s inner true head is) ≡ has_items is
broken_items s inner head no_items = refl
broken_items s inner head (with_item no_items l v cs) = begun s inner head l v cs (is_first head no_items)
broken_items s inner head (with_item (with_item is k u ds) l v cs) =
    ap (λ b. b ||
    (false || (is_broken (settled_value s inner (item_room s true inner) v) || has_comments (settled_comments inner false cs))))
    (broken_items s inner head (with_item is k u ds))

-- an array as it is laid out
array_broken : (s : Style) (inner : List ℕ) (room : Option ℕ) (cs : Comments) (is : ArrayItems) (b : Bool) → b ≡ array_breaks s room cs is
    → (are_broken is ≡ false → are_broken (settled_items s inner false cs is) ≡ false)
    → (has_comments (settled_comments inner true cs) || are_broken (settled_items s inner b cs is)) ≡ b
array_broken s inner room no_comments no_items true e f = sym e
array_broken s inner room no_comments (with_item is l v ds) true e f = broken_items s inner no_comments (with_item is l v ds)
array_broken s inner room (with_comment cs l t) is true e f = refl
array_broken s inner room cs is false e f =
    let h = or_false (has_comments cs || are_broken is) _ (sym e) in
    let k = or_false (has_comments cs) (are_broken is) h.0 in
    false_or _ _ (comments_kept inner true cs ∙ k.0) (f k.1)

-- an array in an inline table is broken where lines end in it as it stands
breaks_inline : (s : Style) (cs : Comments) (is : ArrayItems) → array_breaks s None cs is ≡ (has_comments cs || are_broken is)
breaks_inline s cs is = or_none (has_comments cs || are_broken is) (has_items is)

unbroken_lead : (inner : List ℕ) (f : Bool) (is : ArrayItems) (n : ℕ) → begins_below is (item_lead false f inner n).line_ends ≡ false
unbroken_lead inner true no_items n = refl
unbroken_lead inner false no_items n = refl
unbroken_lead inner f (with_item is l v cs) n = refl

mutual
  inline_broken : (s : Style) (v : TomlValue) (indent : List ℕ) → is_broken (settled_value s indent None v) ≡ is_broken v
  inline_broken s (plain w) indent = refl
  inline_broken s (moment d t) indent = refl
  inline_broken s (quoted t) indent = refl
  inline_broken s (array cs is b l) indent =
      array_broken s (inner_indent s indent) None cs is (array_breaks s None cs is) refl (unbroken_items s is (inner_indent s indent) cs)
      ∙ breaks_inline s cs is
  inline_broken s (table ms) indent = members_broken s ms indent

  unbroken_items : (s : Style) (is : ArrayItems) (inner : List ℕ) (head : Comments) → are_broken is ≡ false
      → are_broken (settled_items s inner false head is) ≡ false
  unbroken_items s no_items inner head h = refl
  unbroken_items s (with_item is l v cs) inner head h =
      let one = or_false (are_broken is) _ h in
      let two = or_false (begins_below is l.line_ends) _ one.1 in
      let three = or_false (is_broken v) (has_comments cs) two.1 in
      false_or _ _ (unbroken_items s is inner head one.0)
      (false_or _ _ (unbroken_lead inner (is_first head is) (settled_items s inner false head is) l.line_ends)
      (false_or _ _ (inline_broken s v inner ∙ three.0) (comments_kept inner false cs ∙ three.1)))

  members_broken : (s : Style) (ms : TableMembers) (indent : List ℕ) → has_broken (settled_members s indent ms) ≡ has_broken ms
  members_broken s no_members indent = refl
  members_broken s (with_member ms k v) indent =
      let one = members_broken s ms indent in
      let two = inline_broken s v indent in
      cc

or_twice : (e w : Bool) → ((e || w) || w) ≡ (e || w)
or_twice true w = refl
or_twice false true = refl
or_twice false false = refl

-- an array breaks as before
breaks_again : (s : Style) (indent : List ℕ) (room : Option ℕ) (cs : Comments) (is : ArrayItems)
    → array_breaks s room (settled_comments (inner_indent s indent) true cs)
    (settled_items s (inner_indent s indent) (array_breaks s room cs is) cs is)
    ≡ array_breaks s room cs is
breaks_again s indent room cs is =
    let inner = inner_indent s indent in
    let b = array_breaks s room cs is in
    let one = array_broken s inner room cs is b refl (unbroken_items s is inner cs) in
    let two = items_kept s inner b cs is in
    let three = items_columns_kept s is inner b cs in
    ap (λ x. x || (has_items (settled_items s inner b cs is) && is_past room (2 + items_columns s (settled_items s inner b cs is)))) one
    ∙ ap (λ x. b || (x && is_past room (2 + items_columns s (settled_items s inner b cs is)))) two
    ∙ ap (λ x. b || (has_items is && is_past room (2 + x))) three
    ∙ or_twice (has_comments cs || are_broken is) (has_items is && is_past room (2 + items_columns s is))

-- ---- leads

capped : (b : Bool) → one_if (nat_lt 1 (suc (one_if b))) ≡ one_if b
capped true = refl
capped false = refl

own_line_again : (f : Bool) (n : ℕ) (g : List ℕ) → own_line f (own_line f n g).line_ends g ≡ own_line f n g
own_line_again true n g = refl
own_line_again false n g = ap (λ k. lead (suc k) g) (capped (nat_lt 1 n))

gap_again : (g : List ℕ) → comment_gap (comment_gap g) ≡ comment_gap g
gap_again [] = refl
gap_again (x ∷ xs) = refl

first_again : (inner : List ℕ) (f : Bool) (n : ℕ) (g : List ℕ)
    → first_comment inner f (first_comment inner f n g).line_ends (first_comment inner f n g).gap ≡ first_comment inner f n g
first_again inner f zero g = ap (lead 0) (gap_again g)
first_again inner true (suc n) g = refl
first_again inner false (suc n) g = own_line_again false (suc n) inner

comment_again : (inner : List ℕ) (f : Bool) (cs : Comments) (l : Lead)
    → comment_lead inner f (settled_comments inner f cs) (comment_lead inner f cs l) ≡ comment_lead inner f cs l
comment_again inner f no_comments l = first_again inner f l.line_ends l.gap
comment_again inner f (with_comment cs k s) l = own_line_again false l.line_ends inner

comments_again : (inner : List ℕ) (f : Bool) (cs : Comments)
    → settled_comments inner f (settled_comments inner f cs) ≡ settled_comments inner f cs
comments_again inner f no_comments = refl
comments_again inner f (with_comment cs l s) =
    let one = comments_again inner f cs in
    let two = comment_again inner f cs l in
    let three = trimmed_twice s in
    cc

item_again : (b f : Bool) (inner : List ℕ) (n : ℕ) → item_lead b f inner (item_lead b f inner n).line_ends ≡ item_lead b f inner n
item_again true f inner n = own_line_again f n inner
item_again false true inner n = refl
item_again false false inner n = refl

-- ---- values

first_again_kept : (s : Style) (inner : List ℕ) (b f : Bool) (head : Comments) (is : ArrayItems)
    → is_first (settled_comments inner f head) (settled_items s inner b head is) ≡ is_first head is
first_again_kept s inner b f no_comments no_items = refl
first_again_kept s inner b f no_comments (with_item is l v cs) = refl
first_again_kept s inner b f (with_comment cs l t) is = refl

item_by : (s : Style) (is : ArrayItems) (l : Lead) (v : TomlValue) (cs : Comments) (inner : List ℕ) (b : Bool) (head : Comments) (f : Bool)
    → settled_items s inner b (settled_comments inner f head) (settled_items s inner b head is) ≡ settled_items s inner b head is
    → settled_value s inner (item_room s b inner) (settled_value s inner (item_room s b inner) v)
    ≡ settled_value s inner (item_room s b inner) v
    → settled_items s inner b (settled_comments inner f head) (settled_items s inner b head (with_item is l v cs))
    ≡ settled_items s inner b head (with_item is l v cs)
item_by s is l v cs inner b head f one two =
    let items = settled_items s inner b head is in
    let first = is_first head is in
    let place = item_lead b first inner l.line_ends in
    let value = settled_value s inner (item_room s b inner) v in
    let comments = settled_comments inner false cs in
    let again = settled_comments inner false comments in
    let value2 = settled_value s inner (item_room s b inner) value in
    ap (λ x. with_item x (item_lead b (is_first (settled_comments inner f head) items) inner place.line_ends) value2 again) one
    ∙ ap (λ x. with_item items (item_lead b x inner place.line_ends) value2 again) (first_again_kept s inner b f head is)
    ∙ ap (λ x. with_item items x value2 again) (item_again b first inner l.line_ends)
    ∙ ap (λ x. with_item items place x again) two
    ∙ ap (with_item items place value) (comments_again inner false cs)

mutual
  value_again : (s : Style) (v : TomlValue) (indent : List ℕ) (room : Option ℕ)
      → settled_value s indent room (settled_value s indent room v) ≡ settled_value s indent room v
  value_again s (plain w) indent room = refl
  value_again s (moment d t) indent room = refl
  value_again s (quoted t) indent room = refl
  value_again s (array cs is b l) indent room =
      let inner = inner_indent s indent in
      let heads = settled_comments inner true cs in
      let d = array_breaks s room cs is in
      let items = settled_items s inner d cs is in
      ap (λ x. array (settled_comments inner true heads) (settled_items s inner x heads items) (has_items items && x)
      (closing_lead x indent))
      (breaks_again s indent room cs is)
      ∙ ap (λ x. array x (settled_items s inner d heads items) (has_items items && d) (closing_lead d indent))
      (comments_again inner true cs)
      ∙ ap (λ x. array heads (settled_items s inner d heads items) (x && d) (closing_lead d indent)) (items_kept s inner d cs is)
      ∙ ap (λ x. array heads x (has_items is && d) (closing_lead d indent)) (items_again s is inner d cs true)
  value_again s (table ms) indent room = ap table (members_again s ms indent)

  items_again : (s : Style) (is : ArrayItems) (inner : List ℕ) (b : Bool) (head : Comments) (f : Bool)
      → settled_items s inner b (settled_comments inner f head) (settled_items s inner b head is) ≡ settled_items s inner b head is
  items_again s no_items inner b head f = refl
  items_again s (with_item is l v cs) inner b head f =
      item_by s is l v cs inner b head f (items_again s is inner b head f) (value_again s v inner (item_room s b inner))

  members_again : (s : Style) (ms : TableMembers) (indent : List ℕ)
      → settled_members s indent (settled_members s indent ms) ≡ settled_members s indent ms
  members_again s no_members indent = refl
  members_again s (with_member ms k v) indent =
      let one = members_again s ms indent in
      let two = value_again s v indent None in
      cc

-- ---- statements

at_most : (b : Bool) (n : ℕ) → nat_lt 2 n ≡ b → cond (nat_lt 2 (cond b 2 n)) 2 (cond b 2 n) ≡ cond b 2 n
at_most true n e = refl
at_most false n e = ap (λ b. cond b 2 n) e

lines_again : (f : Bool) (n : ℕ) → blank_lines_kept f (blank_lines_kept f n) ≡ blank_lines_kept f n
lines_again true n = refl
lines_again false n = at_most (nat_lt 2 n) n refl

-- the blanks before `=` stay as before: they stay, or there is one
gap_stays : (b d : Bool) (g : List ℕ) → (b ≡ true → d ≡ true) → gap_if d (gap_if b g) ≡ gap_if b g
gap_stays true d g h = ap (λ x. gap_if x g) (h refl)
gap_stays false true g h = refl
gap_stays false false g h = refl

body_again : (s : Style) (indent : List ℕ) (b d : Bool) (x : Body) → (b ≡ true → d ≡ true)
    → settled_body s indent d (settled_body s indent b x) ≡ settled_body s indent b x
body_again s indent b d (note t) h = ap note (trimmed_twice t)
body_again s indent b d (header e k) h = refl
body_again s indent b d (pair k g v) h =
    ap (λ x. pair k x (settled_value s indent (pair_room s indent k x) (settled_value s indent (pair_room s indent k (gap_if b g)) v)))
    (gap_stays b d g h)
    ∙ ap (pair k (gap_if b g)) (value_again s v indent (pair_room s indent k (gap_if b g)))

remark_again : (r : Option Remark) → settled_remark (settled_remark r) ≡ settled_remark r
remark_again None = refl
remark_again (Some r) =
    ap (λ g. Some record { gap = g; text = trimmed (trimmed r.text) }) (gap_again r.gap)
    ∙ ap (λ t. Some record { gap = comment_gap r.gap; text = t }) (trimmed_twice r.text)

statement_again : (s : Style) (f b d : Bool) (t : Statement) → (b ≡ true → d ≡ true)
    → settled_statement s f d (settled_statement s f b t) ≡ settled_statement s f b t
statement_again s f b d t h =
    let body = settled_body s t.before.gap b t.body in
    let kept = blank_lines_kept f t.before.line_ends in
    ap (λ n. statement_of_parts (lead n t.before.gap) (settled_body s t.before.gap d body) (settled_remark (settled_remark t.remark)))
    (lines_again f t.before.line_ends)
    ∙ ap (λ x. statement_of_parts (lead kept t.before.gap) x (settled_remark (settled_remark t.remark)))
    (body_again s t.before.gap b d t.body h)
    ∙ ap (statement_of_parts (lead kept t.before.gap) body) (remark_again t.remark)

-- ---- `=` in one column

-- where the blanks stay, so does the column
equals_stay : (s : Style) (f b : Bool) (t : Statement) → b ≡ true
    → equals_column s (Some (settled_statement s f b t)) ≡ equals_column s (Some t)
equals_stay s f b t h = ap (λ x. equals_of s t.before.gap (settled_body s t.before.gap x t.body)) h ∙ by t.body
  where
    by : (x : Body) → equals_of s t.before.gap (settled_body s t.before.gap true x) ≡ equals_of s t.before.gap x
    by (note u) = refl
    by (header e k) = refl
    by (pair k [] v) = refl
    by (pair k (y ∷ g) v) = refl

or_left : (a b : Bool) → a ≡ true → (a || b) ≡ true
or_left a b h = ap (λ x. x || b) h

or_right : (a b : Bool) → b ≡ true → (a || b) ≡ true
or_right true b h = refl
or_right false b h = h

-- the statement before these, as it is laid out, has `=` where it had it, if `=` of the first of these is in the same column
abbrev StaysBefore : Style → Option Statement → Option Statement → List Statement → Type 0
StaysBefore s before laid ts =
    is_same_column (equals_column s before) (equals_column s (first_of ts)) ≡ true → equals_column s laid ≡ equals_column s before

-- so has the one after it
stays_after : (s : Style) (t : Statement) (ts : List Statement)
    → is_same_column (equals_column s (Some t)) (equals_column s (first_of ts)) ≡ true
    → equals_column s (first_of (settled_from s (Some t) ts)) ≡ equals_column s (first_of ts)
stays_after s t [] h = refl
stays_after s t (u ∷ ts) h = equals_stay s false (keeps_equals s (Some t) u (first_of ts)) u (or_left _ _ h)

from_again : (s : Style) (before laid : Option Statement) (ts : List Statement) → is_none laid ≡ is_none before
    → StaysBefore s before laid ts
    → settled_from s laid (settled_from s before ts) ≡ settled_from s before ts
from_again s before laid [] e h = refl
from_again s before laid (t ∷ ts) e h =
    let b = keeps_equals s before t (first_of ts) in
    let one = settled_statement s (is_none before) b t in
    let next = first_of (settled_from s (Some t) ts) in
    let same : b ≡ true → keeps_equals s laid one next ≡ true =
    (λ k. by k (equals_stay s (is_none before) b t k)) in
    ap (λ f. settled_statement s f (keeps_equals s laid one next) one ∷ settled_from s (Some one) (settled_from s (Some t) ts)) e
    ∙ ap (λ x. x ∷ settled_from s (Some one) (settled_from s (Some t) ts))
    (statement_again s (is_none before) b (keeps_equals s laid one next) t same)
    ∙ ap (λ xs. one ∷ xs) (from_again s (Some t) (Some one) ts refl
    (λ k. equals_stay s (is_none before) b t (or_right (is_same_column (equals_column s before) (equals_column s (Some t))) _ k)))
  where
    by : keeps_equals s before t (first_of ts) ≡ true
        → equals_column s (Some (settled_statement s (is_none before) (keeps_equals s before t (first_of ts)) t)) ≡ equals_column s (Some t)
        → keeps_equals s laid (settled_statement s (is_none before) (keeps_equals s before t (first_of ts)) t)
        (first_of (settled_from s (Some t) ts)) ≡ true
    by k is =
        elim (or_cases (is_same_column (equals_column s before) (equals_column s (Some t))) _ k) [
          | inl a ↦ or_left _ _
              (ap (λ c. is_same_column (equals_column s laid) c) is ∙ ap (λ c. is_same_column c (equals_column s (Some t))) (h a) ∙ a)
          | inr a ↦ or_right (is_same_column (equals_column s laid) _) _
              (ap (λ c. is_same_column c (equals_column s (first_of (settled_from s (Some t) ts)))) is
              ∙ ap (is_same_column (equals_column s (Some t))) (stays_after s t ts a) ∙ a)
        ]

pub settled_stay : SettledStay
settled_stay s ss = from_again s None None ss refl (λ k. refl)
