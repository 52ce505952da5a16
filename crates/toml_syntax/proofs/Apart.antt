-- In statements that are laid out, a line end comes after each comment.
use Rattle.std.proofs.Common.{◌≡◌, refl, sym, ℕ, zero, suc, ◌+◌, Bool, true, false, ◌&&◌, ◌||◌, List, [], ◌∷◌, Option, Some, None}
use Rattle.std.specs.Bool.{⊤}
use Rattle.std.proofs.lemmas.Bool.{or_parts}
use Rattle.toml_syntax.specs.Tree.{Lead, Comments, no_comments, with_comment, TomlValue, plain, moment, quoted, array, table}
use Rattle.toml_syntax.specs.Tree.{ArrayItems, no_items, with_item}
use Rattle.toml_syntax.specs.Tree.{TableMembers, no_members, with_member, Body, note, header, pair, Statement}
use Rattle.toml_syntax.specs.Settled.{Style, has_comments, has_items, is_broken, are_broken, begins_below, is_past, array_breaks}
use Rattle.toml_syntax.specs.Settled.{items_columns, own_line, comment_lead}
use Rattle.toml_syntax.specs.Settled.{settled_comments, is_first, item_lead, closing_lead, inner_indent, item_room, settled_value}
use Rattle.toml_syntax.specs.Settled.{settled_items, settled_members}
use Rattle.toml_syntax.specs.Settled.{pair_room, settled_body, settled_from, gap_if, first_of, keeps_equals}

-- line ends come next where comments come before
abbrev pub Follows : Comments → ℕ → Type 0
Follows no_comments n = ⊤
Follows (with_comment cs l s) zero = ⊥
Follows (with_comment cs l s) (suc n) = ⊤

-- a line end comes between comments
abbrev pub AreChained : Comments → Type 0
AreChained no_comments = ⊤
AreChained (with_comment cs l s) = AreChained cs × Follows cs l.line_ends

-- the comments after the last item, or those before the first one
abbrev pub last_comments : Comments → ArrayItems → Comments
last_comments head no_items = head
last_comments head (with_item is l v cs) = cs

abbrev mutual
  pub IsApart : TomlValue → Type 0
  IsApart (plain w) = ⊤
  IsApart (moment d t) = ⊤
  IsApart (quoted s) = ⊤
  IsApart (array cs is b l) = AreChained cs × AreApartItems cs is × Follows (last_comments cs is) l.line_ends
  IsApart (table ms) = AreApartMembers ms

  pub AreApartItems : Comments → ArrayItems → Type 0
  AreApartItems head no_items = ⊤
  AreApartItems head (with_item is l v cs) = AreApartItems head is × Follows (last_comments head is) l.line_ends × IsApart v × AreChained cs

  pub AreApartMembers : TableMembers → Type 0
  AreApartMembers no_members = ⊤
  AreApartMembers (with_member ms k v) = AreApartMembers ms × IsApart v

abbrev pub IsApartBody : Body → Type 0
IsApartBody (note s) = ⊤
IsApartBody (header b k) = ⊤
IsApartBody (pair k g v) = IsApart v

abbrev pub AreApart : List Statement → Type 0
AreApart [] = ⊤
AreApart (s ∷ ss) = IsApartBody s.body × AreApart ss

-- ---- laid out

follows_line : (cs : Comments) (n : ℕ) → Follows cs (suc n)
follows_line no_comments n = tt
follows_line (with_comment cs l s) n = tt

follows_own_line : (cs : Comments) (f : Bool) (n : ℕ) (g : List ℕ) → Follows cs (own_line f n g).line_ends
follows_own_line cs true n g = follows_line cs 0
follows_own_line cs false n g = follows_line cs _

follows_none : (cs : Comments) (n : ℕ) → has_comments cs ≡ false → Follows cs n
follows_none no_comments n h = tt
follows_none (with_comment cs l s) n h = absurd (cc)

comment_follows : (inner : List ℕ) (f : Bool) (cs : Comments) (l : Lead)
    → Follows (settled_comments inner f cs) (comment_lead inner f cs l).line_ends
comment_follows inner f no_comments l = tt
comment_follows inner f (with_comment cs k s) l = tt

chained : (inner : List ℕ) (f : Bool) (cs : Comments) → AreChained (settled_comments inner f cs)
chained inner f no_comments = tt
chained inner f (with_comment cs l s) = (chained inner f cs, comment_follows inner f cs l)

-- where an array is not broken, no comments are in it
abbrev IsClear : Bool → Comments → ArrayItems → Type 0
IsClear true head is = ⊤
IsClear false head is = (has_comments head ≡ false) × (are_broken is ≡ false)

clear_by : (b : Bool) (s : Style) (room : Option ℕ) (cs : Comments) (is : ArrayItems) → b ≡ array_breaks s room cs is → IsClear b cs is
clear_by true s room cs is e = tt
clear_by false s room cs is e =
    let parts = or_parts (has_comments cs || are_broken is) (has_items is && is_past room (2 + items_columns s is)) (sym e) in
    let more = or_parts (has_comments cs) (are_broken is) parts.0 in
    (λ j. more.0 j, λ j. more.1 j)

comments_clear : (inner : List ℕ) (f : Bool) (cs : Comments) → has_comments cs ≡ false → has_comments (settled_comments inner f cs) ≡ false
comments_clear inner f no_comments h = refl
comments_clear inner f (with_comment cs l s) h = absurd (cc)

-- what comes after items that are laid out
item_follows : (s : Style) (inner other : List ℕ) (b f : Bool) (head : Comments) (is : ArrayItems) (n : ℕ) → IsClear b head is
    → Follows (last_comments (settled_comments other true head) (settled_items s inner b head is)) (item_lead b f inner n).line_ends
item_follows s inner other true f head is n h = follows_own_line _ f n inner
item_follows s inner other false f head no_items n h = follows_none _ _ (comments_clear other true head h.0)
item_follows s inner other false f head (with_item is l v cs) n h =
    let one = or_parts (are_broken is) _ h.1 in
    let two = or_parts (begins_below is l.line_ends) _ one.1 in
    let three = or_parts (is_broken v) (has_comments cs) two.1 in
    follows_none _ _ (comments_clear inner false cs three.1)

closing_follows : (s : Style) (inner other indent : List ℕ) (b : Bool) (head : Comments) (is : ArrayItems) → IsClear b head is
    → Follows (last_comments (settled_comments other true head) (settled_items s inner b head is)) (closing_lead b indent).line_ends
closing_follows s inner other indent true head is h = follows_line _ 0
closing_follows s inner other indent false head no_items h = follows_none _ _ (comments_clear other true head h.0)
closing_follows s inner other indent false head (with_item is l v cs) h =
    let one = or_parts (are_broken is) _ h.1 in
    let two = or_parts (begins_below is l.line_ends) _ one.1 in
    let three = or_parts (is_broken v) (has_comments cs) two.1 in
    follows_none _ _ (comments_clear inner false cs three.1)

clear_front : (b : Bool) (head : Comments) (is : ArrayItems) (l : Lead) (v : TomlValue) (cs : Comments)
    → IsClear b head (with_item is l v cs) → IsClear b head is
clear_front true head is l v cs h = tt
clear_front false head is l v cs h = (h.0, (or_parts (are_broken is) _ h.1).0)

module _ (s : Style) where
  mutual
    value_apart : (v : TomlValue) (indent : List ℕ) (room : Option ℕ) → IsApart (settled_value s indent room v)
    value_apart (plain w) indent room = tt
    value_apart (moment d t) indent room = tt
    value_apart (quoted t) indent room = tt
    value_apart (array cs is b l) indent room =
        let inner = inner_indent s indent in
        let clear = clear_by (array_breaks s room cs is) s room cs is refl in (
          chained inner true cs,
          items_apart is inner (array_breaks s room cs is) cs clear,
          closing_follows s inner inner indent (array_breaks s room cs is) cs is clear,
        )
    value_apart (table ms) indent room = members_apart ms indent

    items_apart : (is : ArrayItems) (inner : List ℕ) (b : Bool) (head : Comments) → IsClear b head is
        → AreApartItems (settled_comments inner true head) (settled_items s inner b head is)
    items_apart no_items inner b head h = tt
    items_apart (with_item is l v cs) inner b head h =
        let front = clear_front b head is l v cs h in (
          items_apart is inner b head front,
          item_follows s inner inner b (is_first head is) head is l.line_ends front,
          value_apart v inner (item_room s b inner),
          chained inner false cs,
        )

    members_apart : (ms : TableMembers) (indent : List ℕ) → AreApartMembers (settled_members s indent ms)
    members_apart no_members indent = tt
    members_apart (with_member ms k v) indent = (members_apart ms indent, value_apart v indent None)

  body_apart : (indent : List ℕ) (d : Bool) (b : Body) → IsApartBody (settled_body s indent d b)
  body_apart indent d (note t) = tt
  body_apart indent d (header b k) = tt
  body_apart indent d (pair k g v) = value_apart v indent (pair_room s indent k (gap_if d g))

  pub from_apart : (before : Option Statement) (ts : List Statement) → AreApart (settled_from s before ts)
  from_apart before [] = tt
  from_apart before (t ∷ ts) = (body_apart t.before.gap (keeps_equals s before t (first_of ts)) t.body, from_apart (Some t) ts)
