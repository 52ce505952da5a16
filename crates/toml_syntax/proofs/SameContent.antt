-- What is laid out says what it said.
use Rattle.std.proofs.Common.{◌≡◌, refl, ◌∙◌, ap, ℕ, Bool, true, false, List, [], ◌∷◌, map, Option, Some, None}
use Rattle.toml_lexemes.proofs.Trimmed.{trimmed_twice}
use Rattle.toml_syntax.specs.Tree.{Comments, no_comments, with_comment, TomlValue, plain, moment, quoted, array, table, ArrayItems}
use Rattle.toml_syntax.specs.Tree.{no_items, with_item}
use Rattle.toml_syntax.specs.Tree.{TableMembers, no_members, with_member, Body, note, header, pair, Remark, Statement, statement_of_parts}
use Rattle.toml_syntax.specs.Settled.{Style, array_breaks, inner_indent, item_room, settled_comments, settled_value, settled_items}
use Rattle.toml_syntax.specs.Settled.{settled_members, pair_room, settled_body}
use Rattle.toml_syntax.specs.Settled.{settled_remark, settled_statement, settled_from, gap_if, is_none, first_of, keeps_equals}
use Rattle.toml_syntax.specs.Content.{no_lead, said_comments, said_value, said_items, said_members, said_body, said_remark}
use Rattle.toml_syntax.specs.Content.{said_statement}
use Rattle.toml_syntax.specs.Laws.{SettledSayTheSame}

same_comments : (inner : List ℕ) (f : Bool) (cs : Comments) → said_comments (settled_comments inner f cs) ≡ said_comments cs
same_comments inner f no_comments = refl
same_comments inner f (with_comment cs l s) =
    let one = same_comments inner f cs in
    let two = trimmed_twice s in
    cc

mutual
  same_value : (s : Style) (v : TomlValue) (indent : List ℕ) (room : Option ℕ) → said_value (settled_value s indent room v) ≡ said_value v
  same_value s (plain w) indent room = refl
  same_value s (moment d t) indent room = refl
  same_value s (quoted t) indent room = refl
  same_value s (array cs is b l) indent room =
      let one = same_comments (inner_indent s indent) true cs in
      let two = same_items s is (inner_indent s indent) (array_breaks s room cs is) cs in
      cc
  same_value s (table ms) indent room = ap table (same_members s ms indent)

  same_items : (s : Style) (is : ArrayItems) (inner : List ℕ) (b : Bool) (head : Comments)
      → said_items (settled_items s inner b head is) ≡ said_items is
  same_items s no_items inner b head = refl
  same_items s (with_item is l v cs) inner b head =
      let one = same_items s is inner b head in
      let two = same_value s v inner (item_room s b inner) in
      let three = same_comments inner false cs in
      cc

  same_members : (s : Style) (ms : TableMembers) (indent : List ℕ) → said_members (settled_members s indent ms) ≡ said_members ms
  same_members s no_members indent = refl
  same_members s (with_member ms k v) indent =
      let one = same_members s ms indent in
      let two = same_value s v indent None in
      cc

same_body : (s : Style) (indent : List ℕ) (d : Bool) (b : Body) → said_body (settled_body s indent d b) ≡ said_body b
same_body s indent d (note t) = ap note (trimmed_twice t)
same_body s indent d (header b k) = refl
same_body s indent d (pair k g v) = ap (pair k []) (same_value s v indent (pair_room s indent k (gap_if d g)))

same_remark : (r : Option Remark) → said_remark (settled_remark r) ≡ said_remark r
same_remark None = refl
same_remark (Some r) = ap (λ t. Some record { gap = []; text = t }) (trimmed_twice r.text)

same_statement : (s : Style) (f d : Bool) (t : Statement) → said_statement (settled_statement s f d t) ≡ said_statement t
same_statement s f d t =
    ap (λ b. statement_of_parts no_lead b (said_remark (settled_remark t.remark))) (same_body s t.before.gap d t.body)
    ∙ ap (statement_of_parts no_lead (said_body t.body)) (same_remark t.remark)

same_from : (s : Style) (before : Option Statement) (ts : List Statement)
    → map said_statement (settled_from s before ts) ≡ map said_statement ts
same_from s before [] = refl
same_from s before (t ∷ ts) =
    ap (λ x. x ∷ map said_statement (settled_from s (Some t) ts))
    (same_statement s (is_none before) (keeps_equals s before t (first_of ts)) t)
    ∙ ap (λ xs. said_statement t ∷ xs) (same_from s (Some t) ts)

pub settled_say_the_same : SettledSayTheSame
settled_say_the_same s ss = same_from s None ss
