-- Statements that may be spelled may be spelled when they are laid out.
use Rattle.std.proofs.Common.{◌≡◌, refl, sym, ◌∙◌, ap, ℕ, zero, suc, Bool, true, false, cond, not, ◌==◌, ◌&&◌, List, [], ◌∷◌, ◌++◌}
use Rattle.std.proofs.Common.{Option, Some, None, subst}
use Rattle.std.specs.List.{list_all}
use Rattle.std.proofs.lemmas.Bool.{eqb-true, true≢false, and_parts}
use Rattle.toml_lexemes.specs.Bytes.{is_blank}
use Rattle.toml_lexemes.specs.Spaced.{IsTomlGap}
use Rattle.toml_lexemes.specs.Statements.{before_trimmed, trimmed}
use Rattle.toml_lexemes.proofs.WholeLexemes.{trimmed_begins}
use Rattle.toml_grammar.specs.Bytes.{is_non_eol}
use Rattle.toml_grammar.specs.Comments.{is_comment}
use Rattle.toml_syntax.specs.TypedLexemes.{is_clear_gap}
use Rattle.toml_syntax.specs.Tree.{Lead, Comments, no_comments, with_comment, TomlValue, plain, moment, quoted, array, table}
use Rattle.toml_syntax.specs.Tree.{ArrayItems, no_items, with_item}
use Rattle.toml_syntax.specs.Tree.{TableMembers, no_members, with_member, Body, note, header, pair, Remark, Statement}
use Rattle.toml_syntax.specs.Reading.{last_comma}
use Rattle.toml_syntax.specs.Settled.{Style, has_items, array_breaks, own_line, comment_gap, first_comment, comment_lead}
use Rattle.toml_syntax.specs.Settled.{settled_comments, is_first, item_lead, closing_lead}
use Rattle.toml_syntax.specs.Settled.{inner_indent, item_room, settled_value, settled_items, settled_members, pair_room, settled_body}
use Rattle.toml_syntax.specs.Settled.{settled_remark}
use Rattle.toml_syntax.specs.Settled.{settled_statement, settled_from, gap_if, is_none, first_of, keeps_equals}
use Rattle.toml_syntax.specs.Formed.{IsClearGap, AreFormedComments, IsFormedValue, AreFormedArrayItems, AreFormedTableMembers}
use Rattle.toml_syntax.specs.Formed.{IsFormedBody, IsFormedRemark, IsFormedStatement, AreFormed}

-- ---- gaps

gap_both : (g h : List ℕ) → IsTomlGap g → IsTomlGap h → IsTomlGap (g ++ h)
gap_both [] h a b = b
gap_both (x ∷ g) h a b = (a.0, gap_both g h a.1 b)

clear_first : (x : ℕ) (h : List ℕ) → not (x == 13) ≡ true → is_clear_gap h false ≡ true → is_clear_gap (x ∷ h) false ≡ true
clear_first x [] a b = a
clear_first x (y ∷ h) a b = ap (λ p. p && is_clear_gap (y ∷ h) false) a ∙ b

clear_both : (g h : List ℕ) → is_clear_gap g false ≡ true → is_clear_gap h false ≡ true → is_clear_gap (g ++ h) false ≡ true
clear_both [] h a b = b
clear_both (x ∷ []) h a b = clear_first x h a b
clear_both (x ∷ (y ∷ g)) h a b =
    let parts = and_parts (not (x == 13)) (is_clear_gap (y ∷ g) false) a in
    clear_first x (y ∷ (g ++ h)) parts.0 (clear_both (y ∷ g) h parts.1 b)

pub gaps_joined : (g h : List ℕ) → IsClearGap g → IsClearGap h → IsClearGap (g ++ h)
gaps_joined g h a b = (gap_both g h a.0 b.0, clear_both g h a.1 b.1)

comment_gap_clear : (g : List ℕ) → IsClearGap g → IsClearGap (comment_gap g)
comment_gap_clear [] h = ((refl, tt), refl)
comment_gap_clear (x ∷ g) h = h

-- ---- comments

all_but_end : (x : ℕ) (t : List ℕ) → is_non_eol x ≡ true → list_all is_non_eol t ≡ true → list_all is_non_eol (before_trimmed x t) ≡ true
all_but_end x [] a b = by (is_blank x)
  where
    by : (p : Bool) → list_all is_non_eol (cond p [] (x ∷ [])) ≡ true
    by true = refl
    by false = ap (λ q. q && true) a
all_but_end x (y ∷ t) a b = ap (λ q. q && list_all is_non_eol (y ∷ t)) a ∙ b

all_trimmed : (s : List ℕ) → list_all is_non_eol s ≡ true → list_all is_non_eol (trimmed s) ≡ true
all_trimmed [] h = refl
all_trimmed (x ∷ s) h =
    let parts = and_parts (is_non_eol x) (list_all is_non_eol s) h in
    all_but_end x (trimmed s) parts.0 (all_trimmed s parts.1)

pub trimmed_comment : (s : List ℕ) → is_comment s ≡ true → is_comment (trimmed s) ≡ true
unfolding is_comment
trimmed_comment [] h = absurd (true≢false (sym h))
trimmed_comment (x ∷ s) h =
    let parts = and_parts (x == 35) (list_all is_non_eol (x ∷ s)) h in
    let rest = and_parts (is_non_eol x) (list_all is_non_eol s) parts.1 in
    subst (λ y. is_comment (trimmed (y ∷ s)) ≡ true) (sym (eqb-true x 35 parts.0)) (ap is_comment (trimmed_begins s) ∙ all_trimmed s rest.1)

own_line_clear : (f : Bool) (n : ℕ) (g : List ℕ) → IsClearGap g → IsClearGap (own_line f n g).gap
own_line_clear true n g h = h
own_line_clear false n g h = h

first_clear : (inner : List ℕ) (f : Bool) (n : ℕ) (g : List ℕ) → IsClearGap inner → IsClearGap g
    → IsClearGap (first_comment inner f n g).gap
first_clear inner f zero g h k = comment_gap_clear g k
first_clear inner f (suc n) g h k = own_line_clear f (suc n) inner h

comment_clear : (inner : List ℕ) (f : Bool) (cs : Comments) (l : Lead) → IsClearGap inner → IsClearGap l.gap
    → IsClearGap (comment_lead inner f cs l).gap
comment_clear inner f no_comments l h k = first_clear inner f l.line_ends l.gap h k
comment_clear inner f (with_comment cs m s) l h k = h

comments_formed : (inner : List ℕ) (f : Bool) (cs : Comments) → IsClearGap inner → AreFormedComments cs
    → AreFormedComments (settled_comments inner f cs)
comments_formed inner f no_comments c h = tt
comments_formed inner f (with_comment cs l s) c h =
    (comments_formed inner f cs c h.0, comment_clear inner f cs l c h.1, trimmed_comment s h.2)

-- ---- values

item_clear : (b f : Bool) (inner : List ℕ) (n : ℕ) → IsClearGap inner → IsClearGap (item_lead b f inner n).gap
item_clear true f inner n h = own_line_clear f n inner h
item_clear false true inner n h = (tt, refl)
item_clear false false inner n h = ((refl, tt), refl)

closing_clear : (b : Bool) (indent : List ℕ) → IsClearGap indent → IsClearGap (closing_lead b indent).gap
closing_clear true indent h = h
closing_clear false indent h = (tt, refl)

comma_settled : (s : Style) (inner : List ℕ) (b d : Bool) (head : Comments) (is : ArrayItems)
    → last_comma (settled_items s inner b head is) (has_items is && d) ≡ (has_items is && d)
comma_settled s inner b d head no_items = refl
comma_settled s inner b d head (with_item is l v cs) = refl

module _ (s : Style) (style : IsClearGap s.indent) where
  mutual
    value_formed : (v : TomlValue) (indent : List ℕ) (room : Option ℕ) → IsClearGap indent → IsFormedValue v
        → IsFormedValue (settled_value s indent room v)
    value_formed (plain w) indent room c h = h
    value_formed (moment d t) indent room c h = h
    value_formed (quoted t) indent room c h = h
    value_formed (array cs is b l) indent room c h =
        let inner = gaps_joined indent s.indent c style in (
          comments_formed (inner_indent s indent) true cs inner h.0,
          items_formed is (inner_indent s indent) (array_breaks s room cs is) cs inner h.1,
          comma_settled s (inner_indent s indent) (array_breaks s room cs is) (array_breaks s room cs is) cs is,
          closing_clear (array_breaks s room cs is) indent c,
        )
    value_formed (table ms) indent room c h = members_formed ms indent c h

    items_formed : (is : ArrayItems) (inner : List ℕ) (b : Bool) (head : Comments) → IsClearGap inner → AreFormedArrayItems is
        → AreFormedArrayItems (settled_items s inner b head is)
    items_formed no_items inner b head c h = tt
    items_formed (with_item is l v cs) inner b head c h = (
      items_formed is inner b head c h.0,
      item_clear b (is_first head is) inner l.line_ends c,
      value_formed v inner (item_room s b inner) c h.2,
      comments_formed inner false cs c h.3,
    )

    members_formed : (ms : TableMembers) (indent : List ℕ) → IsClearGap indent → AreFormedTableMembers ms
        → AreFormedTableMembers (settled_members s indent ms)
    members_formed no_members indent c h = tt
    members_formed (with_member ms k v) indent c h = (members_formed ms indent c h.0, h.1, value_formed v indent None c h.2)

  -- ---- statements

  gap_if_clear : (d : Bool) (g : List ℕ) → IsClearGap g → IsClearGap (gap_if d g)
  gap_if_clear true g h = h
  gap_if_clear false g h = ((refl, tt), refl)

  body_formed : (indent : List ℕ) (d : Bool) (b : Body) → IsClearGap indent → IsFormedBody b → IsFormedBody (settled_body s indent d b)
  body_formed indent d (note t) c h = trimmed_comment t h
  body_formed indent d (header b k) c h = h
  body_formed indent d (pair k g v) c h = (h.0, gap_if_clear d g h.1, value_formed v indent (pair_room s indent k (gap_if d g)) c h.2)

  remark_formed : (indent : List ℕ) (d : Bool) (b : Body) (r : Option Remark) → IsFormedRemark b r
      → IsFormedRemark (settled_body s indent d b) (settled_remark r)
  remark_formed indent d (note t) None h = tt
  remark_formed indent d (header b k) None h = tt
  remark_formed indent d (pair k g v) None h = tt
  remark_formed indent d (note t) (Some r) h = h
  remark_formed indent d (header b k) (Some r) h = (comment_gap_clear r.gap h.0, trimmed_comment r.text h.1)
  remark_formed indent d (pair k g v) (Some r) h = (comment_gap_clear r.gap h.0, trimmed_comment r.text h.1)

  statement_formed : (f d : Bool) (t : Statement) → IsFormedStatement t → IsFormedStatement (settled_statement s f d t)
  statement_formed f d t h = (h.0, body_formed t.before.gap d t.body h.0 h.1, remark_formed t.before.gap d t.body t.remark h.2)

  pub from_formed : (before : Option Statement) (ts : List Statement) → AreFormed ts → AreFormed (settled_from s before ts)
  from_formed before [] h = tt
  from_formed before (t ∷ ts) h =
      (statement_formed (is_none before) (keeps_equals s before t (first_of ts)) t h.0, from_formed (Some t) ts h.1)
