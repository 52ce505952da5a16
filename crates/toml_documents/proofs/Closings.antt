-- A closing bracket leads the document of what it closes to where it leads the grammar.
use Rattle.std.proofs.Common.{◌≡◌, refl, sym, ◌∙◌, ap, subst, ℕ, pos, Bool, true, false, cond, ◌-◌, ◌&&◌, List, [], ◌∷◌, ◌⊎◌, inl, inr}
use Rattle.std.proofs.Common.{length, take}
use Rattle.std.specs.Prelude.{⊤, Option, Some, None, Ok}
use Rattle.prettyless_trees.specs.Built.{append, nest}
use Rattle.prettyless_model.specs.Tree.{Nil, BreakOrFlat}
use Rattle.prettyless_trees.specs.Counted as counted
use Rattle.toml_lexemes.specs.Bytes as byte
use Rattle.toml_lexemes.specs.Bytes.{head, is_sign}
use Rattle.toml_lexemes.specs.Shown.{IsWholeLexeme}
use Rattle.toml_lexemes.specs.SpacedLexemes.{after_toml_gap}
use Rattle.toml_lexemes.proofs.WholeLexemes.{sign_is_whole}
use Rattle.toml_grammar.specs.Grammar.{Reading, array_end, after_value_comma, close_array_turn, close_table_turn, innermost, is_empty_gap}
use Rattle.toml_grammar.specs.Grammar.{lexeme_step, sort_turn, table_end, turned}
use Rattle.toml_grammar.specs.Sorts as sort
use Rattle.toml_grammar.specs.Sorts.{Sort, sort_of}
use Rattle.toml_grammar.specs.declared.next.Bracket.{Bracket}
use Rattle.toml_grammar.specs.declared.next.Bracket.TheVariants as bracket
use Rattle.toml_grammar.specs.declared.next.Next.{Next}
use Rattle.toml_grammar.specs.declared.next.Next.TheVariants as next
use Rattle.toml_grammar.specs.declared.next.Owner.TheVariants as owner
use Rattle.toml_documents.specs.Documents.{Commented, End, Level, after_comments, closed_end, comma_kept, comments_tree, end_after_comma}
use Rattle.toml_documents.specs.Documents.{ends_item, indent_in, is_array, is_some, level_end, list_tree, part_end, separated, trailed_end}
use Rattle.toml_documents.specs.Gaps.{gap_before_close, may_hold}
use Rattle.toml_documents.specs.declared.gaps.Gap.{Gap}
use Rattle.toml_documents.specs.declared.gaps.Gap.TheVariants as gap
use Rattle.toml_documents.specs.declared.kind.Kind.{Kind}
use Rattle.toml_documents.specs.declared.kind.Kind.TheVariants.{Header, Table, Array, Numbers}
use Rattle.toml_documents.specs.declared.kind.Last.{Last}
use Rattle.toml_documents.specs.declared.kind.Last.TheVariants as last
use Rattle.toml_documents.specs.declared.style.Style.{Style}
use Rattle.toml_documents.proofs.Leading.{GapLeads, Leads, Lined, leads_append, leads_broken, leads_either, leads_group, leads_more}
use Rattle.toml_documents.proofs.Leading.{leads_nest, leads_nil, leads_separated, leads_text}
use Rattle.toml_documents.proofs.Levels.{IsLevel, level_reaches}
use Rattle.toml_documents.proofs.Readings.{Context, Fits, FitsEnd, In, IsAfter, IsOf, IsOnLine, Ready, Within, array, clear_at, header}
use Rattle.toml_documents.proofs.Readings.{headers, in_fits, reading, sign_ends, stands, start, statement, step_at, table, touch_at}
use Rattle.toml_documents.proofs.Readings.{turn_at, value_is, where_ok}
use Rattle.toml_documents.proofs.Rows.{CommaTo, Covers, HasComma, HasComments, IsArrayNext, IsAt, Reaches, array_ended, array_line}
use Rattle.toml_documents.proofs.Rows.{array_next_covers, comma_ready, covers_both, ended, fits_comma, rest_reaches, value_covers}
use Rattle.toml_documents.proofs.Written.{BeginsAs, IsGapAt, Lex, MayEnd, MayTouch, Place, Touch, after, after_space, at_line, begins_as}
use Rattle.toml_documents.proofs.Written.{comment, lex_of, place, same_reading, sign, string, word}

-- after the bracket that closes the innermost one
abbrev pub closed : List Bracket → Reading
closed bs = reading (take (length bs - 1) bs) next.After

-- where the bracket leads that closes what is open
abbrev pub after_close : Context → List Bracket → Reading
after_close statement bs = reading bs next.After
after_close header bs = reading bs next.After
after_close headers bs = reading bs next.Closing
after_close table bs = closed bs
after_close array bs = closed bs

abbrev pub IsClose : Sort → Type 0
IsClose sort.close_array = ⊤
IsClose sort.close_table = ⊤
IsClose k = ⊥

-- a bracket may stand beside all but a comment
abbrev NoComment : Touch → Type 0
NoComment (after comment) = ⊥
NoComment u = ⊤

close_sign : (s : List ℕ) → IsWholeLexeme s → IsClose (sort_of s) → is_sign (head s) ≡ true
close_sign s whole h = by (sort_of s) h (begins_as s whole)
  where
    by : (k : Sort) → IsClose k → BeginsAs (lex_of k) s → is_sign (head s) ≡ true
    by sort.close_array h b = b
    by sort.close_table h b = b
    by k h b = absurd h

close_touch : (u : Touch) (n : Next) (s : List ℕ) → NoComment u → is_sign (head s) ≡ true → MayTouch u n s
close_touch at_line n s h e = tt
close_touch after_space n s h e = tt
close_touch (after sign) n s h e = tt
close_touch (after word) n s h e = inl (sign_ends (head s) e).0
close_touch (after string) n s h e = (sign_ends (head s) e).1
close_touch (after comment) n s h e = absurd h

-- ---- arrays

array_end_is : (bs : List Bracket) (n : Next) (b : Option Bracket) (t : Reading) → b ≡ Some bracket.Array → turned bs (array_end n b) ≡ Ok t
    → t ≡ closed bs
array_end_is bs n None t is e = absurd (cc)
array_end_is bs n (Some bracket.Array) t is e = sym (same_reading e)
array_end_is bs n (Some bracket.Table) t is e = absurd (cc)

no_table_end : (bs : List Bracket) (n : Next) (b : Option Bracket) (t : Reading) → b ≡ Some bracket.Array
    → turned bs (table_end n b) ≡ Ok t → ⊥
no_table_end bs n None t is e = cc
no_table_end bs n (Some bracket.Array) t is e = cc
no_table_end bs n (Some bracket.Table) t is e = cc

pub array_closes : (bs : List Bracket) (n : Next) (k : Sort) (g s : List ℕ) (t : Reading) → Within array bs → In array n → IsClose k
    → turned bs (sort_turn k n (innermost bs) g s) ≡ Ok t → IsArrayNext n × (k ≡ sort.close_array) × (t ≡ closed bs)
array_closes bs next.Member sort.close_array g s t w i h e = (tt, refl, sym (same_reading e))
array_closes bs next.After sort.close_array g s t w i h e = (tt, refl, array_end_is bs next.After (innermost bs) t w e)
array_closes bs next.AfterDate sort.close_array g s t w i h e = (tt, refl, array_end_is bs next.AfterDate (innermost bs) t w e)
array_closes bs next.Member sort.close_table g s t w i h e = absurd (cc)
array_closes bs next.After sort.close_table g s t w i h e = absurd (no_table_end bs next.After (innermost bs) t w e)
array_closes bs next.AfterDate sort.close_table g s t w i h e = absurd (no_table_end bs next.AfterDate (innermost bs) t w e)
array_closes bs n k g s t w i h e = absurd assumption

array_close : (bs : List Bracket) (m : Next) (g : List ℕ) → Within array bs → IsArrayNext m
    → turned bs (close_array_turn m (innermost bs) g) ≡ Ok (closed bs)
array_close bs next.Member g w h = refl
array_close bs next.After g w h = ap (λ (b : Option Bracket). turned bs (array_end next.After b)) w
array_close bs next.AfterDate g w h = ap (λ (b : Option Bracket). turned bs (array_end next.AfterDate b)) w
array_close bs m g w h = absurd h

comma_to_member : (bs : List Bracket) → Within array bs → CommaTo bs next.Member
comma_to_member bs w = ap (λ (b : Option Bracket). turned bs (after_value_comma next.After b)) w

array_value : (n : Next) → IsAfter n → IsArrayNext n
array_value next.After h = tt
array_value next.AfterDate h = tt
array_value n h = absurd h

item_ends : (l : Last) (n : Next) → FitsEnd array l n → ends_item l ≡ true → IsOnLine l × IsAfter n
item_ends last.Close n f e = (tt, value_is last.Close n f)
item_ends last.Word n f e = (tt, value_is last.Word n f)
item_ends last.Dot n f e = (tt, value_is last.Dot n f)
item_ends last.String n f e = (tt, value_is last.String n f)
item_ends last.Equals n f e = absurd f
item_ends l n f e = absurd (cc)

-- the comma of the last entry stands in front of comments alone
kept_cases : (kind : Kind) → IsOf array kind → (l : Last) (p : Next) → Fits array l p → (comma commented : Bool)
    → ((comma_kept kind l comma commented ≡ false) × (p ≡ next.Member)) ⊎ ((comma_kept kind l comma commented ≡ commented) × IsAfter p)
kept_cases Array of last.Start p f comma commented = inl (refl, f)
kept_cases Array of last.Close p f comma commented = inr (refl, value_is last.Close p f)
kept_cases Array of last.Word p f comma commented = inr (refl, value_is last.Word p f)
kept_cases Array of last.Dot p f comma commented = inr (refl, value_is last.Dot p f)
kept_cases Array of last.String p f comma commented = inr (refl, value_is last.String p f)
kept_cases Numbers of last.Start p f comma commented = inl (refl, f)
kept_cases Numbers of last.Close p f comma commented = inr (refl, value_is last.Close p f)
kept_cases Numbers of last.Word p f comma commented = inr (refl, value_is last.Word p f)
kept_cases Numbers of last.Dot p f comma commented = inr (refl, value_is last.Dot p f)
kept_cases Numbers of last.String p f comma commented = inr (refl, value_is last.String p f)
kept_cases kind of l p f comma commented = absurd assumption

module _ (bs : List Bracket) (w : Within array bs) (s : List ℕ) (whole : IsWholeLexeme s) (is : sort_of s ≡ sort.close_array) where
  signed : is_sign (head s) ≡ true
  signed = close_sign s whole (subst IsClose (sym is) tt)

  array_ready : (u : Touch) (m : Next) → NoComment u → IsArrayNext m → Ready s (closed bs) (place u (reading bs m))
  array_ready u m apart h = (
    close_touch u m s apart signed,
    λ g e. step_at (reading bs m) (closed bs) g s sort.close_array is (clear_at u g e) (array_close bs m g w h),
  )

  array_lined : (u : Touch) (m : Next) → MayEnd u → IsArrayNext m → Lined (place u (reading bs m)) (Ready s (closed bs))
  array_lined u m may h = (reading bs (ended m), may, array_line bs m w h, array_ready at_line (ended m) tt (array_ended m h))

  array_edge : (u : Touch) (m : Next) → MayEnd u → NoComment u → IsArrayNext m
      → Lined (place u (reading bs m)) (Ready s (closed bs)) × Ready s (closed bs) (place u (reading bs m))
  array_edge u m may apart h = (array_lined u m may h, array_ready u m apart h)

  -- before the bracket, after what may stand at the end of an array
  array_gap : (kind : Kind) → IsOf array kind → (l : Last) (n m : Next) → FitsEnd array l n → IsArrayNext m
      → GapLeads (gap_before_close kind l) (place (touch_at array l) (reading bs m)) (Ready s (closed bs))
  array_gap Array of last.Start n m f h = array_ready (after sign) m tt h
  array_gap Array of last.Comment n m f h = array_lined (after comment) m tt h
  array_gap Array of last.Close n m f h = array_edge (after sign) m tt tt h
  array_gap Array of last.Word n m f h = array_edge (after word) m tt tt h
  array_gap Array of last.Dot n m f h = array_edge (after word) m tt tt h
  array_gap Array of last.String n m f h = array_edge (after string) m tt tt h
  array_gap Array of last.Comma n m f h = array_edge (after sign) m tt tt h
  array_gap Array of last.Equals n m f h = absurd f
  array_gap Numbers of last.Start n m f h = array_ready (after sign) m tt h
  array_gap Numbers of last.Comment n m f h = array_lined (after comment) m tt h
  array_gap Numbers of last.Close n m f h = array_edge (after sign) m tt tt h
  array_gap Numbers of last.Word n m f h = array_edge (after word) m tt tt h
  array_gap Numbers of last.Dot n m f h = array_edge (after word) m tt tt h
  array_gap Numbers of last.String n m f h = array_edge (after string) m tt tt h
  array_gap Numbers of last.Comma n m f h = array_edge (after sign) m tt tt h
  array_gap Numbers of last.Equals n m f h = absurd f
  array_gap kind of l n m f h = absurd of

  -- after a comma as after the item before it
  comma_gap : (kind : Kind) → IsOf array kind → (l : Last) → IsOnLine l
      → GapLeads (gap_before_close kind l) (place (after sign) (reading bs next.Member)) (Ready s (closed bs))
  comma_gap Array of last.Close on = array_edge (after sign) next.Member tt tt tt
  comma_gap Array of last.Word on = array_edge (after sign) next.Member tt tt tt
  comma_gap Array of last.Dot on = array_edge (after sign) next.Member tt tt tt
  comma_gap Array of last.String on = array_edge (after sign) next.Member tt tt tt
  comma_gap Numbers of last.Close on = array_edge (after sign) next.Member tt tt tt
  comma_gap Numbers of last.Word on = array_edge (after sign) next.Member tt tt tt
  comma_gap Numbers of last.Dot on = array_edge (after sign) next.Member tt tt tt
  comma_gap Numbers of last.String on = array_edge (after sign) next.Member tt tt tt
  comma_gap kind of l on = absurd assumption

  module _ (a : Place) (kind : Kind) (of : IsOf array kind) where
    abbrev Closes : Last → Place → Type 0
    Closes l b = GapLeads (gap_before_close kind l) b (Ready s (closed bs))

    plain_closes : (e : End) (n : Next) → IsArrayNext n → Reaches array a e bs n → Leads a e.tree (Closes e.last)
    plain_closes e n h r =
        leads_more a e.tree (IsAt (touch_at array e.last) bs n) (Closes e.last) r.leads
        (λ b (m, covers, at). subst (Closes e.last) (sym at) (array_gap kind of e.last n m r.fits (array_next_covers m n covers h)))

    -- with a comma where lines are broken
    trailing : (comma : Bool) (e : End) (n : Next) → IsArrayNext n → IsAfter n → IsOnLine e.last → Reaches array a e bs n
        → Leads a (trailed_end true comma e).tree (Closes e.last)
    trailing comma e n h value on r =
        let optional = BreakOrFlat (counted.text (byte.comma ∷ [])) Nil in
        leads_broken comma a (append e.tree optional) (Closes e.last)
        (leads_append a e.tree optional (IsAt (touch_at array e.last) bs n) (Closes e.last) r.leads
        (λ b (m, covers, at). leads_either b (counted.text (byte.comma ∷ [])) Nil (Closes e.last)
        (leads_text b (place (after sign) (reading bs next.Member)) (44 ∷ []) (Closes e.last)
        (stands (44 ∷ []) (reading bs next.Member) b (sign_is_whole 44 refl)
        (subst (Ready (44 ∷ []) (reading bs next.Member)) (sym at)
        (comma_ready array e.last bs m next.Member on (value_covers m n covers value) (comma_to_member bs w))))
        (comma_gap kind of e.last on))
        (leads_nil b (Closes e.last) (subst (Closes e.last) (sym at) (array_gap kind of e.last n m r.fits (array_next_covers m n covers h))))))

    of_array : is_array kind ≡ true
    of_array = by kind of
      where
        by : (k : Kind) → IsOf array k → is_array k ≡ true
        by Array of = refl
        by Numbers of = refl
        by k of = absurd of

    by_item : (item comma : Bool) (e : End) (n : Next) → IsArrayNext n → Reaches array a e bs n
        → (item ≡ true → IsOnLine e.last × IsAfter n)
        → Leads a (trailed_end item comma e).tree (Closes (trailed_end item comma e).last)
    by_item true comma e n h r item = let so = item refl in trailing comma e n h so.1 so.0 r
    by_item false comma e n h r item = plain_closes e n h r

    trailed_closes : (comma : Bool) (e : End) (n : Next) → IsArrayNext n → Reaches array a e bs n
        → Leads a (trailed_end (is_array kind && ends_item e.last) comma e).tree
        (Closes (trailed_end (is_array kind && ends_item e.last) comma e).last)
    trailed_closes comma e n h r =
        subst (λ (b : Bool). Leads a (trailed_end (b && ends_item e.last) comma e).tree
        (Closes (trailed_end (b && ends_item e.last) comma e).last))
        (sym of_array) (by_item (ends_item e.last) comma e n h r (item_ends e.last n r.fits))

    abbrev Ending : Bool → End → List Commented → Type 0
    Ending kept e rs =
        (m : Next) × IsArrayNext m × Reaches array a
        (after_comments (is_some rs) (comments_tree kind e.last rs) (end_after_comma kept e)) bs m

    no_comma_at_start : (comma : Bool) (p q : Next) → HasComma comma bs p q → p ≡ next.Member → q ≡ p
    no_comma_at_start false p q has e = has
    no_comma_at_start true p q has e = absurd (subst IsAfter e has.0)

    after_item : (e : End) (p q n : Next) → IsAfter p → Leads a e.tree (IsAt (touch_at array e.last) bs p) → Fits array e.last p
        → (rs : List Commented) → HasComments array rs q n → Ending (is_some rs) e rs
    after_item e p q n value leads fits [] comments =
        (p, array_value p value, rest_reaches array a kind of e bs p p p w leads fits false refl [] (inl refl))
    after_item e p q n value leads fits (r ∷ rs) comments = (
      next.Member,
      tt,
      rest_reaches array a kind of e bs p next.Member next.Member w leads fits true (value, comma_to_member bs w) (r ∷ rs)
          (refl, tt, tt, comments.3),
    )

    -- the comma and the comments of the last entry
    kept_reaches : (e : End) (p q n : Next) → IsArrayNext n → Leads a e.tree (IsAt (touch_at array e.last) bs p) → Fits array e.last p
        → (comma : Bool) → HasComma comma bs p q → (rs : List Commented) → HasComments array rs q n
        → Ending (comma_kept kind e.last comma (is_some rs)) e rs
    kept_reaches e p q n h leads fits comma has rs comments = by (kept_cases kind of e.last p fits comma (is_some rs))
      where
        by : ((comma_kept kind e.last comma (is_some rs) ≡ false) × (p ≡ next.Member))
            ⊎ ((comma_kept kind e.last comma (is_some rs) ≡ is_some rs) × IsAfter p) → Ending
            (comma_kept kind e.last comma (is_some rs)) e rs
        by (inl (none, start)) =
            subst (λ (kept : Bool). Ending kept e rs) (sym none)
            (n, h, rest_reaches array a kind of e bs p q n w leads fits false (no_comma_at_start comma p q has start) rs comments)
        by (inr (some, value)) = subst (λ (kept : Bool). Ending kept e rs) (sym some) (after_item e p q n value leads fits rs comments)

  array_closed : (a : Place) (lv : Level) (n : Next) → IsArrayNext n → IsLevel array a lv bs n
      → Leads a (closed_end lv).tree (λ b. GapLeads (gap_before_close lv.kind (closed_end lv).last) b (Ready s (closed bs)))
  array_closed a lv n h level =
      let kept = kept_reaches a lv.kind level.kind (part_end lv) level.p level.q n h level.part level.fits lv.entry.comma level.comma
      lv.entry.comments level.comments in
      let kind = lv.kind in
      let rs = lv.entry.comments in
      let e = after_comments (is_some rs) (comments_tree kind (part_end lv).last rs)
      (end_after_comma (comma_kept kind (part_end lv).last lv.entry.comma (is_some rs)) (part_end lv)) in
      trailed_closes a kind level.kind lv.entry.comma e kept.0 kept.1 kept.2

-- ---- headers and inline tables

-- what is open where neither line ends nor comments come
abbrev IsPlain : Context → Type 0
IsPlain header = ⊤
IsPlain headers = ⊤
IsPlain table = ⊤
IsPlain c = ⊥

cond_same : {A : Type 0} (b : Bool) (x : A) → cond b x x ≡ x
cond_same true x = refl
cond_same false x = refl

closed_plain : (c : Context) (kind : Kind) → IsPlain c → IsOf c kind → (e : End) (comma : Bool) (rs : List Commented) → comma ≡ false
    → rs ≡ []
    → (let kept = comma_kept kind e.last comma (is_some rs) in
    let f = after_comments (is_some rs) (comments_tree kind e.last rs) (end_after_comma kept e) in
    trailed_end (is_array kind && ends_item f.last) comma f) ≡ e
closed_plain c Header plain of e false [] no_comma none = ap (λ (b : Bool). end_after_comma b e) (cond_same (may_hold e.last) false)
closed_plain c Table plain of e false [] no_comma none = ap (λ (b : Bool). end_after_comma b e) (cond_same (may_hold e.last) false)
closed_plain c kind plain of e true rs no_comma none = absurd (cc)
closed_plain c kind plain of e comma (r ∷ rs) no_comma none = absurd (cc)
closed_plain header kind plain of e false [] no_comma none = absurd of
closed_plain headers kind plain of e false [] no_comma none = absurd of
closed_plain table kind plain of e false [] no_comma none = absurd of
closed_plain c kind plain of e false [] no_comma none = absurd plain

key_stays : (q n : Next) → q ≡ next.Key owner.Value true → Covers q n → n ≡ next.Key owner.Value true
key_stays q n e (inl k) = sym k ∙ e
key_stays q n e (inr (d, a)) = let clash : next.Key owner.Value true ≡ next.AfterDate = sym e ∙ d in absurd (cc)

-- the last entry has neither a comma nor comments
plain_entry : (c : Context) → IsPlain c → (bs : List Bracket) (p q n : Next) (comma : Bool) (rs : List Commented) → Within c bs
    → HasComma comma bs p q → HasComments c rs q n → (n ≡ next.Key owner.Value true → ⊥)
    → (comma ≡ false) × (rs ≡ []) × Covers p n
plain_entry header plain bs p q n comma (r ∷ rs) w has h due = absurd h.1
plain_entry headers plain bs p q n comma (r ∷ rs) w has h due = absurd h.1
plain_entry table plain bs p q n comma (r ∷ rs) w has h due = absurd h.1
plain_entry c plain bs p q n false [] w has h due = (refl, refl, subst (λ (m : Next). Covers m n) has h)
plain_entry table plain bs p q n true [] w has h due = absurd (due (key_stays q n (fits_comma table bs q w has.1) h))
plain_entry header plain bs p q n true [] w has h due = absurd (fits_comma header bs q w has.1)
plain_entry headers plain bs p q n true [] w has h due = absurd (fits_comma headers bs q w has.1)
plain_entry c plain bs p q n comma rs w has h due = absurd plain

-- ---- inline tables

-- where an inline table may end
abbrev IsTableEnd : Next → Type 0
IsTableEnd next.Entry = ⊤
IsTableEnd next.After = ⊤
IsTableEnd next.AfterDate = ⊤
IsTableEnd n = ⊥

table_end_is : (bs : List Bracket) (n : Next) (b : Option Bracket) (t : Reading) → b ≡ Some bracket.Table → turned bs (table_end n b) ≡ Ok t
    → t ≡ closed bs
table_end_is bs n None t is e = absurd (cc)
table_end_is bs n (Some bracket.Table) t is e = sym (same_reading e)
table_end_is bs n (Some bracket.Array) t is e = absurd (cc)

no_array_end : (bs : List Bracket) (n : Next) (b : Option Bracket) (t : Reading) → b ≡ Some bracket.Table
    → turned bs (array_end n b) ≡ Ok t → ⊥
no_array_end bs n None t is e = cc
no_array_end bs n (Some bracket.Array) t is e = cc
no_array_end bs n (Some bracket.Table) t is e = cc

table_closes : (bs : List Bracket) (n : Next) (k : Sort) (g s : List ℕ) (t : Reading) → Within table bs → In table n → IsClose k
    → turned bs (sort_turn k n (innermost bs) g s) ≡ Ok t → IsTableEnd n × (k ≡ sort.close_table) × (t ≡ closed bs)
table_closes bs next.Entry sort.close_table g s t w i h e = (tt, refl, sym (same_reading e))
table_closes bs next.After sort.close_table g s t w i h e = (tt, refl, table_end_is bs next.After (innermost bs) t w e)
table_closes bs next.AfterDate sort.close_table g s t w i h e = (tt, refl, table_end_is bs next.AfterDate (innermost bs) t w e)
table_closes bs next.Entry sort.close_array g s t w i h e = absurd (cc)
table_closes bs next.After sort.close_array g s t w i h e = absurd (no_array_end bs next.After (innermost bs) t w e)
table_closes bs next.AfterDate sort.close_array g s t w i h e = absurd (no_array_end bs next.AfterDate (innermost bs) t w e)
table_closes bs (next.Key owner.Value d) sort.close_array g s t w i h e = key_stops d e
  where
    key_stops : (d : Bool) → turned bs (close_array_turn (next.Key owner.Value d) (innermost bs) g) ≡ Ok t
        → IsTableEnd (next.Key owner.Value d) × (sort.close_array ≡ sort.close_table) × (t ≡ closed bs)
    key_stops true e = absurd (cc)
    key_stops false e = absurd (cc)
table_closes bs (next.Key owner.Value d) sort.close_table g s t w i h e = absurd (cc)
table_closes bs next.Value sort.close_array g s t w i h e = absurd (cc)
table_closes bs next.Value sort.close_table g s t w i h e = absurd (cc)
table_closes bs n k g s t w i h e = absurd assumption

table_close : (bs : List Bracket) (m : Next) → Within table bs → IsTableEnd m
    → turned bs (close_table_turn m (innermost bs)) ≡ Ok (closed bs)
table_close bs next.Entry w h = refl
table_close bs next.After w h = ap (λ (b : Option Bracket). turned bs (table_end next.After b)) w
table_close bs next.AfterDate w h = ap (λ (b : Option Bracket). turned bs (table_end next.AfterDate b)) w
table_close bs m w h = absurd h

table_covered : (m n : Next) → Covers m n → IsTableEnd n → IsTableEnd m
table_covered m n (inl e) h = subst IsTableEnd (sym e) h
table_covered m n (inr (d, a)) h = subst IsTableEnd (sym d) tt

module _ (bs : List Bracket) (w : Within table bs) (s : List ℕ) (whole : IsWholeLexeme s) (is : sort_of s ≡ sort.close_table) where
  table_ready : (u : Touch) (m : Next) → NoComment u → IsTableEnd m → Ready s (closed bs) (place u (reading bs m))
  table_ready u m apart h = (
    close_touch u m s apart (close_sign s whole (subst IsClose (sym is) tt)),
    λ g e. step_at (reading bs m) (closed bs) g s sort.close_table is (clear_at u g e) (table_close bs m w h),
  )

  table_gap : (l : Last) (p m : Next) → Fits table l p → IsTableEnd m
      → GapLeads (gap_before_close Table l) (place (touch_at table l) (reading bs m)) (Ready s (closed bs))
  table_gap last.Start p m f h = table_ready (after sign) m tt h
  table_gap last.Close p m f h = (tt, table_ready after_space m tt h)
  table_gap last.Word p m f h = (tt, table_ready after_space m tt h)
  table_gap last.Dot p m f h = (tt, table_ready after_space m tt h)
  table_gap last.String p m f h = (tt, table_ready after_space m tt h)
  table_gap last.Equals p m f h = (tt, table_ready after_space m tt h)
  table_gap last.Comma p m (inl f) h = absurd f
  table_gap last.Comma p m (inr f) h = absurd f
  table_gap last.Comment p m (inl f) h = absurd f
  table_gap last.Comment p m (inr f) h = absurd f

  table_leads : (a : Place) (e : End) (p n : Next) → Leads a e.tree (IsAt (touch_at table e.last) bs p) → Fits table e.last p → Covers p n
      → IsTableEnd n → Leads a e.tree (λ b. GapLeads (gap_before_close Table e.last) b (Ready s (closed bs)))
  table_leads a e p n leads f covers h =
      leads_more a e.tree (IsAt (touch_at table e.last) bs p) (λ b. GapLeads (gap_before_close Table e.last) b (Ready s (closed bs))) leads
      (λ b (m, k, at). subst (λ (x : Place). GapLeads (gap_before_close Table e.last) x (Ready s (closed bs))) (sym at)
      (table_gap e.last p m f (table_covered m n (covers_both m p n k covers) h)))

-- ---- headers

abbrev IsHeaders : Context → Type 0
IsHeaders header = ⊤
IsHeaders headers = ⊤
IsHeaders c = ⊥

-- whatever is in the gap; nothing is where it is seen
header_closes : (c : Context) → IsHeaders c → (bs : List Bracket) (n : Next) (k : Sort) (g s : List ℕ) (t : Reading) → In c n → IsClose k
    → turned bs (sort_turn k n (innermost bs) g s) ≡ Ok t
    → (k ≡ sort.close_array) × (t ≡ after_close c bs) × (turned bs (close_array_turn n (innermost bs) []) ≡ Ok t) × (IsAfter n → ⊥)
header_closes header c bs (next.Key owner.Table true) sort.close_array g s t i h e = absurd (cc)
header_closes header c bs (next.Key owner.Table false) sort.close_array g s t i h e = (refl, sym (same_reading e), e, λ x. x)
header_closes header c bs next.Closing sort.close_array g s t i h e =
    let so = where_ok (is_empty_gap g) next.After _ bs t e in (refl, so.1, ap (λ (r : Reading). Ok r) (sym so.1), λ x. x)
header_closes headers c bs (next.Key owner.Tables true) sort.close_array g s t i h e = absurd (cc)
header_closes headers c bs (next.Key owner.Tables false) sort.close_array g s t i h e = (refl, sym (same_reading e), e, λ x. x)
header_closes header c bs next.Header sort.close_array g s t i h e = absurd (cc)
header_closes header c bs next.Header sort.close_table g s t i h e = absurd (cc)
header_closes header c bs (next.Key owner.Table d) sort.close_table g s t i h e = absurd (cc)
header_closes header c bs next.Closing sort.close_table g s t i h e = absurd (cc)
header_closes headers c bs (next.Key owner.Tables d) sort.close_table g s t i h e = absurd (cc)
header_closes header c bs n k g s t i h e = absurd assumption
header_closes headers c bs n k g s t i h e = absurd assumption
header_closes x c bs n k g s t i h e = absurd c

-- what covers a reading at which a header ends is it
header_covered : (m n : Next) → Covers m n → (IsAfter n → ⊥) → m ≡ n
header_covered m n (inl e) h = e
header_covered m n (inr (d, a)) h = absurd (h (subst IsAfter (sym a) tt))

header_touch : (c : Context) → IsHeaders c → (l : Last) (p : Next) → Fits c l p
    → NoComment (touch_at c l) × ((g : List ℕ) → IsGapAt (touch_at c l) g → g ≡ []) × (gap_before_close Header l ≡ gap.Nothing)
header_touch header h last.Start p f = (tt, λ g e. e, refl)
header_touch header h last.Close p f = (tt, λ g e. e, refl)
header_touch header h last.Word p f = (tt, λ g e. e, refl)
header_touch header h last.Dot p f = (tt, λ g e. e, refl)
header_touch header h last.String p f = (tt, λ g e. e, refl)
header_touch headers h last.Start p f = (tt, λ g e. e, refl)
header_touch headers h last.Word p f = (tt, λ g e. e, refl)
header_touch headers h last.Dot p f = (tt, λ g e. e, refl)
header_touch headers h last.String p f = (tt, λ g e. e, refl)
header_touch c h l p f = absurd assumption

module _ (c : Context) (headed : IsHeaders c) (bs : List Bracket) (s : List ℕ) (t : Reading) (whole : IsWholeLexeme s)
    (is : sort_of s ≡ sort.close_array) (n : Next) (turn : turned bs (close_array_turn n (innermost bs) []) ≡ Ok t)
    (no_value : IsAfter n → ⊥) where
  header_ready : (l : Last) (p m : Next) → Fits c l p → Covers m n → Ready s t (place (touch_at c l) (reading bs m))
  header_ready l p m f covers =
      let touch = header_touch c headed l p f in (
        close_touch (touch_at c l) m s touch.0 (close_sign s whole (subst IsClose (sym is) tt)),
        λ g e. subst (λ (q : Next). lexeme_step (reading bs q) (after_toml_gap g s) ≡ Ok t) (sym (header_covered m n covers no_value))
            (subst (λ (h : List ℕ). lexeme_step (reading bs n) (after_toml_gap h s) ≡ Ok t) (sym (touch.1 g e))
            (step_at (reading bs n) t [] s sort.close_array is refl turn)),
      )

  header_leads : (a : Place) (e : End) (p : Next) → Leads a e.tree (IsAt (touch_at c e.last) bs p) → Fits c e.last p → Covers p n
      → Leads a e.tree (λ b. GapLeads (gap_before_close Header e.last) b (Ready s t))
  header_leads a e p leads f covers =
      leads_more a e.tree (IsAt (touch_at c e.last) bs p) (λ b. GapLeads (gap_before_close Header e.last) b (Ready s t)) leads
      (λ b (m, k, at). subst (λ (g : Gap). GapLeads g b (Ready s t)) (sym (header_touch c headed e.last p f).2)
      (subst (Ready s t) (sym at) (header_ready e.last p m f (covers_both m p n k covers))))

-- ---- all of them

of_table : (k : Kind) → IsOf table k → k ≡ Table
of_table Table h = refl
of_table k h = absurd h

of_headers : (c : Context) → IsHeaders c → (k : Kind) → IsOf c k → k ≡ Header
of_headers header c Header h = refl
of_headers headers c Header h = refl
of_headers header c k h = absurd h
of_headers headers c k h = absurd h
of_headers x c k h = absurd c

due_stops : (c : Context) (bs : List Bracket) (n : Next) (k : Sort) (g s : List ℕ) (t : Reading) → IsClose k
    → turned bs (sort_turn k n (innermost bs) g s) ≡ Ok t → n ≡ next.Key owner.Value true → ⊥
due_stops c bs n sort.close_array g s t h e is =
    let stop = subst (λ (m : Next). turned bs (close_array_turn m (innermost bs) g) ≡ Ok t) is e in cc
due_stops c bs n sort.close_table g s t h e is =
    let stop = subst (λ (m : Next). turned bs (close_table_turn m (innermost bs)) ≡ Ok t) is e in cc
due_stops c bs n k g s t h e is = h

-- what is closed leads to its bracket, after the gap that is there
pub level_closes : (c : Context) → (c ≡ statement → ⊥)
    → (a : Place) (lv : Level) (bs : List Bracket) (n : Next) (s g : List ℕ) (t : Reading)
    → IsLevel c a lv bs n → IsWholeLexeme s → IsClose (sort_of s) → lexeme_step (reading bs n) (after_toml_gap g s) ≡ Ok t
    → (t ≡ after_close c bs) × Leads a (closed_end lv).tree (λ b. GapLeads (gap_before_close lv.kind (closed_end lv).last) b (Ready s t))
level_closes statement nested a lv bs n s g t h whole close step = absurd (nested refl)
level_closes array nested a lv bs n s g t h whole close step =
    let i = in_fits array (level_end lv).last n (level_reaches array a lv bs n h).fits in
    let to = array_closes bs n (sort_of s) g s t h.within i close (turn_at (reading bs n) t g s (sort_of s) refl step) in (
      to.2,
      subst (λ (r : Reading). Leads a (closed_end lv).tree (λ b. GapLeads (gap_before_close lv.kind (closed_end lv).last) b (Ready s r)))
          (sym to.2) (array_closed bs h.within s whole to.1 a lv n to.0 h),
    )
level_closes table nested a lv bs n s g t h whole close step =
    let i = in_fits table (level_end lv).last n (level_reaches table a lv bs n h).fits in
    let turn = turn_at (reading bs n) t g s (sort_of s) refl step in
    let to = table_closes bs n (sort_of s) g s t h.within i close turn in
    let entry = plain_entry table tt bs h.p h.q n lv.entry.comma lv.entry.comments h.within h.comma h.comments
    (due_stops table bs n (sort_of s) g s t close turn) in
    let same : closed_end lv ≡ part_end lv =
    closed_plain table lv.kind tt h.kind (part_end lv) lv.entry.comma lv.entry.comments entry.0 entry.1 in (
      to.2,
      subst (λ (r : Reading). Leads a (closed_end lv).tree (λ b. GapLeads (gap_before_close lv.kind (closed_end lv).last) b (Ready s r)))
          (sym to.2)
          (subst (λ (e : End). Leads a e.tree (λ b. GapLeads (gap_before_close lv.kind e.last) b (Ready s (closed bs)))) (sym same)
          (subst (λ (k : Kind). Leads a (part_end lv).tree (λ b. GapLeads (gap_before_close k (part_end lv).last) b (Ready s (closed bs))))
          (sym (of_table lv.kind h.kind))
          (table_leads bs h.within s whole to.1 a (part_end lv) h.p n h.part h.fits entry.2 to.0))),
    )
level_closes header nested a lv bs n s g t h whole close step =
    let i = in_fits header (level_end lv).last n (level_reaches header a lv bs n h).fits in
    let turn = turn_at (reading bs n) t g s (sort_of s) refl step in
    let to = header_closes header tt bs n (sort_of s) g s t i close turn in
    let entry = plain_entry header tt bs h.p h.q n lv.entry.comma lv.entry.comments h.within h.comma h.comments
    (due_stops header bs n (sort_of s) g s t close turn) in
    let same : closed_end lv ≡ part_end lv =
    closed_plain header lv.kind tt h.kind (part_end lv) lv.entry.comma lv.entry.comments entry.0 entry.1 in (
      to.1,
      subst (λ (e : End). Leads a e.tree (λ b. GapLeads (gap_before_close lv.kind e.last) b (Ready s t))) (sym same)
          (subst (λ (k : Kind). Leads a (part_end lv).tree (λ b. GapLeads (gap_before_close k (part_end lv).last) b (Ready s t)))
          (sym (of_headers header tt lv.kind h.kind))
          (header_leads header tt bs s t whole to.0 n to.2 to.3 a (part_end lv) h.p h.part h.fits entry.2)),
    )
level_closes headers nested a lv bs n s g t h whole close step =
    let i = in_fits headers (level_end lv).last n (level_reaches headers a lv bs n h).fits in
    let turn = turn_at (reading bs n) t g s (sort_of s) refl step in
    let to = header_closes headers tt bs n (sort_of s) g s t i close turn in
    let entry = plain_entry headers tt bs h.p h.q n lv.entry.comma lv.entry.comments h.within h.comma h.comments
    (due_stops headers bs n (sort_of s) g s t close turn) in
    let same : closed_end lv ≡ part_end lv =
    closed_plain headers lv.kind tt h.kind (part_end lv) lv.entry.comma lv.entry.comments entry.0 entry.1 in (
      to.1,
      subst (λ (e : End). Leads a e.tree (λ b. GapLeads (gap_before_close lv.kind e.last) b (Ready s t))) (sym same)
          (subst (λ (k : Kind). Leads a (part_end lv).tree (λ b. GapLeads (gap_before_close k (part_end lv).last) b (Ready s t)))
          (sym (of_headers headers tt lv.kind h.kind))
          (header_leads headers tt bs s t whole to.0 n to.2 to.3 a (part_end lv) h.p h.part h.fits entry.2)),
    )

close_lex : (k : Sort) → IsClose k → lex_of k ≡ sign
close_lex sort.close_array h = refl
close_lex sort.close_table h = refl
close_lex k h = absurd h

-- a list from where its opening bracket stands
pub list_leads : (style : Style) (lv : Level) (s : List ℕ) (x : Place) (r t : Reading) → Ready lv.opening r x → IsWholeLexeme lv.opening
    → lex_of (sort_of lv.opening) ≡ sign → IsWholeLexeme s → IsClose (sort_of s)
    → Leads (place (after sign) r) (closed_end lv).tree (λ b. GapLeads (gap_before_close lv.kind (closed_end lv).last) b (Ready s t))
    → Leads x (list_tree style lv s) (λ b. b ≡ place (after sign) t)
list_leads style lv s x r t ready whole opens close_whole close inside =
    let e = closed_end lv in
    let a = place (after sign) r in
    let Q : Place → Type 0 = λ b. b ≡ place (after sign) t in
    let P : Place → Type 0 = λ b. GapLeads (gap_before_close lv.kind e.last) b (Ready s t) in
    let within = append (counted.text lv.opening) e.tree in
    let indented = nest (pos (indent_in style lv.kind)) within in
    leads_group x (separated (gap_before_close lv.kind e.last) indented (counted.text s)) Q
    (leads_separated x indented (counted.text s) P (Ready s t) Q
    (leads_nest (indent_in style lv.kind) x within P
    (leads_append x (counted.text lv.opening) e.tree (λ b. b ≡ a) P
    (leads_text x (place (after (lex_of (sort_of lv.opening))) r) lv.opening (λ b. b ≡ a) (stands lv.opening r x whole ready)
    (ap (λ (l : Lex). place (after l) r) opens))
    (λ b is. subst (λ (y : Place). Leads y e.tree P) (sym is) inside)))
    (λ y at. leads_text y (place (after (lex_of (sort_of s))) t) s Q (stands s t y close_whole at)
    (ap (λ (l : Lex). place (after l) t) (close_lex (sort_of s) close)))
    (gap_before_close lv.kind e.last) (λ b p. p))
