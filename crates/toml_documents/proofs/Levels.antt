-- Each lexeme of a text leads the document of what is open to where it leads the grammar.
use Rattle.std.proofs.Common.{◌≡◌, refl, sym, ◌∙◌, ap, subst, ℕ, Bool, true, false, ◌||◌, List, [], ◌∷◌, inl, inr}
use Rattle.std.specs.Prelude.{Option, Some, None, Ok}
use Rattle.std.specs.List.{list_any}
use Rattle.prettyless_model.specs.Tree.{Tree}
use Rattle.prettyless_trees.specs.Counted as counted
use Rattle.toml_lexemes.specs.Bytes.{ends_with_dot}
use Rattle.toml_lexemes.specs.Shown.{IsWholeLexeme}
use Rattle.toml_lexemes.specs.SpacedLexemes.{after_toml_gap}
use Rattle.toml_grammar.specs.Comments.{is_comment}
use Rattle.toml_grammar.specs.Grammar.{Reading, after_value_comma, comma_turn, comment_after, comment_turn, innermost, lexeme_step}
use Rattle.toml_grammar.specs.Grammar.{line_end_after, line_end_turn, turned}
use Rattle.toml_grammar.specs.Sorts as sort
use Rattle.toml_grammar.specs.Sorts.{Sort, sort_of}
use Rattle.toml_grammar.specs.declared.expected.Expected.TheVariants as want
use Rattle.toml_grammar.specs.declared.next.Bracket.{Bracket}
use Rattle.toml_grammar.specs.declared.next.Bracket.TheVariants as bracket
use Rattle.toml_grammar.specs.declared.next.Next.{Next}
use Rattle.toml_grammar.specs.declared.next.Next.TheVariants as next
use Rattle.toml_documents.specs.Documents.{Commented, Level, entry_with_comma, is_line_feed_byte, level_end, level_with_comma, lexeme_tree}
use Rattle.toml_documents.specs.Documents.{part_end, with_comment, with_line_end, with_part}
use Rattle.toml_documents.specs.Gaps.{gap_before_text, may_hold}
use Rattle.toml_documents.specs.Kinds.{last_after_sort, last_after_text}
use Rattle.toml_documents.specs.declared.kind.Last.{Last}
use Rattle.toml_documents.specs.declared.kind.Last.TheVariants as last
use Rattle.toml_documents.proofs.Leading.{GapLeads, Leads, leads_broken, leads_separated, leads_text}
use Rattle.toml_documents.proofs.Readings.{Context, Fits, FitsComma, In, IsAfter, IsOf, IsOne, IsOnLine, IsPart, Ready, Within, after_stops}
use Rattle.toml_documents.proofs.Readings.{array, header, headers, in_fits, one_leads, part_ready, reading, stands, statement, table}
use Rattle.toml_documents.proofs.Readings.{touch_at, turn_at, where_ok}
use Rattle.toml_documents.proofs.Rows.{CommaTo, Covers, HasComma, HasComments, IsArrayNext, IsAt, IsCommentText, MayBeMany, MayComment}
use Rattle.toml_documents.proofs.Rows.{Reaches, ended, ended_same, ended_twice, fits_comma, rest_reaches, value_covers, value_is_on_line}
use Rattle.toml_documents.proofs.Written.{Place, after, lex_of, place, same_reading}

-- what is read of a level has led from a place to where this may come next
pub record IsLevel (c : Context) (a : Place) (lv : Level) (bs : List Bracket) (n : Next) : Type 0 where
  pub kind : IsOf c lv.kind
  pub within : Within c bs
  -- after the part and after the comma of its last entry
  pub p : Next
  pub q : Next
  pub part : Leads a (part_end lv).tree (IsAt (touch_at c (part_end lv).last) bs p)
  pub fits : Fits c (part_end lv).last p
  pub comma : HasComma lv.entry.comma bs p q
  pub comments : HasComments c lv.entry.comments q n

pub level_reaches : (c : Context) (a : Place) (lv : Level) (bs : List Bracket) (n : Next) → IsLevel c a lv bs n
    → Reaches c a (level_end lv) bs n
level_reaches c a lv bs n h =
    rest_reaches c a lv.kind h.kind (part_end lv) bs h.p h.q n h.within h.part h.fits lv.entry.comma h.comma lv.entry.comments h.comments

-- ---- parts

one_part : (k : Sort) → IsOne k → IsPart k
one_part sort.equals h = tt
one_part sort.string h = tt
one_part sort.word h = tt
one_part k h = absurd h

module _ (c : Context) (a : Place) (lv : Level) (bs : List Bracket) (n : Next) (h : IsLevel c a lv bs n) (s g : List ℕ) (t : Reading)
    (whole : IsWholeLexeme s) (part : IsPart (sort_of s)) (step : lexeme_step (reading bs n) (after_toml_gap g s) ≡ Ok t) where
  end_reaches : Reaches c a (level_end lv) bs n
  end_reaches = level_reaches c a lv bs n h

  -- what covers it is it
  no_other : (m : Next) → Covers m n → m ≡ n
  no_other m (inl e) = e
  no_other m (inr (d, e)) =
      absurd (after_stops bs s g t (sort_of s) refl part whole
      (subst (λ (q : Next). lexeme_step (reading bs q) (after_toml_gap g s) ≡ Ok t) e step))

  -- with a part that begins with the lexeme and leads on
  pub part_level : (tree : Tree) (cs : List Bracket) (u : Next) → Within c cs → Fits c (last_after_text s) u
      → ((x : Place) → Ready s t x → Leads x tree (IsAt (touch_at c (last_after_text s)) cs u))
      → IsLevel c a (with_part lv s tree) cs u
  part_level tree cs u within fits leads = record {
    kind = h.kind;
    within = within;
    p = u;
    q = u;
    part =
        let before = level_end lv in
        leads_separated a before.tree tree (IsAt (touch_at c before.last) bs n) (Ready s t) (IsAt (touch_at c (last_after_text s)) cs u)
        end_reaches.leads leads (gap_before_text lv.kind before.last s lv.blank)
        (λ b (m, covers, is).
        subst (λ (x : Place). GapLeads (gap_before_text lv.kind before.last s lv.blank) x (Ready s t))
        (sym (is ∙ ap (λ (q : Next). place (touch_at c before.last) (reading bs q)) (no_other m covers)))
        (part_ready bs s g t whole part c lv.kind h.kind before.last n end_reaches.fits lv.blank step));
    fits = fits;
    comma = refl;
    comments = inl refl;
  }

one_touch : (c : Context) (k : Sort) (dotted : Bool) → IsOne k → after (lex_of k) ≡ touch_at c (last_after_sort k dotted)
one_touch c sort.equals dotted h = refl
one_touch c sort.string dotted h = refl
one_touch c sort.word true h = refl
one_touch c sort.word false h = refl
one_touch c k dotted h = absurd h

-- with one lexeme
pub one_level : (c : Context) (a : Place) (lv : Level) (bs : List Bracket) (n : Next) (s g : List ℕ) (t : Reading) → IsLevel c a lv bs n
    → IsWholeLexeme s → IsOne (sort_of s) → lexeme_step (reading bs n) (after_toml_gap g s) ≡ Ok t
    → IsLevel c a (with_part lv s (lexeme_tree s)) t.open_brackets t.next × (t.open_brackets ≡ bs)
one_level c a lv bs n s g t h whole one step =
    let before = level_reaches c a lv bs n h in
    let to = one_leads bs s g t c (level_end lv).last n (sort_of s) refl one before.fits step in
    let Q = IsAt (touch_at c (last_after_text s)) bs to.0 in
    let level = part_level c a lv bs n h s g t whole (one_part (sort_of s) one) step (lexeme_tree s) bs to.0 h.within to.2
    (λ x ready. leads_broken (list_any is_line_feed_byte s) x (counted.text s) Q
    (leads_text x (place (after (lex_of (sort_of s))) t) s Q (stands s t x whole ready)
    (to.0, inl refl, λ i. place (one_touch c (sort_of s) (ends_with_dot s) one i) (to.1 i)))) in (
      subst (λ (r : Reading). IsLevel c a (with_part lv s (lexeme_tree s)) r.open_brackets r.next) (sym to.1) level,
      ap (λ (r : Reading). r.open_brackets) to.1,
    )

-- ---- commas

no_value : (c : Context) (q : Next) → FitsComma c q → IsAfter q → ⊥
no_value table q e h = subst IsAfter e h
no_value array q e h = subst IsAfter e h
no_value statement q e h = e
no_value header q e h = e
no_value headers q e h = e

ended_value : (q : Next) → IsAfter (ended q) → IsAfter q
ended_value next.After h = tt
ended_value next.AfterDate h = tt
ended_value q h = h

-- before comments stood what stands after them
value_before : (c : Context) (rs : List Commented) (q n : Next) → HasComments c rs q n → IsAfter n → IsAfter q
value_before c [] q n h v = value_covers q n h v
value_before c (r ∷ rs) q n h v = ended_value q (subst IsAfter (sym h.0) v)

comma_turn_value : (bs : List Bracket) (n : Next) (b : Option Bracket) (t : Reading) → turned bs (comma_turn n b) ≡ Ok t
    → IsAfter n × (turned bs (after_value_comma next.After b) ≡ Ok t)
comma_turn_value bs next.After b t e = (tt, e)
comma_turn_value bs next.AfterDate None t e = absurd (cc)
comma_turn_value bs next.AfterDate (Some bracket.Array) t e = (tt, e)
comma_turn_value bs next.AfterDate (Some bracket.Table) t e = (tt, e)
comma_turn_value bs n b t e = absurd (cc)

comma_goes : (bs : List Bracket) (b : Option Bracket) (t : Reading) → turned bs (after_value_comma next.After b) ≡ Ok t
    → t ≡ reading bs t.next
comma_goes bs None t e = absurd (cc)
comma_goes bs (Some bracket.Array) t e = let is = same_reading e in sym is ∙ ap (λ (r : Reading). reading bs r.next) is
comma_goes bs (Some bracket.Table) t e = let is = same_reading e in sym is ∙ ap (λ (r : Reading). reading bs r.next) is

-- comments that stood before the comma stand after it
comments_after_comma : (c : Context) (rs : List Commented) (q n u : Next) → FitsComma c u → HasComments c rs q n → HasComments c rs u u
comments_after_comma c [] q n u f h = inl refl
comments_after_comma array (r ∷ rs) q n u f h =
    subst (λ (m : Next). HasComments array (r ∷ rs) m m) (sym f) (refl, tt, tt, h.3)
comments_after_comma statement (r ∷ rs) q n u f h = absurd f
comments_after_comma header (r ∷ rs) q n u f h = absurd f
comments_after_comma headers (r ∷ rs) q n u f h = absurd f
comments_after_comma table (r ∷ rs) q n u f h = absurd h.1

holds_not : (l : Last) → IsOnLine l → may_hold l ≡ false
holds_not last.Close h = refl
holds_not last.Word h = refl
holds_not last.Dot h = refl
holds_not last.String h = refl
holds_not l h = absurd h

-- the last entry has no comma yet
no_comma : (c : Context) (bs : List Bracket) (p q n : Next) (comma : Bool) (rs : List Commented) → Within c bs → HasComma comma bs p q
    → HasComments c rs q n → IsAfter n → (comma ≡ false) × IsAfter p
no_comma c bs p q n false rs w has h v = (refl, subst IsAfter has (value_before c rs q n h v))
no_comma c bs p q n true rs w has h v = absurd (no_value c q (fits_comma c bs q w has.1) (value_before c rs q n h v))

pub comma_level : (c : Context) (a : Place) (lv : Level) (bs : List Bracket) (n : Next) (s g : List ℕ) (t : Reading) → IsLevel c a lv bs n
    → sort_of s ≡ sort.comma → lexeme_step (reading bs n) (after_toml_gap g s) ≡ Ok t
    → IsLevel c a (level_with_comma lv) t.open_brackets t.next × (t.open_brackets ≡ bs)
comma_level c a lv bs n s g t h sorted step =
    let turn = comma_turn_value bs n (innermost bs) t (turn_at (reading bs n) t g s sort.comma sorted step) in
    let is = comma_goes bs (innermost bs) t turn.1 in
    let to : CommaTo bs t.next = turn.1 ∙ ap (λ (r : Reading). Ok r) is in
    let none = no_comma c bs h.p h.q n lv.entry.comma lv.entry.comments h.within h.comma h.comments turn.0 in
    let plain = holds_not (part_end lv).last (value_is_on_line c (part_end lv).last h.p h.fits none.1) in
    let level : IsLevel c a (entry_with_comma false lv) bs t.next = record {
      kind = h.kind;
      within = h.within;
      p = h.p;
      q = t.next;
      part = h.part;
      fits = h.fits;
      comma = (none.1, to);
      comments = comments_after_comma c lv.entry.comments h.q n t.next (fits_comma c bs t.next h.within to) h.comments;
    } in (
      subst (λ (r : Reading). IsLevel c a (level_with_comma lv) r.open_brackets r.next) (sym is)
          (subst (λ (b : Bool). IsLevel c a (entry_with_comma b lv) bs t.next) (λ i. sym none.0 i || sym plain i) level),
      ap (λ (r : Reading). r.open_brackets) is,
    )

-- ---- comments

comment_after_turn : (bs : List Bracket) (n : Next) (b : Option Bracket) (ok : Bool) (t : Reading) → turned bs (comment_after n b ok) ≡ Ok t
    → (ok ≡ true) × (t ≡ reading bs next.After) × (b ≡ Some bracket.Table → ⊥)
comment_after_turn bs n None ok t e = let so = where_ok ok next.After want.Comment bs t e in (so.0, so.1, λ h. cc)
comment_after_turn bs n (Some bracket.Array) ok t e = let so = where_ok ok next.After want.Comment bs t e in (so.0, so.1, λ h. cc)
comment_after_turn bs n (Some bracket.Table) ok t e = absurd (cc)

-- where a comment may come, but before a statement
comment_goes : (c : Context) (bs : List Bracket) (n : Next) (ok : Bool) (t : Reading) → Within c bs → In c n → (n ≡ next.Line → ⊥)
    → turned bs (comment_turn n (innermost bs) ok) ≡ Ok t → MayComment c n × (ok ≡ true) × (t ≡ reading bs (ended n))
comment_goes statement bs next.Line ok t w i begun e = absurd (begun refl)
comment_goes statement bs next.After ok t w i begun e = let so = comment_after_turn bs next.After (innermost bs) ok t e in (tt, so.0, so.1)
comment_goes statement bs next.AfterDate ok t w i begun e =
    let so = comment_after_turn bs next.AfterDate (innermost bs) ok t e in (tt, so.0, so.1)
comment_goes array bs next.Member ok t w i begun e = let so = where_ok ok next.Member want.Comment bs t e in (tt, so.0, so.1)
comment_goes array bs next.After ok t w i begun e = let so = comment_after_turn bs next.After (innermost bs) ok t e in (tt, so.0, so.1)
comment_goes array bs next.AfterDate ok t w i begun e =
    let so = comment_after_turn bs next.AfterDate (innermost bs) ok t e in (tt, so.0, so.1)
comment_goes table bs next.After ok t w i begun e = absurd ((comment_after_turn bs next.After (innermost bs) ok t e).2 w)
comment_goes table bs next.AfterDate ok t w i begun e = absurd ((comment_after_turn bs next.AfterDate (innermost bs) ok t e).2 w)
comment_goes c bs next.Value ok t w i begun e = absurd (cc)
comment_goes c bs (next.Key o d) ok t w i begun e = absurd (cc)
comment_goes c bs next.Header ok t w i begun e = absurd (cc)
comment_goes c bs next.Closing ok t w i begun e = absurd (cc)
comment_goes c bs next.Entry ok t w i begun e = absurd (cc)
comment_goes c bs n ok t w i begun e = absurd i

-- a comment may stand before what stands after it
may_before : (c : Context) (q n : Next) → Covers q n → MayComment c n → MayComment c q
may_before c q n (inl e) h = subst (MayComment c) (sym e) h
may_before c q n (inr (d, a)) h = subst (MayComment c) (sym d) (date c (subst (MayComment c) a h))
  where
    date : (c : Context) → MayComment c next.After → MayComment c next.AfterDate
    date statement h = tt
    date array h = tt
    date header h = h
    date headers h = h
    date table h = h

one_comment_more : (c : Context) (rs : List Commented) (q n : Next) (r : Commented) → HasComments c rs q n → MayComment c n
    → IsCommentText r.comment → MayBeMany c rs → HasComments c (r ∷ rs) q (ended n)
one_comment_more c [] q n r h may text many = (ended_same q n h, may_before c q n h may, many, (text, tt))
one_comment_more c (o ∷ rs) q n r h may text many =
    (sym (ended_twice q) ∙ ap ended h.0, h.1, many, (text, h.3))

pub comment_level : (c : Context) (a : Place) (lv : Level) (bs : List Bracket) (n : Next) (s g : List ℕ) (t : Reading) → IsLevel c a lv bs n
    → sort_of s ≡ sort.comment → lexeme_step (reading bs n) (after_toml_gap g s) ≡ Ok t → (n ≡ next.Line → ⊥)
    → (is_comment s ≡ true → IsCommentText s) → MayBeMany c lv.entry.comments
    → IsLevel c a (with_comment lv s) t.open_brackets t.next × (t.open_brackets ≡ bs)
comment_level c a lv bs n s g t h sorted step begun text many =
    let i = in_fits c (level_end lv).last n (level_reaches c a lv bs n h).fits in
    let goes = comment_goes c bs n (is_comment s) t h.within i begun (turn_at (reading bs n) t g s sort.comment sorted step) in
    let level : IsLevel c a (with_comment lv s) bs (ended n) = record {
      kind = h.kind;
      within = h.within;
      p = h.p;
      q = h.q;
      part = h.part;
      fits = h.fits;
      comma = h.comma;
      comments =
          one_comment_more c lv.entry.comments h.q n (record { broken = lv.broken; blank = lv.blank; comment = s }) h.comments goes.0
          (text goes.1) many;
    } in (
      subst (λ (r : Reading). IsLevel c a (with_comment lv s) r.open_brackets r.next) (sym goes.2) level,
      ap (λ (r : Reading). r.open_brackets) goes.2,
    )

-- ---- line ends

line_after_turn : (bs : List Bracket) (n : Next) (b : Option Bracket) (t : Reading) → turned bs (line_end_after n b) ≡ Ok t
    → b ≡ Some bracket.Table → ⊥
line_after_turn bs n None t e is = cc
line_after_turn bs n (Some bracket.Array) t e is = cc
line_after_turn bs n (Some bracket.Table) t e is = cc

line_after_array : (bs : List Bracket) (n : Next) (b : Option Bracket) (t : Reading) → turned bs (line_end_after n b) ≡ Ok t
    → b ≡ Some bracket.Array → t ≡ reading bs next.After
line_after_array bs n None t e is = absurd (cc)
line_after_array bs n (Some bracket.Array) t e is = sym (same_reading e)
line_after_array bs n (Some bracket.Table) t e is = absurd (cc)

-- in brackets a line ends in an array alone
line_goes : (c : Context) (bs : List Bracket) (n : Next) (t : Reading) → Within c bs → In c n → (c ≡ statement → ⊥)
    → turned bs (line_end_turn n (innermost bs)) ≡ Ok t → (c ≡ array) × IsArrayNext n × (t ≡ reading bs (ended n))
line_goes statement bs n t w i nested e = absurd (nested refl)
line_goes array bs next.Member t w i nested e = (refl, tt, sym (same_reading e))
line_goes array bs next.After t w i nested e = (refl, tt, line_after_array bs next.After (innermost bs) t e w)
line_goes array bs next.AfterDate t w i nested e = (refl, tt, line_after_array bs next.AfterDate (innermost bs) t e w)
line_goes table bs next.After t w i nested e = absurd (line_after_turn bs next.After (innermost bs) t e w)
line_goes table bs next.AfterDate t w i nested e = absurd (line_after_turn bs next.AfterDate (innermost bs) t e w)
line_goes c bs next.Value t w i nested e = absurd (cc)
line_goes c bs (next.Key o d) t w i nested e = absurd (cc)
line_goes c bs next.Header t w i nested e = absurd (cc)
line_goes c bs next.Closing t w i nested e = absurd (cc)
line_goes c bs next.Entry t w i nested e = absurd (cc)
line_goes c bs n t w i nested e = absurd i

covers_ended : (q n : Next) → IsArrayNext n → Covers q n → Covers q (ended n)
covers_ended q next.Member h k = k
covers_ended q next.After h k = k
covers_ended q next.AfterDate h (inl e) = inr (e, refl)
covers_ended q next.AfterDate h (inr (d, e)) = let clash : next.AfterDate ≡ next.After = e in absurd (cc)
covers_ended q n h k = absurd h

line_comments : (c : Context) (rs : List Commented) (q n : Next) → IsArrayNext n → HasComments c rs q n → HasComments c rs q (ended n)
line_comments c [] q n i h = covers_ended q n i h
line_comments c (r ∷ rs) q n i h = (sym (ended_twice q) ∙ ap ended h.0, h.1, h.2, h.3)

pub line_level : (c : Context) (a : Place) (lv : Level) (bs : List Bracket) (n : Next) (s g : List ℕ) (t : Reading) → IsLevel c a lv bs n
    → sort_of s ≡ sort.line_end → lexeme_step (reading bs n) (after_toml_gap g s) ≡ Ok t → (c ≡ statement → ⊥)
    → IsLevel c a (with_line_end lv) t.open_brackets t.next × (t.open_brackets ≡ bs)
line_level c a lv bs n s g t h sorted step nested =
    let i = in_fits c (level_end lv).last n (level_reaches c a lv bs n h).fits in
    let goes = line_goes c bs n t h.within i nested (turn_at (reading bs n) t g s sort.line_end sorted step) in
    let level : IsLevel c a (with_line_end lv) bs (ended n) = record {
      kind = h.kind;
      within = h.within;
      p = h.p;
      q = h.q;
      part = h.part;
      fits = h.fits;
      comma = h.comma;
      comments = line_comments c lv.entry.comments h.q n goes.1 h.comments;
    } in (
      subst (λ (r : Reading). IsLevel c a (with_line_end lv) r.open_brackets r.next) (sym goes.2) level,
      ap (λ (r : Reading). r.open_brackets) goes.2,
    )
