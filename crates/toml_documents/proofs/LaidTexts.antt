-- The layout of a TOML text is TOML.
use Rattle.std.proofs.Common.{◌≡◌, refl, sym, ◌∙◌, ap, subst, ℕ, Bool, true, false, cond, ◌==◌, ◌&&◌, ◌||◌, List, [], ◌∷◌, inl, inr, length}
use Rattle.std.proofs.Common.{drop, arith, get_or, ◌+◌}
use Rattle.std.specs.Prelude.{⊤, Option, Some, None, Result, Ok, Err, is_ok}
use Rattle.std.specs.List.{list_all}
use Rattle.std.proofs.lemmas.Bool.{and_parts, true≢false}
use Rattle.prettyless_trees.specs.Built.{append}
use Rattle.prettyless_trees.specs.Counted as counted
use Rattle.prettyless_model.specs.Tree.{Tree, HardLine}
use Rattle.prettyless_model.specs.declared.mode.Mode.TheVariants.{Break}
use Rattle.prettyless_model.specs.declared.options.RenderOptions.{RenderOptions}
use Rattle.toml_lexemes.specs.Bytes.{ends_with_dot, head, is_blank}
use Rattle.toml_lexemes.specs.Lexemes.{toml_lexemes_of}
use Rattle.toml_lexemes.specs.Shown.{IsWholeLexeme}
use Rattle.toml_lexemes.specs.Sound.{AreSound, IsSound, IsSoundIn, LineEndsNext}
use Rattle.toml_lexemes.specs.SpacedLexemes.{SpacedToml, after_toml_gap, blanks, toml_spaced_as}
use Rattle.toml_lexemes.specs.Statements.{Role, a_comment, a_line_end, before_trimmed, role, role_of, trimmed}
use Rattle.toml_lexemes.proofs.LineEnds.{cut-nil}
use Rattle.toml_lexemes.proofs.SoundTexts.{comment_begins, lexemes_sound}
use Rattle.toml_lexemes.proofs.WholeLexemes.{by_sign, no_lexeme, trimmed_begins}
use Rattle.toml_grammar.specs.Bytes.{first_byte, is_non_eol}
use Rattle.toml_grammar.specs.Comments.{is_comment}
use Rattle.toml_grammar.specs.Grammar.{Reading, at_end, comma_turn, end_turn, first_reading, innermost, is_toml, lexeme_step, line_end_turn}
use Rattle.toml_grammar.specs.Grammar.{reading_after, sort_turn, then_lexemes, turned, where_so}
use Rattle.toml_grammar.specs.Sorts as sort
use Rattle.toml_grammar.specs.Sorts.{Sort, sort_by, sort_of}
use Rattle.toml_grammar.specs.declared.expected.Expected.{Expected}
use Rattle.toml_grammar.specs.declared.expected.Expected.TheVariants as want
use Rattle.toml_grammar.specs.declared.next.Bracket.{Bracket}
use Rattle.toml_grammar.specs.declared.next.Bracket.TheVariants as bracket
use Rattle.toml_grammar.specs.declared.next.Next.{Next}
use Rattle.toml_grammar.specs.declared.next.Next.TheVariants as next
use Rattle.toml_grammar.specs.declared.next.Owner.TheVariants as owner
use Rattle.toml_grammar.proofs.Allowed.{lexemes_allowed, sort_string}
use Rattle.toml_grammar.proofs.Closed.{strings_are_closed}
use Rattle.toml_documents.specs.Documents.{Commented, Draft, End, Level, after_comments, comments_tree, document_from, draft_with}
use Rattle.toml_documents.specs.Documents.{end_after_comma, ended_in, entry_with_comma, new_level, first_levels, is_some, level_end}
use Rattle.toml_documents.specs.Documents.{level_with_comma, levels_after, levels_closed, levels_with, lexeme_tree, lines_with, list_tree}
use Rattle.toml_documents.specs.Documents.{new_statement, no_draft, part_end, toml_document, with_comment, with_ended_line, with_line_end}
use Rattle.toml_documents.specs.Documents.{with_part}
use Rattle.toml_documents.specs.Alignment.{comments_as}
use Rattle.toml_documents.specs.Laid.{toml_options}
use Rattle.toml_documents.specs.Kinds.{last_after_sort, last_after_text}
use Rattle.toml_documents.specs.LaidLaws.{LayoutsAreToml}
use Rattle.toml_documents.specs.Gaps.{may_hold}
use Rattle.toml_documents.specs.Numbers.{opened_kind}
use Rattle.prettyless_laws.specs.Bits.{AreWritten, Bit, IsSpelled}
use Rattle.toml_documents.specs.declared.kind.Kind.{Kind}
use Rattle.toml_documents.specs.declared.kind.Kind.TheVariants.{Statement}
use Rattle.toml_documents.specs.declared.kind.Last.{Last}
use Rattle.toml_documents.specs.declared.kind.Last.TheVariants as last
use Rattle.toml_documents.specs.declared.style.Style.{Style}
use Rattle.toml_documents.proofs.AlignedAgain.{toml_stays}
use Rattle.toml_documents.proofs.Closings.{IsClose}
use Rattle.toml_documents.proofs.ExactDocuments.{exact_document}
use Rattle.toml_documents.proofs.Leading.{Leads, Lined, in_hard, leads_append, leads_nil, leads_text}
use Rattle.toml_documents.proofs.Levels.{IsLevel, comma_level, comment_level, level_reaches, line_level, one_level}
use Rattle.toml_documents.proofs.Readings.{Context, Fits, FitsEnd, In, IsOne, Ready, Within, array, clear_at, in_fits, reading, stands}
use Rattle.toml_documents.proofs.Readings.{statement, step_at, table, touch_at, turn_at, where_ok}
use Rattle.toml_documents.proofs.Rows.{Covers, IsAt, IsCommentText, MayBeMany}
use Rattle.prettyless_laws.proofs.Spellings.{layouts_are_spellings}
use Rattle.toml_documents.proofs.Stacks.{IsOpen, IsStack, first_opens, line_place, not_statement, open_last, opens_to, stack_closed}
use Rattle.toml_documents.proofs.Stacks.{stack_fits, stack_level, stack_opened, stack_top}
use Rattle.toml_documents.proofs.Written.{GoesOn, MayEnd, Place, Runs, after, at_line, begins_as, BeginsAs, comment, goes, lex_of, place}
use Rattle.toml_documents.proofs.Written.{same_reading}

-- ---- the lexemes of a text

-- what holds of a lexeme in front of others, by its sort
pub record IsGood (s : List ℕ) (ss : List (List ℕ)) : Type 0 where
  pub whole : (sort_of s ≡ sort.comment → ⊥) → (sort_of s ≡ sort.line_end → ⊥) → IsWholeLexeme s
  pub text : sort_of s ≡ sort.comment → is_comment s ≡ true → IsCommentText s
  pub ends : sort_of s ≡ sort.comment → LineEndsNext ss

hash_sort : (s : List ℕ) → head s ≡ 35 → sort_of s ≡ sort.comment
hash_sort [] e = absurd (omega (arith, e))
hash_sort (x ∷ s) e = ap sort_by e

feed_sort : (s : List ℕ) → s ≡ 10 ∷ [] → sort_of s ≡ sort.line_end
feed_sort s e = ap sort_of e

-- a comment by its sort begins with `#`
comment_role : (s : List ℕ) → IsWholeLexeme s → sort_of s ≡ sort.comment → role s ≡ a_comment
comment_role s whole e =
    let begins : BeginsAs (lex_of sort.comment) s = subst (λ (k : Sort). BeginsAs (lex_of k) s) e (begins_as s whole) in
    ap role_of begins

all_trimmed : (s : List ℕ) → list_all is_non_eol s ≡ true → list_all is_non_eol (trimmed s) ≡ true
all_trimmed [] e = refl
all_trimmed (x ∷ s) e = let parts = and_parts (is_non_eol x) (list_all is_non_eol s) e in by (trimmed s) parts.0 (all_trimmed s parts.1)
  where
    one : (b : Bool) → is_non_eol x ≡ true → list_all is_non_eol (cond b [] (x ∷ [])) ≡ true
    one true e = refl
    one false e = ap (λ (c : Bool). c && true) e

    by : (t : List ℕ) → is_non_eol x ≡ true → list_all is_non_eol t ≡ true → list_all is_non_eol (before_trimmed x t) ≡ true
    by [] e h = one (is_blank x) e
    by (y ∷ ys) e h = (λ i. e i && list_all is_non_eol (y ∷ ys)) ∙ h

comment_text : (s : List ℕ) → IsWholeLexeme (trimmed s) → head s ≡ 35 → is_comment s ≡ true → IsCommentText s
unfolding is_comment
comment_text [] whole e h = absurd (omega (arith, e))
comment_text (x ∷ s) whole e h =
    subst (λ (y : ℕ). IsWholeLexeme (trimmed (y ∷ s)) → is_comment (y ∷ s) ≡ true → IsCommentText (y ∷ s)) (sym e)
    (λ w c. record {
      whole = w;
      sorted = ap sort_of (trimmed_begins s);
      allowed =
          ap is_comment (trimmed_begins s)
          ∙ all_trimmed s (and_parts (is_non_eol 35) (list_all is_non_eol s)
          (and_parts (first_byte (35 ∷ s) == 35) (list_all is_non_eol (35 ∷ s)) c).1).1;
    }) whole h

module _ (s : List ℕ) (ss : List (List ℕ)) where
  good_by : (r : Role) → role s ≡ r → IsSoundIn r s ss → IsGood s ss
  good_by a_comment e h = record {
    whole = λ no_comment no_end. absurd (no_comment (hash_sort s (comment_begins (head s) e)));
    text = λ is c. comment_text s h.0 (comment_begins (head s) e) c;
    ends = λ is. h.1;
  }
  good_by a_line_end e h = record {
    whole = λ no_comment no_end. absurd (no_end (feed_sort s h));
    text = λ is c. let clash : sort.line_end ≡ sort.comment = sym (feed_sort s h) ∙ is in absurd (cc);
    ends = λ is. let clash : sort.line_end ≡ sort.comment = sym (feed_sort s h) ∙ is in absurd (cc);
  }
  good_by r e h = record {
    whole = λ no_comment no_end. h;
    text = λ is c. let clash = sym e ∙ comment_role s h is in absurd (cc);
    ends = λ is. let clash = sym e ∙ comment_role s h is in absurd (cc);
  }

  good : IsSound s ss → IsGood s ss
  good h = good_by (role s) refl h.sound

-- ---- statements

-- after what a statement may end with; after a comment its line does
abbrev EndsSo : Last → List (List ℕ) → Type 0
EndsSo last.Start ss = ⊥
EndsSo last.Comment ss = LineEndsNext ss
EndsSo l ss = ⊤

-- where no bracket is open
abbrev Single : List Level → List (List ℕ) → Type 0
Single [] ss = ⊤
Single (lv ∷ []) ss = EndsSo (level_end lv).last ss
Single (lv ∷ outer ∷ lvs) ss = ⊤

not_next : (s : List ℕ) (ss : List (List ℕ)) → (sort_of s ≡ sort.line_end → ⊥) → LineEndsNext (s ∷ ss) → ⊥
not_next s ss plain (inl e) = cc
not_next s ss plain (inr (rest, e)) = let same : s ≡ 10 ∷ [] = cc in plain (feed_sort s same)

-- nothing but a comment leads to where a statement begins
no_line : (l : Last) (ss : List (List ℕ)) → FitsEnd statement l next.Line → EndsSo l ss → (LineEndsNext ss → ⊥) → ⊥
no_line last.Start ss f e n = e
no_line last.Comment ss f e n = n e
no_line last.Equals ss f e n = cc
no_line last.Comma ss f e n = f
no_line last.Close ss (inl f) e n = f
no_line last.Close ss (inr f) e n = f
no_line last.Word ss (inl f) e n = f
no_line last.Word ss (inr f) e n = f
no_line last.Dot ss (inl f) e n = f
no_line last.Dot ss (inr f) e n = f
no_line last.String ss (inl f) e n = f
no_line last.String ss (inr f) e n = f

in_line : (c : Context) → In c next.Line → c ≡ statement
in_line statement h = refl
in_line c h = absurd h

begun : (c : Context) (lv : Level) (lvs : List Level) (r : Reading) (s : List ℕ) (ss : List (List ℕ)) → IsStack c (lv ∷ lvs) r
    → Single (lv ∷ lvs) (s ∷ ss) → (sort_of s ≡ sort.line_end → ⊥) → r.next ≡ next.Line → ⊥
begun c lv [] r s ss h single plain e =
    let fits = (stack_fits c lv [] r h).0 in
    no_line (level_end lv).last (s ∷ ss) (subst (λ (d : Context). FitsEnd d (level_end lv).last next.Line) h.0
    (subst (FitsEnd c (level_end lv).last) e fits)) single (not_next s ss plain)
begun c lv (outer ∷ lvs) r s ss h single plain e =
    let fits = (stack_fits c lv (outer ∷ lvs) r h).0 in
    not_statement h.around h.before.next c h.opens
    (in_line c (in_fits c (level_end lv).last next.Line (subst (FitsEnd c (level_end lv).last) e fits)))

none_commented : (rs : List Commented) (kind : Kind) (e : End) (comma : Bool) (ss : List (List ℕ))
    → EndsSo (after_comments (is_some rs) (comments_tree kind e.last rs) (end_after_comma comma e)).last ss → (LineEndsNext ss → ⊥)
    → rs ≡ []
none_commented [] kind e comma ss h n = refl
none_commented (r ∷ rs) kind e comma ss h n = absurd (n h)

many_nested : (c : Context) (rs : List Commented) → (c ≡ statement → ⊥) → MayBeMany c rs
many_nested statement rs h = absurd (h refl)
many_nested c rs h = tt

many : (c : Context) (lv : Level) (lvs : List Level) (r : Reading) (s : List ℕ) (ss : List (List ℕ)) → IsStack c (lv ∷ lvs) r
    → Single (lv ∷ lvs) (s ∷ ss) → (sort_of s ≡ sort.line_end → ⊥) → MayBeMany c lv.entry.comments
many c lv [] r s ss h single plain =
    subst (λ (d : Context). MayBeMany d lv.entry.comments) (sym h.0)
    (none_commented lv.entry.comments lv.kind (part_end lv) lv.entry.comma (s ∷ ss) single (not_next s ss plain))
many c lv (outer ∷ lvs) r s ss h single plain =
    many_nested c lv.entry.comments (not_statement h.around h.before.next c h.opens)

-- ---- one lexeme

one_ends : (k : Sort) (dotted : Bool) (ss : List (List ℕ)) → IsOne k → EndsSo (last_after_sort k dotted) ss
one_ends sort.equals dotted ss h = tt
one_ends sort.string dotted ss h = tt
one_ends sort.word true ss h = tt
one_ends sort.word false ss h = tt
one_ends k dotted ss h = absurd h

statement_close : (bs : List Bracket) (n : Next) (k : Sort) (g s : List ℕ) (t : Reading) → bs ≡ [] → In statement n → IsClose k
    → turned bs (sort_turn k n (innermost bs) g s) ≡ Ok t → ⊥
statement_close bs n k g s t w i h e = by n k i h (subst (λ (x : List Bracket). turned x (sort_turn k n (innermost x) g s) ≡ Ok t) w e)
  where
    by : (n : Next) (k : Sort) → In statement n → IsClose k → turned [] (sort_turn k n None g s) ≡ Ok t → ⊥
    by next.Line sort.close_array i h e = cc
    by next.Line sort.close_table i h e = cc
    by (next.Key owner.Value true) sort.close_array i h e = cc
    by (next.Key owner.Value false) sort.close_array i h e = cc
    by (next.Key owner.Value d) sort.close_table i h e = cc
    by next.Value sort.close_array i h e = cc
    by next.Value sort.close_table i h e = cc
    by next.After sort.close_array i h e = cc
    by next.After sort.close_table i h e = cc
    by next.AfterDate sort.close_array i h e = cc
    by next.AfterDate sort.close_table i h e = cc
    by n k i h e = assumption

statement_comma : (bs : List Bracket) (n : Next) (t : Reading) → bs ≡ [] → turned bs (comma_turn n (innermost bs)) ≡ Ok t → ⊥
statement_comma bs n t w e = by n (subst (λ (x : List Bracket). turned x (comma_turn n (innermost x)) ≡ Ok t) w e)
  where
    by : (n : Next) → turned [] (comma_turn n None) ≡ Ok t → ⊥
    by next.After e = cc
    by next.AfterDate e = cc
    by n e = cc

module _ (style : Style) (s g : List ℕ) (ss : List (List ℕ)) (r t : Reading) (is_good : IsGood s ss)
    (step : lexeme_step r (after_toml_gap g s) ≡ Ok t) where
  -- what is open after the lexeme
  abbrev Opened : List Level → Type 0
  Opened lvs = (d : Context) × IsStack d lvs t × Single lvs ss

  plain_of : (k : Sort) → sort_of s ≡ k → (k ≡ sort.line_end → ⊥) → sort_of s ≡ sort.line_end → ⊥
  plain_of k is h e = h (sym is ∙ e)

  whole_of : (k : Sort) → sort_of s ≡ k → (k ≡ sort.comment → ⊥) → (k ≡ sort.line_end → ⊥) → IsWholeLexeme s
  whole_of k is h j = is_good.whole (λ e. h (sym is ∙ e)) (λ e. j (sym is ∙ e))

  closes_in : (c : Context) (lv : Level) (lvs : List Level) → IsStack c (lv ∷ lvs) r → IsClose (sort_of s) → IsWholeLexeme s
      → Opened (levels_closed style lv lvs s)
  closes_in c lv [] h close whole =
      let fits = stack_fits c lv [] r h in
      absurd (statement_close r.open_brackets r.next (sort_of s) g s t (subst (λ (d : Context). Within d r.open_brackets) h.0 fits.1)
      (subst (λ (d : Context). In d r.next) h.0 (in_fits c (level_end lv).last r.next fits.0)) close
      (turn_at r t g s (sort_of s) refl step))
  closes_in c lv (outer ∷ lvs) h close whole =
      let more = stack_closed style c lv outer lvs r t g s h whole close step in
      (more.0, more.1, single lvs)
    where
      single : (lvs : List Level) → Single (with_part outer lv.opening (list_tree style lv s) ∷ lvs) ss
      single [] = subst (λ (l : Last). EndsSo l ss) (sym (open_last lv.opening h.bracket)) tt
      single (o ∷ lvs) = tt

  pub one_in : (c : Context) (lv : Level) (lvs : List Level) → IsStack c (lv ∷ lvs) r → IsOne (sort_of s) → IsWholeLexeme s
      → Opened (with_part lv s (lexeme_tree s) ∷ lvs)
  one_in c lv lvs h one whole = (
    c,
    stack_top c lv (with_part lv s (lexeme_tree s)) lvs r t h refl
        (λ a level. one_level c a lv r.open_brackets r.next s g t level whole one step),
    single lvs,
  )
    where
      single : (lvs : List Level) → Single (with_part lv s (lexeme_tree s) ∷ lvs) ss
      single [] = one_ends (sort_of s) (ends_with_dot s) ss one
      single (o ∷ lvs) = tt

  comma_in : (c : Context) (lv : Level) (lvs : List Level) → IsStack c (lv ∷ lvs) r → sort_of s ≡ sort.comma
      → Opened (level_with_comma lv ∷ lvs)
  comma_in c lv [] h is =
      let fits = stack_fits c lv [] r h in
      absurd (statement_comma r.open_brackets r.next t (subst (λ (d : Context). Within d r.open_brackets) h.0 fits.1)
      (turn_at r t g s sort.comma is step))
  comma_in c lv (outer ∷ lvs) h is = (
    c,
    stack_top c lv (level_with_comma lv) (outer ∷ lvs) r t h (same_opening lv)
        (λ a level. comma_level c a lv r.open_brackets r.next s g t level is step),
    tt,
  )
    where
      same_opening : (lv : Level) → (level_with_comma lv).opening ≡ lv.opening
      same_opening lv = by (lv.entry.comma || may_hold (part_end lv).last)
        where
          by : (b : Bool) → (entry_with_comma b lv).opening ≡ lv.opening
          by true = refl
          by false = refl

  comment_in : (c : Context) (lv : Level) (lvs : List Level) → IsStack c (lv ∷ lvs) r → Single (lv ∷ lvs) (s ∷ ss)
      → sort_of s ≡ sort.comment
      → Opened (with_comment lv s ∷ lvs)
  comment_in c lv lvs h single is =
      let plain = plain_of sort.comment is (λ e. cc) in (
        c,
        stack_top c lv (with_comment lv s) lvs r t h refl
            (λ a level. comment_level c a lv r.open_brackets r.next s g t level is step (begun c lv lvs r s ss h single plain)
            (is_good.text is)
            (many c lv lvs r s ss h single plain)),
        ends lvs,
      )
    where
      ends : (lvs : List Level) → Single (with_comment lv s ∷ lvs) ss
      ends [] = is_good.ends is
      ends (o ∷ lvs) = tt

  open_in : (c : Context) (lv : Level) (lvs : List Level) (k : Sort) → IsStack c (lv ∷ lvs) r → Single (lv ∷ lvs) (s ∷ ss) → sort_of s ≡ k
      → IsOpen k
      → (k ≡ sort.comment → ⊥) → (k ≡ sort.line_end → ⊥) → Opened (new_level (opened_kind lv.kind false k ss) s ∷ lv ∷ lvs)
  open_in c lv lvs k h single is opens no_comment no_end =
      let fits = stack_fits c lv lvs r h in
      let of = (stack_level c lv lvs r h).1.kind in
      let more = stack_opened c lv lvs r t (opened_kind lv.kind false k ss) g s h (whole_of k is no_comment no_end)
      (subst IsOpen (sym is) opens) step
      (opens_to r.open_brackets g s t c lv.kind of r.next k ss opens (in_fits c (level_end lv).last r.next fits.0)
      (begun c lv lvs r s ss h single (plain_of k is no_end)) (turn_at r t g s k is step)) in
      (more.0, more.1, tt)

  no_end_of_text : sort_of s ≡ sort.text_end → ⊥
  no_end_of_text e = by s e (is_good.whole (λ h. let clash : sort.text_end ≡ sort.comment = sym e ∙ h in cc)
      (λ h. let clash : sort.text_end ≡ sort.line_end = sym e ∙ h in cc))
    where
      by : (s : List ℕ) → sort_of s ≡ sort.text_end → IsWholeLexeme s → ⊥
      by [] e whole = no_lexeme whole.alone
      by (x ∷ s) e whole =
          by_sign (λ y. sort_by y ≡ sort.text_end → ⊥) (λ e. cc) (λ e. cc) (λ e. cc) (λ e. cc) (λ e. cc) (λ e. cc) x
          (subst (λ (k : Sort). BeginsAs (lex_of k) (x ∷ s)) e (begins_as (x ∷ s) whole)) e

  -- a lexeme that is no line end
  lexeme_in : (c : Context) (lv : Level) (lvs : List Level) (k : Sort) → sort_of s ≡ k → (k ≡ sort.line_end → ⊥) → IsStack c (lv ∷ lvs) r
      → Single (lv ∷ lvs) (s ∷ ss) → Opened (levels_with style k false lv lvs s ss)
  lexeme_in c lv lvs sort.open_array is n h single = open_in c lv lvs sort.open_array h single is tt (λ e. cc) (λ e. cc)
  lexeme_in c lv lvs sort.open_table is n h single = open_in c lv lvs sort.open_table h single is tt (λ e. cc) (λ e. cc)
  lexeme_in c lv lvs sort.close_array is n h single =
      closes_in c lv lvs h (subst IsClose (sym is) tt) (whole_of sort.close_array is (λ e. cc) (λ e. cc))
  lexeme_in c lv lvs sort.close_table is n h single =
      closes_in c lv lvs h (subst IsClose (sym is) tt) (whole_of sort.close_table is (λ e. cc) (λ e. cc))
  lexeme_in c lv lvs sort.comma is n h single = comma_in c lv lvs h is
  lexeme_in c lv lvs sort.comment is n h single = comment_in c lv lvs h single is
  lexeme_in c lv lvs sort.equals is n h single = one_in c lv lvs h (subst IsOne (sym is) tt) (whole_of sort.equals is (λ e. cc) (λ e. cc))
  lexeme_in c lv lvs sort.string is n h single = one_in c lv lvs h (subst IsOne (sym is) tt) (whole_of sort.string is (λ e. cc) (λ e. cc))
  lexeme_in c lv lvs sort.word is n h single = one_in c lv lvs h (subst IsOne (sym is) tt) (whole_of sort.word is (λ e. cc) (λ e. cc))
  lexeme_in c lv lvs sort.line_end is n h single = absurd (n refl)
  lexeme_in c lv lvs sort.text_end is n h single = absurd (no_end_of_text is)

  -- ---- the first lexeme of a statement

  module _ (at_start : r ≡ reading [] next.Line) where
    start_turn : (k : Sort) → sort_of s ≡ k → turned [] (sort_turn k next.Line None g s) ≡ Ok t
    start_turn k is = subst (λ (q : Reading). turned q.open_brackets (sort_turn k q.next (innermost q.open_brackets) g s) ≡ Ok t) at_start
        (turn_at r t g s k is step)

    start_step : lexeme_step (reading [] next.Line) (after_toml_gap g s) ≡ Ok t
    start_step = subst (λ (q : Reading). lexeme_step q (after_toml_gap g s) ≡ Ok t) at_start step

    new_level_is : IsLevel statement line_place new_statement [] next.Line
    new_level_is = record {
      kind = tt;
      within = refl;
      p = next.Line;
      q = next.Line;
      part = leads_nil line_place (IsAt at_line [] next.Line) (next.Line, inl refl, refl);
      fits = refl;
      comma = refl;
      comments = inl refl;
    }

    first_one : IsOne (sort_of s) → IsWholeLexeme s → Opened (with_part new_statement s (lexeme_tree s) ∷ [])
    first_one one whole = (
      statement,
      (refl, (one_level statement line_place new_statement [] next.Line s g t new_level_is whole one start_step).0),
      one_ends (sort_of s) (ends_with_dot s) ss one,
    )

    first_open : (k : Sort) → sort_of s ≡ k → IsOpen k → (k ≡ sort.comment → ⊥) → (k ≡ sort.line_end → ⊥)
        → Opened (new_level (opened_kind Statement true k ss) s ∷ new_statement ∷ [])
    first_open k is opens no_comment no_end =
        let more =
        stack_opened statement new_statement [] (reading [] next.Line) t (opened_kind Statement true k ss) g s (refl, new_level_is)
        (whole_of k is no_comment no_end) (subst IsOpen (sym is) opens) start_step (first_opens [] g s t k ss opens (start_turn k is)) in
        (more.0, more.1, tt)

    -- a comment alone
    comment_first : sort_of s ≡ sort.comment → Opened (with_part new_statement s (counted.text (trimmed s)) ∷ [])
    comment_first is =
        let so = where_ok (is_comment s) next.Line want.Comment [] t (start_turn sort.comment is) in
        let text = is_good.text is so.0 in
        let here : last_after_text s ≡ last.Comment = ap (λ (k : Sort). last_after_sort k (ends_with_dot s)) is in
        let goes_on : Ready (trimmed s) (reading [] next.Line) line_place = (
          tt,
          λ h e. step_at (reading [] next.Line) (reading [] next.Line) h (trimmed s) sort.comment text.sorted (clear_at at_line h e)
              (ap (λ (b : Bool). turned [] (where_so b next.Line want.Comment)) text.allowed),
        ) in
        let level : IsLevel statement line_place (with_part new_statement s (counted.text (trimmed s))) [] next.Line = record {
          kind = tt;
          within = refl;
          p = next.Line;
          q = next.Line;
          part =
              subst (λ (l : Last). Leads line_place (counted.text (trimmed s)) (IsAt (touch_at statement l) [] next.Line)) (sym here)
              (leads_text line_place (place (after (lex_of (sort_of (trimmed s)))) (reading [] next.Line)) (trimmed s)
              (IsAt (after comment) [] next.Line) (stands (trimmed s) (reading [] next.Line) line_place text.whole goes_on)
              (next.Line, inl refl, ap (λ (k : Sort). place (after (lex_of k)) (reading [] next.Line)) text.sorted));
          fits = subst (λ (l : Last). Fits statement l next.Line) (sym here) refl;
          comma = refl;
          comments = inl refl;
        } in (
          statement,
          (
            refl,
            subst (λ (q : Reading). IsLevel statement line_place
                (with_part new_statement s (counted.text (trimmed s))) q.open_brackets q.next)
                (sym so.1) level,
          ),
          subst (λ (l : Last). EndsSo l ss) (sym here) (is_good.ends is),
        )

    pub first_in : (k : Sort) → sort_of s ≡ k → (k ≡ sort.line_end → ⊥) → Opened (first_levels style k s ss)
    first_in sort.close_array is n = let clash = start_turn sort.close_array is in absurd (cc)
    first_in sort.close_table is n = let clash = start_turn sort.close_table is in absurd (cc)
    first_in sort.comma is n = let clash = start_turn sort.comma is in absurd (cc)
    first_in sort.comment is n = comment_first is
    first_in sort.open_array is n = first_open sort.open_array is tt (λ e. cc) (λ e. cc)
    first_in sort.open_table is n = first_open sort.open_table is tt (λ e. cc) (λ e. cc)
    first_in sort.equals is n = first_one (subst IsOne (sym is) tt) (whole_of sort.equals is (λ e. cc) (λ e. cc))
    first_in sort.string is n = first_one (subst IsOne (sym is) tt) (whole_of sort.string is (λ e. cc) (λ e. cc))
    first_in sort.word is n = first_one (subst IsOne (sym is) tt) (whole_of sort.word is (λ e. cc) (λ e. cc))
    first_in sort.line_end is n = absurd (n refl)
    first_in sort.text_end is n = absurd (no_end_of_text is)

-- ---- line ends, and the end of the text

abbrev IsLinePlace : Place → Type 0
IsLinePlace x = x ≡ line_place

-- where a statement may end
abbrev IsStatementEnd : Next → Type 0
IsStatementEnd next.Line = ⊤
IsStatementEnd next.After = ⊤
IsStatementEnd next.AfterDate = ⊤
IsStatementEnd n = ⊥

statement_ends : (bs : List Bracket) (n : Next) (t : Reading) → bs ≡ [] → In statement n → turned bs (line_end_turn n (innermost bs)) ≡ Ok t
    → IsStatementEnd n × (t ≡ reading [] next.Line)
statement_ends bs n t w i e = by n i (subst (λ (x : List Bracket). turned x (line_end_turn n (innermost x)) ≡ Ok t) w e)
  where
    by : (n : Next) → In statement n → turned [] (line_end_turn n None) ≡ Ok t → IsStatementEnd n × (t ≡ reading [] next.Line)
    by next.Line i e = (tt, sym (same_reading e))
    by next.After i e = (tt, sym (same_reading e))
    by next.AfterDate i e = (tt, sym (same_reading e))
    by (next.Key owner.Value d) i e = absurd (cc)
    by next.Value i e = absurd (cc)
    by n i e = absurd i

text_ends : (bs : List Bracket) (n : Next) (t : Reading) → In statement n → turned bs (end_turn n (innermost bs)) ≡ Ok t → IsStatementEnd n
text_ends bs next.Line t i e = tt
text_ends bs next.After t i e = tt
text_ends bs next.AfterDate t i e = tt
text_ends bs (next.Key owner.Value d) t i e = absurd (cc)
text_ends bs next.Value t i e = absurd (cc)
text_ends bs n t i e = absurd i

no_end_in : (bs : List Bracket) (n : Next) (x : Bracket) (b : Option Bracket) (t : Reading) → b ≡ Some x → turned bs (at_end n b) ≡ Ok t → ⊥
no_end_in bs n x None t is e = cc
no_end_in bs n x (Some y) t is e = cc

nested_end : (c : Context) (bs : List Bracket) (n : Next) (t : Reading) → (c ≡ statement → ⊥) → Within c bs → In c n
    → turned bs (end_turn n (innermost bs)) ≡ Ok t → ⊥
nested_end statement bs n t nested w i e = nested refl
nested_end array bs next.After t nested w i e = no_end_in bs next.After bracket.Array (innermost bs) t w e
nested_end array bs next.AfterDate t nested w i e = no_end_in bs next.AfterDate bracket.Array (innermost bs) t w e
nested_end table bs next.After t nested w i e = no_end_in bs next.After bracket.Table (innermost bs) t w e
nested_end table bs next.AfterDate t nested w i e = no_end_in bs next.AfterDate bracket.Table (innermost bs) t w e
nested_end c bs next.Member t nested w i e = cc
nested_end c bs next.Entry t nested w i e = cc
nested_end c bs (next.Key o d) t nested w i e = cc
nested_end c bs next.Value t nested w i e = cc
nested_end c bs next.Header t nested w i e = cc
nested_end c bs next.Closing t nested w i e = cc
nested_end c bs n t nested w i e = absurd i

end_covered : (m n : Next) → Covers m n → IsStatementEnd n → IsStatementEnd m
end_covered m n (inl e) h = subst IsStatementEnd (sym e) h
end_covered m n (inr (d, a)) h = subst IsStatementEnd (sym d) tt

ends_line : (m : Next) → IsStatementEnd m → turned [] (line_end_turn m None) ≡ Ok (reading [] next.Line)
ends_line next.Line h = refl
ends_line next.After h = refl
ends_line next.AfterDate h = refl
ends_line m h = absurd h

may_end : (l : Last) → MayEnd (touch_at statement l)
may_end last.Start = tt
may_end l = tt

lined : (bs : List Bracket) (m : Next) (l : Last) → bs ≡ [] → IsStatementEnd m
    → Lined (place (touch_at statement l) (reading bs m)) IsLinePlace
lined bs m l w h =
    subst (λ (x : List Bracket). Lined (place (touch_at statement l) (reading x m)) IsLinePlace) (sym w)
    (reading [] next.Line, may_end l, ends_line m h, refl)

-- a statement and its line end
statement_leads : (lv : Level) (bs : List Bracket) (n : Next) → IsLevel statement line_place lv bs n → IsStatementEnd n
    → Leads line_place (append (level_end lv).tree HardLine) IsLinePlace
statement_leads lv bs n h ends =
    let to = level_reaches statement line_place lv bs n h in
    leads_append line_place (level_end lv).tree HardLine (IsAt (touch_at statement (level_end lv).last) bs n) IsLinePlace to.leads
    (λ b (m, covers, is). λ mode. in_hard IsLinePlace mode b
    (subst (λ (x : Place). Lined x IsLinePlace) (sym is) (lined bs m (level_end lv).last h.within (end_covered m n covers ends))))

lines_lead : (blank : Bool) (lines tree : Tree) → Leads line_place lines IsLinePlace → Leads line_place (append tree HardLine) IsLinePlace
    → Leads line_place (lines_with blank lines tree) IsLinePlace
lines_lead false lines tree h k =
    leads_append line_place lines (append tree HardLine) IsLinePlace IsLinePlace h
    (λ b e. subst (λ (x : Place). Leads x (append tree HardLine) IsLinePlace) (sym e) k)
lines_lead true lines tree h k =
    leads_append line_place (append lines HardLine) (append tree HardLine) IsLinePlace IsLinePlace
    (leads_append line_place lines HardLine IsLinePlace IsLinePlace h
    (λ b e. λ mode. in_hard IsLinePlace mode b (subst (λ (x : Place). Lined x IsLinePlace) (sym e) (reading [] next.Line, tt, refl, refl))))
    (λ b e. subst (λ (x : Place). Leads x (append tree HardLine) IsLinePlace) (sym e) k)

-- ---- texts

-- what has not ended is read up to here
abbrev IsOpened : List Level → List (List ℕ) → Reading → Type 0
IsOpened [] ss r = r ≡ reading [] next.Line
IsOpened (lv ∷ lvs) ss r = (c : Context) × IsStack c (lv ∷ lvs) r × Single (lv ∷ lvs) ss

record IsRead (d : Draft) (ss : List (List ℕ)) (r : Reading) : Type 0 where
  done : Leads line_place d.done IsLinePlace
  opened : IsOpened d.levels ss r

module _ (style : Style) (s g : List ℕ) (ss : List (List ℕ)) (r t : Reading) (is_good : IsGood s ss)
    (step : lexeme_step r (after_toml_gap g s) ≡ Ok t) where
  opened_as : (lvs : List Level) → (c : Context) × IsStack c lvs t × Single lvs ss → IsOpened lvs ss t
  opened_as [] h = absurd h.1
  opened_as (lv ∷ lvs) h = h

  opened_after : (k : Sort) → sort_of s ≡ k → (k ≡ sort.line_end → ⊥) → (lvs : List Level) → IsOpened lvs (s ∷ ss) r
      → IsOpened (levels_after style k lvs s ss) ss t
  opened_after k is n [] h = opened_as (first_levels style k s ss) (first_in style s g ss r t is_good step h k is n)
  opened_after k is n (lv ∷ lvs) (c, h, single) =
      opened_as (levels_with style k false lv lvs s ss) (lexeme_in style s g ss r t is_good step c lv lvs k is n h single)

  lexeme_read : (k : Sort) → sort_of s ≡ k → (k ≡ sort.line_end → ⊥) → (d : Draft) → IsRead d (s ∷ ss) r
      → IsRead (record d { levels = levels_after style k d.levels s ss }) ss t
  lexeme_read k is n d h = record { done = h.done; opened = opened_after k is n d.levels h.opened }

  line_read : sort_of s ≡ sort.line_end → (d : Draft) (lvs : List Level) → Leads line_place d.done IsLinePlace → IsOpened lvs (s ∷ ss) r
      → IsRead (with_ended_line d lvs) ss t
  line_read is d [] done h = record {
    done = done;
    opened =
        (statement_ends [] next.Line t refl tt
        (subst (λ (q : Reading). turned q.open_brackets (line_end_turn q.next (innermost q.open_brackets)) ≡ Ok t) h
        (turn_at r t g s sort.line_end is step))).1;
  }
  line_read is d (lv ∷ []) done (c, (e, h), single) =
      let level = subst (λ (x : Context). IsLevel x line_place lv r.open_brackets r.next) e h in
      let i = in_fits statement (level_end lv).last r.next (level_reaches statement line_place lv r.open_brackets r.next level).fits in
      let ends = statement_ends r.open_brackets r.next t level.within i (turn_at r t g s sort.line_end is step) in
      record {
        done = lines_lead d.blank d.done (level_end lv).tree done (statement_leads lv r.open_brackets r.next level ends.0);
        opened = ends.1;
      }
  line_read is d (lv ∷ outer ∷ lvs) done (c, h, single) = record {
    done = done;
    opened = (
      c,
      stack_top c lv (with_line_end lv) (outer ∷ lvs) r t h refl
          (λ a level. line_level c a lv r.open_brackets r.next s g t level is step (not_statement h.around h.before.next c h.opens)),
      tt,
    );
  }

  draft_read : (k : Sort) → sort_of s ≡ k → (d : Draft) → IsRead d (s ∷ ss) r → IsRead (draft_with style k d s ss) ss t
  draft_read sort.line_end is d h = line_read is d d.levels h.done h.opened
  draft_read sort.open_array is d h = lexeme_read sort.open_array is (λ e. cc) d h
  draft_read sort.close_array is d h = lexeme_read sort.close_array is (λ e. cc) d h
  draft_read sort.open_table is d h = lexeme_read sort.open_table is (λ e. cc) d h
  draft_read sort.close_table is d h = lexeme_read sort.close_table is (λ e. cc) d h
  draft_read sort.comma is d h = lexeme_read sort.comma is (λ e. cc) d h
  draft_read sort.equals is d h = lexeme_read sort.equals is (λ e. cc) d h
  draft_read sort.comment is d h = lexeme_read sort.comment is (λ e. cc) d h
  draft_read sort.string is d h = lexeme_read sort.string is (λ e. cc) d h
  draft_read sort.word is d h = lexeme_read sort.word is (λ e. cc) d h
  draft_read sort.text_end is d h = lexeme_read sort.text_end is (λ e. cc) d h

-- where the text ends
ended_leads : (d : Draft) (lvs : List Level) (r t : Reading) (g : List ℕ) → Leads line_place d.done IsLinePlace → IsOpened lvs [] r
    → lexeme_step r (after_toml_gap g []) ≡ Ok t → Leads line_place (ended_in d lvs) IsLinePlace
ended_leads d [] r t g done h step = done
ended_leads d (lv ∷ []) r t g done (c, (e, h), single) step =
    let level = subst (λ (x : Context). IsLevel x line_place lv r.open_brackets r.next) e h in
    let i = in_fits statement (level_end lv).last r.next (level_reaches statement line_place lv r.open_brackets r.next level).fits in
    lines_lead d.blank d.done (level_end lv).tree done
    (statement_leads lv r.open_brackets r.next level (text_ends r.open_brackets r.next t i (turn_at r t g [] sort.text_end refl step)))
ended_leads d (lv ∷ outer ∷ lvs) r t g done (c, h, single) step =
    let fits = stack_fits c lv (outer ∷ lvs) r h in
    absurd (nested_end c r.open_brackets r.next t (not_statement h.around h.before.next c h.opens) fits.1
    (in_fits c (level_end lv).last r.next fits.0) (turn_at r t g [] sort.text_end refl step))

module _ (P : Type 0) where
  then_ok : (m : Result Reading Expected) (ps : List SpacedToml) → is_ok (then_lexemes m (λ t. reading_after t ps)) ≡ true
      → ((t : Reading) → m ≡ Ok t → is_ok (reading_after t ps) ≡ true → P) → P
  then_ok (Ok t) ps h k = k t refl h
  then_ok (Err e) ps h k = absurd (true≢false (sym h))

document_leads : (style : Style) (ss : List (List ℕ)) (bytes : List ℕ) (d : Draft) (r : Reading) → AreSound ss
    → is_ok (reading_after r (toml_spaced_as bytes ss)) ≡ true → IsRead d ss r → Leads line_place (document_from style d ss) IsLinePlace
unfolding document_from
document_leads style [] bytes d r sound h read =
    then_ok (Leads line_place (ended_in d d.levels) IsLinePlace) (lexeme_step r (after_toml_gap bytes [])) [] h
    (λ t e k. ended_leads d d.levels r t bytes read.done read.opened e)
document_leads style (s ∷ ss) bytes d r sound h read =
    let rest = drop (length (blanks bytes) + length s) bytes in
    then_ok (Leads line_place (document_from style (draft_with style (sort_of s) d s ss) ss) IsLinePlace)
    (lexeme_step r (after_toml_gap (blanks bytes) s)) (toml_spaced_as rest ss) h
    (λ t e k. document_leads style ss rest (draft_with style (sort_of s) d s ss) t sound.1 k
    (draft_read style s (blanks bytes) ss r t (good s ss sound.0) e (sort_of s) refl d read))

-- ---- layouts

sound_lexemes : (text : List ℕ) → is_toml text ≡ true → AreSound (toml_lexemes_of text)
sound_lexemes text h =
    lexemes_sound text (λ k d lt quoted.
    let s = get_or (toml_lexemes_of text) k d in
    strings_are_closed s ((lexemes_allowed text h k d lt).if_string (sort_string s quoted)) 32 [] refl)

end_goes_on : GoesOn (reading [] next.Line) []
end_goes_on = ap (λ (ss : List (List ℕ)). is_ok (reading_after (reading [] next.Line) (toml_spaced_as [] ss))) cut-nil

-- each spelling of the document of a TOML text leads the grammar from the beginning of a text to the beginning of a line
pub document_runs : (style : Style) (text : List ℕ) (bits : List Bit) → is_toml text ≡ true
    → IsSpelled (toml_document style (toml_lexemes_of text)) Break bits
    → (b : Place) × Runs (place at_line (reading [] next.Line)) bits b × (b ≡ line_place)
unfolding is_toml
document_runs style text bits h spelled =
    document_leads style (toml_lexemes_of text) text no_draft first_reading (sound_lexemes text h) h
    (record { done = leads_nil line_place IsLinePlace refl; opened = refl }) Break bits spelled

spelled_out_toml : (o : RenderOptions) (style : Style) (text bytes : List ℕ) (bits : List Bit) → is_toml text ≡ true
    → IsSpelled (toml_document style (toml_lexemes_of text)) Break bits → AreWritten o true bits bytes → is_toml bytes ≡ true
unfolding is_toml
spelled_out_toml o style text bytes bits h spelled written =
    let leads = document_runs style text bits h spelled in
    goes o leads.0 (ap (λ (x : Place). x.touch) leads.2) (subst (λ (x : Place). GoesOn x.reading []) (sym leads.2) end_goes_on) bits at_line
    (reading [] next.Line) bytes leads.1 written

-- aligned or not
as_aligned : (align : Bool) (bytes : List ℕ) → is_toml bytes ≡ true → is_toml (comments_as align bytes) ≡ true
as_aligned true bytes h = toml_stays bytes h
as_aligned false bytes h = h

pub layouts_are_toml : LayoutsAreToml
layouts_are_toml style text bytes h laid =
    let o = toml_options style laid.laid.ending in
    let d = toml_document style (toml_lexemes_of text) in
    let spells = layouts_are_spellings o d laid.before refl (exact_document style (toml_lexemes_of text)) laid.laid.laid in
    ap is_toml laid.aligned ∙ as_aligned style.align laid.before (spelled_out_toml o style text laid.before spells.0 h spells.1 spells.2)
