-- The lexemes of TOML texts are orderly: commas are after items, brackets are closed, and comments are at the ends of lines.
use Rattle.std.proofs.Common.{◌≡◌, refl, sym, ◌∙◌, ap, subst, arith, ℕ, suc, ◌+◌, ◌-◌, ◌≤◌, ◌<◌, Bool, true, false, cond, ◌&&◌, ◌||◌}
use Rattle.std.proofs.Common.{List, [], ◌∷◌, ◌++◌}
use Rattle.std.proofs.Common.{inl, inr, get_or, length, take, drop, Result, Ok, Err, length-append}
use Rattle.std.proofs.lemmas.List.{length-take-le}
use Rattle.std.proofs.lemmas.Option.{slice_get_cases}
use Rattle.std.specs.Prelude.{◌⊎◌, Option, Some, None, is_ok, slice_get}
use Rattle.prettyless_model.specs.Tree.{Tree}
use Rattle.toml_lexemes.specs.Bytes.{ends_with_dot}
use Rattle.toml_lexemes.specs.Lexemes.{toml_lexemes_of}
use Rattle.toml_lexemes.specs.SpacedLexemes.{after_toml_gap, blanks, toml_spaced_as}
use Rattle.toml_grammar.specs.Comments.{is_comment}
use Rattle.toml_grammar.specs.Dates.{is_date, is_time}
use Rattle.toml_grammar.specs.Grammar.{after_value_comma, array_end, at_end, comment_after, line_end_after, close_array_turn}
use Rattle.toml_grammar.specs.Grammar.{close_table_turn, comma_turn, comment_turn, end_turn, equals_turn, key_turn, line_end_turn}
use Rattle.toml_grammar.specs.Grammar.{open_array_turn, open_table_turn, string_turn, table_end, value_turn, where_so, word_turn, Reading}
use Rattle.toml_grammar.specs.Grammar.{innermost, is_clear, is_empty_gap, is_line_end, is_one_space, is_toml, lexeme_step, reading_after}
use Rattle.toml_grammar.specs.Grammar.{sort_turn, then_lexemes, turned}
use Rattle.toml_grammar.specs.Keys.{key_word}
use Rattle.toml_grammar.specs.Sorts as sort
use Rattle.toml_grammar.specs.Sorts.{Sort, sort_of}
use Rattle.toml_grammar.specs.Strings.{is_key_string, is_string}
use Rattle.toml_grammar.specs.Values.{is_value}
use Rattle.toml_grammar.specs.declared.expected.Expected.{Expected}
use Rattle.toml_grammar.specs.declared.expected.Expected.TheVariants as want
use Rattle.toml_grammar.specs.declared.next.Bracket.{Bracket}
use Rattle.toml_grammar.specs.declared.next.Bracket.TheVariants as bracket
use Rattle.toml_grammar.specs.declared.next.Owner.{Owner}
use Rattle.toml_grammar.specs.declared.next.Owner.TheVariants as owner
use Rattle.toml_grammar.specs.declared.next.Next.{Next}
use Rattle.toml_grammar.specs.declared.next.Next.TheVariants as next
use Rattle.toml_grammar.specs.declared.turn.LexemeTurn.{LexemeTurn}
use Rattle.toml_grammar.specs.declared.turn.LexemeTurn.TheVariants as turn
use Rattle.toml_documents.specs.Documents.{Commented, after_rest, lexeme_tree, end_after_comma, list_tree, with_ended_line, Draft, Level}
use Rattle.toml_documents.specs.Documents.{draft_with, entry_with_comma, level_end, levels_after, no_draft, new_statement, part_end}
use Rattle.toml_documents.specs.Documents.{with_comment, with_line_end, with_part}
use Rattle.toml_documents.specs.Gaps.{is_last_comment, may_hold}
use Rattle.toml_documents.specs.Kinds.{last_after_sort, last_after_text}
use Rattle.toml_documents.specs.declared.kind.Kind.TheVariants.{Header}
use Rattle.toml_documents.specs.declared.kind.Last.{Last}
use Rattle.toml_documents.specs.declared.kind.Last.TheVariants as last
use Rattle.toml_documents.specs.declared.style.Style.{Style}
use Rattle.toml_documents.proofs.LexemeFacts.{AreLexemes, EndsFirst, alone_is, comment_begins, lexemes_are, some_sort}
use Rattle.toml_documents.proofs.ReadDrafts.{AreOrderly, BeginsComment, IsInBrackets, IsLeaf, IsOutside, MayCome, TakesCommaIn}
use Rattle.toml_documents.proofs.ReadDrafts.{TakesCommentIn, TakesPartIn}
use Rattle.toml_documents.proofs.ReadLists.{Closes, Opens}
use Rattle.toml_documents.proofs.ReadSteps.{IsLexeme}

-- ---- brackets that are open

len_more : (bs : List Bracket) (b : Bracket) → length (bs ++ b ∷ []) ≡ suc (length bs)
len_more bs b = omega (arith, length-append bs (b ∷ []))

len_less : (bs : List Bracket) → 1 ≤ length bs → suc (length (take (length bs - 1) bs)) ≡ length bs
len_less bs h = omega (arith, length-take-le (length bs - 1) bs)

some_open : (bs : List Bracket) (b : Bracket) → innermost bs ≡ Some b → 1 ≤ length bs
some_open [] b e = absurd (cc)
some_open (x ∷ bs) b e = omega arith

none_open : (bs : List Bracket) → innermost bs ≡ None → bs ≡ []
none_open [] e = refl
none_open (x ∷ bs) e = absurd (within (slice_get_cases (x ∷ bs) (length (x ∷ bs) - 1)).1)
  where
    within : ((y : Bracket) × (length (x ∷ bs) - 1 < length (x ∷ bs)) × (slice_get (x ∷ bs) (length (x ∷ bs) - 1) ≡ Some y)
        × (get_or (x ∷ bs) (length (x ∷ bs) - 1) y ≡ y))
        ⊎ ((length (x ∷ bs) ≤ length (x ∷ bs) - 1) × (slice_get (x ∷ bs) (length (x ∷ bs) - 1) ≡ None)) → ⊥
    within (inl (y, lt, same, is)) = cc
    within (inr (le, none)) = omega arith

-- ---- levels

-- nothing waits after a part that begins so
abbrev pub HoldsNone : List ℕ → Type 0
HoldsNone s = may_hold (last_after_text s) ≡ false

abbrev pub AreOpened : List Level → Type 0
AreOpened [] = Unit {0}
AreOpened (lv ∷ []) = Unit {0}
AreOpened (lv ∷ outer ∷ lvs) = HoldsNone lv.opening × AreOpened (outer ∷ lvs)

-- a statement to which more may come
pub record IsCalmLevel (lv : Level) : Type 0 where
  pub comments : lv.entry.comments ≡ []
  pub comma : lv.entry.comma ≡ false
  pub part : is_last_comment (part_end lv).last ≡ false

abbrev pub AreCalm : List Level → Type 0
AreCalm [] = Unit {0}
AreCalm (lv ∷ []) = IsCalmLevel lv
AreCalm (lv ∷ outer ∷ lvs) = Unit {0}

-- nothing is read of a statement, or a comment alone
abbrev pub IsIdle : List Level → Type 0
IsIdle [] = Unit {0}
IsIdle (lv ∷ []) = is_last_comment (part_end lv).last ≡ true
IsIdle (lv ∷ outer ∷ lvs) = ⊥

-- the last entry is an item alone
abbrev pub HasItem : List Level → Type 0
HasItem [] = ⊥
HasItem (lv ∷ lvs) = (lv.entry.comma ≡ false) × (may_hold (part_end lv).last ≡ false)

-- the innermost level is that of a header
abbrev pub IsInHeader : List Level → Type 0
IsInHeader [] = ⊥
IsInHeader (lv ∷ lvs) = lv.kind ≡ Header

-- the levels are those where this may come next in brackets
abbrev pub Fits : Next → List Bracket → List Level → Type 0
Fits next.Line bs levels = (bs ≡ []) × IsIdle levels
Fits next.Header bs levels = (bs ≡ []) × (length levels ≡ 2) × IsInHeader levels
Fits (next.Key owner.Value due) bs levels = length levels ≡ suc (length bs)
Fits (next.Key owner.Table due) bs levels = (bs ≡ []) × (length levels ≡ 2)
Fits (next.Key owner.Tables due) bs levels = (bs ≡ []) × (length levels ≡ 3)
Fits next.Closing bs levels = (bs ≡ []) × (length levels ≡ 2)
Fits next.Value bs levels = length levels ≡ suc (length bs)
Fits next.Member bs levels = (length levels ≡ suc (length bs)) × (1 ≤ length bs)
Fits next.Entry bs levels = (length levels ≡ suc (length bs)) × (1 ≤ length bs)
Fits next.After bs levels = (length levels ≡ suc (length bs)) × HasItem levels
Fits next.AfterDate bs levels = (length levels ≡ suc (length bs)) × HasItem levels

no_comment : (l : Last) → may_hold l ≡ false → is_last_comment l ≡ false
no_comment last.Start h = refl
no_comment last.Close h = refl
no_comment last.Equals h = refl
no_comment last.Word h = refl
no_comment last.Dot h = refl
no_comment last.String h = refl
no_comment last.Comma h = refl
no_comment last.Comment h = absurd (cc)

word_last : (dotted : Bool) → may_hold (last_after_sort sort.word dotted) ≡ false
word_last true = refl
word_last false = refl

-- what begins with such a lexeme
leaf_holds : (k : Sort) (dotted : Bool) → IsLeaf k → may_hold (last_after_sort k dotted) ≡ false
leaf_holds sort.equals dotted h = refl
leaf_holds sort.string dotted h = refl
leaf_holds sort.word dotted h = word_last dotted
leaf_holds sort.open_array dotted h = absurd h
leaf_holds sort.open_table dotted h = absurd h
leaf_holds sort.close_array dotted h = absurd h
leaf_holds sort.close_table dotted h = absurd h
leaf_holds sort.comma dotted h = absurd h
leaf_holds sort.line_end dotted h = absurd h
leaf_holds sort.comment dotted h = absurd h
leaf_holds sort.text_end dotted h = absurd h

open_holds : (k : Sort) (dotted : Bool) → Opens k → may_hold (last_after_sort k dotted) ≡ false
open_holds sort.open_array dotted h = refl
open_holds sort.open_table dotted h = refl
open_holds sort.close_array dotted h = absurd h
open_holds sort.close_table dotted h = absurd h
open_holds sort.equals dotted h = absurd h
open_holds sort.string dotted h = absurd h
open_holds sort.word dotted h = absurd h
open_holds sort.comma dotted h = absurd h
open_holds sort.line_end dotted h = absurd h
open_holds sort.comment dotted h = absurd h
open_holds sort.text_end dotted h = absurd h

calm_part : (lv : Level) (lvs : List Level) (s : List ℕ) (tree : Tree) → HoldsNone s → AreCalm (with_part lv s tree ∷ lvs)
calm_part lv [] s tree h = record { comments = refl; comma = refl; part = no_comment (last_after_text s) h }
calm_part lv (outer ∷ lvs) s tree h = tt

opened_part : (lv : Level) (lvs : List Level) (s : List ℕ) (tree : Tree) → AreOpened (lv ∷ lvs) → AreOpened (with_part lv s tree ∷ lvs)
opened_part lv [] s tree h = tt
opened_part lv (outer ∷ lvs) s tree h = h

-- where a level is calm, its document ends with its part
calm_last : (lv : Level) → IsCalmLevel lv → (level_end lv).last ≡ (part_end lv).last
calm_last lv h =
    ap (λ (cs : List Commented). (after_rest lv.kind (record lv.entry { comments = cs }) (part_end lv)).last) h.comments
    ∙ ap (λ (b : Bool). (end_after_comma b (part_end lv)).last) h.comma

calm_end : (lv : Level) → IsCalmLevel lv → is_last_comment (level_end lv).last ≡ false
calm_end lv h = ap is_last_comment (calm_last lv h) ∙ h.part

takes_part : (levels : List Level) → AreCalm levels → TakesPartIn levels
takes_part [] h = tt
takes_part (lv ∷ []) h = calm_end lv h
takes_part (lv ∷ outer ∷ lvs) h = tt

takes_comment : (levels : List Level) → AreCalm levels → TakesCommentIn levels
takes_comment [] h = tt
takes_comment (lv ∷ []) h = (h.comments, h.part)
takes_comment (lv ∷ outer ∷ lvs) h = tt

-- ---- where a turn leads

-- where these levels are open after a lexeme, what is left may come
pub record LedTo (levels : List Level) (rest : List (List ℕ)) (P : Reading → Type 0) : Type 0 where
  pub brackets : List Bracket
  pub due : Next
  pub ok : P (record { open_brackets = brackets; next = due })
  pub fits : Fits due brackets levels
  pub opened : AreOpened levels
  pub calm : AreCalm levels ⊎ EndsFirst rest

-- P of the reading, where there is one
abbrev pub WhereRead : Result Reading Expected → (Reading → Type 0) → Type 0
WhereRead (Ok r) P = P r
WhereRead (Err e) P = ⊥

abbrev pub IsTaken : List Bracket → LexemeTurn → (Reading → Type 0) → Type 0
IsTaken bs t P = WhereRead (turned bs t) P

pub idle_calm : (lv : Level) → IsIdle (lv ∷ []) → AreCalm (lv ∷ []) → ⊥
idle_calm lv h k = let clash : true ≡ false = sym h ∙ k.part in cc

module _ (style : Style) (rest : List (List ℕ)) (P : Reading → Type 0) where
  taken_so : (bs : List Bracket) (ok : Bool) (n : Next) (e : Expected) → IsTaken bs (where_so ok n e) P
      → P (record { open_brackets = bs; next = n })
  taken_so bs true n e h = h
  taken_so bs false n e h = absurd h

  taken_key : (bs : List Bracket) (o : Owner) (k : Option Bool) (e : Expected) → IsTaken bs (key_turn o k e) P
      → (due : Bool) × (P (record { open_brackets = bs; next = next.Key o due }))
  taken_key bs o None e h = absurd h
  taken_key bs o (Some due) e h = (due, h)

  -- ---- opening brackets

  open_array_leads : (n : Next) (bs : List Bracket) (g s : List ℕ) (levels : List Level) → HoldsNone s → Fits n bs levels
      → AreOpened levels → AreCalm levels → IsTaken bs (open_array_turn n (innermost bs) g) P
      → LedTo (levels_after style sort.open_array levels s rest) rest P
  open_array_leads next.Line bs g s [] holds f o c t =
      record { brackets = bs; due = next.Header; ok = t; fits = (f.0, refl, refl); opened = (holds, tt); calm = inl tt }
  open_array_leads next.Line bs g s (lv ∷ []) holds f o c t = absurd (idle_calm lv f.1 c)
  open_array_leads next.Line bs g s (lv ∷ outer ∷ lvs) holds f o c t = absurd f.1
  open_array_leads next.Header bs g s [] holds f o c t = absurd (omega (arith, f.1))
  open_array_leads next.Header bs g s (lv ∷ lvs) holds f o c t = record {
    brackets = bs;
    due = next.Key owner.Tables true;
    ok = taken_so bs (is_empty_gap g) (next.Key owner.Tables true) _ t;
    fits = (f.0, omega (arith, f.1));
    opened = (holds, o);
    calm = inl tt;
  }
  open_array_leads next.Value bs g s [] holds f o c t = absurd (omega (arith, f))
  open_array_leads next.Value bs g s (lv ∷ lvs) holds f o c t = record {
    brackets = bs ++ bracket.Array ∷ [];
    due = next.Member;
    ok = t;
    fits = (omega (arith, f, len_more bs bracket.Array), omega (arith, len_more bs bracket.Array));
    opened = (holds, o);
    calm = inl tt;
  }
  open_array_leads next.Member bs g s [] holds f o c t = absurd (omega (arith, f.0))
  open_array_leads next.Member bs g s (lv ∷ lvs) holds f o c t = record {
    brackets = bs ++ bracket.Array ∷ [];
    due = next.Member;
    ok = t;
    fits = (omega (arith, f.0, len_more bs bracket.Array), omega (arith, len_more bs bracket.Array));
    opened = (holds, o);
    calm = inl tt;
  }
  open_array_leads n bs g s levels holds f o c t = absurd t

  open_table_leads : (n : Next) (bs : List Bracket) (s : List ℕ) (levels : List Level) → HoldsNone s → Fits n bs levels
      → AreOpened levels → AreCalm levels → IsTaken bs (open_table_turn n (innermost bs)) P
      → LedTo (levels_after style sort.open_table levels s rest) rest P
  open_table_leads next.Value bs s [] holds f o c t = absurd (omega (arith, f))
  open_table_leads next.Value bs s (lv ∷ lvs) holds f o c t = record {
    brackets = bs ++ bracket.Table ∷ [];
    due = next.Entry;
    ok = t;
    fits = (omega (arith, f, len_more bs bracket.Table), omega (arith, len_more bs bracket.Table));
    opened = (holds, o);
    calm = inl tt;
  }
  open_table_leads next.Member bs s [] holds f o c t = absurd (omega (arith, f.0))
  open_table_leads next.Member bs s (lv ∷ lvs) holds f o c t = record {
    brackets = bs ++ bracket.Table ∷ [];
    due = next.Entry;
    ok = t;
    fits = (omega (arith, f.0, len_more bs bracket.Table), omega (arith, len_more bs bracket.Table));
    opened = (holds, o);
    calm = inl tt;
  }
  open_table_leads n bs s levels holds f o c t = absurd t

  -- ---- closing brackets

  -- the levels after a closing bracket
  abbrev closed_levels : List ℕ → List Level → List Level
  closed_levels s [] = []
  closed_levels s (lv ∷ []) = []
  closed_levels s (lv ∷ outer ∷ lvs) = with_part outer lv.opening (list_tree style lv s) ∷ lvs

  -- at least one bracket is open
  closes_to : (n : Next) (bs : List Bracket) (s : List ℕ) (levels : List Level) → 2 ≤ length levels → AreOpened levels
      → P (record { open_brackets = bs; next = n })
      → (suc (length (closed_levels s levels)) ≡ length levels → HasItem (closed_levels s levels) → Fits n bs (closed_levels s levels))
      → IsInBrackets levels × LedTo (closed_levels s levels) rest P
  closes_to n bs s [] two o t fits = absurd (omega (arith, two))
  closes_to n bs s (lv ∷ []) two o t fits = absurd (omega (arith, two))
  closes_to n bs s (lv ∷ outer ∷ lvs) two o t fits = (
    tt,
    record {
      brackets = bs;
      due = n;
      ok = t;
      fits = fits refl (refl, o.0);
      opened = opened_part outer lvs lv.opening (list_tree style lv s) o.1;
      calm = inl (calm_part outer lvs lv.opening (list_tree style lv s) o.0);
    },
  )

  -- a bracket that the grammar counts
  closes_one : (bs : List Bracket) (s : List ℕ) (levels : List Level) → length levels ≡ suc (length bs) → 1 ≤ length bs → AreOpened levels
      → IsTaken bs turn.Closes P → IsInBrackets levels × LedTo (closed_levels s levels) rest P
  closes_one bs s levels f some o t =
      closes_to next.After (take (length bs - 1) bs) s levels (omega (arith, f, some)) o t
      (λ e item. (omega (arith, e, f, len_less bs some), item))

  array_end_leads : (n : Next) (bs : List Bracket) (b : Option Bracket) (s : List ℕ) (levels : List Level) → innermost bs ≡ b
      → length levels ≡ suc (length bs) → AreOpened levels → IsTaken bs (array_end n b) P
      → IsInBrackets levels × LedTo (closed_levels s levels) rest P
  array_end_leads n bs None s levels e f o t = absurd t
  array_end_leads n bs (Some bracket.Array) s levels e f o t = closes_one bs s levels f (some_open bs bracket.Array e) o t
  array_end_leads n bs (Some bracket.Table) s levels e f o t = absurd t

  table_end_leads : (n : Next) (bs : List Bracket) (b : Option Bracket) (s : List ℕ) (levels : List Level) → innermost bs ≡ b
      → length levels ≡ suc (length bs) → AreOpened levels → IsTaken bs (table_end n b) P
      → IsInBrackets levels × LedTo (closed_levels s levels) rest P
  table_end_leads n bs None s levels e f o t = absurd t
  table_end_leads n bs (Some bracket.Array) s levels e f o t = absurd t
  table_end_leads n bs (Some bracket.Table) s levels e f o t = closes_one bs s levels f (some_open bs bracket.Table e) o t

  header_len : (bs : List Bracket) (a b : ℕ) → bs ≡ [] → suc a ≡ b → b ≡ 2 → a ≡ suc (length bs)
  header_len bs a b e f g = omega (arith, f, g, ap length e)

  close_array_leads : (n : Next) (bs : List Bracket) (g s : List ℕ) (levels : List Level) → Fits n bs levels → AreOpened levels
      → IsTaken bs (close_array_turn n (innermost bs) g) P → IsInBrackets levels × LedTo (closed_levels s levels) rest P
  close_array_leads (next.Key owner.Table false) bs g s levels f o t =
      closes_to next.After bs s levels (omega (arith, f.1)) o t (λ e item. (header_len bs _ _ f.0 e f.1, item))
  close_array_leads (next.Key owner.Tables false) bs g s levels f o t =
      closes_to next.Closing bs s levels (omega (arith, f.1)) o t (λ e item. (f.0, omega (arith, e, f.1)))
  close_array_leads next.Closing bs g s levels f o t =
      closes_to next.After bs s levels (omega (arith, f.1)) o (taken_so bs (is_empty_gap g) next.After _ t)
      (λ e item. (header_len bs _ _ f.0 e f.1, item))
  close_array_leads next.Member bs g s levels f o t = closes_one bs s levels f.0 f.1 o t
  close_array_leads next.After bs g s levels f o t = array_end_leads next.After bs (innermost bs) s levels refl f.0 o t
  close_array_leads next.AfterDate bs g s levels f o t = array_end_leads next.AfterDate bs (innermost bs) s levels refl f.0 o t
  close_array_leads n bs g s levels f o t = absurd t

  close_table_leads : (n : Next) (bs : List Bracket) (s : List ℕ) (levels : List Level) → Fits n bs levels → AreOpened levels
      → IsTaken bs (close_table_turn n (innermost bs)) P → IsInBrackets levels × LedTo (closed_levels s levels) rest P
  close_table_leads next.Entry bs s levels f o t = closes_one bs s levels f.0 f.1 o t
  close_table_leads next.After bs s levels f o t = table_end_leads next.After bs (innermost bs) s levels refl f.0 o t
  close_table_leads next.AfterDate bs s levels f o t = table_end_leads next.AfterDate bs (innermost bs) s levels refl f.0 o t
  close_table_leads n bs s levels f o t = absurd t

  -- ---- commas

  comma_opening : (b : Bool) (lv : Level) → (entry_with_comma b lv).opening ≡ lv.opening
  comma_opening true lv = refl
  comma_opening false lv = refl

  comma_to : (n : Next) (bs : List Bracket) (s : List ℕ) (levels : List Level) → 2 ≤ length levels → HasItem levels → AreOpened levels
      → P (record { open_brackets = bs; next = n })
      → (length (levels_after style sort.comma levels s rest) ≡ length levels → Fits n bs (levels_after style sort.comma levels s rest))
      → TakesCommaIn levels × LedTo (levels_after style sort.comma levels s rest) rest P
  comma_to n bs s [] two item o t fits = absurd (omega (arith, two))
  comma_to n bs s (lv ∷ []) two item o t fits = absurd (omega (arith, two))
  comma_to n bs s (lv ∷ outer ∷ lvs) two item o t fits = (
    item,
    record {
      brackets = bs;
      due = n;
      ok = t;
      fits = fits refl;
      opened = (subst HoldsNone (sym (comma_opening (lv.entry.comma || may_hold (part_end lv).last) lv)) o.0, o.1);
      calm = inl tt;
    },
  )

  after_comma_leads : (n : Next) (bs : List Bracket) (b : Option Bracket) (s : List ℕ) (levels : List Level) → innermost bs ≡ b
      → length levels ≡ suc (length bs) → HasItem levels → AreOpened levels → IsTaken bs (after_value_comma n b) P
      → TakesCommaIn levels × LedTo (levels_after style sort.comma levels s rest) rest P
  after_comma_leads n bs None s levels e f item o t = absurd t
  after_comma_leads n bs (Some bracket.Array) s levels e f item o t =
      let some = some_open bs bracket.Array e in
      comma_to next.Member bs s levels (omega (arith, f, some)) item o t (λ same. (same ∙ f, some))
  after_comma_leads n bs (Some bracket.Table) s levels e f item o t =
      let some = some_open bs bracket.Table e in
      comma_to (next.Key owner.Value true) bs s levels (omega (arith, f, some)) item o t (λ same. same ∙ f)

  comma_leads : (n : Next) (bs : List Bracket) (s : List ℕ) (levels : List Level) → Fits n bs levels → AreOpened levels
      → IsTaken bs (comma_turn n (innermost bs)) P → TakesCommaIn levels × LedTo (levels_after style sort.comma levels s rest) rest P
  comma_leads next.After bs s levels f o t = after_comma_leads next.After bs (innermost bs) s levels refl f.0 f.1 o t
  comma_leads next.AfterDate bs s levels f o t = after_comma_leads next.AfterDate bs (innermost bs) s levels refl f.0 f.1 o t
  comma_leads n bs s levels f o t = absurd t

  -- ---- parts alone

  abbrev leaf_levels : List ℕ → List Level → List Level
  leaf_levels s [] = with_part new_statement s (lexeme_tree s) ∷ []
  leaf_levels s (lv ∷ lvs) = with_part lv s (lexeme_tree s) ∷ lvs

  leaf_len : (s : List ℕ) (levels : List Level) (k : ℕ) → length levels ≡ suc k → length (leaf_levels s levels) ≡ suc k
  leaf_len s [] k e = absurd (omega (arith, e))
  leaf_len s (lv ∷ lvs) k e = e

  leaf_item : (s : List ℕ) (levels : List Level) → HoldsNone s → HasItem (leaf_levels s levels)
  leaf_item s [] h = (refl, h)
  leaf_item s (lv ∷ lvs) h = (refl, h)

  leaf_to : (n : Next) (bs : List Bracket) (s : List ℕ) (levels : List Level) → HoldsNone s → AreOpened levels
      → P (record { open_brackets = bs; next = n }) → Fits n bs (leaf_levels s levels)
      → LedTo (leaf_levels s levels) rest P
  leaf_to n bs s [] h o t f = record {
    brackets = bs;
    due = n;
    ok = t;
    fits = f;
    opened = opened_part new_statement [] s (lexeme_tree s) o;
    calm = inl (calm_part new_statement [] s (lexeme_tree s) h);
  }
  leaf_to n bs s (lv ∷ lvs) h o t f = record {
    brackets = bs;
    due = n;
    ok = t;
    fits = f;
    opened = opened_part lv lvs s (lexeme_tree s) o;
    calm = inl (calm_part lv lvs s (lexeme_tree s) h);
  }

  -- the first lexeme of a line
  line_len : (s : List ℕ) (bs : List Bracket) (levels : List Level) → (bs ≡ []) × IsIdle levels → AreCalm levels
      → length (leaf_levels s levels) ≡ suc (length bs)
  line_len s bs [] f c = omega (arith, ap length f.0)
  line_len s bs (lv ∷ []) f c = absurd (idle_calm lv f.1 c)
  line_len s bs (lv ∷ outer ∷ lvs) f c = absurd f.1

  -- after another part of a key
  key_fits : (o : Owner) (due more_due : Bool) (bs : List Bracket) (s : List ℕ) (levels : List Level) → Fits (next.Key o due) bs levels
      → Fits (next.Key o more_due) bs (leaf_levels s levels)
  key_fits owner.Value due more_due bs s levels f = leaf_len s levels (length bs) f
  key_fits owner.Table due more_due bs s levels f = (f.0, leaf_len s levels 1 f.1)
  key_fits owner.Tables due more_due bs s levels f = (f.0, leaf_len s levels 2 f.1)

  equals_leads : (n : Next) (bs : List Bracket) (s : List ℕ) (levels : List Level) → HoldsNone s → Fits n bs levels → AreOpened levels
      → IsTaken bs (equals_turn n (innermost bs)) P → LedTo (leaf_levels s levels) rest P
  equals_leads (next.Key owner.Value false) bs s levels h f o t = leaf_to next.Value bs s levels h o t (leaf_len s levels (length bs) f)
  equals_leads n bs s levels h f o t = absurd t

  string_leads : (n : Next) (bs : List Bracket) (s : List ℕ) (levels : List Level) → HoldsNone s → Fits n bs levels → AreOpened levels
      → AreCalm levels → IsTaken bs (string_turn n (innermost bs) s) P → LedTo (leaf_levels s levels) rest P
  string_leads next.Line bs s levels h f o c t =
      leaf_to (next.Key owner.Value false) bs s levels h o (taken_so bs (is_key_string s) _ _ t) (line_len s bs levels f c)
  string_leads next.Header bs s levels h f o c t =
      leaf_to (next.Key owner.Table false) bs s levels h o (taken_so bs (is_key_string s) _ _ t) (f.0, leaf_len s levels 1 f.1)
  string_leads (next.Key owned true) bs s levels h f o c t =
      leaf_to (next.Key owned false) bs s levels h o (taken_so bs (is_key_string s) _ _ t) (key_fits owned true false bs s levels f)
  string_leads next.Entry bs s levels h f o c t =
      leaf_to (next.Key owner.Value false) bs s levels h o (taken_so bs (is_key_string s) _ _ t) (leaf_len s levels (length bs) f.0)
  string_leads next.Value bs s levels h f o c t =
      leaf_to next.After bs s levels h o (taken_so bs (is_string s) _ _ t) (leaf_len s levels (length bs) f, leaf_item s levels h)
  string_leads next.Member bs s levels h f o c t =
      leaf_to next.After bs s levels h o (taken_so bs (is_string s) _ _ t) (leaf_len s levels (length bs) f.0, leaf_item s levels h)
  string_leads n bs s levels h f o c t = absurd t

  after_fits : (b : Bool) (bs : List Bracket) (levels : List Level) → (length levels ≡ suc (length bs)) × HasItem levels
      → Fits (cond b next.AfterDate next.After) bs levels
  after_fits true bs levels h = h
  after_fits false bs levels h = h

  value_leads : (bs : List Bracket) (e : Expected) (s : List ℕ) (levels : List Level) → HoldsNone s → length levels ≡ suc (length bs)
      → AreOpened levels → IsTaken bs (value_turn s e) P → LedTo (leaf_levels s levels) rest P
  value_leads bs e s levels h f o t =
      leaf_to (cond (is_date s) next.AfterDate next.After) bs s levels h o (taken_so bs (is_value s) _ e t)
      (after_fits (is_date s) bs (leaf_levels s levels) (leaf_len s levels (length bs) f, leaf_item s levels h))

  word_leads : (n : Next) (bs : List Bracket) (g s : List ℕ) (levels : List Level) → HoldsNone s → Fits n bs levels → AreOpened levels
      → AreCalm levels → IsTaken bs (word_turn n (innermost bs) g s) P → LedTo (leaf_levels s levels) rest P
  word_leads next.Line bs g s levels h f o c t =
      let due = taken_key bs owner.Value (key_word true s) _ t in
      leaf_to (next.Key owner.Value due.0) bs s levels h o due.1 (line_len s bs levels f c)
  word_leads next.Header bs g s levels h f o c t =
      let due = taken_key bs owner.Table (key_word true s) _ t in
      leaf_to (next.Key owner.Table due.0) bs s levels h o due.1 (f.0, leaf_len s levels 1 f.1)
  word_leads (next.Key owned part) bs g s levels h f o c t =
      let due = taken_key bs owned (key_word part s) _ t in
      leaf_to (next.Key owned due.0) bs s levels h o due.1 (key_fits owned part due.0 bs s levels f)
  word_leads next.Entry bs g s levels h f o c t =
      let due = taken_key bs owner.Value (key_word true s) _ t in
      leaf_to (next.Key owner.Value due.0) bs s levels h o due.1 (leaf_len s levels (length bs) f.0)
  word_leads next.Value bs g s levels h f o c t = value_leads bs _ s levels h f o t
  word_leads next.Member bs g s levels h f o c t = value_leads bs _ s levels h f.0 o t
  word_leads next.AfterDate bs g s levels h f o c t =
      leaf_to next.After bs s levels h o (taken_so bs (is_one_space g && is_time s) next.After _ t)
      (leaf_len s levels (length bs) f.0, leaf_item s levels h)
  word_leads n bs g s levels h f o c t = absurd t

  -- ---- comments

  comment_opened : (lv : Level) (lvs : List Level) (s : List ℕ) → AreOpened (lv ∷ lvs) → AreOpened (with_comment lv s ∷ lvs)
  comment_opened lv [] s h = tt
  comment_opened lv (outer ∷ lvs) s h = h

  comment_calm : (lv : Level) (lvs : List Level) (s : List ℕ) → EndsFirst rest → AreCalm (with_comment lv s ∷ lvs) ⊎ EndsFirst rest
  comment_calm lv [] s ends = inr ends
  comment_calm lv (outer ∷ lvs) s ends = inl tt

  comment_to : (n : Next) (bs : List Bracket) (s : List ℕ) (lv : Level) (lvs : List Level) → AreOpened (lv ∷ lvs) → EndsFirst rest
      → P (record { open_brackets = bs; next = n }) → Fits n bs (with_comment lv s ∷ lvs)
      → LedTo (with_comment lv s ∷ lvs) rest P
  comment_to n bs s lv lvs o ends t f =
      record { brackets = bs; due = n; ok = t; fits = f; opened = comment_opened lv lvs s o; calm = comment_calm lv lvs s ends }

  after_comment_leads : (n : Next) (bs : List Bracket) (b : Option Bracket) (ok : Bool) (s : List ℕ) (levels : List Level)
      → (length levels ≡ suc (length bs)) × HasItem levels → AreOpened levels → EndsFirst rest → IsTaken bs (comment_after n b ok) P
      → LedTo (levels_after style sort.comment levels s rest) rest P
  after_comment_leads n bs b ok s [] f o ends t = absurd f.1
  after_comment_leads n bs None ok s (lv ∷ lvs) f o ends t = comment_to next.After bs s lv lvs o ends (taken_so bs ok next.After _ t) f
  after_comment_leads n bs (Some bracket.Array) ok s (lv ∷ lvs) f o ends t =
      comment_to next.After bs s lv lvs o ends (taken_so bs ok next.After _ t) f
  after_comment_leads n bs (Some bracket.Table) ok s (lv ∷ lvs) f o ends t = absurd t

  comment_leads : (n : Next) (bs : List Bracket) (s : List ℕ) (levels : List Level) → BeginsComment s → Fits n bs levels → AreOpened levels
      → AreCalm levels → EndsFirst rest → IsTaken bs (comment_turn n (innermost bs) (is_comment s)) P
      → LedTo (levels_after style sort.comment levels s rest) rest P
  comment_leads next.Line bs s [] begins f o c ends t = record {
    brackets = bs;
    due = next.Line;
    ok = taken_so bs (is_comment s) next.Line _ t;
    fits = (f.0, ap (λ (u : List ℕ). is_last_comment (last_after_text u)) begins.1);
    opened = tt;
    calm = inr ends;
  }
  comment_leads next.Line bs s (lv ∷ []) begins f o c ends t = absurd (idle_calm lv f.1 c)
  comment_leads next.Line bs s (lv ∷ outer ∷ lvs) begins f o c ends t = absurd f.1
  comment_leads next.Member bs s [] begins f o c ends t = absurd (omega (arith, f.0))
  comment_leads next.Member bs s (lv ∷ lvs) begins f o c ends t =
      comment_to next.Member bs s lv lvs o ends (taken_so bs (is_comment s) next.Member _ t) f
  comment_leads next.After bs s levels begins f o c ends t =
      after_comment_leads next.After bs (innermost bs) (is_comment s) s levels f o ends t
  comment_leads next.AfterDate bs s levels begins f o c ends t =
      after_comment_leads next.AfterDate bs (innermost bs) (is_comment s) s levels f o ends t
  comment_leads n bs s levels begins f o c ends t = absurd t

  -- ---- line ends

  -- the levels after a line end
  abbrev ended_levels : List Level → List Level
  ended_levels [] = []
  ended_levels (lv ∷ []) = []
  ended_levels (lv ∷ outer ∷ lvs) = with_line_end lv ∷ outer ∷ lvs

  line_to : (bs : List Bracket) (levels : List Level) → bs ≡ [] → IsOutside levels
      → P (record { open_brackets = bs; next = next.Line }) → LedTo (ended_levels levels) rest P
  line_to bs [] e out t = record { brackets = bs; due = next.Line; ok = t; fits = (e, tt); opened = tt; calm = inl tt }
  line_to bs (lv ∷ []) e out t = record { brackets = bs; due = next.Line; ok = t; fits = (e, tt); opened = tt; calm = inl tt }
  line_to bs (lv ∷ outer ∷ lvs) e out t = absurd out

  inside_to : (n : Next) (bs : List Bracket) (levels : List Level) → length levels ≡ suc (length bs) → 1 ≤ length bs → AreOpened levels
      → P (record { open_brackets = bs; next = n })
      → (length (ended_levels levels) ≡ length levels → Fits n bs (ended_levels levels)) → LedTo (ended_levels levels) rest P
  inside_to n bs [] f some o t fits = absurd (omega (arith, f))
  inside_to n bs (lv ∷ []) f some o t fits = absurd (omega (arith, f, some))
  inside_to n bs (lv ∷ outer ∷ lvs) f some o t fits =
      record { brackets = bs; due = n; ok = t; fits = fits refl; opened = o; calm = inl tt }

  ended_item : (levels : List Level) (k : ℕ) → length levels ≡ suc k → 1 ≤ k → HasItem levels → HasItem (ended_levels levels)
  ended_item [] k e some h = absurd (omega (arith, e))
  ended_item (lv ∷ []) k e some h = absurd (omega (arith, e, some))
  ended_item (lv ∷ outer ∷ lvs) k e some h = h

  one_outside : (levels : List Level) (bs : List Bracket) → bs ≡ [] → length levels ≡ suc (length bs) → IsOutside levels
  one_outside [] bs e f = tt
  one_outside (lv ∷ []) bs e f = tt
  one_outside (lv ∷ outer ∷ lvs) bs e f = absurd (omega (arith, f, ap length e))

  idle_outside : (levels : List Level) → IsIdle levels → IsOutside levels
  idle_outside [] h = tt
  idle_outside (lv ∷ []) h = tt
  idle_outside (lv ∷ outer ∷ lvs) h = h

  after_line_leads : (n : Next) (bs : List Bracket) (b : Option Bracket) (levels : List Level) → innermost bs ≡ b
      → (length levels ≡ suc (length bs)) × HasItem levels → AreOpened levels → IsTaken bs (line_end_after n b) P
      → LedTo (ended_levels levels) rest P
  after_line_leads n bs None levels e f o t =
      let none = none_open bs e in line_to bs levels none (one_outside levels bs none f.0) t
  after_line_leads n bs (Some bracket.Array) levels e f o t =
      let some = some_open bs bracket.Array e in
      inside_to next.After bs levels f.0 some o t (λ same. (same ∙ f.0, ended_item levels (length bs) f.0 some f.1))
  after_line_leads n bs (Some bracket.Table) levels e f o t = absurd t

  line_end_leads : (n : Next) (bs : List Bracket) (levels : List Level) → Fits n bs levels → AreOpened levels
      → IsTaken bs (line_end_turn n (innermost bs)) P → LedTo (ended_levels levels) rest P
  line_end_leads next.Line bs levels f o t = line_to bs levels f.0 (idle_outside levels f.1) t
  line_end_leads next.Member bs levels f o t = inside_to next.Member bs levels f.0 f.1 o t (λ same. (same ∙ f.0, f.1))
  line_end_leads next.After bs levels f o t = after_line_leads next.After bs (innermost bs) levels refl f o t
  line_end_leads next.AfterDate bs levels f o t = after_line_leads next.AfterDate bs (innermost bs) levels refl f o t
  line_end_leads n bs levels f o t = absurd t

  -- ---- the end of the text

  at_end_outside : (n : Next) (bs : List Bracket) (b : Option Bracket) (levels : List Level) → innermost bs ≡ b
      → length levels ≡ suc (length bs) → IsTaken bs (at_end n b) P → IsOutside levels
  at_end_outside n bs None levels e f t = one_outside levels bs (none_open bs e) f
  at_end_outside n bs (Some b) levels e f t = absurd t

  pub end_outside : (n : Next) (bs : List Bracket) (levels : List Level) → Fits n bs levels → IsTaken bs (end_turn n (innermost bs)) P
      → IsOutside levels
  end_outside next.Line bs levels f t = idle_outside levels f.1
  end_outside next.After bs levels f t = at_end_outside next.After bs (innermost bs) levels refl f.0 t
  end_outside next.AfterDate bs levels f t = at_end_outside next.AfterDate bs (innermost bs) levels refl f.0 t
  end_outside n bs levels f t = absurd t

-- ---- texts

pub clear_taken : (b : Bool) (bs : List Bracket) (t : LexemeTurn) (e : Expected) (P : Reading → Type 0)
    → IsTaken bs (cond b t (turn.Stops e)) P → IsTaken bs t P
clear_taken true bs t e P h = h
clear_taken false bs t e P h = absurd h

calm_now : (levels : List Level) (s : List ℕ) (ss : List (List ℕ)) (k : Sort) → sort_of s ≡ k → (k ≡ sort.line_end → ⊥)
    → AreCalm levels ⊎ EndsFirst (s ∷ ss) → AreCalm levels
calm_now levels s ss k e other (inl calm) = calm
calm_now levels s ss k e other (inr ends) = absurd (other (sym e ∙ ends))

holds_sort : (k : Sort) (s : List ℕ) → sort_of s ≡ k → ((dotted : Bool) → may_hold (last_after_sort k dotted) ≡ false) → HoldsNone s
holds_sort k s e h = ap (λ (j : Sort). may_hold (last_after_sort j (ends_with_dot s))) e ∙ h (ends_with_dot s)

module _ (style : Style) (d : Draft) (s : List ℕ) (ss : List (List ℕ)) (P : Reading → Type 0) where
  abbrev pub Steps : Sort → Type 0
  Steps k = MayCome k s d.levels × LedTo (draft_with style k d s ss).levels ss P

  ended_is : (levels : List Level) → (with_ended_line d levels).levels ≡ ended_levels style ss P levels
  ended_is [] = refl
  ended_is (lv ∷ []) = refl
  ended_is (lv ∷ outer ∷ lvs) = refl

  closed_is : (k : Sort) (levels : List Level) → Closes k → IsInBrackets levels
      → closed_levels style ss P s levels ≡ levels_after style k levels s ss
  closed_is k [] closes h = absurd h
  closed_is k (lv ∷ []) closes h = absurd h
  closed_is sort.close_array (lv ∷ outer ∷ lvs) closes h = refl
  closed_is sort.close_table (lv ∷ outer ∷ lvs) closes h = refl
  closed_is k (lv ∷ outer ∷ lvs) closes h = absurd closes

  leaf_is : (k : Sort) (levels : List Level) → IsLeaf k → leaf_levels style ss P s levels ≡ levels_after style k levels s ss
  leaf_is sort.equals [] h = refl
  leaf_is sort.equals (lv ∷ lvs) h = refl
  leaf_is sort.string [] h = refl
  leaf_is sort.string (lv ∷ lvs) h = refl
  leaf_is sort.word [] h = refl
  leaf_is sort.word (lv ∷ lvs) h = refl
  leaf_is k levels h = absurd h

  led : (old new : List Level) → old ≡ new → LedTo old ss P → LedTo new ss P
  led old new e h = subst (λ (l : List Level). LedTo l ss P) e h

  close_steps : (k : Sort) → Closes k → IsLexeme s → IsInBrackets d.levels × LedTo (closed_levels style ss P s d.levels) ss P
      → (IsLexeme s × IsInBrackets d.levels) × LedTo (levels_after style k d.levels s ss) ss P
  close_steps k closes alone (inside, h) = (
    (alone, inside),
    led (closed_levels style ss P s d.levels) (levels_after style k d.levels s ss)
        (closed_is k d.levels closes inside) h,
  )

  leaf_steps : (k : Sort) → IsLeaf k → LedTo (leaf_levels style ss P s d.levels) ss P
      → LedTo (levels_after style k d.levels s ss) ss P
  leaf_steps k leaf h = led (leaf_levels style ss P s d.levels) (levels_after style k d.levels s ss) (leaf_is k d.levels leaf) h

  pub steps : (k : Sort) (n : Next) (bs : List Bracket) (g : List ℕ) → sort_of s ≡ k → IsTaken bs (sort_turn k n (innermost bs) g s) P
      → Fits n bs d.levels → AreOpened d.levels → AreCalm d.levels ⊎ EndsFirst (s ∷ ss) → AreLexemes (s ∷ ss) → Steps k
  steps sort.open_array n bs g e t f o c are =
      let calm = calm_now d.levels s ss sort.open_array e (λ p. absurd (cc)) c in (
        (alone_is s are.0, takes_part d.levels calm),
        open_array_leads style ss P n bs g s d.levels (holds_sort sort.open_array s e (λ dotted. refl)) f o calm t,
      )
  steps sort.open_table n bs g e t f o c are =
      let calm = calm_now d.levels s ss sort.open_table e (λ p. absurd (cc)) c in (
        (alone_is s are.0, takes_part d.levels calm),
        open_table_leads style ss P n bs s d.levels (holds_sort sort.open_table s e (λ dotted. refl)) f o calm t,
      )
  steps sort.close_array n bs g e t f o c are =
      close_steps sort.close_array tt (alone_is s are.0) (close_array_leads style ss P n bs g s d.levels f o t)
  steps sort.close_table n bs g e t f o c are =
      close_steps sort.close_table tt (alone_is s are.0) (close_table_leads style ss P n bs s d.levels f o t)
  steps sort.comma n bs g e t f o c are = comma_leads style ss P n bs s d.levels f o t
  steps sort.equals n bs g e t f o c are =
      let calm = calm_now d.levels s ss sort.equals e (λ p. absurd (cc)) c in (
        (alone_is s are.0, takes_part d.levels calm),
        leaf_steps sort.equals tt (equals_leads style ss P n bs s d.levels (holds_sort sort.equals s e (λ dotted. refl)) f o t),
      )
  steps sort.line_end n bs g e t f o c are = (
    tt,
    led (ended_levels style ss P d.levels) (with_ended_line d d.levels).levels (sym (ended_is d.levels))
        (line_end_leads style ss P n bs d.levels f o t),
  )
  steps sort.comment n bs g e t f o c are =
      let calm = calm_now d.levels s ss sort.comment e (λ p. absurd (cc)) c in
      let begins = comment_begins s e in
      ((begins, takes_comment d.levels calm), comment_leads style ss P n bs s d.levels begins f o calm (are.1 e) t)
  steps sort.string n bs g e t f o c are =
      let calm = calm_now d.levels s ss sort.string e (λ p. absurd (cc)) c in (
        (alone_is s are.0, takes_part d.levels calm),
        leaf_steps sort.string tt (string_leads style ss P n bs s d.levels (holds_sort sort.string s e (λ dotted. refl)) f o calm t),
      )
  steps sort.word n bs g e t f o c are =
      let calm = calm_now d.levels s ss sort.word e (λ p. absurd (cc)) c in (
        (alone_is s are.0, takes_part d.levels calm),
        leaf_steps sort.word tt (word_leads style ss P n bs g s d.levels (holds_sort sort.word s e word_last) f o calm t),
      )
  steps sort.text_end n bs g e t f o c are = absurd (some_sort s are.0 e)

where_ok : (m : Result Reading Expected) (more : Reading → Result Reading Expected) → is_ok (then_lexemes m more) ≡ true
    → WhereRead m (λ r. is_ok (more r) ≡ true)
where_ok (Ok r) more h = h
where_ok (Err e) more h = absurd (cc)

orderly_from : (style : Style) (ss : List (List ℕ)) (bytes : List ℕ) (bs : List Bracket) (n : Next) (d : Draft)
    → is_ok (reading_after (record { open_brackets = bs; next = n }) (toml_spaced_as bytes ss)) ≡ true → Fits n bs d.levels
    → AreOpened d.levels → AreCalm d.levels ⊎ EndsFirst ss → AreLexemes ss → AreOrderly style d ss
orderly_from style [] bytes bs n d t f o c are =
    let r : Reading = record { open_brackets = bs; next = n } in
    let more = λ (u : Reading). reading_after u [] in
    end_outside style [] (λ u. is_ok (more u) ≡ true) n bs d.levels f
    (clear_taken (is_clear bytes false) bs (end_turn n (innermost bs)) want.LineFeed (λ u. is_ok (more u) ≡ true)
    (where_ok (lexeme_step r (after_toml_gap bytes [])) more t))
orderly_from style (s ∷ ss) bytes bs n d t f o c are =
    let g = blanks bytes in
    let left = drop (length g + length s) bytes in
    let k = sort_of s in
    let r : Reading = record { open_brackets = bs; next = n } in
    let more = λ (u : Reading). reading_after u (toml_spaced_as left ss) in
    let step = steps style d s ss (λ u. is_ok (more u) ≡ true) k n bs g refl
    (clear_taken (is_clear g (is_line_end k)) bs (sort_turn k n (innermost bs) g s) want.LineFeed (λ u. is_ok (more u) ≡ true)
    (where_ok (lexeme_step r (after_toml_gap g s)) more t)) f o c are in (
      step.0,
      orderly_from style ss left step.1.brackets step.1.due (draft_with style k d s ss) step.1.ok step.1.fits step.1.opened step.1.calm
          are.2,
    )

-- the lexemes of a TOML text are orderly
pub toml_is_orderly : (style : Style) (text : List ℕ) → is_toml text ≡ true → AreOrderly style no_draft (toml_lexemes_of text)
unfolding is_toml
toml_is_orderly style text toml =
    orderly_from style (toml_lexemes_of text) text [] next.Line no_draft toml (refl, tt) tt (inl tt) (lexemes_are text)
