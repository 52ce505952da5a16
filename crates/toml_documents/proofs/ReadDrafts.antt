-- Documents that a layout has, where they are read again.
use Rattle.std.proofs.Common.{◌≡◌, refl, sym, ◌∙◌, ap, subst, ℕ, Bool, true, false, ◌==◌, ◌&&◌, ◌||◌, not, List, [], ◌∷◌, ◌++◌}
use Rattle.std.specs.Prelude.{Option, Some, None}
use Rattle.prettyless_trees.specs.Counted as counted
use Rattle.prettyless_model.specs.Tree.{Tree, Nil}
use Rattle.prettyless_model.specs.declared.mode.Mode.{Mode}
use Rattle.prettyless_model.specs.declared.mode.Mode.TheVariants.{Break}
use Rattle.toml_lexemes.specs.Bytes as byte
use Rattle.toml_lexemes.specs.Bytes.{dot, head}
use Rattle.toml_lexemes.specs.Statements.{before_trimmed, trimmed}
use Rattle.toml_lexemes.proofs.Trimmed.{trimmed_twice}
use Rattle.toml_grammar.specs.Sorts as sort
use Rattle.toml_grammar.specs.Sorts.{Sort, sort_of}
use Rattle.toml_documents.specs.Documents.{Commented, Draft, Level, Part, closed_end, document_from, draft_with, draft_with_statement}
use Rattle.toml_documents.specs.Documents.{ended_in, entry_with_comma, with_ended_line, is_some, level_end, level_with_comma, levels_after}
use Rattle.toml_documents.specs.Documents.{lexeme_tree, lines_with, list_tree, new_level, new_statement, no_draft, no_end, part_end}
use Rattle.toml_documents.specs.Documents.{toml_document, with_comment, with_line_end, with_part}
use Rattle.toml_documents.specs.Gaps.{is_last_comment, may_hold}
use Rattle.toml_documents.specs.Kinds.{kind_in, last_after_text}
use Rattle.toml_documents.specs.Numbers.{is_among_numbers, is_number_word, only_number_words, opened_kind}
use Rattle.toml_documents.proofs.ReadTexts.{lexemes_then}
use Rattle.prettyless_laws.specs.Bits.{Bit, end_of_line, word_bits}
use Rattle.prettyless_laws.proofs.Again.{Again}
use Rattle.toml_documents.specs.declared.kind.Kind.{Kind}
use Rattle.toml_documents.specs.declared.kind.Kind.TheVariants.{Statement}
use Rattle.toml_documents.specs.declared.kind.Last.{Last}
use Rattle.toml_documents.specs.declared.style.Style.{Style}
use Rattle.toml_documents.proofs.TreesAgain.{again_lexeme, again_lines, again_same, again_text, blank_bits}
use Rattle.toml_documents.proofs.ReadSteps.{IsAround, IsCalm, IsFirst, IsLexeme, Leads, Place, begun, counts_text, fresh, from_text, inside}
use Rattle.toml_documents.proofs.ReadSteps.{is_first, level_of, on_line, read_both, stacked, started}
use Rattle.toml_documents.proofs.ReadRows.{AreComments, BodyReads, IsAlike, IsComment, PartReads, RowReads, TakesComma, TakesComments}
use Rattle.toml_documents.proofs.ReadRows.{body_as_row, body_with_part, body_with_rest}
use Rattle.toml_documents.proofs.ReadLists.{Closes, ClosedReads, Opens, closed_reads, closes_is, closes_numbers, kind_before_is, kind_with}
use Rattle.toml_documents.proofs.ReadLists.{list_reads, opens_is}

-- ---- single lexemes

-- a lexeme that is a part alone
abbrev pub IsLeaf : Sort → Type 0
IsLeaf sort.equals = Unit {0}
IsLeaf sort.string = Unit {0}
IsLeaf sort.word = Unit {0}
IsLeaf k = ⊥

-- whether it is a number
abbrev pub leaf_number : Sort → List ℕ → Bool
leaf_number sort.word s = is_number_word s
leaf_number k s = false

leaf_is : (k : Sort) (s : List ℕ) (others : Bool) → IsLeaf k → is_among_numbers k s others ≡ leaf_number k s && others
leaf_is sort.equals s others h = refl
leaf_is sort.string s others h = refl
leaf_is sort.word s others h = refl
leaf_is sort.open_array s others h = absurd h
leaf_is sort.open_table s others h = absurd h
leaf_is sort.close_array s others h = absurd h
leaf_is sort.close_table s others h = absurd h
leaf_is sort.comma s others h = absurd h
leaf_is sort.line_end s others h = absurd h
leaf_is sort.comment s others h = absurd h
leaf_is sort.text_end s others h = absurd h

module _ (style : Style) where
  leaf_in : (k : Sort) (s : List ℕ) (lv : Level) (lvs : List Level) → IsLeaf k → IsLexeme s → sort_of s ≡ k
      → Leads style (lv ∷ lvs) (word_bits s) (with_part lv s (lexeme_tree s) ∷ lvs)
  leaf_in sort.equals s lv lvs h alone is d rest = from_text style sort.equals (record d { levels = lv ∷ lvs }) s rest alone is
  leaf_in sort.string s lv lvs h alone is d rest = from_text style sort.string (record d { levels = lv ∷ lvs }) s rest alone is
  leaf_in sort.word s lv lvs h alone is d rest = from_text style sort.word (record d { levels = lv ∷ lvs }) s rest alone is
  leaf_in k s lv lvs h alone is d rest = absurd h

  leaf_new : (k : Sort) (s : List ℕ) → IsLeaf k → IsLexeme s → sort_of s ≡ k
      → Leads style [] (word_bits s) (with_part new_statement s (lexeme_tree s) ∷ [])
  leaf_new sort.equals s h alone is d rest = from_text style sort.equals (record d { levels = [] }) s rest alone is
  leaf_new sort.string s h alone is d rest = from_text style sort.string (record d { levels = [] }) s rest alone is
  leaf_new sort.word s h alone is d rest = from_text style sort.word (record d { levels = [] }) s rest alone is
  leaf_new k s h alone is d rest = absurd h

  -- what leads from nothing to a statement does so to a level that is one
  as_first : (lv : Level) (lvs : List Level) (s : List ℕ) (tree : Tree) (bits : List Bit) → IsFirst true lv lvs
      → Leads style [] bits (with_part new_statement s tree ∷ []) → Leads style [] bits (with_part lv s tree ∷ lvs)
  as_first lv lvs s tree bits (e, g) h =
      subst (λ (l : Level). Leads style [] bits (with_part l s tree ∷ lvs)) (sym e)
      (subst (λ (ls : List Level). Leads style [] bits (with_part new_statement s tree ∷ ls)) (sym g) h)

  leaf_leads : (k : Sort) (first : Bool) (s : List ℕ) (lv : Level) (lvs : List Level) → IsLeaf k → IsLexeme s → sort_of s ≡ k
      → IsFirst first lv lvs → Leads style (stacked first lv lvs) (word_bits s) (with_part lv s (lexeme_tree s) ∷ lvs)
  leaf_leads k true s lv lvs h alone is f = as_first lv lvs s (lexeme_tree s) (word_bits s) f (leaf_new k s h alone is)
  leaf_leads k false s lv lvs h alone is f = leaf_in k s lv lvs h alone is

  leaf_reads : (k : Sort) (first : Bool) (around : Kind) (s : List ℕ) → IsLeaf k → IsLexeme s → sort_of s ≡ k
      → PartReads style around first (leaf_number k s) s (lexeme_tree s)
  leaf_reads k first around s h alone is m ms = record {
    word = s;
    again = lexeme_tree s;
    left = ms;
    bits = word_bits s;
    alike = record { sort = refl; dotted = refl; last = refl };
    related = again_lexeme s m ms;
    counts = λ rest. counts_text k s alone is rest ∙ leaf_is k s (only_number_words rest) h;
    leads = λ lv lvs f e. leaf_leads k first s lv lvs h alone is f;
  }

-- ---- comments

-- it begins as a comment
abbrev pub BeginsComment : List ℕ → Type 0
BeginsComment s = (t : List ℕ) × (s ≡ byte.hash ∷ t)

trimmed_hash : (t : List ℕ) → (u : List ℕ) × (before_trimmed byte.hash t ≡ byte.hash ∷ u)
trimmed_hash [] = ([], refl)
trimmed_hash (x ∷ t) = (x ∷ t, refl)

pub trimmed_begins : (s : List ℕ) → BeginsComment s → BeginsComment (trimmed s)
trimmed_begins s (t, e) = let h = trimmed_hash (trimmed t) in (h.0, ap trimmed e ∙ h.1)

begins_alone : (t : List ℕ) → IsLexeme (byte.hash ∷ t)
begins_alone [] ss = refl
begins_alone (x ∷ t) ss = refl

pub begins_is : (s : List ℕ) → BeginsComment s → IsComment s
begins_is s h =
    let t = trimmed_begins s h in
    record { alone = subst IsLexeme (sym t.1) (begins_alone t.0); sort = ap sort_of t.1 }

comment_alike : (s : List ℕ) → BeginsComment s → IsAlike (trimmed s) s
comment_alike s h =
    let t = trimmed_begins s h in
    record {
      sort = ap sort_of t.1 ∙ sym (ap sort_of h.1);
      dotted = ap (λ (u : List ℕ). head u == dot) t.1 ∙ sym (ap (λ (u : List ℕ). head u == dot) h.1);
      last = ap last_after_text t.1 ∙ sym (ap last_after_text h.1);
    }

-- a comment alone
comment_reads : (style : Style) (s : List ℕ) → BeginsComment s
    → PartReads style Statement true false s (counted.text (trimmed s))
comment_reads style s h m ms =
    let t = trimmed s in
    let is = begins_is s h in
    record {
      word = t;
      again = counted.text (trimmed t);
      left = ms;
      bits = word_bits t;
      alike = comment_alike s h;
      related =
          subst (λ (u : List ℕ). Again (counted.text t) (counted.text u) m ms ms (word_bits t)) (sym (trimmed_twice s)) (again_text t m ms);
      counts = λ rest. counts_text sort.comment t is.alone is.sort rest;
      leads = λ lv lvs f e.
          as_first style lv lvs t (counted.text (trimmed t)) (word_bits t) f
          (λ d rest. from_text style sort.comment (record d { levels = [] }) t rest is.alone is.sort);
    }

-- ---- levels

-- where the entries of a level in others stand
abbrev pub bottom_place : Option Part → Place
bottom_place None = fresh
bottom_place (Some p) = on_line

abbrev pub place_of : Level → List Level → Place
place_of lv [] = bottom_place lv.entry.part
place_of lv (outer ∷ lvs) = inside

abbrev pub IsStatement : Place → Level → Type 0
IsStatement inside lv = Unit {0}
IsStatement on_line lv = (lv.kind ≡ Statement) × (lv.opening ≡ [])
IsStatement fresh lv = (lv.kind ≡ Statement) × (lv.opening ≡ [])

-- the entries of a level are read again
pub record LevelReads (style : Style) (place : Place) (number : Bool) (lv : Level) : Type 0 where
  pub body : BodyReads style place number lv.kind lv.opening (part_end lv)
  pub comma : TakesComma place lv.entry.comma (part_end lv)
  pub comments : TakesComments lv.kind place (part_end lv).last lv.entry.comments
  pub are : AreComments lv.entry.comments
  pub statement : IsStatement place lv

-- they are numbers, with no comments
abbrev pub with_comments_number : Bool → Level → Bool
with_comments_number number lv = number && not (is_some lv.entry.comments)

-- a level was opened in others, in front of what may be the end of an array of numbers
pub record IsOpened (b : Bool) (lv outer : Level) (lvs : List Level) : Type 0 where
  pub by : Sort
  pub opens : Opens by
  pub is : sort_of lv.opening ≡ by
  pub alone : IsLexeme lv.opening
  pub kind : lv.kind ≡ kind_with (kind_in outer.kind (is_first (place_of outer lvs)) by) b
  pub calm : IsCalm (place_of outer lvs) outer.kind (level_end outer).last

abbrev pub IsOpenedIn : Bool → Level → List Level → Type 0
IsOpenedIn b lv [] = Unit {0}
IsOpenedIn b lv (outer ∷ lvs) = IsOpened b lv outer lvs

-- levels are read again, where numbers alone are in front of the end of an array, or not
abbrev pub StackReads : Style → Bool → List Level → Type 0
StackReads style v [] = Unit {0}
StackReads style v (lv ∷ lvs) =
    (number : Bool) × LevelReads style (place_of lv lvs) number lv × IsOpenedIn (with_comments_number number lv && v) lv lvs
    × StackReads style false lvs

module _ (style : Style) where
  rows_of : (place : Place) (number : Bool) (lv : Level) → LevelReads style place number lv
      → RowReads style place (with_comments_number number lv) lv.kind lv.opening (level_end lv)
  rows_of place number lv h =
      body_as_row style lv.kind lv.opening place (with_comments_number number lv) lv.entry.comma lv.entry.comments (part_end lv)
      (body_with_rest style lv.kind lv.opening place number lv.entry.comma lv.entry.comments (part_end lv) h.comma h.comments h.are h.body)

  closed_of_level : (number : Bool) (lv : Level) → LevelReads style inside number lv
      → ClosedReads style (with_comments_number number lv) lv.kind lv.opening (closed_end lv)
  closed_of_level number lv h =
      closed_reads style lv.kind lv.opening number lv.entry.comma lv.entry.comments (part_end lv) h.comma h.are h.body

  bottom_begun : (p : Option Part) → begun (bottom_place p) ≡ on_line
  bottom_begun None = refl
  bottom_begun (Some p) = refl

  place_begun : (lv : Level) (lvs : List Level) (s : List ℕ) (tree : Tree) → begun (place_of lv lvs) ≡ place_of (with_part lv s tree) lvs
  place_begun lv [] s tree = bottom_begun lv.entry.part
  place_begun lv (outer ∷ lvs) s tree = refl

  statement_begun : (place : Place) (lv : Level) (s : List ℕ) (tree : Tree) → IsStatement place lv
      → IsStatement (begun place) (with_part lv s tree)
  statement_begun inside lv s tree h = tt
  statement_begun on_line lv s tree h = h
  statement_begun fresh lv s tree h = h

  no_comments : (kind : Kind) (opening : List ℕ) (place : Place) (l : Last) → TakesComments kind (begun place) l []
  no_comments kind opening inside l = tt
  no_comments kind opening on_line l = tt
  no_comments kind opening fresh l = tt

  level_part : (place : Place) (n k : Bool) (lv : Level) (s : List ℕ) (tree : Tree) → LevelReads style place n lv
      → PartReads style lv.kind (is_first place) k s tree → IsCalm place lv.kind (level_end lv).last
      → LevelReads style (begun place) (with_comments_number n lv && k) (with_part lv s tree)
  level_part place n k lv s tree h part calm = record {
    body =
        body_with_part style lv.kind lv.opening place (level_end lv) s tree lv.blank (with_comments_number n lv) k calm
        (rows_of place n lv h) part;
    comma = tt;
    comments = no_comments lv.kind lv.opening place _;
    are = tt;
    statement = statement_begun place lv s tree h.statement;
  }

  three_and : (a b c : Bool) → a && (b && c) ≡ ((a && b) && true) && c
  three_and true true c = refl
  three_and true false c = refl
  three_and false b c = refl

  opened_on : (a b : Bool) (lv new : Level) (lvs : List Level) → a ≡ b → new.kind ≡ lv.kind → new.opening ≡ lv.opening
      → IsOpenedIn a lv lvs → IsOpenedIn b new lvs
  opened_on a b lv new [] e f g h = tt
  opened_on a b lv new (outer ∷ lvs) e f g h = record {
    by = h.by;
    opens = h.opens;
    is = ap sort_of g ∙ h.is;
    alone = subst IsLexeme (sym g) h.alone;
    kind = f ∙ h.kind ∙ ap (kind_with (kind_in outer.kind (is_first (place_of outer lvs)) h.by)) e;
    calm = h.calm;
  }

  -- a part more
  stack_part : (v w k : Bool) (lv : Level) (lvs : List Level) (s : List ℕ) (tree : Tree) → StackReads style v (lv ∷ lvs)
      → PartReads style lv.kind (is_first (place_of lv lvs)) k s tree → IsCalm (place_of lv lvs) lv.kind (level_end lv).last → v ≡ k && w
      → StackReads style w (with_part lv s tree ∷ lvs)
  stack_part v w k lv lvs s tree (n, h, o, more) part calm e = (
    with_comments_number n lv && k,
    subst (λ (p : Place). LevelReads style p (with_comments_number n lv && k) (with_part lv s tree)) (place_begun lv lvs s tree)
        (level_part (place_of lv lvs) n k lv s tree h part calm),
    opened_on (with_comments_number n lv && v) (((with_comments_number n lv && k) && true) && w) lv (with_part lv s tree) lvs
        (ap (λ (b : Bool). with_comments_number n lv && b) e ∙ three_and (with_comments_number n lv) k w) refl refl o,
    more,
  )

-- ---- what may come

-- something was read of the statement
abbrev pub IsBegun : List Level → Type 0
IsBegun [] = Unit {0}
IsBegun (lv ∷ []) = is_first (place_of lv []) ≡ false
IsBegun (lv ∷ outer ∷ lvs) = Unit {0}

-- outside of brackets nothing comes after a comment
abbrev pub TakesPartIn : List Level → Type 0
TakesPartIn [] = Unit {0}
TakesPartIn (lv ∷ []) = is_last_comment (level_end lv).last ≡ false
TakesPartIn (lv ∷ outer ∷ lvs) = Unit {0}

-- in brackets a comma comes after an item
abbrev pub TakesCommaIn : List Level → Type 0
TakesCommaIn [] = ⊥
TakesCommaIn (lv ∷ []) = ⊥
TakesCommaIn (lv ∷ outer ∷ lvs) = (lv.entry.comma ≡ false) × (may_hold (part_end lv).last ≡ false)

abbrev pub TakesCommentIn : List Level → Type 0
TakesCommentIn [] = Unit {0}
TakesCommentIn (lv ∷ []) = (lv.entry.comments ≡ []) × (is_last_comment (part_end lv).last ≡ false)
TakesCommentIn (lv ∷ outer ∷ lvs) = Unit {0}

abbrev pub IsInBrackets : List Level → Type 0
IsInBrackets [] = ⊥
IsInBrackets (lv ∷ []) = ⊥
IsInBrackets (lv ∷ outer ∷ lvs) = Unit {0}

-- a lexeme of this sort may come where these levels are open
abbrev pub MayCome : Sort → List ℕ → List Level → Type 0
MayCome sort.open_array s levels = IsLexeme s × TakesPartIn levels
MayCome sort.open_table s levels = IsLexeme s × TakesPartIn levels
MayCome sort.close_array s levels = IsLexeme s × IsInBrackets levels
MayCome sort.close_table s levels = IsLexeme s × IsInBrackets levels
MayCome sort.comma s levels = TakesCommaIn levels
MayCome sort.equals s levels = IsLexeme s × TakesPartIn levels
MayCome sort.line_end s levels = Unit {0}
MayCome sort.comment s levels = BeginsComment s × TakesCommentIn levels
MayCome sort.string s levels = IsLexeme s × TakesPartIn levels
MayCome sort.word s levels = IsLexeme s × TakesPartIn levels
MayCome sort.text_end s levels = ⊥

-- no bracket is open
abbrev pub IsOutside : List Level → Type 0
IsOutside [] = Unit {0}
IsOutside (lv ∷ []) = Unit {0}
IsOutside (lv ∷ outer ∷ lvs) = ⊥

-- each lexeme may come after those before it, and the end of the text after them
abbrev pub AreOrderly : Style → Draft → List (List ℕ) → Type 0
AreOrderly style d [] = IsOutside d.levels
AreOrderly style d (s ∷ ss) = MayCome (sort_of s) s d.levels × AreOrderly style (draft_with style (sort_of s) d s ss) ss

-- ---- one lexeme more

module _ (style : Style) where
  -- levels that are read again, in front of these lexemes
  abbrev AreRead : List (List ℕ) → List Level → Type 0
  AreRead rest levels = StackReads style (only_number_words rest) levels × IsBegun levels

  calm_bottom : (lv : Level) (p : Option Part) (l : Last) → IsStatement (bottom_place p) lv → is_last_comment l ≡ false
      → IsCalm (bottom_place p) lv.kind l
  calm_bottom lv None l h c = (h.0, c)
  calm_bottom lv (Some p) l h c = (h.0, c)

  calm_in : (lv : Level) (lvs : List Level) → IsStatement (place_of lv lvs) lv → TakesPartIn (lv ∷ lvs)
      → IsCalm (place_of lv lvs) lv.kind (level_end lv).last
  calm_in lv [] h c = calm_bottom lv lv.entry.part (level_end lv).last h c
  calm_in lv (outer ∷ lvs) h c = tt

  begun_part : (lv : Level) (lvs : List Level) (s : List ℕ) (tree : Tree) → IsBegun (with_part lv s tree ∷ lvs)
  begun_part lv [] s tree = refl
  begun_part lv (outer ∷ lvs) s tree = tt

  -- before the first lexeme of a statement
  new_reads : (place : Place) (kind : Kind) (opening : List ℕ) → IsStatement place (new_level kind opening)
      → BodyReads style place true kind opening no_end → TakesComments kind place no_end.last []
      → LevelReads style place true (new_level kind opening)
  new_reads place kind opening h body comments = record { body = body; comma = tt; comments = comments; are = tt; statement = h }

  nothing_read : (kind : Kind) (opening : List ℕ) → BodyReads style inside true kind opening no_end
  nothing_read kind opening m ms = record {
    before = no_end;
    part = None;
    left = ms;
    bits = [];
    last = refl;
    related = again_same Nil m ms;
    counts = λ rest. refl;
    new = tt;
    leads = λ lvs around d rest. refl;
  }

  nothing_fresh : BodyReads style fresh true Statement [] no_end
  nothing_fresh m ms = record {
    before = no_end;
    part = None;
    left = ms;
    bits = [];
    last = refl;
    related = again_same Nil m ms;
    counts = λ rest. refl;
    new = refl;
    leads = λ lvs around d rest. refl;
  }

  stack_new : (v : Bool) → StackReads style v (new_statement ∷ [])
  stack_new v = (true, new_reads fresh Statement [] (refl, refl) nothing_fresh refl, tt, tt)

  -- a part alone
  with_leaf : (k : Sort) (s : List ℕ) (rest : List (List ℕ)) (v : Bool) (lv : Level) (lvs : List Level) → IsLeaf k → sort_of s ≡ k
      → v ≡ is_among_numbers k s (only_number_words rest) → StackReads style v (lv ∷ lvs) → IsLexeme s → TakesPartIn (lv ∷ lvs)
      → AreRead rest (with_part lv s (lexeme_tree s) ∷ lvs)
  with_leaf k s rest v lv lvs leaf is e h alone takes = (
    stack_part style v (only_number_words rest) (leaf_number k s) lv lvs s (lexeme_tree s) h
        (leaf_reads style k (is_first (place_of lv lvs)) lv.kind s leaf alone is) (calm_in lv lvs h.1.statement takes)
        (e ∙ leaf_is k s (only_number_words rest) leaf),
    begun_part lv lvs s (lexeme_tree s),
  )

  -- an opening bracket
  with_open : (k : Sort) (s : List ℕ) (rest : List (List ℕ)) (v first : Bool) (lv : Level) (lvs : List Level) → Opens k → sort_of s ≡ k
      → v ≡ is_among_numbers k s (only_number_words rest) → is_first (place_of lv lvs) ≡ first → StackReads style v (lv ∷ lvs) → IsLexeme s
      → TakesPartIn (lv ∷ lvs) → AreRead rest (new_level (opened_kind lv.kind first k rest) s ∷ lv ∷ lvs)
  with_open k s rest v first lv lvs opens is e f h alone takes =
      let kind = opened_kind lv.kind first k rest in (
        (
          true,
          new_reads inside kind s tt (nothing_read kind s) tt,
          record {
            by = k;
            opens = opens;
            is = is;
            alone = alone;
            kind =
                kind_before_is (kind_in lv.kind first k) rest
                ∙ ap (λ (b : Bool). kind_with (kind_in lv.kind b k) (only_number_words rest)) (sym f);
            calm = calm_in lv lvs h.1.statement takes;
          },
          subst (λ (b : Bool). StackReads style b (lv ∷ lvs)) (e ∙ opens_is k s (only_number_words rest) opens) h,
        ),
        tt,
      )

  -- a closing bracket
  with_close : (j : Sort) (s : List ℕ) (rest : List (List ℕ)) (v : Bool) (lv outer : Level) (lvs : List Level) → Closes j → sort_of s ≡ j
      → v ≡ is_among_numbers j s (only_number_words rest) → StackReads style v (lv ∷ outer ∷ lvs) → IsLexeme s
      → AreRead rest (with_part outer lv.opening (list_tree style lv s) ∷ lvs)
  with_close j s rest v lv outer lvs closes is e (n, h, o, more) alone =
      let nn = with_comments_number n lv in
      let kind : lv.kind ≡ kind_with (kind_in outer.kind (is_first (place_of outer lvs)) o.by) (nn && closes_numbers j) =
      o.kind
      ∙ ap (λ (b : Bool). kind_with (kind_in outer.kind (is_first (place_of outer lvs)) o.by) (nn && b))
      (e ∙ closes_is j s (only_number_words rest) closes) in (
        stack_part style false (only_number_words rest) false outer lvs lv.opening (list_tree style lv s) more
            (list_reads style o.by j (is_first (place_of outer lvs)) outer.kind nn lv s o.opens o.is o.alone closes is alone kind
            (closed_of_level style n lv h)) o.calm refl,
        begun_part outer lvs lv.opening (list_tree style lv s),
      )

  -- a comma
  comma_on : (rest : List (List ℕ)) (v : Bool) (lv outer : Level) (lvs : List Level) → v ≡ only_number_words rest
      → may_hold (part_end lv).last ≡ false → StackReads style v (lv ∷ outer ∷ lvs)
      → AreRead rest (entry_with_comma false lv ∷ outer ∷ lvs)
  comma_on rest v lv outer lvs e hold (n, h, o, more) = (
    (
      n,
      record { body = h.body; comma = (refl, hold); comments = h.comments; are = h.are; statement = tt },
      opened_on style (with_comments_number n lv && v) (with_comments_number n lv && only_number_words rest) lv (entry_with_comma false lv)
          (outer ∷ lvs) (ap (λ (b : Bool). with_comments_number n lv && b) e) refl refl o,
      more,
    ),
    tt,
  )

  neither : (a b : Bool) → a ≡ false → b ≡ false → a || b ≡ false
  neither a b e f = ap (λ (c : Bool). c || b) e ∙ f

  with_comma : (rest : List (List ℕ)) (v : Bool) (lv outer : Level) (lvs : List Level) → v ≡ only_number_words rest
      → TakesCommaIn (lv ∷ outer ∷ lvs) → StackReads style v (lv ∷ outer ∷ lvs) → AreRead rest (level_with_comma lv ∷ outer ∷ lvs)
  with_comma rest v lv outer lvs e (none, hold) h =
      subst (λ (b : Bool). AreRead rest (entry_with_comma b lv ∷ outer ∷ lvs))
      (sym (neither lv.entry.comma (may_hold (part_end lv).last) none hold)) (comma_on rest v lv outer lvs e hold h)

  -- a comment
  bottom_comment : (lv : Level) (p : Option Part) (l : Last) (c : Commented) → IsStatement (bottom_place p) lv
      → is_first (bottom_place p) ≡ false → (lv.entry.comments ≡ []) × (is_last_comment l ≡ false)
      → TakesComments lv.kind (bottom_place p) l (c ∷ lv.entry.comments)
  bottom_comment lv None l c h f (e, g) = absurd (cc)
  bottom_comment lv (Some p) l c h f (e, g) = (e, h.0, g)

  takes_comment : (lv : Level) (lvs : List Level) (c : Commented) → IsStatement (place_of lv lvs) lv → IsBegun (lv ∷ lvs)
      → TakesCommentIn (lv ∷ lvs) → TakesComments lv.kind (place_of lv lvs) (part_end lv).last (c ∷ lv.entry.comments)
  takes_comment lv [] c h begun takes = bottom_comment lv lv.entry.part (part_end lv).last c h begun takes
  takes_comment lv (outer ∷ lvs) c h begun takes = tt

  begun_comment : (lv : Level) (lvs : List Level) (s : List ℕ) → IsBegun (lv ∷ lvs) → IsBegun (with_comment lv s ∷ lvs)
  begun_comment lv [] s h = h
  begun_comment lv (outer ∷ lvs) s h = tt

  place_comment : (lv : Level) (lvs : List Level) (s : List ℕ) → place_of lv lvs ≡ place_of (with_comment lv s) lvs
  place_comment lv [] s = refl
  place_comment lv (outer ∷ lvs) s = refl

  no_more : (a n w : Bool) → a && false ≡ (n && false) && w
  no_more true true w = refl
  no_more true false w = refl
  no_more false true w = refl
  no_more false false w = refl

  statement_comment : (place : Place) (lv : Level) (s : List ℕ) → IsStatement place lv → IsStatement place (with_comment lv s)
  statement_comment inside lv s h = tt
  statement_comment on_line lv s h = h
  statement_comment fresh lv s h = h

  commented_reads : (place : Place) (n : Bool) (lv : Level) (s : List ℕ) → LevelReads style place n lv → BeginsComment s
      → TakesComments lv.kind place (part_end lv).last
      (record { broken = lv.broken; blank = lv.blank; comment = s } ∷ lv.entry.comments)
      → LevelReads style place n (with_comment lv s)
  commented_reads place n lv s h begins takes = record {
    body = h.body;
    comma = h.comma;
    comments = takes;
    are = (begins_is s begins, h.are);
    statement = statement_comment place lv s h.statement;
  }

  with_comment_on : (s : List ℕ) (rest : List (List ℕ)) (v : Bool) (lv : Level) (lvs : List Level) → v ≡ false → BeginsComment s
      → TakesCommentIn (lv ∷ lvs) → StackReads style v (lv ∷ lvs) → IsBegun (lv ∷ lvs) → AreRead rest (with_comment lv s ∷ lvs)
  with_comment_on s rest v lv lvs e begins takes (n, h, o, more) begun =
      let c : Commented = record { broken = lv.broken; blank = lv.blank; comment = s } in (
        (
          n,
          subst (λ (p : Place). LevelReads style p n (with_comment lv s)) (place_comment lv lvs s)
              (commented_reads (place_of lv lvs) n lv s h begins (takes_comment lv lvs c h.statement begun takes)),
          opened_on style (with_comments_number n lv && v) ((n && false) && only_number_words rest) lv (with_comment lv s) lvs
              (ap (λ (b : Bool). with_comments_number n lv && b) e
              ∙ no_more (with_comments_number n lv) n (only_number_words rest)) refl refl o,
          more,
        ),
        begun_comment lv lvs s begun,
      )

  -- a line end in brackets
  with_end_on : (rest : List (List ℕ)) (v : Bool) (lv outer : Level) (lvs : List Level) → v ≡ only_number_words rest
      → StackReads style v (lv ∷ outer ∷ lvs) → AreRead rest (with_line_end lv ∷ outer ∷ lvs)
  with_end_on rest v lv outer lvs e (n, h, o, more) = (
    (
      n,
      record { body = h.body; comma = h.comma; comments = h.comments; are = h.are; statement = tt },
      opened_on style (with_comments_number n lv && v) (with_comments_number n lv && only_number_words rest) lv (with_line_end lv)
          (outer ∷ lvs) (ap (λ (b : Bool). with_comments_number n lv && b) e) refl refl o,
      more,
    ),
    tt,
  )

  -- one lexeme that is no line end, in levels
  begun_top : (lv : Level) (lvs : List Level) → IsBegun (lv ∷ lvs) → is_first (place_of lv lvs) ≡ false
  begun_top lv [] h = h
  begun_top lv (outer ∷ lvs) h = refl

  levels_read : (k : Sort) (s : List ℕ) (rest : List (List ℕ)) (v : Bool) (lv : Level) (lvs : List Level) → sort_of s ≡ k
      → v ≡ is_among_numbers k s (only_number_words rest) → MayCome k s (lv ∷ lvs) → (k ≡ sort.line_end → ⊥)
      → StackReads style v (lv ∷ lvs) → IsBegun (lv ∷ lvs) → AreRead rest (levels_after style k (lv ∷ lvs) s rest)
  levels_read sort.open_array s rest v lv lvs is e may other h begun =
      with_open sort.open_array s rest v false lv lvs tt is e (begun_top lv lvs begun) h may.0 may.1
  levels_read sort.open_table s rest v lv lvs is e may other h begun =
      with_open sort.open_table s rest v false lv lvs tt is e (begun_top lv lvs begun) h may.0 may.1
  levels_read sort.close_array s rest v lv [] is e may other h begun = absurd may.1
  levels_read sort.close_array s rest v lv (outer ∷ lvs) is e may other h begun =
      with_close sort.close_array s rest v lv outer lvs tt is e h may.0
  levels_read sort.close_table s rest v lv [] is e may other h begun = absurd may.1
  levels_read sort.close_table s rest v lv (outer ∷ lvs) is e may other h begun =
      with_close sort.close_table s rest v lv outer lvs tt is e h may.0
  levels_read sort.comma s rest v lv [] is e may other h begun = absurd may
  levels_read sort.comma s rest v lv (outer ∷ lvs) is e may other h begun = with_comma rest v lv outer lvs e may h
  levels_read sort.equals s rest v lv lvs is e may other h begun = with_leaf sort.equals s rest v lv lvs tt is e h may.0 may.1
  levels_read sort.line_end s rest v lv lvs is e may other h begun = absurd (other refl)
  levels_read sort.comment s rest v lv lvs is e may other h begun = with_comment_on s rest v lv lvs e may.0 may.1 h begun
  levels_read sort.string s rest v lv lvs is e may other h begun = with_leaf sort.string s rest v lv lvs tt is e h may.0 may.1
  levels_read sort.word s rest v lv lvs is e may other h begun = with_leaf sort.word s rest v lv lvs tt is e h may.0 may.1
  levels_read sort.text_end s rest v lv lvs is e may other h begun = absurd may

  -- the first one of a statement
  first_read : (k : Sort) (s : List ℕ) (rest : List (List ℕ)) → sort_of s ≡ k → MayCome k s [] → (k ≡ sort.line_end → ⊥)
      → AreRead rest (levels_after style k [] s rest)
  first_read sort.open_array s rest is may other =
      with_open sort.open_array s rest false true new_statement [] tt is refl refl (stack_new false) may.0 refl
  first_read sort.open_table s rest is may other =
      with_open sort.open_table s rest false true new_statement [] tt is refl refl (stack_new false) may.0 refl
  first_read sort.close_array s rest is may other = absurd may.1
  first_read sort.close_table s rest is may other = absurd may.1
  first_read sort.comma s rest is may other = absurd may
  first_read sort.equals s rest is may other = with_leaf sort.equals s rest false new_statement [] tt is refl (stack_new false) may.0 refl
  first_read sort.line_end s rest is may other = absurd (other refl)
  first_read sort.comment s rest is may other = (
    stack_part style false (only_number_words rest) false new_statement [] s (counted.text (trimmed s)) (stack_new false)
        (comment_reads style s may.0) (refl, refl) refl,
    refl,
  )
  first_read sort.string s rest is may other = with_leaf sort.string s rest false new_statement [] tt is refl (stack_new false) may.0 refl
  first_read sort.word s rest is may other =
      with_leaf sort.word s rest _ new_statement [] tt is refl
      (stack_new (is_among_numbers sort.word s (only_number_words rest))) may.0 refl
  first_read sort.text_end s rest is may other = absurd may

  after_read : (k : Sort) (s : List ℕ) (rest : List (List ℕ)) (v : Bool) (levels : List Level) → sort_of s ≡ k
      → v ≡ is_among_numbers k s (only_number_words rest) → MayCome k s levels → (k ≡ sort.line_end → ⊥)
      → StackReads style v levels → IsBegun levels → AreRead rest (levels_after style k levels s rest)
  after_read k s rest v [] is e may other h begun = first_read k s rest is may other
  after_read k s rest v (lv ∷ lvs) is e may other h begun = levels_read k s rest v lv lvs is e may other h begun

-- ---- drafts

-- the lines of a draft, laid in Break and their groups in these modes, are read as such lines again
pub record LinesRead (style : Style) (done : Tree) (some : Bool) (ms : List Mode) : Type 0 where
  pub again : Tree
  pub left : List Mode
  pub bits : List Bit
  pub related : Again done again Break ms left bits
  pub leads : (rest : List (List ℕ))
      → document_from style no_draft (lexemes_then bits rest)
      ≡ document_from style (record { done = again; some = some; blank = false; levels = [] }) rest

pub record DraftReads (style : Style) (d : Draft) (rest : List (List ℕ)) : Type 0 where
  pub done : (ms : List Mode) → LinesRead style d.done d.some ms
  pub blank : d.blank ≡ true → d.some ≡ true
  pub levels : StackReads style (only_number_words rest) d.levels
  pub begun : IsBegun d.levels

module _ (style : Style) where
  no_draft_reads : (rest : List (List ℕ)) → DraftReads style no_draft rest
  no_draft_reads rest = record {
    done = λ ms. record { again = Nil; left = ms; bits = []; related = again_same Nil Break ms; leads = λ more. refl };
    blank = λ h. h;
    levels = tt;
    begun = tt;
  }

  -- the blank line before a statement
  blank_leads : (again : Tree) (some blank : Bool) (rest : List (List ℕ)) → (blank ≡ true → some ≡ true)
      → document_from style (record { done = again; some = some; blank = false; levels = [] }) (lexemes_then (blank_bits blank) rest)
      ≡ document_from style (record { done = again; some = some; blank = blank; levels = [] }) rest
  unfolding document_from
  blank_leads again some false rest h = refl
  blank_leads again some true rest h =
      ap (λ (b : Bool). document_from style (record { done = again; some = some; blank = b; levels = [] }) rest) (h refl)

  -- the end of its line
  end_leads : (d : Draft) (lv : Level) (rest : List (List ℕ))
      → document_from style (record d { levels = lv ∷ [] }) ((byte.line_feed ∷ []) ∷ rest)
      ≡ document_from style (draft_with_statement d (level_end lv).tree) rest
  unfolding document_from
  end_leads d lv rest = refl

  bottom_started : (p : Option Part) (kind : Kind) (opening : List ℕ) → started (bottom_place p) kind opening [] ≡ []
  bottom_started None kind opening = refl
  bottom_started (Some p) kind opening = refl

  bottom_around : (p : Option Part) → IsAround (bottom_place p) []
  bottom_around None = refl
  bottom_around (Some p) = refl

  statement_reads : (d : Draft) (lv : Level) (rest more : List (List ℕ)) → DraftReads style (record d { levels = lv ∷ [] }) rest
      → DraftReads style (draft_with_statement d (level_end lv).tree) more
  statement_reads d lv rest more h = record {
    done = λ ms.
        let r = h.done ms in
        let row_read = rows_of style (place_of lv []) h.levels.0 lv h.levels.1 Break r.left in
        let w = level_of lv.kind lv.opening row_read.before row_read.entry in
        let a : Draft = record { done = r.again; some = d.some; blank = d.blank; levels = [] } in
        let end : List Bit = end_of_line ∷ [] in
        record {
          again = lines_with d.blank r.again (level_end w).tree;
          left = row_read.left;
          bits = r.bits ++ (blank_bits d.blank ++ (row_read.bits ++ end));
          related =
              again_lines d.blank d.done r.again (level_end lv).tree
              (level_end w).tree ms r.left row_read.left r.bits row_read.bits r.related
              row_read.related;
          leads = λ left.
              ap (document_from style no_draft)
              (read_both r.bits (blank_bits d.blank ++ (row_read.bits ++ end)) left
              ∙ ap (lexemes_then r.bits)
              (read_both (blank_bits d.blank) (row_read.bits ++ end) left
              ∙ ap (lexemes_then (blank_bits d.blank)) (read_both row_read.bits end left)))
              ∙ r.leads (lexemes_then (blank_bits d.blank) (lexemes_then row_read.bits (lexemes_then end left)))
              ∙ blank_leads r.again d.some d.blank (lexemes_then row_read.bits (lexemes_then end left)) h.blank
              ∙ ap (λ (ls : List Level). document_from style (record a { levels = ls })
              (lexemes_then row_read.bits (lexemes_then end left)))
              (sym (bottom_started lv.entry.part lv.kind lv.opening))
              ∙ row_read.leads [] (bottom_around lv.entry.part) a (lexemes_then end left)
              ∙ ap (λ (b : Bool). document_from style (record a { levels = stacked b w [] }) (lexemes_then end left)) h.begun
              ∙ end_leads a w left;
        };
    blank = λ e. refl;
    levels = tt;
    begun = tt;
  }

  other_reads : (k : Sort) (s : List ℕ) (rest : List (List ℕ)) (d : Draft) → sort_of s ≡ k → MayCome k s d.levels → (k ≡ sort.line_end → ⊥)
      → DraftReads style d (s ∷ rest) → DraftReads style (record d { levels = levels_after style k d.levels s rest }) rest
  other_reads k s rest d is may other h =
      let more =
      after_read style k s rest (only_number_words (s ∷ rest)) d.levels is
      (ap (λ (j : Sort). is_among_numbers j s (only_number_words rest)) is) may other h.levels h.begun in
      record { done = h.done; blank = h.blank; levels = more.0; begun = more.1 }

  end_reads : (rest old : List (List ℕ)) (d : Draft) (levels : List Level) → only_number_words old ≡ only_number_words rest
      → DraftReads style (record d { levels = levels }) old → DraftReads style (with_ended_line d levels) rest
  end_reads rest old d [] e h = record { done = h.done; blank = λ b. b; levels = tt; begun = tt }
  end_reads rest old d (lv ∷ []) e h = statement_reads d lv old rest h
  end_reads rest old d (lv ∷ outer ∷ lvs) e h =
      let more = with_end_on style rest (only_number_words old) lv outer lvs e h.levels in
      record { done = h.done; blank = h.blank; levels = more.0; begun = more.1 }

  draft_reads : (k : Sort) (s : List ℕ) (rest : List (List ℕ)) (d : Draft) → sort_of s ≡ k → MayCome k s d.levels
      → DraftReads style d (s ∷ rest) → DraftReads style (draft_with style k d s rest) rest
  draft_reads sort.line_end s rest d is may h =
      end_reads rest (s ∷ rest) d d.levels (ap (λ (j : Sort). is_among_numbers j s (only_number_words rest)) is) h
  draft_reads sort.open_array s rest d is may h = other_reads sort.open_array s rest d is may (λ e. absurd (cc)) h
  draft_reads sort.close_array s rest d is may h = other_reads sort.close_array s rest d is may (λ e. absurd (cc)) h
  draft_reads sort.open_table s rest d is may h = other_reads sort.open_table s rest d is may (λ e. absurd (cc)) h
  draft_reads sort.close_table s rest d is may h = other_reads sort.close_table s rest d is may (λ e. absurd (cc)) h
  draft_reads sort.comma s rest d is may h = other_reads sort.comma s rest d is may (λ e. absurd (cc)) h
  draft_reads sort.equals s rest d is may h = other_reads sort.equals s rest d is may (λ e. absurd (cc)) h
  draft_reads sort.comment s rest d is may h = other_reads sort.comment s rest d is may (λ e. absurd (cc)) h
  draft_reads sort.string s rest d is may h = other_reads sort.string s rest d is may (λ e. absurd (cc)) h
  draft_reads sort.word s rest d is may h = other_reads sort.word s rest d is may (λ e. absurd (cc)) h
  draft_reads sort.text_end s rest d is may h = absurd may

  -- ---- documents

  -- a document that is laid so is read again, and laid so again
  pub record DocumentRead (x : Tree) (ms : List Mode) : Type 0 where
    pub left : List Mode
    pub bits : List Bit
    pub related : Again x (toml_document style (lexemes_then bits [])) Break ms left bits

  read_out : (done : Tree) (some : Bool) (ms : List Mode) → LinesRead style done some ms → DocumentRead done ms
  unfolding document_from
  read_out done some ms r = record {
    left = r.left;
    bits = r.bits;
    related = subst (λ (y : Tree). Again done y Break ms r.left r.bits) (sym (r.leads [])) r.related;
  }

  ended_reads : (d : Draft) (levels : List Level) (ms : List Mode) → IsOutside levels → DraftReads style (record d { levels = levels }) []
      → DocumentRead (ended_in d levels) ms
  ended_reads d [] ms out h = read_out d.done d.some ms (h.done ms)
  ended_reads d (lv ∷ []) ms out h =
      let more = statement_reads d lv [] [] h in
      read_out (draft_with_statement d (level_end lv).tree).done true ms (more.done ms)
  ended_reads d (lv ∷ outer ∷ lvs) ms out h = absurd out

  from_reads : (ss : List (List ℕ)) (d : Draft) (ms : List Mode) → AreOrderly style d ss → DraftReads style d ss
      → DocumentRead (document_from style d ss) ms
  unfolding document_from
  from_reads [] d ms orderly h = ended_reads d d.levels ms orderly h
  from_reads (s ∷ ss) d ms orderly h =
      from_reads ss (draft_with style (sort_of s) d s ss) ms orderly.1 (draft_reads (sort_of s) s ss d refl orderly.0 h)

  -- the document of lexemes, laid with its groups in any modes, is read as one that is laid like it
  pub document_reads : (ss : List (List ℕ)) (ms : List Mode) → AreOrderly style no_draft ss → DocumentRead (toml_document style ss) ms
  document_reads ss ms orderly = from_reads ss no_draft ms orderly (no_draft_reads ss)
