-- What the code's lines and documents are to the definition, step by step.
use Rattle.std.proofs.Common.{◌≡◌, refl, sym, ◌∙◌, ap, subst, inl, inr, ◌⊎◌, ℕ, Bool, true, false}
use Rattle.std.proofs.Common.{◌&&◌, ◌||◌, ◌==◌, List, []}
use Rattle.std.proofs.Common.{◌∷◌}
use Rattle.prettyless_trees.specs.Built.{append}
use Rattle.prettyless_trees.specs.Counted as counted
use Rattle.prettyless_model.specs.Tree.{Tree, Nil}
use Rattle.prettyless_pointers.specs.Trees.{ref_tree}
use Rattle.prettyless_pointers.specs.declared.arena.RefDoc.{RefDoc}
use Rattle.toml_lexemes.specs.Bytes.{comma, dot, hash, head, line_feed}
use Rattle.toml_lexemes.specs.View.{toml_text_of, HasTomlKind}
use Rattle.toml_lexemes.specs.declared.lexeme.Lexeme.{Lexeme}
use Rattle.toml_lexemes.specs.declared.lexeme.Lexeme.TheVariants as lexeme
use Rattle.toml_grammar.specs.Sorts as sort
use Rattle.toml_grammar.specs.Sorts.{Sort, sort_of}
use Rattle.toml_grammar.proofs.Allowed.{sort_comment, sort_string}
use Rattle.toml_lexemes.specs.Statements.{trimmed}
use Rattle.toml_documents.specs.Documents.{end_after_comma, after_comments, after_rest, closed_end, comma_kept, document_from, Draft, End}
use Rattle.toml_documents.specs.Documents.{ends_item, entry_with_comma, is_array, is_some, Level, level_end, levels_with, lexeme_tree}
use Rattle.toml_documents.specs.Documents.{list_tree, new_level, new_statement, part_end, Commented, comment_tree, comments_tree, separated}
use Rattle.toml_documents.specs.Documents.{trailed_end, draft_with, unclosed_tree, level_with_comma, with_line_end, with_part, with_comment}
use Rattle.toml_documents.specs.Documents.{draft_with_statement}
use Rattle.toml_formatter.specs.Drafts.{AreAround, line_end, ReadsFirst, ReadsOn, ReadsPart, ReadsStatement, settled_end, Stands}
use Rattle.toml_documents.specs.Gaps.{gap_before_part, gap_before_text, gap_before_comma, gap_before_comment, may_hold}
use Rattle.toml_documents.specs.Kinds.{is_closing, is_opening, IsPart, last_after, last_after_text, sort_for}
use Rattle.toml_documents.specs.Numbers.{opened_kind}
use Rattle.toml_documents.specs.Lexing.{ClosesNext}
use Rattle.toml_formatter.specs.Lines.{begun}
use Rattle.toml_documents.specs.declared.gaps.Gap.{Gap}
use Rattle.toml_documents.specs.declared.kind.Kind.{Kind}
use Rattle.toml_documents.specs.declared.kind.Kind.TheVariants.{Statement}
use Rattle.toml_documents.specs.declared.kind.Last.{Last}
use Rattle.toml_documents.specs.declared.kind.Last.TheVariants as last
use Rattle.toml_documents.proofs.LexemeKinds.{sort_known, part_last, sort_word}
use Rattle.toml_formatter.specs.declared.line.Line.{Line}
use Rattle.toml_documents.specs.declared.style.Style.{Style}

clash : {b : Bool} → b ≡ true → b ≡ false → ⊥
clash p q = cc

-- ---- what waits

pub new_stands : (doc : RefDoc) (kind : Kind) (opening : List ℕ) → ref_tree doc ≡ Nil
    → Stands (new_level kind opening) (begun doc last.Start)
new_stands doc kind opening e = record {
  end = λ i. record { tree = e i; last = last.Start };
  comma = refl;
  commented = refl;
  comments = λ p. absurd (cc);
  broken = refl;
  blank = refl;
}

pub line_end_stands : (lv : Level) (line : Line) → Stands lv line
    → Stands (with_line_end lv) (record line { broken = true; blank = line.broken })
line_end_stands lv line h = record {
  end = h.end;
  comma = h.comma;
  commented = h.commented;
  comments = h.comments;
  broken = refl;
  blank = h.broken;
}

-- the comma that waits in its place
pub comma_end : (line : Line) (doc : RefDoc) (x : Tree) (g : Gap) → line.comma ≡ true
    → ref_tree doc ≡ separated g (ref_tree line.doc) x
    → g ≡ gap_before_comma line.last → x ≡ counted.text (comma ∷ [])
    → line_end (record line { doc = doc; last = last.Comma; comma = false }) ≡ end_after_comma line.comma (line_end line)
comma_end line doc x g waits made gap is =
    let tree : ref_tree doc ≡ separated (gap_before_comma line.last) (ref_tree line.doc) (counted.text (comma ∷ [])) =
    made ∙ (λ j. separated (gap j) (ref_tree line.doc) (is j)) in
    let all : line_end (record line { doc = doc; last = last.Comma; comma = false }) ≡ end_after_comma true (line_end line) =
    λ i. record { tree = tree i; last = last.Comma } in
    all ∙ ap (λ (b : Bool). end_after_comma b (line_end line)) (sym waits)

-- the comments that wait in their place
pub comments_end : (line : Line) (doc : RefDoc) → line.is_commented ≡ true
    → ref_tree doc ≡ append (ref_tree line.doc) (ref_tree line.comments)
    → line_end (record line { doc = doc; last = last.Comment; is_commented = false })
    ≡ after_comments line.is_commented (ref_tree line.comments) (line_end line)
comments_end line doc waits made =
    let all : line_end (record line { doc = doc; last = last.Comment; is_commented = false })
    ≡ after_comments true (ref_tree line.comments) (line_end line) =
    λ i. record { tree = made i; last = last.Comment } in
    all ∙ ap (λ (b : Bool). after_comments b (ref_tree line.comments) (line_end line)) (sym waits)

after_same : (b c : Bool) (x y : Tree) (e : End) → b ≡ c → (b ≡ true → x ≡ y) → after_comments b x e ≡ after_comments c y e
after_same false c x y e p h = ap (λ (z : Bool). after_comments z y e) p
after_same true c x y e p h = λ i. after_comments (p i) (h refl i) e

-- a line with this comma, where what waits is put in its place
pub settled_as : (lv : Level) (line : Line) (b c : Bool) → Stands lv line → b ≡ c
    → settled_end (record line { comma = b }) ≡ after_rest lv.kind (record lv.entry { comma = c }) (part_end lv)
settled_as lv line b c h same =
    let rs = lv.entry.comments in
    let l = (part_end lv).last in
    after_same line.is_commented (is_some rs) (ref_tree line.comments) (comments_tree lv.kind l rs) (end_after_comma b
    (line_end line)) h.commented
    (λ e. h.comments e ∙ ap (λ (x : End). comments_tree lv.kind x.last rs) h.end)
    ∙ (λ i. after_comments (is_some rs) (comments_tree lv.kind l rs) (end_after_comma (same i) (h.end i)))

pub settled_same : (lv : Level) (line : Line) → Stands lv line → settled_end line ≡ level_end lv
settled_same lv line h = settled_as lv line line.comma lv.entry.comma h h.comma

-- ---- steps of a line

-- a line on which nothing waits, whose document is all of the level, and then a comma
comma_new : (lv : Level) (line : Line) → line_end line ≡ level_end lv → line.is_commented ≡ false
    → Stands (entry_with_comma true lv) (record line { comma = true; broken = false; blank = false })
comma_new lv line e no_comments = record {
  end = e;
  comma = refl;
  commented = no_comments;
  comments = λ p. absurd (clash p no_comments);
  broken = refl;
  blank = refl;
}

comma_more : (lv : Level) (line : Line) → Stands lv line
    → Stands (entry_with_comma false lv) (record line { comma = true; broken = false; blank = false })
comma_more lv line h = record {
  end = h.end;
  comma = refl;
  commented = h.commented;
  comments = h.comments;
  broken = refl;
  blank = refl;
}

same_test : (lv : Level) (line : Line) (b : Bool) → Stands lv line → (line.comma || may_hold line.last) ≡ b
    → (lv.entry.comma || may_hold (part_end lv).last) ≡ b
same_test lv line b h e =
    let same : (lv.entry.comma || may_hold (part_end lv).last) ≡ (line.comma || may_hold line.last) =
    λ i. sym h.comma i || may_hold ((sym h.end i).last) in
    same ∙ e

-- a comma after which nothing is settled
pub comma_waits : (lv : Level) (line : Line) → Stands lv line → (line.comma || may_hold line.last) ≡ false
    → Stands (level_with_comma lv) (record line { comma = true; broken = false; blank = false })
comma_waits lv line h e =
    subst (λ (b : Bool). Stands (entry_with_comma b lv) (record line { comma = true; broken = false; blank = false }))
    (sym (same_test lv line false h e)) (comma_more lv line h)

-- a comma after what was settled
pub comma_follows : (lv : Level) (line settled : Line) → Stands lv line → (line.comma || may_hold line.last) ≡ true
    → line_end settled ≡ settled_end line → settled.is_commented ≡ false
    → Stands (level_with_comma lv) (record settled { comma = true; broken = false; blank = false })
comma_follows lv line settled h e is none =
    subst (λ (b : Bool). Stands (entry_with_comma b lv) (record settled { comma = true; broken = false; blank = false }))
    (sym (same_test lv line true h e)) (comma_new lv settled (is ∙ settled_same lv line h) none)

no_comments_tree : (kind : Kind) (l : Last) (rs : List Commented) → is_some rs ≡ false → Nil ≡ comments_tree kind l rs
no_comments_tree kind l [] e = refl
no_comments_tree kind l (r ∷ rs) e = absurd (cc)

-- the document of the comments that wait, or nothing
pub first_comments : (lv : Level) (line : Line) (nil : Tree) → Stands lv line → line.is_commented ≡ false → nil ≡ Nil
    → nil ≡ comments_tree lv.kind line.last lv.entry.comments
first_comments lv line nil h none e = e ∙ no_comments_tree lv.kind line.last lv.entry.comments (sym h.commented ∙ none)

-- one comment more
pub comment_stands : (lv : Level) (line : Line) (kind : Kind) (s : List ℕ) (g : Gap) (front x : Tree) (doc : RefDoc) → lv.kind ≡ kind
    → Stands lv line
    → g ≡ gap_before_comment kind line.last line.is_commented line.broken line.blank
    → front ≡ comments_tree lv.kind line.last lv.entry.comments → x ≡ comment_tree s → ref_tree doc ≡ separated g front x
    → Stands (with_comment lv s) (record line { is_commented = true; comments = doc; broken = false; blank = false })
comment_stands lv line kind s g front x doc kinds h is fronts xs made = record {
  end = h.end;
  comma = h.comma;
  commented = refl;
  comments = λ e. made ∙ (λ i. separated (gaps i) (fronts i) (xs i));
  broken = refl;
  blank = refl;
}
  where
    gaps : g ≡ gap_before_comment lv.kind line.last (is_some lv.entry.comments) lv.broken lv.blank
    gaps = is ∙ (λ i. gap_before_comment (sym kinds i) line.last (h.commented i) (h.broken i) (h.blank i))

-- a part more, on a line on which nothing waits
pub part_stands : (lv : Level) (line : Line) (kind : Kind) (x : Lexeme) (value : Tree) (doc : RefDoc) (g : Gap) (l : Last)
    → HasTomlKind x → IsPart x → lv.kind ≡ kind → line_end line ≡ level_end lv → line.comma ≡ false
    → line.is_commented ≡ false
    → line.blank ≡ lv.blank → g ≡ gap_before_part kind line.last (sort_for x) (head (toml_text_of x) == dot) line.blank
    → ref_tree doc ≡ separated g (ref_tree line.doc) value
    → l ≡ last_after x
    → Stands (with_part lv (toml_text_of x) value) (record line { doc = doc; last = l; broken = false; blank = false })
part_stands lv line kind x value doc g l named part kinds is no_comma no_comments blanks gap made lasts = record {
  end = λ i. record { tree = trees i; last = ends i };
  comma = no_comma;
  commented = no_comments;
  comments = λ e. absurd (clash e no_comments);
  broken = refl;
  blank = refl;
}
  where
    gaps : g ≡ gap_before_text lv.kind (level_end lv).last (toml_text_of x) lv.blank
    gaps =
        gap ∙ (λ i. gap_before_part (sym kinds i) ((is i).last) (sym (sort_known x named) i) (head (toml_text_of x) == dot) (blanks i))

    trees : ref_tree doc ≡ separated (gap_before_text lv.kind (level_end lv).last (toml_text_of x) lv.blank) (level_end lv).tree value
    trees = made ∙ (λ i. separated (gaps i) ((is i).tree) value)

    ends : l ≡ last_after_text (toml_text_of x)
    ends = lasts ∙ part_last x named part

-- before a closing bracket, with what waits in its place
pub closed_same : (lv : Level) (line settled : Line) (kind : Kind) (keeps : Bool) → lv.kind ≡ kind → Stands lv line
    → keeps ≡ comma_kept kind line.last line.comma line.is_commented → line_end settled ≡ settled_end (record line { comma = keeps })
    → (trails : Bool) → trails ≡ (is_array kind && ends_item settled.last) → trailed_end trails line.comma (line_end settled) ≡ closed_end lv
closed_same lv line settled kind keeps kinds h kept is trails test =
    λ i. trailed_end (tests i) (h.comma i) (ends i)
  where
    commas : keeps ≡ comma_kept lv.kind (part_end lv).last lv.entry.comma (is_some lv.entry.comments)
    commas = kept ∙ (λ i. comma_kept (sym kinds i) ((h.end i).last) (h.comma i) (h.commented i))

    ends : line_end settled ≡ after_rest lv.kind (record lv.entry {
      comma = comma_kept lv.kind (part_end lv).last lv.entry.comma
          (is_some lv.entry.comments);
    }) (part_end lv)
    ends = is ∙ settled_as lv line keeps (comma_kept lv.kind (part_end lv).last lv.entry.comma (is_some lv.entry.comments)) h commas

    tests : trails ≡ (is_array lv.kind && ends_item (after_rest lv.kind (record lv.entry {
      comma = comma_kept lv.kind
          (part_end lv).last lv.entry.comma (is_some lv.entry.comments);
    }) (part_end lv)).last)
    tests = test ∙ (λ i. is_array (sym kinds i) && ends_item ((ends i).last))

-- ---- lexemes that are read

-- a part that is no list
pub plain_levels : (style : Style) (x : Lexeme) → HasTomlKind x → IsPart x → is_opening x ≡ false
    → (first : Bool) (lv : Level) (lvs : List Level) (ss : List (List ℕ))
    → levels_with style (sort_of (toml_text_of x)) first lv lvs (toml_text_of x) ss
    ≡ with_part lv (toml_text_of x) (lexeme_tree (toml_text_of x)) ∷ lvs
plain_levels style lexeme.OpenArray named part e first lv lvs ss = absurd (cc)
plain_levels style lexeme.CloseArray named part e first lv lvs ss = absurd part
plain_levels style lexeme.OpenTable named part e first lv lvs ss = absurd (cc)
plain_levels style lexeme.CloseTable named part e first lv lvs ss = absurd part
plain_levels style lexeme.Comma named part e first lv lvs ss = absurd part
plain_levels style lexeme.Equals named part e first lv lvs ss = refl
plain_levels style lexeme.LineEnd named part e first lv lvs ss = absurd part
plain_levels style (lexeme.Comment s) named part e first lv lvs ss = absurd part
plain_levels style (lexeme.String s) named part e first lv lvs ss =
    ap (λ (k : Sort). levels_with style k first lv lvs s.now ss) (sort_string s.now named)
plain_levels style (lexeme.Word s) named part e first lv lvs ss =
    ap (λ (k : Sort). levels_with style k first lv lvs s.now ss) (sort_word s.now named)

-- a bracket that opens a list
pub opened_levels : (style : Style) (x : Lexeme) → is_opening x ≡ true
    → (around kind : Kind) (first : Bool) (lv : Level) (lvs : List Level) (ss : List (List ℕ))
    → lv.kind ≡ around → kind ≡ opened_kind around first (sort_for x) ss
    → levels_with style (sort_of (toml_text_of x)) first lv lvs (toml_text_of x) ss ≡ new_level kind (toml_text_of x) ∷ lv ∷ lvs
opened_levels style lexeme.OpenArray o around kind first lv lvs ss kinds is =
    λ i. new_level ((ap (λ (k : Kind). opened_kind k first sort.open_array ss) kinds
    ∙ sym is) i) (toml_text_of lexeme.OpenArray) ∷ lv ∷ lvs
opened_levels style lexeme.OpenTable o around kind first lv lvs ss kinds is =
    λ i. new_level ((ap (λ (k : Kind). opened_kind k first sort.open_table ss) kinds
    ∙ sym is) i) (toml_text_of lexeme.OpenTable) ∷ lv ∷ lvs
opened_levels style lexeme.CloseArray o around kind first lv lvs ss kinds is = absurd (cc)
opened_levels style lexeme.CloseTable o around kind first lv lvs ss kinds is = absurd (cc)
opened_levels style lexeme.Comma o around kind first lv lvs ss kinds is = absurd (cc)
opened_levels style lexeme.Equals o around kind first lv lvs ss kinds is = absurd (cc)
opened_levels style lexeme.LineEnd o around kind first lv lvs ss kinds is = absurd (cc)
opened_levels style (lexeme.Comment s) o around kind first lv lvs ss kinds is = absurd (cc)
opened_levels style (lexeme.String s) o around kind first lv lvs ss kinds is = absurd (cc)
opened_levels style (lexeme.Word s) o around kind first lv lvs ss kinds is = absurd (cc)

-- a bracket that closes one
pub closed_reads : (style : Style) (x : Lexeme) → is_closing x ≡ true
    → (d : Draft) (lv outer : Level) (lvs : List Level) (left : List (List ℕ))
    → document_from style (record d { levels = lv ∷ outer ∷ lvs }) (toml_text_of x ∷ left)
    ≡ document_from style (record d { levels = with_part outer lv.opening (list_tree style lv (toml_text_of x)) ∷ lvs }) left
unfolding document_from
closed_reads style lexeme.CloseArray c d lv outer lvs left = refl
closed_reads style lexeme.CloseTable c d lv outer lvs left = refl
closed_reads style lexeme.OpenArray c d lv outer lvs left = absurd (cc)
closed_reads style lexeme.OpenTable c d lv outer lvs left = absurd (cc)
closed_reads style lexeme.Comma c d lv outer lvs left = absurd (cc)
closed_reads style lexeme.Equals c d lv outer lvs left = absurd (cc)
closed_reads style lexeme.LineEnd c d lv outer lvs left = absurd (cc)
closed_reads style (lexeme.Comment s) c d lv outer lvs left = absurd (cc)
closed_reads style (lexeme.String s) c d lv outer lvs left = absurd (cc)
closed_reads style (lexeme.Word s) c d lv outer lvs left = absurd (cc)

-- a part of a level that has begun
pub part_reads : (style : Style) (x : Lexeme) → HasTomlKind x → IsPart x
    → (d : Draft) (lv : Level) (lvs : List Level) (left : List (List ℕ))
    → document_from style (record d { levels = lv ∷ lvs }) (toml_text_of x ∷ left)
    ≡ document_from style (record d { levels = levels_with style (sort_of (toml_text_of x)) false lv lvs (toml_text_of x) left }) left
unfolding document_from
part_reads style lexeme.OpenArray named part d lv lvs left = refl
part_reads style lexeme.OpenTable named part d lv lvs left = refl
part_reads style lexeme.Equals named part d lv lvs left = refl
part_reads style lexeme.CloseArray named part d lv lvs left = absurd part
part_reads style lexeme.CloseTable named part d lv lvs left = absurd part
part_reads style lexeme.Comma named part d lv lvs left = absurd part
part_reads style lexeme.LineEnd named part d lv lvs left = absurd part
part_reads style (lexeme.Comment s) named part d lv lvs left = absurd part
part_reads style (lexeme.String s) named part d lv lvs left =
    let e = sort_string s.now named in
    ap (λ (k : Sort). document_from style (draft_with style k (record d { levels = lv ∷ lvs }) s.now left) left) e
    ∙ sym (ap (λ (k : Sort). document_from style (record d { levels = levels_with style k false lv lvs s.now left }) left) e)
part_reads style (lexeme.Word s) named part d lv lvs left =
    let e = sort_word s.now named in
    ap (λ (k : Sort). document_from style (draft_with style k (record d { levels = lv ∷ lvs }) s.now left) left) e
    ∙ sym (ap (λ (k : Sort). document_from style (record d { levels = levels_with style k false lv lvs s.now left }) left) e)

-- the part that a statement begins with
pub first_reads : (style : Style) (x : Lexeme) → HasTomlKind x → IsPart x → (d : Draft) (left : List (List ℕ))
    → document_from style (record d { levels = [] }) (toml_text_of x ∷ left)
    ≡ document_from style (record d { levels = levels_with style (sort_of (toml_text_of x)) true new_statement [] (toml_text_of x) left }) left
unfolding document_from
first_reads style lexeme.OpenArray named part d left = refl
first_reads style lexeme.OpenTable named part d left = refl
first_reads style lexeme.Equals named part d left = refl
first_reads style lexeme.CloseArray named part d left = absurd part
first_reads style lexeme.CloseTable named part d left = absurd part
first_reads style lexeme.Comma named part d left = absurd part
first_reads style lexeme.LineEnd named part d left = absurd part
first_reads style (lexeme.Comment s) named part d left = absurd part
first_reads style (lexeme.String s) named part d left =
    let e = sort_string s.now named in
    ap (λ (k : Sort). document_from style (draft_with style k (record d { levels = [] }) s.now left) left) e
    ∙ sym (ap (λ (k : Sort). document_from style (record d { levels = levels_with style k true new_statement [] s.now left }) left) e)
first_reads style (lexeme.Word s) named part d left =
    let e = sort_word s.now named in
    ap (λ (k : Sort). document_from style (draft_with style k (record d { levels = [] }) s.now left) left) e
    ∙ sym (ap (λ (k : Sort). document_from style (record d { levels = levels_with style k true new_statement [] s.now left }) left) e)

-- ---- lists

abbrev first_of : List (List ℕ) → List ℕ
first_of [] = []
first_of (s ∷ ss) = s

abbrev all_but_first : List (List ℕ) → List (List ℕ)
all_but_first [] = []
all_but_first (s ∷ ss) = ss

-- what is known to close a list closes it
closing_reads_next : (style : Style) (s : List ℕ) (between left : List (List ℕ)) → ClosesNext between → between ≡ s ∷ left
    → (d : Draft) (lv outer : Level) (lvs : List Level)
    → document_from style (record d { levels = lv ∷ outer ∷ lvs }) between
    ≡ document_from style (record d { levels = with_part outer lv.opening (list_tree style lv s) ∷ lvs }) left
closing_reads_next style s between left (inl e) is d lv outer lvs = absurd (cc)
closing_reads_next style s between left (inr (y, rest, e, c)) is d lv outer lvs =
    let same : toml_text_of y ∷ rest ≡ s ∷ left = sym e ∙ is in
    ap (λ (ss : List (List ℕ)). document_from style (record d { levels = lv ∷ outer ∷ lvs }) ss) e
    ∙ closed_reads style y c d lv outer lvs rest
    ∙ (λ i. document_from style (record d { levels = with_part outer lv.opening (list_tree style lv (first_of (same i))) ∷ lvs })
    (all_but_first (same i)))

-- a list whose brackets are closed
pub list_reads : (style : Style) (x : Lexeme) (s : List ℕ) → is_opening x ≡ true → (around kind : Kind) (first : Bool)
    → (old between left : List (List ℕ)) → kind ≡ opened_kind around first (sort_for x) old → (line : Line) (tree : Tree)
    → ReadsOn style true (new_level kind (toml_text_of x)) old between line → ClosesNext between → between ≡ s ∷ left
    → ((lv : Level) → lv.kind ≡ kind → lv.opening ≡ toml_text_of x → Stands lv line → tree ≡ list_tree style lv s)
    → ReadsPart style around first (toml_text_of x) old left tree
list_reads style x s o around kind first old between left is line tree h c e trees = λ d lv lvs kinds.
    ap (λ (ls : List Level). document_from style (record d { levels = ls }) old)
    (opened_levels style x o around kind first lv lvs old kinds is)
    ∙ h.same d (lv ∷ lvs) tt
    ∙ closing_reads_next style s between left c e d h.level lv lvs
    ∙ (λ i. document_from style (record d {
      levels = with_part lv (h.opening refl i) (sym (trees h.level h.kind
          (h.opening refl) h.stands) i) ∷ lvs;
    }) left)

unclosed_reads : (style : Style) (d : Draft) (lv outer : Level) (lvs : List Level)
    → document_from style (record d { levels = lv ∷ outer ∷ lvs }) []
    ≡ document_from style (record d { levels = with_part outer lv.opening (unclosed_tree lv) ∷ lvs }) []
unfolding document_from
unclosed_reads style d lv outer lvs = refl

-- a list that the text ends in
pub unclosed_list_reads : (style : Style) (x : Lexeme) → is_opening x ≡ true → (around kind : Kind) (first : Bool)
    → (old between left : List (List ℕ)) → kind ≡ opened_kind around first (sort_for x) old → (line : Line) (tree : Tree)
    → ReadsOn style true (new_level kind (toml_text_of x)) old between line → between ≡ [] → left ≡ []
    → ((lv : Level) → lv.opening ≡ toml_text_of x → Stands lv line → tree ≡ unclosed_tree lv)
    → ReadsPart style around first (toml_text_of x) old left tree
unclosed_list_reads style x o around kind first old between left is line tree h e none trees = λ d lv lvs kinds.
    let s = toml_text_of x in
    let same : document_from style (record d { levels = with_part lv h.level.opening (unclosed_tree h.level) ∷ lvs }) []
    ≡ document_from style (record d { levels = with_part lv s tree ∷ lvs }) [] =
    λ i. document_from style
    (record d { levels = with_part lv (h.opening refl i) (sym (trees h.level (h.opening refl) h.stands) i) ∷ lvs }) [] in
    ap (λ (ls : List Level). document_from style (record d { levels = ls }) old)
    (opened_levels style x o around kind first lv lvs old kinds is)
    ∙ h.same d (lv ∷ lvs) tt
    ∙ ap (λ (ss : List (List ℕ)). document_from style (record d { levels = h.level ∷ lv ∷ lvs }) ss) e
    ∙ unclosed_reads style d h.level lv lvs
    ∙ same
    ∙ ap (λ (ss : List (List ℕ)). document_from style (record d { levels = with_part lv s tree ∷ lvs }) ss) (sym none)

-- ---- levels that go on

-- lexemes, and then more
pub reads_then : (style : Style) (nested : Bool) (kind : Kind) (lv : Level) (old between next left : List (List ℕ)) (line made : Line)
    → lv.kind ≡ kind → ReadsOn style nested lv old between line → between ≡ next
    → ((later : Level) → later.kind ≡ kind → Stands later line → ReadsOn style nested later next left made)
    → ReadsOn style nested lv old left made
reads_then style nested kind lv old between next left line made kinds h e f = with_step (f h.level (h.kind ∙ kinds) h.stands)
  where
    with_step : ReadsOn style nested h.level next left made → ReadsOn style nested lv old left made
    with_step g = record {
      level = g.level;
      kind = g.kind ∙ h.kind;
      opening = λ n. g.opening n ∙ h.opening n;
      stands = g.stands;
      same = λ d lvs a. h.same d lvs a
          ∙ ap (λ (ss : List (List ℕ)). document_from style (record d { levels = h.level ∷ lvs }) ss) e ∙ g.same d lvs a;
    }

-- nothing was taken
pub reads_none : (style : Style) (nested : Bool) (lv : Level) (left : List (List ℕ)) (line : Line) → Stands lv line
    → ReadsOn style nested lv left left line
reads_none style nested lv left line h =
    record { level = lv; kind = refl; opening = λ n. refl; stands = h; same = λ d lvs a. refl }

comma_kind : (b : Bool) (lv : Level) → ((entry_with_comma b lv).kind ≡ lv.kind) × ((entry_with_comma b lv).opening ≡ lv.opening)
comma_kind true lv = (refl, refl)
comma_kind false lv = (refl, refl)

comma_same : (style : Style) (d : Draft) (lv : Level) (lvs : List Level) (left : List (List ℕ))
    → document_from style (record d { levels = lv ∷ lvs }) ((comma ∷ []) ∷ left)
    ≡ document_from style (record d { levels = level_with_comma lv ∷ lvs }) left
unfolding document_from
comma_same style d lv lvs left = refl

-- a comma was taken
pub comma_reads : (style : Style) (nested : Bool) (lv : Level) (s : List ℕ) (left : List (List ℕ)) (made : Line) → s ≡ comma ∷ []
    → Stands (level_with_comma lv) made → ReadsOn style nested lv (s ∷ left) left made
comma_reads style nested lv s left made e h =
    let kinds = comma_kind (lv.entry.comma || may_hold (part_end lv).last) lv in
    record {
      level = level_with_comma lv;
      kind = kinds.0;
      opening = λ n. kinds.1;
      stands = h;
      same = λ d lvs a. ap (λ (t : List ℕ). document_from style (record d { levels = lv ∷ lvs }) (t ∷ left)) e
          ∙ comma_same style d lv lvs left;
    }

line_end_same : (style : Style) (d : Draft) (lv outer : Level) (lvs : List Level) (left : List (List ℕ))
    → document_from style (record d { levels = lv ∷ outer ∷ lvs }) ((line_feed ∷ []) ∷ left)
    ≡ document_from style (record d { levels = with_line_end lv ∷ outer ∷ lvs }) left
unfolding document_from
line_end_same style d lv outer lvs left = refl

line_end_around : (style : Style) (d : Draft) (lv : Level) (lvs : List Level) (left : List (List ℕ)) → AreAround true lvs
    → document_from style (record d { levels = lv ∷ lvs }) ((line_feed ∷ []) ∷ left)
    ≡ document_from style (record d { levels = with_line_end lv ∷ lvs }) left
line_end_around style d lv [] left a = absurd a
line_end_around style d lv (outer ∷ lvs) left a = line_end_same style d lv outer lvs left

-- a line end in brackets was taken
pub line_end_reads : (style : Style) (lv : Level) (s : List ℕ) (left : List (List ℕ)) (made : Line) → s ≡ line_feed ∷ []
    → Stands (with_line_end lv) made → ReadsOn style true lv (s ∷ left) left made
line_end_reads style lv s left made e h = record {
  level = with_line_end lv;
  kind = refl;
  opening = λ n. refl;
  stands = h;
  same = λ d lvs a. ap (λ (t : List ℕ). document_from style (record d { levels = lv ∷ lvs }) (t ∷ left)) e
      ∙ line_end_around style d lv lvs left a;
}

comment_same : (style : Style) (d : Draft) (lv : Level) (lvs : List Level) (s : List ℕ) (left : List (List ℕ)) → head s ≡ hash
    → document_from style (record d { levels = lv ∷ lvs }) (s ∷ left)
    ≡ document_from style (record d { levels = with_comment lv s ∷ lvs }) left
unfolding document_from
comment_same style d lv lvs s left named =
    ap (λ (k : Sort). document_from style (draft_with style k (record d { levels = lv ∷ lvs }) s left) left) (sort_comment s named)

-- a comment was taken
pub comment_reads : (style : Style) (nested : Bool) (lv : Level) (s t : List ℕ) (left : List (List ℕ)) (made : Line) → s ≡ t
    → head t ≡ hash
    → Stands (with_comment lv t) made → ReadsOn style nested lv (s ∷ left) left made
comment_reads style nested lv s t left made e named h = record {
  level = with_comment lv t;
  kind = refl;
  opening = λ n. refl;
  stands = h;
  same = λ d lvs a. ap (λ (t : List ℕ). document_from style (record d { levels = lv ∷ lvs }) (t ∷ left)) e
      ∙ comment_same style d lv lvs t left named;
}

-- a part was taken
pub value_reads : (style : Style) (nested : Bool) (kind : Kind) (lv : Level) (x : Lexeme) (old left : List (List ℕ)) (tree : Tree)
    (made : Line)
    → HasTomlKind x → IsPart x → lv.kind ≡ kind → ReadsPart style kind false (toml_text_of x) old left tree
    → Stands (with_part lv (toml_text_of x) tree) made → ReadsOn style nested lv (toml_text_of x ∷ old) left made
value_reads style nested kind lv x old left tree made named part kinds read h = record {
  level = with_part lv (toml_text_of x) tree;
  kind = refl;
  opening = λ n. refl;
  stands = h;
  same = λ d lvs a. part_reads style x named part d lv lvs old ∙ read d lv lvs kinds;
}

-- ---- statements

-- what a statement begins with
pub begun_stands : (doc : RefDoc) (l : Last) (s : List ℕ) (tree : Tree) → ref_tree doc ≡ tree → l ≡ last_after_text s
    → Stands (with_part new_statement s tree) (begun doc l)
begun_stands doc l s tree e lasts = record {
  end = λ i. record { tree = e i; last = lasts i };
  comma = refl;
  commented = refl;
  comments = λ e. absurd (cc);
  broken = refl;
  blank = refl;
}

pub closing_last : (x : Lexeme) → is_closing x ≡ true → last.Close ≡ last_after_text (toml_text_of x)
closing_last lexeme.CloseArray c = refl
closing_last lexeme.CloseTable c = refl
closing_last lexeme.OpenArray c = absurd (cc)
closing_last lexeme.OpenTable c = absurd (cc)
closing_last lexeme.Comma c = absurd (cc)
closing_last lexeme.Equals c = absurd (cc)
closing_last lexeme.LineEnd c = absurd (cc)
closing_last (lexeme.Comment s) c = absurd (cc)
closing_last (lexeme.String s) c = absurd (cc)
closing_last (lexeme.Word s) c = absurd (cc)

-- a statement that begins with a bracket that closes nothing
pub closing_first : (style : Style) (x : Lexeme) → is_closing x ≡ true → (d : Draft) (left : List (List ℕ))
    → document_from style (record d { levels = [] }) (toml_text_of x ∷ left)
    ≡ document_from style (record d { levels = with_part new_statement (toml_text_of x) (counted.text (toml_text_of x)) ∷ [] }) left
unfolding document_from
closing_first style lexeme.CloseArray c d left = refl
closing_first style lexeme.CloseTable c d left = refl
closing_first style lexeme.OpenArray c d left = absurd (cc)
closing_first style lexeme.OpenTable c d left = absurd (cc)
closing_first style lexeme.Comma c d left = absurd (cc)
closing_first style lexeme.Equals c d left = absurd (cc)
closing_first style lexeme.LineEnd c d left = absurd (cc)
closing_first style (lexeme.Comment s) c d left = absurd (cc)
closing_first style (lexeme.String s) c d left = absurd (cc)
closing_first style (lexeme.Word s) c d left = absurd (cc)

-- with a comma
pub comma_first : (style : Style) (d : Draft) (left : List (List ℕ))
    → document_from style (record d { levels = [] }) ((comma ∷ []) ∷ left)
    ≡ document_from style (record d { levels = with_part new_statement (comma ∷ []) (counted.text (comma ∷ [])) ∷ [] }) left
unfolding document_from
comma_first style d left = refl

-- with a comment
pub comment_first_reads : (style : Style) (d : Draft) (s : List ℕ) (left : List (List ℕ)) → head s ≡ hash
    → document_from style (record d { levels = [] }) (s ∷ left)
    ≡ document_from style (record d { levels = with_part new_statement s (counted.text (trimmed s)) ∷ [] }) left
unfolding document_from
comment_first_reads style d s left named =
    ap (λ (k : Sort). document_from style (draft_with style k (record d { levels = [] }) s left) left) (sort_comment s named)

closing_same_levels : (style : Style) (x : Lexeme) → is_closing x ≡ true → (d : Draft) (lv : Level) (left : List (List ℕ))
    → document_from style (record d { levels = lv ∷ [] }) (toml_text_of x ∷ left)
    ≡ document_from style (record d {
      levels = with_part new_statement (toml_text_of x) (append (closed_end lv).tree (counted.text
          (toml_text_of x))) ∷ [];
    }) left
unfolding document_from
closing_same_levels style lexeme.CloseArray c d lv left = refl
closing_same_levels style lexeme.CloseTable c d lv left = refl
closing_same_levels style lexeme.OpenArray c d lv left = absurd (cc)
closing_same_levels style lexeme.OpenTable c d lv left = absurd (cc)
closing_same_levels style lexeme.Comma c d lv left = absurd (cc)
closing_same_levels style lexeme.Equals c d lv left = absurd (cc)
closing_same_levels style lexeme.LineEnd c d lv left = absurd (cc)
closing_same_levels style (lexeme.Comment s) c d lv left = absurd (cc)
closing_same_levels style (lexeme.String s) c d lv left = absurd (cc)
closing_same_levels style (lexeme.Word s) c d lv left = absurd (cc)

closing_around : (style : Style) (x : Lexeme) → is_closing x ≡ true
    → (d : Draft) (lv : Level) (lvs : List Level) (left : List (List ℕ)) → AreAround false lvs
    → document_from style (record d { levels = lv ∷ lvs }) (toml_text_of x ∷ left)
    ≡ document_from style (record d {
      levels = with_part new_statement (toml_text_of x) (append (closed_end lv).tree (counted.text
          (toml_text_of x))) ∷ lvs;
    }) left
closing_around style x c d lv [] left a = closing_same_levels style x c d lv left
closing_around style x c d lv (outer ∷ lvs) left a = absurd a

-- a bracket that closes nothing was taken
pub closing_reads : (style : Style) (lv : Level) (x : Lexeme) (left : List (List ℕ)) (made : Line) → is_closing x ≡ true
    → lv.kind ≡ Statement
    → Stands (with_part new_statement (toml_text_of x) (append (closed_end lv).tree (counted.text (toml_text_of x)))) made
    → ReadsOn style false lv (toml_text_of x ∷ left) left made
closing_reads style lv x left made c kinds h = record {
  level = with_part new_statement (toml_text_of x) (append (closed_end lv).tree (counted.text (toml_text_of x)));
  kind = sym kinds;
  opening = λ n. absurd (cc);
  stands = h;
  same = λ d lvs a. closing_around style x c d lv lvs left a;
}

-- the beginning of a statement, and more
pub first_then : (style : Style) (old between next left : List (List ℕ)) (line made : Line) → ReadsFirst style old between line
    → between ≡ next
    → ((later : Level) → later.kind ≡ Statement → Stands later line → ReadsOn style false later next left made)
    → ReadsFirst style old left made
first_then style old between next left line made h e f = with_step (f h.level h.kind h.stands)
  where
    with_step : ReadsOn style false h.level next left made → ReadsFirst style old left made
    with_step g = record {
      level = g.level;
      kind = g.kind ∙ h.kind;
      stands = g.stands;
      same = λ d. h.same d
          ∙ ap (λ (ss : List (List ℕ)). document_from style (record d { levels = h.level ∷ [] }) ss) e ∙ g.same d [] tt;
    }

statement_ends : (style : Style) (d : Draft) (lv : Level) (left : List (List ℕ))
    → document_from style (record d { levels = lv ∷ [] }) ((line_feed ∷ []) ∷ left)
    ≡ document_from style (draft_with_statement d (level_end lv).tree) left
unfolding document_from
statement_ends style d lv left = refl

text_ends : (style : Style) (d : Draft) (lv : Level)
    → document_from style (record d { levels = lv ∷ [] }) [] ≡ document_from style (draft_with_statement d (level_end lv).tree) []
unfolding document_from
text_ends style d lv = refl

-- the end of a statement, which is a line end or the end of the text
pub statement_reads : (style : Style) (old between left : List (List ℕ)) (line : Line) (tree : Tree) → ReadsFirst style old between line
    → ((between ≡ []) × (left ≡ [])) ⊎ (between ≡ (line_feed ∷ []) ∷ left) → (settled : Line)
    → line_end settled ≡ settled_end line
    → tree ≡ ref_tree settled.doc → ReadsStatement style old left tree
statement_reads style old between left line tree h ends settled is trees = λ d.
    h.same d ∙ ended d ends ∙ ap (λ (t : Tree). document_from style (draft_with_statement d t) left) (sym whole)
  where
    whole : tree ≡ (level_end h.level).tree
    whole = trees ∙ ap (λ (e : End). e.tree) (is ∙ settled_same h.level line h.stands)

    ended : (d : Draft) → ((between ≡ []) × (left ≡ [])) ⊎ (between ≡ (line_feed ∷ []) ∷ left)
        → document_from style (record d { levels = h.level ∷ [] }) between
        ≡ document_from style (draft_with_statement d (level_end h.level).tree) left
    ended d (inl p) =
        ap (λ (ss : List (List ℕ)). document_from style (record d { levels = h.level ∷ [] }) ss) p.0 ∙ text_ends style d h.level
        ∙ ap (λ (ss : List (List ℕ)). document_from style (draft_with_statement d (level_end h.level).tree) ss) (sym p.1)
    ended d (inr p) =
        ap (λ (ss : List (List ℕ)). document_from style (record d { levels = h.level ∷ [] }) ss) p
        ∙ statement_ends style d h.level left

-- ---- texts

-- a blank line, or a line end before the first statement
pub blank_reads : (style : Style) (d : Draft) (left : List (List ℕ))
    → document_from style (record d { levels = [] }) ((line_feed ∷ []) ∷ left)
    ≡ document_from style (record d { blank = d.some; levels = [] }) left
unfolding document_from
blank_reads style d left = refl

-- no lexeme is left
pub all_read : (style : Style) (d : Draft) → document_from style (record d { levels = [] }) [] ≡ d.done
unfolding document_from
all_read style d = refl
