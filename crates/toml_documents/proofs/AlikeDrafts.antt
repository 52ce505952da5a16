-- Documents that are laid alike in any modes, and drafts of them.
use Rattle.std.proofs.Common.{◌≡◌, refl, sym, ◌∙◌, ap, subst, ℕ, Bool, true, false, ◌&&◌, ◌||◌, List, [], ◌∷◌, ◌++◌}
use Rattle.std.specs.Prelude.{Option, Some, None}
use Rattle.prettyless_trees.specs.Built.{append}
use Rattle.prettyless_trees.specs.Counted as counted
use Rattle.prettyless_model.specs.Tree.{Tree, HardLine}
use Rattle.prettyless_model.specs.declared.mode.Mode.{Mode}
use Rattle.toml_lexemes.specs.Bytes as byte
use Rattle.toml_lexemes.specs.Statements.{trimmed}
use Rattle.toml_grammar.specs.Sorts as sort
use Rattle.toml_grammar.specs.Sorts.{Sort, sort_of}
use Rattle.toml_documents.specs.Documents.{Commented, Draft, End, Level, Part, after_comments, after_part, after_rest, broken_if}
use Rattle.toml_documents.specs.Documents.{closed_end, comma_kept, comments_tree, draft_with_statement, end_after_comma, ended_in}
use Rattle.toml_documents.specs.Documents.{ends_item, entry_with_comma, indent_in, is_array, is_some, level_end, level_with}
use Rattle.toml_documents.specs.Documents.{level_with_comma, levels_after, levels_closed, lexeme_tree, lines_with, list_tree, new_level}
use Rattle.toml_documents.specs.Documents.{new_statement, part_end, separated, trailed_end, unclosed_tree, with_comment, with_ended_line}
use Rattle.toml_documents.specs.Documents.{with_line_end, with_part}
use Rattle.toml_documents.specs.Gaps.{gap_before_close, gap_before_comma, gap_before_text, may_hold}
use Rattle.toml_documents.specs.Numbers.{opened_kind}
use Rattle.prettyless_laws.specs.Bits.{Bit}
use Rattle.prettyless_laws.proofs.Again.{Again, modes_after, spelled_in}
use Rattle.toml_documents.specs.declared.gaps.Gap.{Gap}
use Rattle.toml_documents.specs.declared.kind.Kind.{Kind}
use Rattle.toml_documents.specs.declared.kind.Kind.TheVariants.{Statement}
use Rattle.toml_documents.specs.declared.kind.Last.{Last}
use Rattle.toml_documents.specs.declared.style.Style.{Style}
use Rattle.toml_documents.proofs.TreesAgain.{after_gap, again_append, again_broken, again_same, again_separated, bracketed, optional_comma}
use Rattle.toml_documents.proofs.TreesAgain.{with_optional_comma}
use Rattle.toml_documents.proofs.ReadLists.{again_listed, closed_of, inner_mode, inner_modes}
use Rattle.toml_documents.proofs.ReadRows.{row}
use Rattle.toml_documents.proofs.ReadSteps.{IsLexeme}

-- ---- trees

-- in any modes, y is laid like x
abbrev pub Alike : Tree → Tree → Type 0
Alike x y = (m : Mode) (ms : List Mode) → (left : List Mode) × (bits : List Bit) × Again x y m ms left bits

pub alike_same : (x : Tree) → Alike x x
alike_same x m ms = (modes_after x m ms, spelled_in x m ms, again_same x m ms)

pub alike_append : (x y u v : Tree) → Alike x y → Alike u v → Alike (append x u) (append y v)
alike_append x y u v h k m ms =
    let a = h m ms in
    let b = k m a.0 in
    (b.0, a.1 ++ b.1, again_append x y u v m ms a.0 b.0 a.1 b.1 a.2 b.2)

pub alike_separated : (g : Gap) (x y u v : Tree) → Alike x y → Alike u v → Alike (separated g x u) (separated g y v)
alike_separated g x y u v h k m ms =
    let a = h m ms in
    let b = k m (after_gap g m a.0) in
    (b.0, _, again_separated g x y u v m ms a.0 b.0 a.1 b.1 a.2 b.2)

alike_broken : (b : Bool) (x y : Tree) → Alike x y → Alike (broken_if b x) (broken_if b y)
alike_broken b x y h m ms = let a = h m ms in (a.0, a.1, again_broken b x y m ms a.0 a.1 a.2)

alike_bracketed : (n : ℕ) (g : Gap) (s t : List ℕ) (x y : Tree) → IsLexeme s → IsLexeme t → Alike x y
    → Alike (bracketed n g s x t) (bracketed n g s y t)
alike_bracketed n g s t x y e f h m ms =
    let a = h (inner_mode m ms) (inner_modes m ms) in (_, _, again_listed n g s t x y m ms a.0 a.1 e f a.2)

-- ---- ends

pub record EndsAlike (e f : End) : Type 0 where
  pub last : f.last ≡ e.last
  pub tree : Alike e.tree f.tree

-- where they end with the same, which may be taken as it is
by_last : (e f : End) (P : End → Type 0) → f.last ≡ e.last → P (record { tree = f.tree; last = e.last }) → P f
by_last e f P h p = subst (λ (l : Last). P (record { tree = f.tree; last = l })) (sym h) p

comma_alike : (comma : Bool) (l : Last) (x y : Tree) → Alike x y
    → EndsAlike (end_after_comma comma (record { tree = x; last = l })) (end_after_comma comma (record { tree = y; last = l }))
comma_alike true l x y h = record {
  last = refl;
  tree =
      alike_separated (gap_before_comma l) x y (counted.text (byte.comma ∷ [])) (counted.text (byte.comma ∷ [])) h
      (alike_same (counted.text (byte.comma ∷ [])));
}
comma_alike false l x y h = record { last = refl; tree = h }

comments_alike : (some : Bool) (c : Tree) (e f : End) → EndsAlike e f → EndsAlike (after_comments some c e) (after_comments some c f)
comments_alike true c e f h = record { last = refl; tree = alike_append e.tree f.tree c c h.tree (alike_same c) }
comments_alike false c e f h = h

pub rest_alike : (kind : Kind) (part other : Option Part) (comma : Bool) (cs : List Commented) (e f : End) → EndsAlike e f
    → EndsAlike (after_rest kind (row part comma cs) e) (after_rest kind (row other comma cs) f)
rest_alike kind part other comma cs e f h =
    by_last e f (λ (u : End). EndsAlike (after_rest kind (row part comma cs) e) (after_rest kind (row other comma cs) u)) h.last
    (comments_alike (is_some cs) (comments_tree kind e.last cs) (end_after_comma comma e)
    (end_after_comma comma (record { tree = f.tree; last = e.last })) (comma_alike comma e.last e.tree f.tree h.tree))

part_alike : (kind : Kind) (e f : End) (blank : Bool) (s : List ℕ) (x y : Tree) → EndsAlike e f → Alike x y
    → EndsAlike (after_part kind e (Some (record { blank = blank; first = s; tree = x })))
    (after_part kind f (Some (record { blank = blank; first = s; tree = y })))
part_alike kind e f blank s x y h k =
    by_last e f
    (λ (u : End).
    EndsAlike (after_part kind e (Some (record { blank = blank; first = s; tree = x })))
    (after_part kind u (Some (record { blank = blank; first = s; tree = y }))))
    h.last (record { last = refl; tree = alike_separated (gap_before_text kind e.last s blank) e.tree f.tree x y h.tree k })

trailed_alike : (b comma : Bool) (e f : End) → EndsAlike e f → EndsAlike (trailed_end b comma e) (trailed_end b comma f)
trailed_alike false comma e f h = h
trailed_alike true comma e f h = record {
  last = h.last;
  tree =
      alike_broken comma (with_optional_comma e.tree) (with_optional_comma f.tree)
      (alike_append e.tree f.tree optional_comma optional_comma h.tree (alike_same optional_comma));
}

closed_at : (kind : Kind) (comma : Bool) (cs : List Commented) (e f : End) → EndsAlike e f
    → (kept : Bool) → EndsAlike
    (trailed_end (is_array kind && ends_item (after_rest kind (row None kept cs) e).last) comma (after_rest kind (row None kept cs) e))
    (trailed_end (is_array kind && ends_item (after_rest kind (row None kept cs) f).last) comma (after_rest kind (row None kept cs) f))
closed_at kind comma cs e f h kept =
    let x = after_rest kind (row None kept cs) e in
    let y = after_rest kind (row None kept cs) f in
    let both = rest_alike kind None None kept cs e f h in
    by_last x y
    (λ (u : End). EndsAlike (trailed_end (is_array kind && ends_item x.last) comma x)
    (trailed_end (is_array kind && ends_item u.last) comma u))
    both.last (trailed_alike (is_array kind && ends_item x.last) comma x (record { tree = y.tree; last = x.last })
    (record { last = refl; tree = both.tree }))

closed_alike : (kind : Kind) (comma : Bool) (cs : List Commented) (e f : End) → EndsAlike e f
    → EndsAlike (closed_of kind comma cs e) (closed_of kind comma cs f)
closed_alike kind comma cs e f h =
    subst
    (λ (l : Last).
    EndsAlike (closed_of kind comma cs e)
    (trailed_end (is_array kind && ends_item (after_rest kind (row None (comma_kept kind l comma (is_some cs)) cs) f).last) comma
    (after_rest kind (row None (comma_kept kind l comma (is_some cs)) cs) f)))
    (sym h.last) (closed_at kind comma cs e f h (comma_kept kind e.last comma (is_some cs)))

-- ---- levels

-- a level with other entries before its comma and its comments
abbrev pub twin : Level → End → Option Part → Level
twin lv before part = record lv { before = before; entry = record lv.entry { part = part } }

-- levels that are laid alike
pub record IsTwin (lv other : Level) : Type 0 where
  pub before : End
  pub part : Option Part
  pub same : other ≡ twin lv before part
  pub ends : EndsAlike (part_end lv) (after_part lv.kind before part)

pub twin_same : (lv : Level) → IsTwin lv lv
twin_same lv =
    record { before = lv.before; part = lv.entry.part; same = refl; ends = record { last = refl; tree = alike_same (part_end lv).tree } }

-- where another level is a twin, it may be taken as one
pub by_twin : (lv other : Level) (P : Level → Type 0) (h : IsTwin lv other) → P (twin lv h.before h.part) → P other
by_twin lv other P h p = subst P (sym h.same) p

pub level_alike : (lv other : Level) → IsTwin lv other → EndsAlike (level_end lv) (level_end other)
level_alike lv other h =
    by_twin lv other (λ (o : Level). EndsAlike (level_end lv) (level_end o)) h
    (rest_alike lv.kind lv.entry.part h.part lv.entry.comma lv.entry.comments (part_end lv) (after_part lv.kind h.before h.part) h.ends)

pub twin_part : (lv other : Level) (s : List ℕ) (x y : Tree) → IsTwin lv other → Alike x y → IsTwin (with_part lv s x) (with_part other s y)
twin_part lv other s x y h k =
    let t = twin lv h.before h.part in
    by_twin lv other (λ (o : Level). IsTwin (with_part lv s x) (with_part o s y)) h
    (record {
      before = level_end t;
      part = Some (record { blank = lv.blank; first = s; tree = y });
      same = refl;
      ends =
          part_alike lv.kind (level_end lv) (level_end t) lv.blank s x y
          (rest_alike lv.kind lv.entry.part h.part lv.entry.comma lv.entry.comments (part_end lv)
          (after_part lv.kind h.before h.part) h.ends) k;
    })

entry_comma : (b : Bool) (lv : Level) (before : End) (part : Option Part) → EndsAlike (part_end lv) (after_part lv.kind before part)
    → IsTwin (entry_with_comma b lv) (entry_with_comma b (twin lv before part))
entry_comma true lv before part h = record {
  before = level_end (twin lv before part);
  part = None;
  same = refl;
  ends = rest_alike lv.kind lv.entry.part part lv.entry.comma lv.entry.comments (part_end lv) (after_part lv.kind before part) h;
}
entry_comma false lv before part h = record { before = before; part = part; same = refl; ends = h }

twin_comma : (lv other : Level) → IsTwin lv other → IsTwin (level_with_comma lv) (level_with_comma other)
twin_comma lv other h =
    by_twin lv other (λ (o : Level). IsTwin (level_with_comma lv) (level_with_comma o)) h
    (subst
    (λ (l : Last). IsTwin (level_with_comma lv) (entry_with_comma (lv.entry.comma || may_hold l) (twin lv h.before h.part)))
    (sym h.ends.last) (entry_comma (lv.entry.comma || may_hold (part_end lv).last) lv h.before h.part h.ends))

twin_comment : (lv other : Level) (s : List ℕ) → IsTwin lv other → IsTwin (with_comment lv s) (with_comment other s)
twin_comment lv other s h =
    by_twin lv other (λ (o : Level). IsTwin (with_comment lv s) (with_comment o s)) h
    (record { before = h.before; part = h.part; same = refl; ends = h.ends })

twin_line : (lv other : Level) → IsTwin lv other → IsTwin (with_line_end lv) (with_line_end other)
twin_line lv other h =
    by_twin lv other (λ (o : Level). IsTwin (with_line_end lv) (with_line_end o)) h
    (record { before = h.before; part = h.part; same = refl; ends = h.ends })

list_alike : (style : Style) (lv other : Level) (s : List ℕ) → IsLexeme lv.opening → IsLexeme s → IsTwin lv other
    → Alike (list_tree style lv s) (list_tree style other s)
list_alike style lv other s e f h =
    by_twin lv other (λ (o : Level). Alike (list_tree style lv s) (list_tree style o s)) h
    (let x = closed_end lv in
    let y = closed_of lv.kind lv.entry.comma lv.entry.comments (after_part lv.kind h.before h.part) in
    let both = closed_alike lv.kind lv.entry.comma lv.entry.comments (part_end lv) (after_part lv.kind h.before h.part) h.ends in
    subst
    (λ (l : Last).
    Alike (list_tree style lv s) (bracketed (indent_in style lv.kind) (gap_before_close lv.kind l) lv.opening y.tree s))
    (sym both.last)
    (alike_bracketed (indent_in style lv.kind) (gap_before_close lv.kind x.last) lv.opening s x.tree y.tree e f both.tree))

pub same_opening : (lv other : Level) → IsTwin lv other → other.opening ≡ lv.opening
same_opening lv other h = ap (λ (o : Level). o.opening) h.same

pub same_kind : (lv other : Level) → IsTwin lv other → other.kind ≡ lv.kind
same_kind lv other h = ap (λ (o : Level). o.kind) h.same

unclosed_alike : (lv other : Level) → IsTwin lv other → Alike (unclosed_tree lv) (unclosed_tree other)
unclosed_alike lv other h =
    subst (λ (o : List ℕ). Alike (unclosed_tree lv) (append (counted.text o) (level_end other).tree)) (sym (same_opening lv other h))
    (alike_append (counted.text lv.opening) (counted.text lv.opening) (level_end lv).tree (level_end other).tree
    (alike_same (counted.text lv.opening)) (level_alike lv other h).tree)

-- ---- levels in one another

abbrev pub AreTwins : List Level → List Level → Type 0
AreTwins [] [] = Unit {0}
AreTwins [] (other ∷ others) = ⊥
AreTwins (lv ∷ lvs) [] = ⊥
AreTwins (lv ∷ lvs) (other ∷ others) = IsTwin lv other × AreTwins lvs others

-- each level in brackets was opened by a lexeme
abbrev pub AreBrackets : List Level → Type 0
AreBrackets [] = Unit {0}
AreBrackets (lv ∷ []) = Unit {0}
AreBrackets (lv ∷ outer ∷ lvs) = IsLexeme lv.opening × AreBrackets (outer ∷ lvs)

-- what a bracket opens in front of these lexemes and of those
abbrev pub OpensSame : Sort → List (List ℕ) → List (List ℕ) → List Level → Type 0
OpensSame sort.open_array rest more [] = opened_kind Statement true sort.open_array rest ≡ opened_kind Statement true sort.open_array more
OpensSame sort.open_array rest more (lv ∷ lvs) =
    opened_kind lv.kind false sort.open_array rest ≡ opened_kind lv.kind false sort.open_array more
OpensSame k rest more levels = Unit {0}

module _ (style : Style) (s : List ℕ) (rest more : List (List ℕ)) where
  twins_closed : (lv other : Level) (lvs others : List Level) → IsLexeme s → AreBrackets (lv ∷ lvs) → IsTwin lv other → AreTwins lvs others
      → AreTwins (levels_closed style lv lvs s) (levels_closed style other others s)
  twins_closed lv other [] [] alone are h t = (
    twin_part new_statement new_statement s (append (closed_end lv).tree (counted.text s)) (append (closed_end other).tree (counted.text s))
        (twin_same new_statement)
        (alike_append (closed_end lv).tree (closed_end other).tree (counted.text s) (counted.text s)
        (by_twin lv other (λ (o : Level). Alike (closed_end lv).tree (closed_end o).tree) h
        (closed_alike lv.kind lv.entry.comma lv.entry.comments (part_end lv) (after_part lv.kind h.before h.part) h.ends).tree)
        (alike_same (counted.text s))),
    tt,
  )
  twins_closed lv other [] (o ∷ os) alone are h t = absurd t
  twins_closed lv other (outer ∷ lvs) [] alone are h t = absurd t
  twins_closed lv other (outer ∷ lvs) (o ∷ os) alone are h t = (
    subst (λ (u : List ℕ). IsTwin (with_part outer lv.opening (list_tree style lv s)) (with_part o u (list_tree style other s)))
        (sym (same_opening lv other h))
        (twin_part outer o lv.opening (list_tree style lv s) (list_tree style other s) t.0 (list_alike style lv other s are.0 alone h)),
    t.1,
  )

  twins_opened : (a b : Kind) (lv other : Level) (lvs others : List Level) → a ≡ b → IsTwin lv other → AreTwins lvs others
      → AreTwins (new_level a s ∷ lv ∷ lvs) (new_level b s ∷ other ∷ others)
  twins_opened a b lv other lvs others e h t =
      (subst (λ (k : Kind). IsTwin (new_level a s) (new_level k s)) e (twin_same (new_level a s)), (h, t))

  array_opened : (lv other : Level) (lvs others : List Level) → OpensSame sort.open_array rest more (lv ∷ lvs) → IsTwin lv other
      → AreTwins lvs others
      → AreTwins (levels_after style sort.open_array (lv ∷ lvs) s rest) (levels_after style sort.open_array (other ∷ others) s more)
  array_opened lv other lvs others e h t =
      twins_opened (opened_kind lv.kind false sort.open_array rest) (opened_kind other.kind false sort.open_array more) lv other lvs others
      (e ∙ ap (λ (k : Kind). opened_kind k false sort.open_array more) (sym (same_kind lv other h))) h t

  table_kind : (kind : Kind) (first : Bool) (ss ts : List (List ℕ))
      → opened_kind kind first sort.open_table ss ≡ opened_kind kind first sort.open_table ts
  table_kind kind first ss ts = refl

  table_opened : (lv other : Level) (lvs others : List Level) → IsTwin lv other → AreTwins lvs others
      → AreTwins (levels_after style sort.open_table (lv ∷ lvs) s rest) (levels_after style sort.open_table (other ∷ others) s more)
  table_opened lv other lvs others h t =
      twins_opened (opened_kind lv.kind false sort.open_table rest) (opened_kind other.kind false sort.open_table more) lv other lvs others
      (ap (λ (k : Kind). opened_kind k false sort.open_table more) (sym (same_kind lv other h))) h t

  -- one lexeme that is no line end
  twins_with : (k : Sort) (lv other : Level) (lvs others : List Level) → OpensSame k rest more (lv ∷ lvs) → IsLexeme s
      → AreBrackets (lv ∷ lvs) → IsTwin lv other → AreTwins lvs others
      → AreTwins (levels_after style k (lv ∷ lvs) s rest) (levels_after style k (other ∷ others) s more)
  twins_with sort.open_array lv other lvs others e alone are h t = array_opened lv other lvs others e h t
  twins_with sort.open_table lv other lvs others e alone are h t = table_opened lv other lvs others h t
  twins_with sort.close_array lv other lvs others e alone are h t = twins_closed lv other lvs others alone are h t
  twins_with sort.close_table lv other lvs others e alone are h t = twins_closed lv other lvs others alone are h t
  twins_with sort.comma lv other lvs others e alone are h t = (twin_comma lv other h, t)
  twins_with sort.comment lv other lvs others e alone are h t = (twin_comment lv other s h, t)
  twins_with k lv other lvs others e alone are h t =
      (twin_part lv other s (lexeme_tree s) (lexeme_tree s) h (alike_same (lexeme_tree s)), t)

  statement_same : (tree : Tree) → AreTwins (with_part new_statement s tree ∷ []) (with_part new_statement s tree ∷ [])
  statement_same tree = (twin_same (with_part new_statement s tree), tt)

  twins_first : (k : Sort) → OpensSame k rest more [] → AreTwins (levels_after style k [] s rest) (levels_after style k [] s more)
  twins_first sort.open_array e =
      twins_opened (opened_kind Statement true sort.open_array rest)
      (opened_kind Statement true sort.open_array more) new_statement new_statement
      [] [] e (twin_same new_statement) tt
  twins_first sort.open_table e =
      twins_opened (opened_kind Statement true sort.open_table rest)
      (opened_kind Statement true sort.open_table more) new_statement new_statement
      [] [] refl (twin_same new_statement) tt
  twins_first sort.comment e = statement_same (counted.text (trimmed s))
  twins_first sort.comma e = statement_same (counted.text s)
  twins_first sort.close_array e = statement_same (counted.text s)
  twins_first sort.close_table e = statement_same (counted.text s)
  twins_first k e = statement_same (lexeme_tree s)

  pub twins_after : (k : Sort) (levels others : List Level) → OpensSame k rest more levels → IsLexeme s → AreBrackets levels
      → AreTwins levels others → AreTwins (levels_after style k levels s rest) (levels_after style k others s more)
  twins_after k [] [] e alone are t = twins_first k e
  twins_after k [] (o ∷ os) e alone are t = absurd t
  twins_after k (lv ∷ lvs) [] e alone are t = absurd t
  twins_after k (lv ∷ lvs) (o ∷ os) e alone are t = twins_with k lv o lvs os e alone are t.0 t.1

-- ---- drafts

pub record DraftsAlike (d e : Draft) : Type 0 where
  pub done : Alike d.done e.done
  pub some : e.some ≡ d.some
  pub blank : e.blank ≡ d.blank
  pub levels : AreTwins d.levels e.levels

lines_alike : (blank : Bool) (x y u v : Tree) → Alike x y → Alike u v → Alike (lines_with blank x u) (lines_with blank y v)
lines_alike false x y u v h k =
    alike_append x y (append u HardLine) (append v HardLine) h (alike_append u v HardLine HardLine k (alike_same HardLine))
lines_alike true x y u v h k =
    alike_append (append x HardLine) (append y HardLine) (append u HardLine) (append v HardLine)
    (alike_append x y HardLine HardLine h (alike_same HardLine)) (alike_append u v HardLine HardLine k (alike_same HardLine))

pub statement_alike : (d e : Draft) (x y : Tree) → Alike d.done e.done → e.blank ≡ d.blank → Alike x y
    → DraftsAlike (draft_with_statement d x) (draft_with_statement e y)
statement_alike d e x y h b k = record {
  done = subst (λ (c : Bool). Alike (lines_with d.blank d.done x) (lines_with c e.done y)) (sym b)
      (lines_alike d.blank d.done e.done x y h k);
  some = refl;
  blank = refl;
  levels = tt;
}

pub ended_alike : (d e : Draft) (levels others : List Level) → Alike d.done e.done → e.some ≡ d.some → e.blank ≡ d.blank
    → AreTwins levels others → DraftsAlike (with_ended_line d levels) (with_ended_line e others)
ended_alike d e [] [] h s b t = record { done = h; some = s; blank = s; levels = tt }
ended_alike d e [] (o ∷ os) h s b t = absurd t
ended_alike d e (lv ∷ lvs) [] h s b t = absurd t
ended_alike d e (lv ∷ []) (o ∷ []) h s b t = statement_alike d e (level_end lv).tree (level_end o).tree h b (level_alike lv o t.0).tree
ended_alike d e (lv ∷ []) (o ∷ p ∷ os) h s b t = absurd t.1
ended_alike d e (lv ∷ outer ∷ lvs) (o ∷ []) h s b t = absurd t.1
ended_alike d e (lv ∷ outer ∷ lvs) (o ∷ p ∷ os) h s b t = record { done = h; some = s; blank = b; levels = (twin_line lv o t.0, t.1) }

closed_up : (lv other : Level) (lvs others : List Level) → IsTwin lv other → AreTwins lvs others
    → IsTwin (level_with lv lvs) (level_with other others)
closed_up lv other [] [] h t = h
closed_up lv other [] (o ∷ os) h t = absurd t
closed_up lv other (outer ∷ lvs) [] h t = absurd t
closed_up lv other (outer ∷ lvs) (o ∷ os) h t =
    closed_up (with_part outer lv.opening (unclosed_tree lv)) (with_part o other.opening (unclosed_tree other)) lvs os
    (subst (λ (u : List ℕ). IsTwin (with_part outer lv.opening (unclosed_tree lv)) (with_part o u (unclosed_tree other)))
    (sym (same_opening lv other h))
    (twin_part outer o lv.opening (unclosed_tree lv) (unclosed_tree other) t.0 (unclosed_alike lv other h))) t.1

pub text_end_alike : (d e : Draft) (levels others : List Level) → Alike d.done e.done → e.blank ≡ d.blank → AreTwins levels others
    → Alike (ended_in d levels) (ended_in e others)
text_end_alike d e [] [] h b t = h
text_end_alike d e [] (o ∷ os) h b t = absurd t
text_end_alike d e (lv ∷ lvs) [] h b t = absurd t
text_end_alike d e (lv ∷ lvs) (o ∷ os) h b t =
    (statement_alike d e (level_end (level_with lv lvs)).tree (level_end (level_with o os)).tree h b
    (level_alike (level_with lv lvs) (level_with o os) (closed_up lv o lvs os t.0 t.1)).tree).done
