-- The document of a text has nothing weak and nothing that is put off, so its layout is spelled out.
use Rattle.std.proofs.Common.{ℕ, zero, suc, ℤ, pos, Bool, true, false, List, [], ◌∷◌, refl}
use Rattle.std.specs.Prelude.{Option, Some, None, if◌then◌else◌}
use Rattle.std.specs.List.{list_any}
use Rattle.prettyless_trees.specs.Built.{append, append_to, group, nest, nest_by}
use Rattle.prettyless_trees.specs.Counted as counted
use Rattle.prettyless_model.specs.Tree.{Tree, Nil, Text, TextWithLen, HardLine, ExpandParent, BreakOrFlat, Append, Group, Indented}
use Rattle.prettyless_model.specs.Metrics.{is_ascii}
use Rattle.prettyless_laws.specs.TotalTrees.{IsTotal}
use Rattle.prettyless_laws.proofs.TotalTrees.{total_layout}
use Rattle.toml_lexemes.specs.Bytes as byte
use Rattle.toml_lexemes.specs.Lexemes.{toml_lexemes_of}
use Rattle.toml_lexemes.specs.Statements.{trimmed}
use Rattle.toml_grammar.specs.Sorts as sort
use Rattle.toml_grammar.specs.Sorts.{Sort, sort_of}
use Rattle.toml_documents.specs.Documents.{Part, Commented, RowEntry, End, Level, Draft, after_comments, after_part, after_rest, broken_if}
use Rattle.toml_documents.specs.Documents.{closed_end, comma_kept, comments_tree, document_from, draft_with, draft_with_statement}
use Rattle.toml_documents.specs.Documents.{end_after_comma, ended_in, entry_with_comma, first_levels, indent_in, is_line_feed_byte, is_some}
use Rattle.toml_documents.specs.Documents.{level_end, level_with, levels_after, levels_closed, levels_with, lexeme_tree, lines_with}
use Rattle.toml_documents.specs.Documents.{list_tree, new_level, new_statement, no_draft, part_end, separated, toml_document, trailed_end}
use Rattle.toml_documents.specs.Documents.{unclosed_tree, with_ended_line, with_part}
use Rattle.toml_documents.specs.Laid.{toml_options}
use Rattle.toml_documents.specs.Gaps.{gap_before_close, gap_before_comma, gap_before_comment, gap_before_text}
use Rattle.prettyless_laws.specs.Bits.{IsExact}
use Rattle.toml_documents.specs.Spellings.{LayoutsAreSpelledOut}
use Rattle.prettyless_model.specs.declared.mode.Mode.TheVariants.{Break}
use Rattle.toml_lexemes.proofs.Gaps.{lexemes_alone}
use Rattle.toml_documents.proofs.SaidDocuments.{are_commas, says_document}
use Rattle.prettyless_laws.proofs.Spellings.{layouts_are_spellings}
use Rattle.toml_documents.specs.declared.gaps.Gap.{Gap}
use Rattle.toml_documents.specs.declared.gaps.Gap.TheVariants as gap
use Rattle.toml_documents.specs.declared.kind.Kind.{Kind}
use Rattle.toml_documents.specs.declared.kind.Last.{Last}
use Rattle.toml_documents.specs.declared.style.Style.{Style}

-- ---- trees

exact_append_to : (x y : Tree) → IsExact x → IsExact y → IsExact (append_to x y)
exact_append_to x Nil h k = h
exact_append_to x y h k = (h, k)

exact_append : (x y : Tree) → IsExact x → IsExact y → IsExact (append x y)
exact_append Nil y h k = k
exact_append x y h k = exact_append_to x y h k

exact_nest_by : (k : ℤ) (x : Tree) → IsExact x → IsExact (nest_by k x)
exact_nest_by k Nil h = tt
exact_nest_by k x h = h

exact_nest : (n : ℕ) (x : Tree) → IsExact x → IsExact (nest (pos n) x)
exact_nest zero x h = h
exact_nest (suc n) x h = exact_nest_by (pos (suc n)) x h

exact_group : (x : Tree) → IsExact x → IsExact (group x)
exact_group Nil h = tt
exact_group (Text s) h = tt
exact_group (TextWithLen w s) h = tt
exact_group (Group x) h = h
exact_group x h = h

exact_string : (b : Bool) (w : ℕ) (s : List ℕ) → IsExact (if b then Text s else TextWithLen w s)
exact_string true w s = tt
exact_string false w s = tt

exact_text : (s : List ℕ) → IsExact (counted.text s)
exact_text [] = tt
exact_text (x ∷ s) = exact_string (is_ascii (x ∷ s)) _ (x ∷ s)

exact_broken : (b : Bool) (x : Tree) → IsExact x → IsExact (broken_if b x)
exact_broken true x h = exact_append x ExpandParent h tt
exact_broken false x h = h

exact_separated : (g : Gap) (x y : Tree) → IsExact x → IsExact y → IsExact (separated g x y)
exact_separated gap.Nothing x y h k = exact_append x y h k
exact_separated gap.Space x y h k = exact_append (append x _) y (exact_append x _ h tt) k
exact_separated gap.Beside x y h k = exact_append (append x _) y (exact_append x _ h tt) k
exact_separated gap.Edge x y h k = exact_append (append x _) y (exact_append x _ h (tt, tt)) k
exact_separated gap.Line x y h k = exact_append (append x _) y (exact_append x _ h (tt, tt)) k
exact_separated gap.Fill x y h k = exact_append (append x _) y (exact_append x _ h (tt, tt)) k
exact_separated gap.BlankLine x y h k =
    exact_append (append (append x _) _) y (exact_append (append x _) _ (exact_append x _ h (tt, tt)) (tt, tt)) k
exact_separated gap.Break x y h k = exact_append (append x _) y (exact_append x _ h tt) k
exact_separated gap.BlankBreak x y h k =
    exact_append (append (append x _) _) y (exact_append (append x _) _ (exact_append x _ h tt) tt) k

-- ---- entries

abbrev IsExactPart : Option Part → Type 0
IsExactPart None = Unit {0}
IsExactPart (Some p) = IsExact p.tree

exact_after_part : (kind : Kind) (e : End) (p : Option Part) → IsExact e.tree → IsExactPart p → IsExact (after_part kind e p).tree
exact_after_part kind e None h k = h
exact_after_part kind e (Some p) h k = exact_separated (gap_before_text kind e.last p.first p.blank) e.tree p.tree h k

exact_comma : (comma : Bool) (e : End) → IsExact e.tree → IsExact (end_after_comma comma e).tree
exact_comma true e h = exact_separated (gap_before_comma e.last) e.tree (counted.text (byte.comma ∷ [])) h (exact_text (byte.comma ∷ []))
exact_comma false e h = h

exact_comments : (kind : Kind) (l : Last) (rs : List Commented) → IsExact (comments_tree kind l rs)
exact_comments kind l [] = tt
exact_comments kind l (r ∷ rs) =
    exact_separated (gap_before_comment kind l (is_some rs) r.broken r.blank) (comments_tree kind l rs) _ (exact_comments kind l rs) tt

exact_after_comments : (some : Bool) (c : Tree) (e : End) → IsExact c → IsExact e.tree → IsExact (after_comments some c e).tree
exact_after_comments true c e h k = exact_append e.tree c k h
exact_after_comments false c e h k = k

exact_rest : (kind : Kind) (entry : RowEntry) (e : End) → IsExact e.tree → IsExact (after_rest kind entry e).tree
exact_rest kind entry e h =
    exact_after_comments (is_some entry.comments) (comments_tree kind e.last entry.comments) (end_after_comma entry.comma e)
    (exact_comments kind e.last entry.comments) (exact_comma entry.comma e h)

-- ---- levels

pub record IsExactLevel (lv : Level) : Type 0 where
  pub before : IsExact lv.before.tree
  pub part : IsExactPart lv.entry.part

exact_part_end : (lv : Level) → IsExactLevel lv → IsExact (part_end lv).tree
exact_part_end lv h = exact_after_part lv.kind lv.before lv.entry.part h.before h.part

exact_level : (lv : Level) → IsExactLevel lv → IsExact (level_end lv).tree
exact_level lv h = exact_rest lv.kind lv.entry (part_end lv) (exact_part_end lv h)

exact_new : (kind : Kind) (opening : List ℕ) → IsExactLevel (new_level kind opening)
exact_new kind opening = record { before = tt; part = tt }

exact_part : (lv : Level) (s : List ℕ) (tree : Tree) → IsExactLevel lv → IsExact tree → IsExactLevel (with_part lv s tree)
exact_part lv s tree h k = record { before = exact_level lv h; part = k }

exact_entry_comma : (more : Bool) (lv : Level) → IsExactLevel lv → IsExactLevel (entry_with_comma more lv)
exact_entry_comma true lv h = record { before = exact_level lv h; part = tt }
exact_entry_comma false lv h = record { before = h.before; part = h.part }

exact_trailed : (more comma : Bool) (e : End) → IsExact e.tree → IsExact (trailed_end more comma e).tree
exact_trailed false comma e h = h
exact_trailed true comma e h =
    exact_broken comma (append e.tree (BreakOrFlat (counted.text (byte.comma ∷ [])) Nil))
    (exact_append e.tree (BreakOrFlat (counted.text (byte.comma ∷ [])) Nil) h (exact_text (byte.comma ∷ []), tt))

exact_closed : (lv : Level) → IsExactLevel lv → IsExact (closed_end lv).tree
exact_closed lv h =
    let comma = comma_kept lv.kind (part_end lv).last lv.entry.comma (is_some lv.entry.comments) in
    let entry = record lv.entry { comma = comma } in
    let e = after_rest lv.kind entry (part_end lv) in
    exact_trailed (_) lv.entry.comma e (exact_rest lv.kind entry (part_end lv) (exact_part_end lv h))

exact_list : (style : Style) (lv : Level) (close : List ℕ) → IsExactLevel lv → IsExact (list_tree style lv close)
exact_list style lv close h =
    let e = closed_end lv in
    let inside = append (counted.text lv.opening) e.tree in
    let indented = nest (pos (indent_in style lv.kind)) inside in
    exact_group (separated (gap_before_close lv.kind e.last) indented (counted.text close))
    (exact_separated (gap_before_close lv.kind e.last) indented (counted.text close)
    (exact_nest (indent_in style lv.kind) inside
    (exact_append (counted.text lv.opening) e.tree (exact_text lv.opening) (exact_closed lv h))) (exact_text close))

exact_unclosed : (lv : Level) → IsExactLevel lv → IsExact (unclosed_tree lv)
exact_unclosed lv h = exact_append (counted.text lv.opening) (level_end lv).tree (exact_text lv.opening) (exact_level lv h)

-- ---- statements

abbrev AreExact : List Level → Type 0
AreExact [] = Unit {0}
AreExact (lv ∷ lvs) = IsExactLevel lv × AreExact lvs

exact_statement : (s : List ℕ) (tree : Tree) → IsExact tree → AreExact (with_part new_statement s tree ∷ [])
exact_statement s tree h = (exact_part new_statement s tree (exact_new _ []) h, tt)

exact_levels_closed : (style : Style) (lv : Level) (lvs : List Level) (s : List ℕ) → IsExactLevel lv → AreExact lvs
    → AreExact (levels_closed style lv lvs s)
exact_levels_closed style lv [] s h k =
    exact_statement s (append (closed_end lv).tree (counted.text s))
    (exact_append (closed_end lv).tree (counted.text s) (exact_closed lv h) (exact_text s))
exact_levels_closed style lv (outer ∷ lvs) s h k =
    (exact_part outer lv.opening (list_tree style lv s) k.0 (exact_list style lv s h), k.1)

exact_lexeme : (s : List ℕ) → IsExact (lexeme_tree s)
exact_lexeme s = exact_broken (list_any is_line_feed_byte s) (counted.text s) (exact_text s)

exact_levels : (style : Style) (k : Sort) (first : Bool) (lv : Level) (lvs : List Level) (s : List ℕ) (ss : List (List ℕ))
    → IsExactLevel lv → AreExact lvs → AreExact (levels_with style k first lv lvs s ss)
exact_levels style sort.open_array first lv lvs s ss h k = (exact_new _ s, (h, k))
exact_levels style sort.open_table first lv lvs s ss h k = (exact_new _ s, (h, k))
exact_levels style sort.close_array first lv lvs s ss h k = exact_levels_closed style lv lvs s h k
exact_levels style sort.close_table first lv lvs s ss h k = exact_levels_closed style lv lvs s h k
exact_levels style sort.comma first lv lvs s ss h k = (exact_entry_comma _ lv h, k)
exact_levels style sort.comment first lv lvs s ss h k = (record { before = h.before; part = h.part }, k)
exact_levels style sort.equals first lv lvs s ss h k = (exact_part lv s (lexeme_tree s) h (exact_lexeme s), k)
exact_levels style sort.line_end first lv lvs s ss h k = (exact_part lv s (lexeme_tree s) h (exact_lexeme s), k)
exact_levels style sort.string first lv lvs s ss h k = (exact_part lv s (lexeme_tree s) h (exact_lexeme s), k)
exact_levels style sort.word first lv lvs s ss h k = (exact_part lv s (lexeme_tree s) h (exact_lexeme s), k)
exact_levels style sort.text_end first lv lvs s ss h k = (exact_part lv s (lexeme_tree s) h (exact_lexeme s), k)

exact_first : (style : Style) (k : Sort) (s : List ℕ) (ss : List (List ℕ)) → AreExact (first_levels style k s ss)
exact_first style sort.close_array s ss = exact_statement s (counted.text s) (exact_text s)
exact_first style sort.close_table s ss = exact_statement s (counted.text s) (exact_text s)
exact_first style sort.comma s ss = exact_statement s (counted.text s) (exact_text s)
exact_first style sort.comment s ss = exact_statement s (counted.text (trimmed s)) (exact_text (trimmed s))
exact_first style sort.open_array s ss = exact_levels style sort.open_array true new_statement [] s ss (exact_new _ []) tt
exact_first style sort.open_table s ss = exact_levels style sort.open_table true new_statement [] s ss (exact_new _ []) tt
exact_first style sort.equals s ss = exact_levels style sort.equals true new_statement [] s ss (exact_new _ []) tt
exact_first style sort.line_end s ss = exact_levels style sort.line_end true new_statement [] s ss (exact_new _ []) tt
exact_first style sort.string s ss = exact_levels style sort.string true new_statement [] s ss (exact_new _ []) tt
exact_first style sort.word s ss = exact_levels style sort.word true new_statement [] s ss (exact_new _ []) tt
exact_first style sort.text_end s ss = exact_levels style sort.text_end true new_statement [] s ss (exact_new _ []) tt

exact_after : (style : Style) (k : Sort) (lvs : List Level) (s : List ℕ) (ss : List (List ℕ)) → AreExact lvs
    → AreExact (levels_after style k lvs s ss)
exact_after style k [] s ss h = exact_first style k s ss
exact_after style k (lv ∷ lvs) s ss h = exact_levels style k false lv lvs s ss h.0 h.1

-- ---- texts

pub record IsExactDraft (d : Draft) : Type 0 where
  pub done : IsExact d.done
  pub levels : AreExact d.levels

exact_lines : (blank : Bool) (lines statement : Tree) → IsExact lines → IsExact statement → IsExact (lines_with blank lines statement)
exact_lines false lines statement h k = exact_append lines _ h (exact_append statement HardLine k tt)
exact_lines true lines statement h k =
    exact_append (append lines HardLine) _ (exact_append lines HardLine h tt) (exact_append statement HardLine k tt)

exact_with_statement : (d : Draft) (statement : Tree) → IsExact d.done → IsExact statement → IsExactDraft (draft_with_statement d statement)
exact_with_statement d statement h k = record { done = exact_lines d.blank d.done statement h k; levels = tt }

exact_ended_line : (d : Draft) (lvs : List Level) → IsExact d.done → AreExact lvs → IsExactDraft (with_ended_line d lvs)
exact_ended_line d [] h k = record { done = h; levels = tt }
exact_ended_line d (lv ∷ []) h k = exact_with_statement d (level_end lv).tree h (exact_level lv k.0)
exact_ended_line d (lv ∷ outer ∷ lvs) h k =
    record { done = h; levels = (record { before = k.0.before; part = k.0.part }, k.1) }

exact_draft : (style : Style) (k : Sort) (d : Draft) (s : List ℕ) (ss : List (List ℕ)) → IsExactDraft d
    → IsExactDraft (draft_with style k d s ss)
exact_draft style sort.line_end d s ss h = exact_ended_line d d.levels h.done h.levels
exact_draft style sort.open_array d s ss h = record { done = h.done; levels = exact_after style sort.open_array d.levels s ss h.levels }
exact_draft style sort.close_array d s ss h = record { done = h.done; levels = exact_after style sort.close_array d.levels s ss h.levels }
exact_draft style sort.open_table d s ss h = record { done = h.done; levels = exact_after style sort.open_table d.levels s ss h.levels }
exact_draft style sort.close_table d s ss h = record { done = h.done; levels = exact_after style sort.close_table d.levels s ss h.levels }
exact_draft style sort.comma d s ss h = record { done = h.done; levels = exact_after style sort.comma d.levels s ss h.levels }
exact_draft style sort.equals d s ss h = record { done = h.done; levels = exact_after style sort.equals d.levels s ss h.levels }
exact_draft style sort.comment d s ss h = record { done = h.done; levels = exact_after style sort.comment d.levels s ss h.levels }
exact_draft style sort.string d s ss h = record { done = h.done; levels = exact_after style sort.string d.levels s ss h.levels }
exact_draft style sort.word d s ss h = record { done = h.done; levels = exact_after style sort.word d.levels s ss h.levels }
exact_draft style sort.text_end d s ss h = record { done = h.done; levels = exact_after style sort.text_end d.levels s ss h.levels }

exact_level_with : (lv : Level) (lvs : List Level) → IsExactLevel lv → AreExact lvs → IsExactLevel (level_with lv lvs)
exact_level_with lv [] h k = h
exact_level_with lv (outer ∷ lvs) h k =
    exact_level_with (with_part outer lv.opening (unclosed_tree lv)) lvs
    (exact_part outer lv.opening (unclosed_tree lv) k.0 (exact_unclosed lv h)) k.1

exact_ended : (d : Draft) (lvs : List Level) → IsExact d.done → AreExact lvs → IsExact (ended_in d lvs)
exact_ended d [] h k = h
exact_ended d (lv ∷ lvs) h k =
    (exact_with_statement d (level_end (level_with lv lvs)).tree h (exact_level (level_with lv lvs) (exact_level_with lv lvs k.0 k.1))).done

exact_from : (style : Style) (ss : List (List ℕ)) (d : Draft) → IsExactDraft d → IsExact (document_from style d ss)
unfolding document_from
exact_from style [] d h = exact_ended d d.levels h.done h.levels
exact_from style (s ∷ ss) d h = exact_from style ss (draft_with style (sort_of s) d s ss) (exact_draft style (sort_of s) d s ss h)

pub exact_document : (style : Style) (ss : List (List ℕ)) → IsExact (toml_document style ss)
exact_document style ss = exact_from style ss no_draft (record { done = tt; levels = tt })

-- ---- layouts

exact_total : (d : Tree) → IsExact d → IsTotal d
exact_total Nil h = tt
exact_total (Text s) h = tt
exact_total (TextWithLen w s) h = tt
exact_total HardLine h = tt
exact_total (Append l r) h = (exact_total l h.0, exact_total r h.1)
exact_total (Indented how d) h = exact_total d h
exact_total ExpandParent h = tt
exact_total (BreakOrFlat b f) h = (exact_total b h.0, exact_total f h.1)
exact_total (Group d) h = exact_total d h
exact_total d h = absurd h

pub layouts_spelled_out : LayoutsAreSpelledOut
layouts_spelled_out style ending text =
    let o = toml_options style ending in
    let ss = toml_lexemes_of text in
    let d = toml_document style ss in
    let exact = exact_document style ss in
    let whole = total_layout o d (exact_total d exact) in
    let spells = layouts_are_spellings o d whole.0 refl exact whole.1 in
    record {
      bytes = whole.0;
      laid = whole.1;
      bits = spells.0;
      spelled = spells.1;
      written = spells.2;
      texts = says_document style ss (are_commas ss (lexemes_alone text)) Break spells.0 [] spells.1;
    }
