-- The texts of a document's spellings are the lexemes that it was made of.
use Rattle.std.proofs.Common.{◌≡◌, refl, sym, ◌∙◌, ap, ℕ, zero, suc, ℤ, pos, Bool, true, false, cond, ◌==◌, ◌&&◌, ◌||◌, List, [], ◌∷◌}
use Rattle.std.proofs.Common.{◌++◌, All, inl, inr}
use Rattle.std.proofs.Common.{subst}
use Rattle.std.proofs.lemmas.Bool.{eqb-true}
use Rattle.std.proofs.lemmas.List.Elements.{All-head, All-tail}
use Rattle.std.specs.Prelude.{Option, Some, None, if◌then◌else◌}
use Rattle.std.specs.List.{list_any}
use Rattle.prettyless_trees.specs.Built.{append, append_to, group, nest, nest_by}
use Rattle.prettyless_trees.specs.Counted as counted
use Rattle.prettyless_trees.specs.Lines.{line, line_, space}
use Rattle.prettyless_model.specs.Tree.{Tree, Nil, Text, TextWithLen, MultilineText, HardLine, ExpandParent, BreakOrFlat, Append, Group}
use Rattle.prettyless_model.specs.Metrics.{is_ascii}
use Rattle.prettyless_model.specs.declared.mode.Mode.{Mode}
use Rattle.prettyless_model.specs.declared.mode.Mode.TheVariants.{Break, Flat}
use Rattle.toml_lexemes.specs.Bytes as byte
use Rattle.toml_lexemes.specs.Bytes.{is_quote}
use Rattle.text_lexemes.specs.Languages.{between, cut}
use Rattle.toml_lexemes.specs.Lexemes.{cut_toml}
use Rattle.toml_lexemes.specs.Statements.{trimmed}
use Rattle.toml_grammar.specs.Sorts as sort
use Rattle.toml_grammar.specs.Sorts.{Sort, sort_of}
use Rattle.toml_documents.specs.Documents.{Part, Commented, RowEntry, End, Level, Draft, after_comments, after_part, after_rest, broken_if}
use Rattle.toml_documents.specs.Documents.{closed_end, comma_kept, comment_tree, comments_tree, document_from, draft_with, end_after_comma}
use Rattle.toml_documents.specs.Documents.{ended_in, ends_item, entry_with_comma, first_levels, indent_in, is_array, is_line_feed_byte}
use Rattle.toml_documents.specs.Documents.{is_some, level_end, level_with, level_with_comma, levels_after, levels_closed, levels_with}
use Rattle.toml_documents.specs.Documents.{lexeme_tree, lines_with, list_tree, new_level, new_statement, no_draft, part_end, separated}
use Rattle.toml_documents.specs.Documents.{toml_document, trailed_end, unclosed_tree, with_comment, with_ended_line, with_line_end}
use Rattle.toml_documents.specs.Documents.{with_part}
use Rattle.toml_documents.specs.Gaps.{gap_before_close, gap_before_comma, gap_before_comment, gap_before_text, may_hold}
use Rattle.prettyless_laws.specs.Bits.{Bit, IsSpelled, end_of_line, text_of, word_bits}
use Rattle.toml_documents.specs.Spellings.{kept_first, kept_then, texts_then, with_text}
use Rattle.toml_documents.specs.declared.gaps.Gap.{Gap}
use Rattle.toml_documents.specs.declared.gaps.Gap.TheVariants as gap
use Rattle.toml_documents.specs.declared.kind.Kind.{Kind}
use Rattle.toml_documents.specs.declared.kind.Last.{Last}
use Rattle.toml_documents.specs.declared.style.Style.{Style}

-- what texts in front of others make of these
abbrev Texts : Type 0
Texts = List (List ℕ) → List (List ℕ)

-- each spelling of a document has these texts
abbrev Says : Tree → Texts → Type 0
Says d f = (m : Mode) (bits : List Bit) (ss : List (List ℕ)) → IsSpelled d m bits → texts_then bits ss ≡ f ss

-- none
abbrev none : Texts
none ss = ss

texts_both : (xs ys : List Bit) (ss : List (List ℕ)) → texts_then (xs ++ ys) ss ≡ texts_then xs (texts_then ys ss)
texts_both [] ys ss = refl
texts_both (text_of s ∷ xs) ys ss = ap (with_text s) (texts_both xs ys ss)
texts_both (end_of_line ∷ xs) ys ss = texts_both xs ys ss

-- ---- trees

says_as : (d : Tree) (f g : Texts) → Says d f → ((ss : List (List ℕ)) → f ss ≡ g ss) → Says d g
says_as d f g h e m bits ss p = h m bits ss p ∙ e ss

says_nil : Says Nil none
says_nil m bits ss e = ap (λ (b : List Bit). texts_then b ss) e

says_expand : Says ExpandParent none
says_expand m bits ss e = ap (λ (b : List Bit). texts_then b ss) e

says_hard : Says HardLine none
says_hard m bits ss e = ap (λ (b : List Bit). texts_then b ss) e

says_bits : (s : List ℕ) (bits : List Bit) (ss : List (List ℕ)) → bits ≡ word_bits s → texts_then bits ss ≡ with_text s ss
says_bits [] bits ss e = ap (λ (b : List Bit). texts_then b ss) e
says_bits (x ∷ s) bits ss e = ap (λ (b : List Bit). texts_then b ss) e

says_plain : (s : List ℕ) → Says (Text s) (with_text s)
says_plain s m bits ss e = says_bits s bits ss e

says_counted : (w : ℕ) (s : List ℕ) → Says (TextWithLen w s) (with_text s)
says_counted w s m bits ss e = says_bits s bits ss e

says_string : (b : Bool) (w : ℕ) (s : List ℕ) → Says (if b then Text s else TextWithLen w s) (with_text s)
says_string true w s = says_plain s
says_string false w s = says_counted w s

says_text : (s : List ℕ) → Says (counted.text s) (with_text s)
says_text [] = says_nil
says_text (x ∷ s) = says_string (is_ascii (x ∷ s)) _ (x ∷ s)

says_both : (x y : Tree) (f g : Texts) → Says x f → Says y g → Says (Append x y) (λ ss. f (g ss))
says_both x y f g h k m bits ss (xs, ys, p, q, e) =
    ap (λ (b : List Bit). texts_then b ss) e ∙ texts_both xs ys ss ∙ h m xs (texts_then ys ss) p ∙ ap f (k m ys ss q)

says_append_to : (x y : Tree) (f g : Texts) → Says x f → Says y g → Says (append_to x y) (λ ss. f (g ss))
says_append_to x Nil f g h k = λ m bits ss p. h m bits ss p ∙ ap f (k Break [] ss refl)
says_append_to x y f g h k = says_both x y f g h k

says_append : (x y : Tree) (f g : Texts) → Says x f → Says y g → Says (append x y) (λ ss. f (g ss))
says_append Nil y f g h k = λ m bits ss p. k m bits ss p ∙ h Break [] (g ss) refl
says_append x y f g h k = says_append_to x y f g h k

says_either : (x y : Tree) (f : Texts) → Says x f → Says y f → Says (BreakOrFlat x y) f
says_either x y f h k Break bits ss p = h Break bits ss p
says_either x y f h k Flat bits ss p = k Flat bits ss p

says_grouped : (x : Tree) (f : Texts) → Says x f → Says (Group x) f
says_grouped x f h Break bits ss (inl p) = h Break bits ss p
says_grouped x f h Break bits ss (inr p) = h Flat bits ss p
says_grouped x f h Flat bits ss p = h Flat bits ss p

says_group : (x : Tree) (f : Texts) → Says x f → Says (group x) f
says_group Nil f h = h
says_group (Text s) f h = h
says_group (TextWithLen w s) f h = h
says_group (MultilineText s) f h = h
says_group (Group x) f h = h
says_group x f h = says_grouped x f h

says_nest_by : (k : ℤ) (x : Tree) (f : Texts) → Says x f → Says (nest_by k x) f
says_nest_by k Nil f h = h
says_nest_by k x f h = λ m bits ss p. h m bits ss p

says_nest : (n : ℕ) (x : Tree) (f : Texts) → Says x f → Says (nest (pos n) x) f
says_nest zero x f h = h
says_nest (suc n) x f h = says_nest_by (pos (suc n)) x f h

says_broken : (b : Bool) (x : Tree) (f : Texts) → Says x f → Says (broken_if b x) f
says_broken true x f h = says_append x ExpandParent f none h says_expand
says_broken false x f h = h

says_space : Says space none
says_space = says_plain (32 ∷ [])

says_line_ : Says line_ none
says_line_ = says_either HardLine Nil none says_hard says_nil

says_line : Says line none
says_line = says_either HardLine space none says_hard says_space

-- with a gap between them
says_around : (x q y : Tree) (f g : Texts) → Says x f → Says q none → Says y g → Says (append (append x q) y) (λ ss. f (g ss))
says_around x q y f g h n k = says_append (append x q) y f g (says_append x q f none h n) k

says_separated : (a : Gap) (x y : Tree) (f g : Texts) → Says x f → Says y g → Says (separated a x y) (λ ss. f (g ss))
says_separated gap.Nothing x y f g h k = says_append x y f g h k
says_separated gap.Space x y f g h k = says_around x space y f g h says_space k
says_separated gap.Beside x y f g h k = says_around x (TextWithLen 0 (32 ∷ [])) y f g h (says_counted 0 (32 ∷ [])) k
says_separated gap.Edge x y f g h k = says_around x line_ y f g h says_line_ k
says_separated gap.Line x y f g h k = says_around x line y f g h says_line k
says_separated gap.Fill x y f g h k = says_around x (Group line) y f g h (says_grouped line none says_line) k
says_separated gap.BlankLine x y f g h k =
    says_around (append x line_) line y f g (says_append x line_ f none h says_line_) says_line k
says_separated gap.Break x y f g h k = says_around x HardLine y f g h says_hard k
says_separated gap.BlankBreak x y f g h k =
    says_around (append x HardLine) HardLine y f g (says_append x HardLine f none h says_hard) says_hard k

-- ---- entries

abbrev SaysPart : Option Part → Texts → Type 0
SaysPart None f = (ss : List (List ℕ)) → ss ≡ f ss
SaysPart (Some p) f = Says p.tree f

says_after_part : (kind : Kind) (e : End) (p : Option Part) (f g : Texts) → Says e.tree f → SaysPart p g
    → Says (after_part kind e p).tree (λ ss. f (g ss))
says_after_part kind e None f g h k = says_as e.tree f (λ ss. f (g ss)) h (λ ss. ap f (k ss))
says_after_part kind e (Some p) f g h k = says_separated (gap_before_text kind e.last p.first p.blank) e.tree p.tree f g h k

says_comma : (comma : Bool) (e : End) (f : Texts) → Says e.tree f → Says (end_after_comma comma e).tree f
says_comma true e f h =
    says_separated (gap_before_comma e.last) e.tree (counted.text (byte.comma ∷ [])) f none h (says_text (byte.comma ∷ []))
says_comma false e f h = h

-- comments, the last one first
abbrev said_comments : List Commented → Texts
said_comments [] ss = ss
said_comments (r ∷ rs) ss = said_comments rs (with_text (trimmed r.comment) ss)

says_comments : (kind : Kind) (l : Last) (rs : List Commented) → Says (comments_tree kind l rs) (said_comments rs)
says_comments kind l [] = says_nil
says_comments kind l (r ∷ rs) =
    says_separated (gap_before_comment kind l (is_some rs) r.broken r.blank) (comments_tree kind l rs) (comment_tree r.comment)
    (said_comments rs) (with_text (trimmed r.comment)) (says_comments kind l rs) (says_counted 0 (trimmed r.comment))

says_commented : (kind : Kind) (l : Last) (rs : List Commented) (e : End) (f : Texts) → Says e.tree f
    → Says (after_comments (is_some rs) (comments_tree kind l rs) e).tree (λ ss. f (said_comments rs ss))
says_commented kind l [] e f h = h
says_commented kind l (r ∷ rs) e f h =
    says_append e.tree (comments_tree kind l (r ∷ rs)) f (said_comments (r ∷ rs)) h (says_comments kind l (r ∷ rs))

says_rest : (kind : Kind) (entry : RowEntry) (e : End) (f : Texts) → Says e.tree f
    → Says (after_rest kind entry e).tree (λ ss. f (said_comments entry.comments ss))
says_rest kind entry e f h =
    says_commented kind e.last entry.comments (end_after_comma entry.comma e) f (says_comma entry.comma e f h)

-- ---- levels

record SaysLevel (lv : Level) (f : Texts) : Type 0 where
  before : Texts
  part : Texts
  says_before : Says lv.before.tree before
  says_part : SaysPart lv.entry.part part
  same : (ss : List (List ℕ)) → f ss ≡ before (part (said_comments lv.entry.comments ss))

says_part_end : (lv : Level) (f : Texts) (h : SaysLevel lv f) → Says (part_end lv).tree (λ ss. h.before (h.part ss))
says_part_end lv f h = says_after_part lv.kind lv.before lv.entry.part h.before h.part h.says_before h.says_part

says_level : (lv : Level) (f : Texts) → SaysLevel lv f → Says (level_end lv).tree f
says_level lv f h =
    says_as (level_end lv).tree (λ ss. h.before (h.part (said_comments lv.entry.comments ss))) f
    (says_rest lv.kind lv.entry (part_end lv) (λ ss. h.before (h.part ss)) (says_part_end lv f h)) (λ ss. sym (h.same ss))

says_new : (kind : Kind) (opening : List ℕ) → SaysLevel (new_level kind opening) none
says_new kind opening =
    record { before = none; part = none; says_before = says_nil; says_part = λ ss. refl; same = λ ss. refl }

says_with_part : (lv : Level) (s : List ℕ) (tree : Tree) (f g : Texts) → SaysLevel lv f → Says tree g
    → SaysLevel (with_part lv s tree) (λ ss. f (g ss))
says_with_part lv s tree f g h k =
    record { before = f; part = g; says_before = says_level lv f h; says_part = k; same = λ ss. refl }

says_entry_comma : (more : Bool) (lv : Level) (f : Texts) → SaysLevel lv f → SaysLevel (entry_with_comma more lv) f
says_entry_comma true lv f h =
    record { before = f; part = none; says_before = says_level lv f h; says_part = λ ss. refl; same = λ ss. refl }
says_entry_comma false lv f h =
    record { before = h.before; part = h.part; says_before = h.says_before; says_part = h.says_part; same = h.same }

says_with_comment : (lv : Level) (s : List ℕ) (f : Texts) → SaysLevel lv f
    → SaysLevel (with_comment lv s) (λ ss. f (with_text (trimmed s) ss))
says_with_comment lv s f h = record {
  before = h.before;
  part = h.part;
  says_before = h.says_before;
  says_part = h.says_part;
  same = λ ss. h.same (with_text (trimmed s) ss);
}

says_with_line_end : (lv : Level) (f : Texts) → SaysLevel lv f → SaysLevel (with_line_end lv) f
says_with_line_end lv f h =
    record { before = h.before; part = h.part; says_before = h.says_before; says_part = h.says_part; same = h.same }

says_trailed : (more comma : Bool) (e : End) (f : Texts) → Says e.tree f → Says (trailed_end more comma e).tree f
says_trailed false comma e f h = h
says_trailed true comma e f h =
    let optional = BreakOrFlat (counted.text (byte.comma ∷ [])) Nil in
    says_broken comma (append e.tree optional) f
    (says_append e.tree optional f none h (says_either (counted.text (byte.comma ∷ [])) Nil none (says_text (byte.comma ∷ [])) says_nil))

says_closed : (lv : Level) (f : Texts) → SaysLevel lv f → Says (closed_end lv).tree f
says_closed lv f h =
    let comma = comma_kept lv.kind (part_end lv).last lv.entry.comma (is_some lv.entry.comments) in
    let entry = record lv.entry { comma = comma } in
    let e = after_rest lv.kind entry (part_end lv) in
    says_trailed (is_array lv.kind && ends_item e.last) lv.entry.comma e f
    (says_as e.tree (λ ss. h.before (h.part (said_comments lv.entry.comments ss))) f
    (says_rest lv.kind entry (part_end lv) (λ ss. h.before (h.part ss)) (says_part_end lv f h)) (λ ss. sym (h.same ss)))

says_list : (style : Style) (lv : Level) (close : List ℕ) (f : Texts) → SaysLevel lv f
    → Says (list_tree style lv close) (λ ss. with_text lv.opening (f (with_text close ss)))
says_list style lv close f h =
    let e = closed_end lv in
    let inside = append (counted.text lv.opening) e.tree in
    let indented = nest (pos (indent_in style lv.kind)) inside in
    let opened : Texts = λ ss. with_text lv.opening (f ss) in
    says_group (separated (gap_before_close lv.kind e.last) indented (counted.text close)) (λ ss. opened (with_text close ss))
    (says_separated (gap_before_close lv.kind e.last) indented (counted.text close) opened (with_text close)
    (says_nest (indent_in style lv.kind) inside opened
    (says_append (counted.text lv.opening) e.tree (with_text lv.opening) f (says_text lv.opening) (says_closed lv f h)))
    (says_text close))

says_unclosed : (lv : Level) (f : Texts) → SaysLevel lv f → Says (unclosed_tree lv) (λ ss. with_text lv.opening (f ss))
says_unclosed lv f h =
    says_append (counted.text lv.opening) (level_end lv).tree (with_text lv.opening) f (says_text lv.opening) (says_level lv f h)

-- ---- statements

-- the outermost level has no bracket
abbrev IsLast : Level → List Level → Type 0
IsLast lv [] = lv.opening ≡ []
IsLast lv (outer ∷ lvs) = Unit {0}

abbrev SaysLevels : List Level → Texts → Type 0
SaysLevels [] f = (ss : List (List ℕ)) → f ss ≡ ss
SaysLevels (lv ∷ lvs) f =
    (outer : Texts) × (own : Texts) × SaysLevels lvs outer × SaysLevel lv own × IsLast lv lvs
    × ((ss : List (List ℕ)) → f ss ≡ outer (with_text lv.opening (own ss)))

levels_as : (lvs : List Level) (f g : Texts) → SaysLevels lvs f → ((ss : List (List ℕ)) → f ss ≡ g ss) → SaysLevels lvs g
levels_as [] f g h e = λ ss. sym (e ss) ∙ h ss
levels_as (lv ∷ lvs) f g (outer, own, around, h, l, same) e = (outer, own, around, h, l, λ ss. sym (e ss) ∙ same ss)

-- the outermost level says all
alone : (lv : Level) (f : Texts) (h : SaysLevels (lv ∷ []) f) (ss : List (List ℕ)) → f ss ≡ h.1 ss
alone lv f (outer, own, around, h, l, same) ss =
    same ss ∙ around (with_text lv.opening (own ss)) ∙ ap (λ (s : List ℕ). with_text s (own ss)) l

says_statement : (s : List ℕ) (tree : Tree) (f : Texts) → Says tree f → SaysLevels (with_part new_statement s tree ∷ []) f
says_statement s tree f h =
    (none, f, λ ss. refl, says_with_part new_statement s tree none f (says_new _ []) h, refl, λ ss. refl)

-- one level in the next one out
says_in : (lv outer : Level) (lvs : List Level) (s : List ℕ) (tree : Tree) (f g : Texts) → SaysLevels (lv ∷ outer ∷ lvs) f
    → ((own : Texts) → SaysLevel lv own → Says tree (λ ss. with_text lv.opening (own (g ss))))
    → SaysLevels (with_part outer s tree ∷ lvs) (λ ss. f (g ss))
says_in lv outer lvs s tree f g (o, own, (oo, ow, around, ho, lo, se), h, l, same) k = (
  oo,
  λ ss. ow (with_text lv.opening (own (g ss))),
  around,
  says_with_part outer s tree ow (λ ss. with_text lv.opening (own (g ss))) ho (k own h),
  lo,
  λ ss. same (g ss) ∙ se (with_text lv.opening (own (g ss))),
)

says_levels_closed : (style : Style) (lv : Level) (lvs : List Level) (s : List ℕ) (f : Texts) → SaysLevels (lv ∷ lvs) f
    → SaysLevels (levels_closed style lv lvs s) (λ ss. f (with_text s ss))
says_levels_closed style lv [] s f h =
    let own = h.1 in
    levels_as (levels_closed style lv [] s) (λ ss. own (with_text s ss)) (λ ss. f (with_text s ss))
    (says_statement s (append (closed_end lv).tree (counted.text s)) (λ ss. own (with_text s ss))
    (says_append (closed_end lv).tree (counted.text s) own (with_text s) (says_closed lv own h.3) (says_text s)))
    (λ ss. sym (alone lv f h (with_text s ss)))
says_levels_closed style lv (outer ∷ lvs) s f h =
    says_in lv outer lvs lv.opening (list_tree style lv s) f (with_text s) h (λ own k. says_list style lv s own k)

says_lexeme : (s : List ℕ) → Says (lexeme_tree s) (with_text s)
says_lexeme s = says_broken (list_any is_line_feed_byte s) (counted.text s) (with_text s) (says_text s)

says_part_in : (lv : Level) (lvs : List Level) (s : List ℕ) (f : Texts) → SaysLevels (lv ∷ lvs) f
    → SaysLevels (with_part lv s (lexeme_tree s) ∷ lvs) (λ ss. f (with_text s ss))
says_part_in lv lvs s f (outer, own, around, h, l, same) = (
  outer,
  λ ss. own (with_text s ss),
  around,
  says_with_part lv s (lexeme_tree s) own (with_text s) h (says_lexeme s),
  l,
  λ ss. same (with_text s ss),
)

says_opened : (kind : Kind) (lv : Level) (lvs : List Level) (s : List ℕ) (f : Texts) → SaysLevels (lv ∷ lvs) f
    → SaysLevels (new_level kind s ∷ lv ∷ lvs) (λ ss. f (with_text s ss))
says_opened kind lv lvs s f h = (f, none, h, says_new kind s, tt, λ ss. refl)

-- a comma is none of the texts that are kept
abbrev IsComma : Sort → List ℕ → Type 0
IsComma sort.comma s = s ≡ byte.comma ∷ []
IsComma k s = Unit {0}

comma_none : (s : List ℕ) (ss : List (List ℕ)) → s ≡ byte.comma ∷ [] → ss ≡ with_text s ss
comma_none s ss e = ap (λ (t : List ℕ). with_text t ss) (sym e)

says_comma_in : (more : Bool) (lv : Level) (lvs : List Level) (f : Texts) → SaysLevels (lv ∷ lvs) f
    → SaysLevels (entry_with_comma more lv ∷ lvs) f
says_comma_in true lv lvs f (outer, own, around, h, l, same) = (outer, own, around, says_entry_comma true lv own h, l, same)
says_comma_in false lv lvs f (outer, own, around, h, l, same) = (outer, own, around, says_entry_comma false lv own h, l, same)

says_levels : (style : Style) (k : Sort) (first : Bool) (lv : Level) (lvs : List Level) (s : List ℕ) (left : List (List ℕ)) (f : Texts)
    → IsComma k s → SaysLevels (lv ∷ lvs) f → (k ≡ sort.line_end → ⊥)
    → SaysLevels (levels_with style k first lv lvs s left) (λ ss. f (kept_first k s ss))
says_levels style sort.open_array first lv lvs s left f c h n = says_opened _ lv lvs s f h
says_levels style sort.open_table first lv lvs s left f c h n = says_opened _ lv lvs s f h
says_levels style sort.close_array first lv lvs s left f c h n = says_levels_closed style lv lvs s f h
says_levels style sort.close_table first lv lvs s left f c h n = says_levels_closed style lv lvs s f h
says_levels style sort.comma first lv lvs s left f c h n =
    levels_as (level_with_comma lv ∷ lvs) f (λ ss. f (with_text s ss))
    (says_comma_in (lv.entry.comma || may_hold (part_end lv).last) lv lvs f h) (λ ss. ap f (comma_none s ss c))
says_levels style sort.comment first lv lvs s left f c (outer, own, around, h, l, same) n = (
  outer,
  λ ss. own (with_text (trimmed s) ss),
  around,
  says_with_comment lv s own h,
  l,
  λ ss. same (with_text (trimmed s) ss),
)
says_levels style sort.equals first lv lvs s left f c h n = says_part_in lv lvs s f h
says_levels style sort.line_end first lv lvs s left f c h n = absurd (n refl)
says_levels style sort.string first lv lvs s left f c h n = says_part_in lv lvs s f h
says_levels style sort.word first lv lvs s left f c h n = says_part_in lv lvs s f h
says_levels style sort.text_end first lv lvs s left f c h n = says_part_in lv lvs s f h

-- where no level is open
says_none : SaysLevels (new_statement ∷ []) none
says_none = (none, none, λ ss. refl, says_new _ [], refl, λ ss. refl)

says_first : (style : Style) (k : Sort) (s : List ℕ) (left : List (List ℕ)) → IsComma k s → (k ≡ sort.line_end → ⊥)
    → SaysLevels (first_levels style k s left) (kept_first k s)
says_first style sort.close_array s left c n = says_statement s (counted.text s) (with_text s) (says_text s)
says_first style sort.close_table s left c n = says_statement s (counted.text s) (with_text s) (says_text s)
says_first style sort.comma s left c n = says_statement s (counted.text s) (with_text s) (says_text s)
says_first style sort.comment s left c n = says_statement s (counted.text (trimmed s)) (with_text (trimmed s)) (says_text (trimmed s))
says_first style sort.open_array s left c n = says_levels style sort.open_array true new_statement [] s left none c says_none n
says_first style sort.open_table s left c n = says_levels style sort.open_table true new_statement [] s left none c says_none n
says_first style sort.equals s left c n = says_levels style sort.equals true new_statement [] s left none c says_none n
says_first style sort.line_end s left c n = absurd (n refl)
says_first style sort.string s left c n = says_levels style sort.string true new_statement [] s left none c says_none n
says_first style sort.word s left c n = says_levels style sort.word true new_statement [] s left none c says_none n
says_first style sort.text_end s left c n = says_levels style sort.text_end true new_statement [] s left none c says_none n

says_after : (style : Style) (k : Sort) (lvs : List Level) (s : List ℕ) (left : List (List ℕ)) (f : Texts) → IsComma k s
    → (k ≡ sort.line_end → ⊥) → SaysLevels lvs f → SaysLevels (levels_after style k lvs s left) (λ ss. f (kept_first k s ss))
says_after style k [] s left f c n h =
    levels_as (first_levels style k s left) (kept_first k s) (λ ss. f (kept_first k s ss)) (says_first style k s left c n)
    (λ ss. sym (h (kept_first k s ss)))
says_after style k (lv ∷ lvs) s left f c n h = says_levels style k false lv lvs s left f c h n

-- ---- texts

record SaysDraft (d : Draft) (f : Texts) : Type 0 where
  done : Texts
  levels : Texts
  says_done : Says d.done done
  says_open : SaysLevels d.levels levels
  same : (ss : List (List ℕ)) → f ss ≡ done (levels ss)

says_lines : (blank : Bool) (lines statement : Tree) (f g : Texts) → Says lines f → Says statement g
    → Says (lines_with blank lines statement) (λ ss. f (g ss))
says_lines false lines statement f g h k =
    says_append lines (append statement HardLine) f g h (says_append statement HardLine g none k says_hard)
says_lines true lines statement f g h k =
    says_append (append lines HardLine) (append statement HardLine) f g (says_append lines HardLine f none h says_hard)
    (says_append statement HardLine g none k says_hard)

says_ended_line : (d : Draft) (lvs : List Level) (f done levels : Texts) → Says d.done done → SaysLevels lvs levels
    → ((ss : List (List ℕ)) → f ss ≡ done (levels ss)) → SaysDraft (with_ended_line d lvs) f
says_ended_line d [] f done levels h k e =
    record { done = done; levels = levels; says_done = h; says_open = k; same = e }
says_ended_line d (lv ∷ []) f done levels h k e = record {
  done = λ ss. done (k.1 ss);
  levels = none;
  says_done = says_lines d.blank d.done (level_end lv).tree done k.1 h (says_level lv k.1 k.3);
  says_open = λ ss. refl;
  same = λ ss. e ss ∙ ap done (alone lv levels k ss);
}
says_ended_line d (lv ∷ outer ∷ lvs) f done levels h (o, own, around, k, l, same) e = record {
  done = done;
  levels = levels;
  says_done = h;
  says_open = (o, own, around, says_with_line_end lv own k, l, same);
  same = e;
}

says_other : (style : Style) (k : Sort) (d : Draft) (s : List ℕ) (left : List (List ℕ)) (f : Texts) → IsComma k s
    → (k ≡ sort.line_end → ⊥) → SaysDraft d f
    → SaysDraft (record d { levels = levels_after style k d.levels s left }) (λ ss. f (kept_first k s ss))
says_other style k d s left f c n h = record {
  done = h.done;
  levels = λ ss. h.levels (kept_first k s ss);
  says_done = h.says_done;
  says_open = says_after style k d.levels s left h.levels c n h.says_open;
  same = λ ss. h.same (kept_first k s ss);
}

says_draft : (style : Style) (k : Sort) (d : Draft) (s : List ℕ) (left : List (List ℕ)) (f : Texts) → IsComma k s → SaysDraft d f
    → SaysDraft (draft_with style k d s left) (λ ss. f (kept_first k s ss))
says_draft style sort.line_end d s left f c h =
    says_ended_line d d.levels f h.done h.levels h.says_done h.says_open h.same
says_draft style sort.open_array d s left f c h = says_other style sort.open_array d s left f c (λ e. absurd (cc)) h
says_draft style sort.close_array d s left f c h = says_other style sort.close_array d s left f c (λ e. absurd (cc)) h
says_draft style sort.open_table d s left f c h = says_other style sort.open_table d s left f c (λ e. absurd (cc)) h
says_draft style sort.close_table d s left f c h = says_other style sort.close_table d s left f c (λ e. absurd (cc)) h
says_draft style sort.comma d s left f c h = says_other style sort.comma d s left f c (λ e. absurd (cc)) h
says_draft style sort.equals d s left f c h = says_other style sort.equals d s left f c (λ e. absurd (cc)) h
says_draft style sort.comment d s left f c h = says_other style sort.comment d s left f c (λ e. absurd (cc)) h
says_draft style sort.string d s left f c h = says_other style sort.string d s left f c (λ e. absurd (cc)) h
says_draft style sort.word d s left f c h = says_other style sort.word d s left f c (λ e. absurd (cc)) h
says_draft style sort.text_end d s left f c h = says_other style sort.text_end d s left f c (λ e. absurd (cc)) h

says_level_with : (lv : Level) (lvs : List Level) (f : Texts) → SaysLevels (lv ∷ lvs) f → Says (level_end (level_with lv lvs)).tree f
says_level_with lv [] f h =
    says_as (level_end lv).tree h.1 f (says_level lv h.1 h.3) (λ ss. sym (alone lv f h ss))
says_level_with lv (outer ∷ lvs) f h =
    says_level_with (with_part outer lv.opening (unclosed_tree lv)) lvs f
    (says_in lv outer lvs lv.opening (unclosed_tree lv) f none h (λ own k. says_unclosed lv own k))

says_ended : (d : Draft) (lvs : List Level) (f done levels : Texts) → Says d.done done → SaysLevels lvs levels
    → ((ss : List (List ℕ)) → f ss ≡ done (levels ss)) → Says (ended_in d lvs) f
says_ended d [] f done levels h k e = says_as d.done done f h (λ ss. sym (e ss ∙ ap done (k ss)))
says_ended d (lv ∷ lvs) f done levels h k e =
    says_as (ended_in d (lv ∷ lvs)) (λ ss. done (levels ss)) f
    (says_lines d.blank d.done (level_end (level_with lv lvs)).tree done levels h (says_level_with lv lvs levels k)) (λ ss. sym (e ss))

-- each lexeme that begins as a comma is one
abbrev pub AreCommas : List (List ℕ) → Type 0
AreCommas [] = Unit {0}
AreCommas (s ∷ ss) = IsComma (sort_of s) s × AreCommas ss

says_from : (style : Style) (left : List (List ℕ)) (d : Draft) (f : Texts) → AreCommas left → SaysDraft d f
    → Says (document_from style d left) (λ ss. f (kept_then left ss))
unfolding document_from
says_from style [] d f c h = says_ended d d.levels f h.done h.levels h.says_done h.says_open h.same
says_from style (s ∷ left) d f c h =
    says_from style left (draft_with style (sort_of s) d s left) (λ ss. f (kept_first (sort_of s) s ss)) c.1
    (says_draft style (sort_of s) d s left f c.0 h)

-- the texts of a document are what is kept of its lexemes
pub says_document : (style : Style) (left : List (List ℕ)) → AreCommas left → (m : Mode) (bits : List Bit) (ss : List (List ℕ))
    → IsSpelled (toml_document style left) m bits → texts_then bits ss ≡ kept_then left ss
says_document style left c =
    says_from style left no_draft none c
    (record { done = none; levels = none; says_done = says_nil; says_open = λ ss. refl; same = λ ss. refl })

-- ---- commas

comma_alone : (a b c d e f g h q : Bool) → cond a sort.open_array (cond b sort.close_array (cond c sort.open_table
    (cond d sort.close_table (cond e sort.comma (cond f sort.equals (cond g sort.line_end (cond h sort.comment
    (cond q sort.string sort.word)))))))) ≡ sort.comma → e ≡ true
comma_alone true b c d e f g h q p = absurd (cc)
comma_alone false true c d e f g h q p = absurd (cc)
comma_alone false false true d e f g h q p = absurd (cc)
comma_alone false false false true e f g h q p = absurd (cc)
comma_alone false false false false true f g h q p = refl
comma_alone false false false false false true g h q p = absurd (cc)
comma_alone false false false false false false true h q p = absurd (cc)
comma_alone false false false false false false false true q p = absurd (cc)
comma_alone false false false false false false false false true p = absurd (cc)
comma_alone false false false false false false false false false p = absurd (cc)

comma_is : (s : List ℕ) → sort_of s ≡ sort.comma → cut_toml between s ≡ s ∷ [] → s ≡ byte.comma ∷ []
unfolding cut
comma_is [] p alone = absurd (cc)
comma_is (x ∷ t) p alone =
    let byte : x ≡ 44 =
    eqb-true x 44 (comma_alone (x == 91) (x == 93) (x == 123) (x == 125) (x == 44) (x == 61) (x == 10) (x == 35) (is_quote x) p) in
    let cut : (44 ∷ []) ∷ cut_toml between t ≡ (44 ∷ t) ∷ [] =
    subst (λ (y : ℕ). cut_toml between (y ∷ t) ≡ (y ∷ t) ∷ []) byte alone in
    let same : 44 ∷ [] ≡ 44 ∷ t = cc in
    ap (λ (y : ℕ). y ∷ t) byte ∙ sym same

is_comma : (k : Sort) (s : List ℕ) → sort_of s ≡ k → cut_toml between s ≡ s ∷ [] → IsComma k s
is_comma sort.comma s e h = comma_is s e h
is_comma sort.open_array s e h = tt
is_comma sort.close_array s e h = tt
is_comma sort.open_table s e h = tt
is_comma sort.close_table s e h = tt
is_comma sort.equals s e h = tt
is_comma sort.line_end s e h = tt
is_comma sort.comment s e h = tt
is_comma sort.string s e h = tt
is_comma sort.word s e h = tt
is_comma sort.text_end s e h = tt

pub are_commas : (ss : List (List ℕ)) → All (λ s. cut_toml between s ≡ s ∷ []) ss → AreCommas ss
are_commas [] each = tt
are_commas (s ∷ ss) each = (
  is_comma (sort_of s) s refl (All-head (λ t. cut_toml between t ≡ t ∷ []) s ss each),
  are_commas ss (All-tail (λ t. cut_toml between t ≡ t ∷ []) s ss each),
)
