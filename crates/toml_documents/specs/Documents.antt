-- The document of a TOML text, read off its lexemes from the left. What stands on a line, or in brackets, is a row of entries: a
-- part of a key or value, then a comma, then comments. An entry is laid out once it is whole: its comma stands before its comments.
use Rattle.std.specs.Prelude.{ℕ, pos, Bool, true, false, cond, ◌&&◌, ◌||◌, ◌==◌, List, [], ◌∷◌, Option, Some, None}
use Rattle.std.specs.List.{list_any}
use Rattle.prettyless_trees.specs.Built.{append, group, nest, softline}
use Rattle.prettyless_trees.specs.Counted as counted
use Rattle.prettyless_trees.specs.Lines.{line, line_, space}
use Rattle.prettyless_model.specs.Tree.{Tree, Nil, TextWithLen, HardLine, ExpandParent, BreakOrFlat}
use Rattle.toml_lexemes.specs.Bytes as byte
use Rattle.toml_grammar.specs.Sorts as sort
use Rattle.toml_grammar.specs.Sorts.{Sort, sort_of}
use Rattle.toml_lexemes.specs.Statements.{trimmed}
use Rattle.toml_documents.specs.Gaps.{gap_before_text, gap_before_comma, gap_before_comment, gap_before_close, may_hold}
use Rattle.toml_documents.specs.Kinds.{last_after_text}
use Rattle.toml_documents.specs.Numbers.{opened_kind}
use Rattle.toml_documents.specs.declared.gaps.Gap.{Gap}
use Rattle.toml_documents.specs.declared.gaps.Gap.TheVariants as gap
use Rattle.toml_documents.specs.declared.kind.Kind.{Kind}
use Rattle.toml_documents.specs.declared.kind.Kind.TheVariants.{Statement, Header, Table, Array, Numbers}
use Rattle.toml_documents.specs.declared.kind.Last.{Last}
use Rattle.toml_documents.specs.declared.kind.Last.TheVariants as last
use Rattle.toml_documents.specs.declared.style.Style.{Style}

-- ---- gaps and texts

-- two trees with a gap between them
abbrev pub separated : Gap → Tree → Tree → Tree
separated gap.Nothing x y = append x y
separated gap.Space x y = append (append x space) y
separated gap.Beside x y = append (append x (TextWithLen 0 (byte.blank_space ∷ []))) y
separated gap.Edge x y = append (append x line_) y
separated gap.Line x y = append (append x line) y
separated gap.Fill x y = append (append x softline) y
separated gap.BlankLine x y = append (append (append x line_) line) y
separated gap.Break x y = append (append x HardLine) y
separated gap.BlankBreak x y = append (append (append x HardLine) HardLine) y

-- a tree, which keeps the groups around it from being flat, if it does
abbrev pub broken_if : Bool → Tree → Tree
broken_if false x = x
broken_if true x = append x ExpandParent

abbrev pub is_line_feed_byte : ℕ → Bool
is_line_feed_byte b = b == byte.line_feed

-- a lexeme as it is spelled; the groups around one of several lines are not flat
abbrev pub lexeme_tree : List ℕ → Tree
lexeme_tree s = broken_if (list_any is_line_feed_byte s) (counted.text s)

-- a comment without the blanks at its end, which counts no columns
abbrev pub comment_tree : List ℕ → Tree
comment_tree s = TextWithLen 0 (trimmed s)

-- ---- entries

-- the document of a value, of a part of a key or of `=`
pub record Part : Type 0 where
  -- a blank line is before it
  pub blank : Bool
  -- its first lexeme
  pub first : List ℕ
  pub tree : Tree

-- a comment
pub record Commented : Type 0 where
  -- a line end, and a blank line, is before it
  pub broken : Bool
  pub blank : Bool
  pub comment : List ℕ

-- a part, then a comma, then comments; each may be missing
pub record RowEntry : Type 0 where
  pub part : Option Part
  pub comma : Bool
  -- the last one first
  pub comments : List Commented

abbrev pub no_entry : RowEntry
no_entry = record { part = None; comma = false; comments = [] }

-- ---- the document of entries

-- a document, and what it ends with
pub record End : Type 0 where
  pub tree : Tree
  pub last : Last

abbrev pub no_end : End
no_end = record { tree = Nil; last = last.Start }

abbrev pub is_some : {A : Type 0} → List A → Bool
is_some [] = false
is_some (x ∷ xs) = true

-- with a part after it
abbrev pub after_part : Kind → End → Option Part → End
after_part kind e None = e
after_part kind e (Some p) =
    record { tree = separated (gap_before_text kind e.last p.first p.blank) e.tree p.tree; last = last_after_text p.first }

-- with a comma after it, where there is one
abbrev pub end_after_comma : Bool → End → End
end_after_comma false e = e
end_after_comma true e =
    record { tree = separated (gap_before_comma e.last) e.tree (counted.text (byte.comma ∷ [])); last = last.Comma }

-- comments, with the gap before them, after a part that ends so
abbrev pub comments_tree : Kind → Last → List Commented → Tree
comments_tree kind l [] = Nil
comments_tree kind l (r ∷ rs) =
    separated (gap_before_comment kind l (is_some rs) r.broken r.blank) (comments_tree kind l rs) (comment_tree r.comment)

-- with a document of comments after it, where there is one
abbrev pub after_comments : Bool → Tree → End → End
after_comments false comments e = e
after_comments true comments e = record { tree = append e.tree comments; last = last.Comment }

-- with the comma and the comments of an entry after its part
abbrev pub after_rest : Kind → RowEntry → End → End
after_rest kind entry e =
    after_comments (is_some entry.comments) (comments_tree kind e.last entry.comments) (end_after_comma entry.comma e)

-- ---- levels

-- What is read of a statement, or of what is in brackets.
pub record Level : Type 0 where
  pub kind : Kind
  -- the bracket that opened it
  pub opening : List ℕ
  -- the entries before the last one
  pub before : End
  pub entry : RowEntry
  -- a line has ended since the last lexeme, and a blank line came
  pub broken : Bool
  pub blank : Bool

abbrev pub new_level : Kind → List ℕ → Level
new_level kind opening =
    record { kind = kind; opening = opening; before = no_end; entry = no_entry; broken = false; blank = false }

-- its document without the comma and the comments of the last entry
abbrev pub part_end : Level → End
part_end lv = after_part lv.kind lv.before lv.entry.part

-- its document
abbrev pub level_end : Level → End
level_end lv = after_rest lv.kind lv.entry (part_end lv)

-- after a line end
abbrev pub with_line_end : Level → Level
with_line_end lv = record lv { broken = true; blank = lv.broken }

-- a comma is one of the last entry, unless that has one: then it begins an entry
abbrev pub entry_with_comma : Bool → Level → Level
entry_with_comma true lv =
    record lv { before = level_end lv; entry = record { part = None; comma = true; comments = [] }; broken = false; blank = false }
entry_with_comma false lv = record lv { entry = record lv.entry { comma = true }; broken = false; blank = false }

abbrev pub level_with_comma : Level → Level
level_with_comma lv = entry_with_comma (lv.entry.comma || may_hold (part_end lv).last) lv

-- a comment is one of the last entry
abbrev pub with_comment : Level → List ℕ → Level
with_comment lv s =
    record lv {
      entry =
          record lv.entry {
            comments =
                record { broken = lv.broken; blank = lv.blank; comment = s } ∷ lv.entry.comments;
          };
      broken = false;
      blank = false;
    }

-- a part that begins with this lexeme begins an entry
abbrev pub with_part : Level → List ℕ → Tree → Level
with_part lv s tree =
    record lv {
      before = level_end lv;
      entry =
          record {
            part = Some (record { blank = lv.blank; first = s; tree = tree });
            comma = false;
            comments = [];
          };
      broken = false;
      blank = false;
    }

-- ---- lists

abbrev pub is_array : Kind → Bool
is_array Statement = false
is_array Header = false
is_array Table = false
is_array Array = true
is_array Numbers = true

-- what ends so is the part of an item
abbrev pub ends_item : Last → Bool
ends_item last.Start = false
ends_item last.Close = true
ends_item last.Equals = true
ends_item last.Word = true
ends_item last.Dot = true
ends_item last.String = true
ends_item last.Comma = false
ends_item last.Comment = false

-- whether the comma of the last entry stands before a closing bracket: after an item only in front of comments
abbrev pub comma_kept : Kind → Last → Bool → Bool → Bool
comma_kept kind l comma commented = cond (may_hold l) comma (is_array kind && (ends_item l && commented))

-- with a comma after the last item where lines are broken, as they are where it has one already
abbrev pub trailed_end : Bool → Bool → End → End
trailed_end false comma e = e
trailed_end true comma e =
    record e { tree = broken_if comma (append e.tree (BreakOrFlat (counted.text (byte.comma ∷ [])) Nil)) }

-- the document before a closing bracket
abbrev pub closed_end : Level → End
closed_end lv =
    let comma = comma_kept lv.kind (part_end lv).last lv.entry.comma (is_some lv.entry.comments) in
    let e = after_rest lv.kind (record lv.entry { comma = comma }) (part_end lv) in
    trailed_end (is_array lv.kind && ends_item e.last) lv.entry.comma e

-- by how many columns what is in brackets is indented
abbrev pub indent_in : Style → Kind → ℕ
indent_in style Statement = 0
indent_in style Header = 0
indent_in style Table = 0
indent_in style Array = style.indent
indent_in style Numbers = style.indent

-- what is in brackets, between them
abbrev pub list_tree : Style → Level → List ℕ → Tree
list_tree style lv close =
    let e = closed_end lv in
    group
    (separated (gap_before_close lv.kind e.last)
    (nest (pos (indent_in style lv.kind)) (append (counted.text lv.opening) e.tree)) (counted.text close))

-- where the text ends in it
abbrev pub unclosed_tree : Level → Tree
unclosed_tree lv = append (counted.text lv.opening) (level_end lv).tree

-- ---- statements

abbrev pub new_statement : Level
new_statement = new_level Statement []

-- a closing bracket: it closes what is innermost, or nothing
abbrev pub levels_closed : Style → Level → List Level → List ℕ → List Level
levels_closed style lv [] s = with_part new_statement s (append (closed_end lv).tree (counted.text s)) ∷ []
levels_closed style lv (outer ∷ lvs) s = with_part outer lv.opening (list_tree style lv s) ∷ lvs

-- one more lexeme of this sort in the innermost level, first or not, in front of others
abbrev pub levels_with : Style → Sort → Bool → Level → List Level → List ℕ → List (List ℕ) → List Level
levels_with style sort.open_array first lv lvs s ss = new_level (opened_kind lv.kind first sort.open_array ss) s ∷ lv ∷ lvs
levels_with style sort.open_table first lv lvs s ss = new_level (opened_kind lv.kind first sort.open_table ss) s ∷ lv ∷ lvs
levels_with style sort.close_array first lv lvs s ss = levels_closed style lv lvs s
levels_with style sort.close_table first lv lvs s ss = levels_closed style lv lvs s
levels_with style sort.comma first lv lvs s ss = level_with_comma lv ∷ lvs
levels_with style sort.comment first lv lvs s ss = with_comment lv s ∷ lvs
levels_with style k first lv lvs s ss = with_part lv s (lexeme_tree s) ∷ lvs

-- the first lexeme of a statement
abbrev pub first_levels : Style → Sort → List ℕ → List (List ℕ) → List Level
first_levels style sort.close_array s ss = with_part new_statement s (counted.text s) ∷ []
first_levels style sort.close_table s ss = with_part new_statement s (counted.text s) ∷ []
first_levels style sort.comma s ss = with_part new_statement s (counted.text s) ∷ []
first_levels style sort.comment s ss = with_part new_statement s (counted.text (trimmed s)) ∷ []
first_levels style k s ss = levels_with style k true new_statement [] s ss

-- ---- texts

-- What is read of a text.
pub record Draft : Type 0 where
  -- the lines of the statements that have ended
  pub done : Tree
  -- a statement has ended, and a blank line came after it
  pub some : Bool
  pub blank : Bool
  -- the statement that has not ended, and the brackets that are open in it, the innermost first
  pub levels : List Level

abbrev pub no_draft : Draft
no_draft = record { done = Nil; some = false; blank = false; levels = [] }

-- lines, and one more, after a blank line or not
abbrev pub lines_with : Bool → Tree → Tree → Tree
lines_with false lines statement = append lines (append statement HardLine)
lines_with true lines statement = append (append lines HardLine) (append statement HardLine)

-- where the statement has ended whose document this is
abbrev pub draft_with_statement : Draft → Tree → Draft
draft_with_statement d statement = record { done = lines_with d.blank d.done statement; some = true; blank = false; levels = [] }

-- after a line end: outside of brackets it ends the statement, or is a blank line
abbrev pub with_ended_line : Draft → List Level → Draft
with_ended_line d [] = record d { blank = d.some; levels = [] }
with_ended_line d (lv ∷ []) = draft_with_statement d (level_end lv).tree
with_ended_line d (lv ∷ outer ∷ lvs) = record d { levels = with_line_end lv ∷ outer ∷ lvs }

-- after another lexeme of this sort
abbrev pub levels_after : Style → Sort → List Level → List ℕ → List (List ℕ) → List Level
levels_after style k [] s ss = first_levels style k s ss
levels_after style k (lv ∷ lvs) s ss = levels_with style k false lv lvs s ss

-- after one more lexeme of this sort, in front of others
abbrev pub draft_with : Style → Sort → Draft → List ℕ → List (List ℕ) → Draft
draft_with style sort.line_end d s ss = with_ended_line d d.levels
draft_with style k d s ss = record d { levels = levels_after style k d.levels s ss }

-- a level with those in it for which the text has no closing bracket
abbrev pub level_with : Level → List Level → Level
level_with lv [] = lv
level_with lv (outer ∷ lvs) = level_with (with_part outer lv.opening (unclosed_tree lv)) lvs

-- where the text ends with these levels
abbrev pub ended_in : Draft → List Level → Tree
ended_in d [] = d.done
ended_in d (lv ∷ lvs) = (draft_with_statement d (level_end (level_with lv lvs)).tree).done

-- the document, where these lexemes are left
unfoldable pub document_from : Style → Draft → List (List ℕ) → Tree
document_from style d [] = ended_in d d.levels
document_from style d (s ∷ ss) = document_from style (draft_with style (sort_of s) d s ss) ss

-- the document of the lexemes of a text
abbrev pub toml_document : Style → List (List ℕ) → Tree
toml_document style ss = document_from style no_draft ss
