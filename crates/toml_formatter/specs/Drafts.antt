-- How the code's lines and documents stand to what the definition reads (Documents).
use Rattle.std.specs.Prelude.{◌≡◌, ℕ, Bool, true, false, List, [], ◌∷◌, ⊤}
use Rattle.prettyless_model.specs.Tree.{Tree}
use Rattle.prettyless_pointers.specs.Trees.{ref_tree}
use Rattle.toml_grammar.specs.Sorts.{sort_of}
use Rattle.toml_documents.specs.Documents.{End, Level, Draft, end_after_comma, after_comments, is_some, part_end, comments_tree}
use Rattle.toml_documents.specs.Documents.{levels_with, with_part, draft_with_statement, document_from}
use Rattle.toml_documents.specs.declared.kind.Kind.{Kind}
use Rattle.toml_documents.specs.declared.kind.Kind.TheVariants.{Statement}
use Rattle.toml_formatter.specs.declared.line.Line.{Line}
use Rattle.toml_documents.specs.declared.style.Style.{Style}

-- ---- lines

-- the document of a line, without what waits
abbrev pub line_end : Line → End
line_end line = record { tree = ref_tree line.doc; last = line.last }

-- the same with what waits
abbrev pub settled_end : Line → End
settled_end line = after_comments line.is_commented (ref_tree line.comments) (end_after_comma line.comma (line_end line))

-- The line is at this level: what waits in it is the comma and the comments of the level's last entry.
pub record Stands (lv : Level) (line : Line) : Type 0 where
  pub end : line_end line ≡ part_end lv
  pub comma : line.comma ≡ lv.entry.comma
  pub commented : line.is_commented ≡ is_some lv.entry.comments
  pub comments : line.is_commented ≡ true → ref_tree line.comments ≡ comments_tree lv.kind line.last lv.entry.comments
  pub broken : line.broken ≡ lv.broken
  pub blank : line.blank ≡ lv.blank

-- ---- lexemes that were taken

-- other levels are around one in brackets, and none around a statement
abbrev pub AreAround : Bool → List Level → Type 0
AreAround true [] = ⊥
AreAround true (lv ∷ lvs) = ⊤
AreAround false [] = ⊤
AreAround false (lv ∷ lvs) = ⊥

-- the document of the text is that where a part of this document was taken, which begins with the lexeme s
abbrev pub ReadsPart : Style → Kind → Bool → List ℕ → List (List ℕ) → List (List ℕ) → Tree → Type 0
ReadsPart style around first s old new tree =
    (d : Draft) (lv : Level) (lvs : List Level) → lv.kind ≡ around
    → document_from style (record d { levels = levels_with style (sort_of s) first lv lvs s old }) old
    ≡ document_from style (record d { levels = with_part lv s tree ∷ lvs }) new

-- the same where the level goes on to one at which the line is
pub record ReadsOn (style : Style) (nested : Bool) (lv : Level) (old new : List (List ℕ)) (line : Line) : Type 0 where
  pub level : Level
  pub kind : level.kind ≡ lv.kind
  pub opening : nested ≡ true → level.opening ≡ lv.opening
  pub stands : Stands level line
  pub same : (d : Draft) (lvs : List Level) → AreAround nested lvs
      → document_from style (record d { levels = lv ∷ lvs }) old ≡ document_from style (record d { levels = level ∷ lvs }) new

-- the same where a statement begins
pub record ReadsFirst (style : Style) (old new : List (List ℕ)) (line : Line) : Type 0 where
  pub level : Level
  pub kind : level.kind ≡ Statement
  pub stands : Stands level line
  pub same : (d : Draft)
      → document_from style (record d { levels = [] }) old ≡ document_from style (record d { levels = level ∷ [] }) new

-- the same where a statement was taken, with its line end
abbrev pub ReadsStatement : Style → List (List ℕ) → List (List ℕ) → Tree → Type 0
ReadsStatement style old new tree =
    (d : Draft) → document_from style (record d { levels = [] }) old ≡ document_from style (draft_with_statement d tree) new
