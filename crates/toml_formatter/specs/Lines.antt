-- What a document of lexemes is read as, while the lexemes are taken.
use Rattle.std.specs.Prelude.{◌≡◌, ◌⊎◌, ℕ, Bool, true, false, List, [], ◌∷◌, ◌++◌, ⊤}
use Rattle.prettyless_model.specs.Tree.{Tree}
use Rattle.prettyless_pointers.specs.Trees.{ref_tree}
use Rattle.prettyless_pointers.specs.declared.arena.RefDoc.{RefDoc}
use Rattle.prettyless_model.specs.Shows.{Item, Shown, shows, after_text, after_line}
use Rattle.toml_lexemes.specs.Bytes.{comma, head, line_feed}
use Rattle.toml_lexemes.specs.Statements.{a_comment, role, Collected, none_collected, line_ended, with_lexeme, with_lexemes, statements_of}
use Rattle.toml_lexemes.specs.Statements.{statements}
use Rattle.toml_lexemes.specs.Shown.{Stage, first_stage, IsInside, IsReady, AreRead, collected_at, least_between}
use Rattle.toml_documents.specs.Gaps.{least_needed, is_last_comment}
use Rattle.toml_lexemes.specs.Sound.{LineEndsNext}
use Rattle.toml_documents.specs.declared.kind.Last.{Last}
use Rattle.toml_documents.specs.declared.kind.Last.TheVariants.{Start, Close, Equals, Word, Dot, String, Comma, Comment}
use Rattle.toml_formatter.specs.declared.line.Line.{Line}

-- directly after a text
abbrev pub directly_after : Collected → List ℕ → Stage
directly_after c t = record { collected = c; last = t; place = after_text; marked = false }

-- what is collected before the next text
abbrev pub before_next : Stage → Collected
before_next a = collected_at a.place a.collected

-- a bracket is open, where this says so
abbrev pub IsNested : Bool → Collected → Type 0
IsNested true c = IsInside c.depth
IsNested false c = ⊤

-- nothing waits for what comes next
abbrev pub HoldsNothing : Collected → Type 0
HoldsNothing c = (c.comma ≡ false) × (c.comments ≡ [])

-- nothing waits, unless a comma or a comment is last
abbrev pub HoldsNothingAfter : Last → Collected → Type 0
HoldsNothingAfter Start c = HoldsNothing c
HoldsNothingAfter Close c = HoldsNothing c
HoldsNothingAfter Equals c = HoldsNothing c
HoldsNothingAfter Word c = HoldsNothing c
HoldsNothingAfter Dot c = HoldsNothing c
HoldsNothingAfter String c = HoldsNothing c
HoldsNothingAfter Comma c = ⊤
HoldsNothingAfter Comment c = ⊤

-- the text needs this between it and a next one
abbrev pub EndsAs : Last → List ℕ → Type 0
EndsAs last t = (u : List ℕ) → least_between t u ≡ least_needed last (head u)

-- what was collected last ends so
pub record EndsCollected (nested : Bool) (last : Last) (c : Collected) (t : List ℕ) : Type 0 where
  pub needs : EndsAs last t
  pub plain : HoldsNothingAfter last c
  pub inside : IsNested nested c

-- ---- values

-- what a value's items are read as after its first lexeme; where the text ends in the value, no more is said
pub record ValueRead (last : Last) (s : List ℕ) (left taken : List (List ℕ)) (items : List Item) (c : Collected) : Type 0 where
  pub collected : Collected
  pub text : List ℕ
  pub read : AreRead (directly_after (with_lexeme c s) s) items (directly_after collected text)
  pub same : collected ≡ with_lexemes c (s ∷ taken)
  pub ends : (left ≡ []) ⊎ (EndsCollected false last collected text × (collected.depth ≡ c.depth))

-- The document shows a lexeme and those that were taken after it.
pub record IsValue (last : Last) (s : List ℕ) (left taken : List (List ℕ)) (d : Tree) : Type 0 where
  pub items : List Item
  pub shown : shows d (Shown s ∷ items)
  pub read : (c : Collected) → ValueRead last s left taken items c

-- a value was taken from the front of these
abbrev pub TakesValue : Last → List ℕ → List (List ℕ) → List (List ℕ) → Tree → Type 0
TakesValue last s old new d = (taken : List (List ℕ)) × (old ≡ taken ++ new) × IsValue last s new taken d

-- ---- lines

-- where a line begins: after a bracket, or where any text may stand
abbrev pub BeginsLine : Bool → Stage → Type 0
BeginsLine true a = (c : Collected) × (t : List ℕ) × (a ≡ directly_after c t) × EndsCollected true Start c t
BeginsLine false a = IsReady a

-- what waits: a comma, and comments
abbrev pub waiting : Bool → List (List ℕ) → List (List ℕ)
waiting false rs = rs
waiting true rs = (comma ∷ []) ∷ rs

-- each is a comment
abbrev pub AreComments : List (List ℕ) → Type 0
AreComments [] = ⊤
AreComments (s ∷ ss) = (role s ≡ a_comment) × AreComments ss

-- items that are read as comments, after what ends so or after a comma
abbrev pub ReadsComments : Bool → Last → List (List ℕ) → List Item → Type 0
ReadsComments nested last rs items =
    (c : Collected) (t : List ℕ) → EndsAs last t ⊎ EndsAs Comma t → IsNested nested c
    → (u : List ℕ) × AreRead (directly_after c t) items (directly_after (with_lexemes c rs) u) × EndsAs Comment u

-- comments wait, where this says so
abbrev pub WaitingComments : Bool → Bool → Last → List (List ℕ) → List Item → Type 0
WaitingComments false nested last rs items = rs ≡ []
WaitingComments true nested last rs items = AreComments rs × ReadsComments nested last rs items

-- nothing of the text is left, and nothing waits
abbrev pub IsOver : Line → List (List ℕ) → Type 0
IsOver line left = (left ≡ []) × (line.comma ≡ false) × (line.is_commented ≡ false)

-- the same is collected, where this says so but for a comma that waits
abbrev pub Agrees : Bool → Collected → Collected → Type 0
Agrees true c d = c ≡ d
Agrees false c d = record c { comma = false } ≡ record d { comma = false }

-- what a line's items are read as from a stage on; exactly, or but for a comma
pub record LineRead (nested exact : Bool) (line : Line) (left taken : List (List ℕ))
    (items : List Item) (rs : List (List ℕ)) (a : Stage) : Type 0 where
  pub collected : Collected
  pub text : List ℕ
  pub read : AreRead a items (directly_after collected text)
  pub same : Agrees exact (with_lexemes (before_next a) taken) (with_lexemes collected (waiting line.comma rs))
  pub ends : IsOver line left ⊎ EndsCollected nested line.last collected text
  pub level : IsOver line left ⊎ (nested ≡ true → collected.depth ≡ (before_next a).depth)

-- The line shows the lexemes that were taken, but for those that wait.
pub record ShowsTaken (nested exact : Bool) (line : Line) (left taken : List (List ℕ)) : Type 0 where
  pub items : List Item
  pub comment_items : List Item
  pub rs : List (List ℕ)
  pub shown : shows (ref_tree line.doc) items
  pub comments_shown : shows (ref_tree line.comments) comment_items
  pub comments : WaitingComments line.is_commented nested line.last rs comment_items
  pub read : (a : Stage) → BeginsLine nested a → LineRead nested exact line left taken items rs a

-- outside of brackets nothing may come after a comment on its line
abbrev pub TakesMore : Bool → Line → Type 0
TakesMore true line = ⊤
TakesMore false line = (line.is_commented ≡ false) × (is_last_comment line.last ≡ false)

-- a statement goes on where it may, or a line ends
abbrev pub MayGoOn : Line → List (List ℕ) → Type 0
MayGoOn line left = TakesMore false line ⊎ ((line.comma ≡ true → is_last_comment line.last ≡ false) × LineEndsNext left)

-- a document that ends so, with nothing that waits
abbrev pub begun : RefDoc → Last → Line
begun doc last =
    record { doc = doc; last = last; comma = false; is_commented = false; comments = doc; broken = false; blank = false }

-- ---- the end of a list

-- what it is read as
pub record ClosedRead (nested : Bool) (line : Line) (x : List ℕ) (taken : List (List ℕ)) (items : List Item) (a : Stage) : Type 0 where
  pub collected : Collected
  pub text : List ℕ
  pub marked : Bool
  pub read : AreRead a items (record { collected = collected; last = text; place = after_text; marked = marked })
  pub same : with_lexemes (before_next a) (taken ++ x ∷ []) ≡ with_lexeme collected x
  pub needs : EndsAs line.last text
  pub inside : IsNested nested collected
  pub level : nested ≡ true → collected.depth ≡ (before_next a).depth

-- the line before this closing bracket, where nothing waits, but the comma may be an optional text
pub record IsClosed (nested : Bool) (line : Line) (x : List ℕ) (taken : List (List ℕ)) : Type 0 where
  pub items : List Item
  pub shown : shows (ref_tree line.doc) items
  pub read : (a : Stage) → BeginsLine nested a → ClosedRead nested line x taken items a

-- lines of lexemes that were taken from the front of these
abbrev pub TakesLine : Line → List (List ℕ) → List (List ℕ) → Type 0
TakesLine line old new = (taken : List (List ℕ)) × (old ≡ taken ++ new) × ShowsTaken true true line new taken

-- ---- statements

-- what a statement's items are read as, where any text may stand
pub record StatementRead (taken : List (List ℕ)) (items : List Item) (a : Stage) : Type 0 where
  pub collected : Collected
  pub text : List ℕ
  pub read : AreRead a items (directly_after collected text)
  pub same : with_lexemes (before_next a) taken ≡ collected

-- the document shows the lexemes of a statement
pub record IsStatement (taken : List (List ℕ)) (d : Tree) : Type 0 where
  pub items : List Item
  pub shown : shows d items
  pub read : (a : Stage) → IsReady a → StatementRead taken items a

-- a statement was taken from the front of these, and the line end after it, or all
abbrev pub TakesStatement : List (List ℕ) → List (List ℕ) → Tree → Type 0
TakesStatement old new d =
    (taken : List (List ℕ)) × IsStatement taken d
    × ((old ≡ taken ++ (line_feed ∷ []) ∷ new) ⊎ ((old ≡ taken) × (new ≡ [])))

-- ---- documents

-- after a text whose line has ended
abbrev pub after_line_of : Collected → List ℕ → Stage
after_line_of c t = record { collected = c; last = t; place = after_line; marked = false }

-- nothing was shown, or a line has just ended
abbrev pub IsAtLine : Stage → Type 0
IsAtLine b = (b ≡ first_stage) ⊎ ((k : Collected) × (t : List ℕ) × (b ≡ after_line_of k t))

-- what a document's items are read as; at the end of the text a line end more may be shown
pub record DocumentRead (taken left : List (List ℕ)) (items : List Item) : Type 0 where
  pub stage : Stage
  pub read : AreRead first_stage items stage
  pub at_line : IsAtLine stage
  pub same : (before_next stage ≡ with_lexemes none_collected taken)
      ⊎ ((left ≡ []) × (before_next stage ≡ line_ended (with_lexemes none_collected taken)))

-- the document shows the lexemes that were taken
pub record IsDocument (left taken : List (List ℕ)) (d : Tree) : Type 0 where
  pub items : List Item
  pub shown : shows d items
  pub read : DocumentRead taken left items

-- the document shows all statements of the text
pub record HasStatements (text : List ℕ) (d : Tree) : Type 0 where
  pub items : List Item
  pub shown : shows d items
  pub stage : Stage
  pub read : AreRead first_stage items stage
  pub unmarked : stage.marked ≡ false
  pub same : statements_of stage.collected ≡ statements text
