-- What it is for a small document to have these pieces as its trace, to show these items, and to be laid by its parts.
use Rattle.std.specs.Prelude.{◌≡◌, ℕ, ◌<◌, pos, Bool, true, false, List, [], ◌∷◌, ◌++◌, codes, filter, ⊤}
use Prim.Native.String.{String}
use Rattle.prettyless_model.specs.Options.{options_at}
use Rattle.prettyless_model.specs.Tree as t
use Rattle.prettyless_model.specs.Tree.{Tree, Nil, Append, BreakOrFlat, Group, HardLine, LineSuffix, Nest, Union, WeakSpace}
use Rattle.prettyless_model.specs.Column.{saturating_add}
use Rattle.prettyless_model.specs.Layout.{State, Outcome, Entry, Breaks, and_then, breaks, entry, lay}
use Rattle.prettyless_model.specs.declared.mode.Mode.TheVariants.{Break}
use Rattle.prettyless_model.specs.declared.options.RenderOptions.{RenderOptions}
use Rattle.prettyless_laws.specs.Parts.{IsInline, flat_bytes, flat_columns}
use Rattle.prettyless_model.specs.Rows.{IsLaidAs, accent, deferred_at, in_turn, row_line, row_text}
use Rattle.prettyless_model.specs.Shows.{Item, Shown, Mark, Late, apart, ended, loose, shows, AreShown, HasTexts}
use Rattle.prettyless_laws.specs.Trace.{Piece, Text, Complete, Partial, trace}
use Rattle.prettyless_laws.specs.Enclosed.{Enclosure, Enclosed, enclosed_trace, enclosed_pieces}

-- ---- traces

-- at this width the document's trace is these pieces, under either policy of indents
abbrev pub HasTrace : ℕ → Tree → List Piece → Type 0
HasTrace width d ps = (trace (options_at width) d ≡ Complete ps) × (trace (deferred_at width) d ≡ Complete ps)

-- at this width the document fails after these pieces, under either policy
abbrev pub FailsAfter : ℕ → Tree → List Piece → Type 0
FailsAfter width d ps = (trace (options_at width) d ≡ Partial ps) × (trace (deferred_at width) d ≡ Partial ps)

-- a text piece that is ASCII
abbrev pub text_piece : String → ℕ → Piece
text_piece s column = Text (codes s) column

-- two texts with an empty line between them
abbrev pub with_empty_line : Tree
with_empty_line = Nest (pos 2) (in_turn (row_text "aaa") (HardLine ∷ HardLine ∷ row_text "bbb" ∷ []))

-- ---- what is around the texts of a trace

-- a text piece that is ASCII, and what is around it
abbrev pub text_in : List Enclosure → String → ℕ → Enclosed
text_in around s column = record { piece = text_piece s column; around = around }

abbrev pub is_text : Piece → Bool
is_text (Text s column) = true
is_text _ = false

-- at this width the texts of the document's trace are these, with what is around them
abbrev pub HasTextsIn : ℕ → Tree → List Enclosed → Type 0
HasTextsIn width d ps = filter (λ (p : Enclosed). is_text p.piece) (enclosed_pieces (enclosed_trace (options_at width) d)) ≡ ps

-- a text with another at the end of its line, in a group
abbrev pub late_in_group : Tree
late_in_group = Group (Append (row_text "a") (LineSuffix (row_text " # c")))

-- ---- what is shown, and what is not

-- the document shows these items, and at this width it is laid out as these bytes
abbrev pub ShowsItems : ℕ → Tree → List Item → List ℕ → Type 0
ShowsItems width d items bytes = shows d items × IsLaidAs width d bytes

-- bytes that do not show these items
abbrev pub DoesNotShow : List ℕ → List Item → Type 0
DoesNotShow bytes items = AreShown bytes items → ⊥

-- a document that does not show these items
abbrev pub DoesNotHave : Tree → List Item → Type 0
DoesNotHave d items = shows d items → ⊥

-- a document that shows nothing that is known
abbrev pub ShowsNothing : Tree → Type 0
ShowsNothing d = (items : List Item) → shows d items → ⊥

-- there are no texts that the document has by each of its alternatives
abbrev pub HasNoTexts : Tree → Type 0
HasNoTexts d = (ss : List (List ℕ)) → HasTexts d ss → ⊥

-- ---- items

-- a text item that is ASCII
abbrev pub text_item : String → Item
text_item s = Shown (codes s)

-- such a text at the end of its line
abbrev pub late_item : String → Item
late_item s = Late (text_item s)

-- the texts 1 and 2, and what is between them
abbrev pub numbers_with : List Item → List Item
numbers_with between = text_item "1" ∷ (between ++ text_item "2" ∷ [])

-- a comment, a text, and what is between them
abbrev pub comment_with : List Item → List Item
comment_with between = text_item "# c" ∷ (between ++ text_item "x" ∷ [])

-- a text with a late comment, another text, and what is between them
abbrev pub late_with : Item → List Item
late_with gap = text_item "a" ∷ late_item " # c" ∷ gap ∷ text_item "b" ∷ []

-- what the list of three numbers shows
abbrev pub numbers_items : List Item
numbers_items = text_item "(" ∷ text_item "1" ∷ apart ∷ text_item "2" ∷ apart ∷ text_item "3" ∷ text_item ")" ∷ []

-- what the list of one number shows
abbrev pub one_number_items : List Item
one_number_items = text_item "(" ∷ loose ∷ text_item "1" ∷ Mark (codes ",") ∷ loose ∷ text_item ")" ∷ []

-- what two late texts on one line show
abbrev pub two_late_items : List Item
two_late_items = text_item "a" ∷ late_item " #1" ∷ text_item "b" ∷ late_item " #2" ∷ ended ∷ text_item "c" ∷ []

-- ---- documents

-- two texts with a weak space on either side of a line end
abbrev pub padded : Tree
padded = in_turn (row_text "1") (WeakSpace ∷ HardLine ∷ WeakSpace ∷ row_text "2" ∷ [])

-- two texts with spaces between them
abbrev pub widely_spaced : Tree
widely_spaced = in_turn (row_text "1") (row_text "  " ∷ row_text "2" ∷ [])

-- nothing, or the end of a line
abbrev pub tight_line : Tree
tight_line = BreakOrFlat HardLine Nil

-- a list of one number, with a comma after it where the list is broken
abbrev pub one_number : Tree
one_number = Group (in_turn (row_text "(") (tight_line ∷ row_text "1" ∷ BreakOrFlat (row_text ",") Nil ∷ tight_line ∷ row_text ")" ∷ []))

-- a text with a late comment, and a group after it
abbrev pub late_comment : Tree
late_comment = in_turn (row_text "a") (LineSuffix (row_text " # c") ∷ Group (Append row_line (row_text "b")) ∷ [])

-- a text, or another where the first does not fit
abbrev pub either_number : Tree
either_number = Union (row_text "12") (row_text "1")

-- two late texts on one line, and another line
abbrev pub two_late : Tree
two_late = in_turn (row_text "a") (LineSuffix (row_text " #1") ∷ row_text "b" ∷ LineSuffix (row_text " #2") ∷ HardLine ∷ row_text "c" ∷ [])

-- texts with a line between each two
abbrev pub lined : List ℕ → List (List ℕ) → Tree
lined s [] = t.Text s
lined s (next ∷ others) = Append (Append (t.Text s) row_line) (lined next others)

-- these texts, each of which stands apart from the next
abbrev pub lined_items : List ℕ → List (List ℕ) → List Item
lined_items s [] = Shown s ∷ []
lined_items s (next ∷ others) = Shown s ∷ apart ∷ lined_items next others

-- no text is empty
abbrev pub NoneIsEmpty : List (List ℕ) → Type 0
NoneIsEmpty [] = ⊤
NoneIsEmpty ([] ∷ others) = ⊥
NoneIsEmpty ((b ∷ bs) ∷ others) = NoneIsEmpty others

-- a group of texts with lines between them shows that they stand apart
abbrev pub LinedTextsStandApart : Type 0
LinedTextsStandApart =
    (s : List ℕ) (others : List (List ℕ)) → NoneIsEmpty (s ∷ others) → shows (Group (lined s others)) (lined_items s others)

-- ---- parts

-- on a flat line the document is this text, of so many columns
abbrev pub IsFlatText : Tree → List ℕ → ℕ → Type 0
IsFlatText d bytes columns = IsInline d × (flat_bytes d ≡ bytes) × (flat_columns d ≡ columns)

-- a letter, or nothing on a flat line, and an accent that takes no column
abbrev pub accented : Tree
accented = in_turn (BreakOrFlat (row_text "x") Nil) (t.TextWithLen 3 [] ∷ row_text "e" ∷ t.TextWithLen 0 accent ∷ [])

-- documents with a line between each two
abbrev pub lines_between : Tree → List Tree → Tree
lines_between d [] = d
lines_between d (next ∷ others) = Append (Append d row_line) (lines_between next others)

-- documents one after another, each before the end of a line, and then that end
abbrev pub lay_lines : RenderOptions → Breaks → Tree → List Tree → ℕ → List Entry → State → Outcome
lay_lines o brk d [] i rest st = lay o brk d i Break rest st
lay_lines o brk d (next ∷ others) i rest st =
    and_then (and_then (lay o brk d i Break (entry i HardLine ∷ []) st) (λ u. brk HardLine i Break (entry i next ∷ []) u))
    (λ v. lay_lines o brk next others i rest v)

-- a list that is wider than the width is laid by its members
abbrev pub WideListsAreLaidByTheirMembers : Type 0
WideListsAreLaidByTheirMembers =
    (o : RenderOptions) (n : ℕ) (d : Tree) (others : List Tree) (i : ℕ) (rest : List Entry) (st : State) → IsInline (lines_between d others)
    → o.width < saturating_add 0 (flat_columns (lines_between d others))
    → lay o (breaks o n) (Group (lines_between d others)) i Break rest st ≡ lay_lines o (breaks o n) d others i rest st

-- texts, each on a line of its own
abbrev pub on_lines : List ℕ → List (List ℕ) → List ℕ
on_lines s [] = s
on_lines s (next ∷ others) = s ++ 10 ∷ on_lines next others

-- texts that are wider than the width together have each a line of its own
abbrev pub WideTextsAreOnLines : Type 0
WideTextsAreOnLines =
    (width : ℕ) (s : List ℕ) (others : List (List ℕ)) → width < saturating_add 0 (flat_columns (lined s others))
    → IsLaidAs width (Group (lined s others)) (on_lines s others)
