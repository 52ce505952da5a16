-- Small documents, and what it is for one to be laid out as bytes.
use Rattle.std.specs.Prelude.{◌≡◌, ℕ, pos, List, [], ◌∷◌, codes}
use Prim.Native.String.{String}
use Rattle.prettyless_model.specs.Options.{options_at}
use Rattle.prettyless_model.specs.declared.options.RenderOptions.{RenderOptions}
use Rattle.prettyless_model.specs.declared.options.LineEnding.TheVariants.{Lf, Crlf}
use Rattle.prettyless_model.specs.declared.options.IndentationPolicy.TheVariants.{Eager, Deferred}
use Rattle.prettyless_model.specs.declared.choice.ColumnTest.{ColumnTest}
use Rattle.prettyless_model.specs.declared.choice.ColumnTest.TheVariants as by_column
use Rattle.prettyless_model.specs.declared.choice.NestingTest.TheVariants as by_nesting
use Rattle.prettyless_model.specs.Tree.{Tree, Nil, Fail, Text, WeakSpace, HardLine, Append, LineSuffix, Nest, Align, BreakOrFlat, Group}
use Rattle.prettyless_model.specs.Tree.{Union, OnColumn, OnNesting}
use Rattle.prettyless_model.specs.Layout.{layout, Whole, Cut}
use Rattle.prettyless_model.specs.Counts.{laid_nodes, laid_probes}

-- at this width the document is laid out as these bytes
abbrev pub IsLaidAs : ℕ → Tree → List ℕ → Type 0
IsLaidAs width d bytes = layout (options_at width) d ≡ Whole bytes

-- at this width the document fails after these bytes
abbrev pub Fails : ℕ → Tree → List ℕ → Type 0
Fails width d bytes = layout (options_at width) d ≡ Cut bytes

-- at this width so many nodes are laid, and so many probes needed
abbrev pub Counts : ℕ → Tree → ℕ → ℕ → Type 0
Counts width d nodes probes = (laid_nodes (options_at width) d ≡ nodes) × (laid_probes (options_at width) d ≡ probes)

-- this width, LF, indents with the first content
abbrev pub deferred_at : ℕ → RenderOptions
deferred_at width = record { width = width; line_ending = Lf; indentation_policy = Deferred }

-- this width, CR LF, indents at once
abbrev pub crlf_at : ℕ → RenderOptions
crlf_at width = record { width = width; line_ending = Crlf; indentation_policy = Eager }

-- a text that is ASCII
abbrev pub row_text : String → Tree
row_text s = Text (codes s)

-- documents one after another
abbrev pub in_turn : Tree → List Tree → Tree
in_turn d [] = d
in_turn d (e ∷ es) = in_turn (Append d e) es

-- a space, or the end of a line
abbrev pub row_line : Tree
row_line = BreakOrFlat HardLine (row_text " ")

-- two texts on lines of their own, each with a comment
abbrev pub commented_rows : Tree
commented_rows = in_turn (row_text "a") (LineSuffix (row_text " // 1") ∷ HardLine ∷ LineSuffix (row_text " // 2") ∷ row_text "b" ∷ [])

-- the list of three numbers of an S-expression
abbrev pub numbers : Tree
numbers = in_turn (row_text "(") (Group (Nest (pos 1) (in_turn (row_text "1") (row_line ∷ row_text "2" ∷ row_line ∷ row_text "3" ∷ [])))
    ∷ row_text ")" ∷ [])

-- two words and a line between them, in a group
abbrev pub pair : String → String → Tree
pair a b = Group (in_turn (row_text a) (row_line ∷ row_text b ∷ []))

-- the same with a line that is nothing when flat
abbrev pub tight_pair : String → String → Tree
tight_pair a b = Group (in_turn (row_text a) (BreakOrFlat HardLine Nil ∷ row_text b ∷ []))

-- a line end, and a letter
abbrev pub below : Tree
below = Append HardLine (row_text "x")

-- an accent that takes no column
abbrev pub accent : List ℕ
accent = 0xCC ∷ 0x81 ∷ []

-- a letter, and a text for the end of its line after a weak space
abbrev pub noted : Tree
noted = in_turn (row_text "a") (WeakSpace ∷ LineSuffix (row_text "//") ∷ [])

-- two words on two lines
abbrev pub two_lines : String → String → Tree
two_lines a b = in_turn (row_text a) (HardLine ∷ row_text b ∷ [])

-- words on one line or on two, with a union after them
abbrev pub tail : Tree
tail = in_turn (row_text "aa") (Group (Append row_line (row_text "bb")) ∷ Union Nil (row_text "cccccccc") ∷ [])

-- a group that fails where it is broken
abbrev pub flat_or_failed : Tree
flat_or_failed = Group (Append (BreakOrFlat Fail Nil) (row_text "12345"))

-- a document after a space, or two columns in on the next line
abbrev pub hung : Tree → Tree
hung d = Append (Group row_line) (OnColumn by_column.IsNesting (Nest (pos 2) (Append (row_text "  ") d)) d)

-- a name, and a function that hangs from it
abbrev pub binding : Tree
binding =
    Group (Append (Group (in_turn (row_text "let") (row_line ∷ row_text "x" ∷ row_line ∷ row_text "=" ∷ [])))
    (hung (Append (row_text "\\y ->") (Group (Nest (pos 2) (Append row_line (row_text "y")))))))

-- one of two letters, by a test of the column
abbrev pub letter : ColumnTest → String → String → Tree
letter test a b = OnColumn test (row_text a) (row_text b)

-- letters that are aligned after two others, of which one asks for an indent of 2
abbrev pub after_two : Tree
after_two =
    Group (Append (row_text "ab") (Align (in_turn (OnNesting (by_nesting.AtLeast 2) (row_text "c") Fail) (row_line ∷ row_text "d" ∷ []))))

-- two letters, and between them a failure where the column is the indent
abbrev pub not_at_indent : Tree
not_at_indent = in_turn (row_text "a") (OnColumn by_column.IsNesting Fail Nil ∷ row_text "b" ∷ [])

-- the first letter at the beginning of a line that is indented
abbrev pub at_indent : Tree
at_indent = Nest (pos 2) (Append HardLine (letter by_column.IsNesting "x" "y"))

-- a letter by the column in a group
abbrev pub letter_in_group : Tree
letter_in_group = Group (in_turn (letter (by_column.AtMost 0) "a" "b") (row_line ∷ row_text "c" ∷ []))
