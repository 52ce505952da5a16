-- Programs: bytes that write a document, one instruction for each node, after those of the documents below it.
use Rattle.std.specs.Prelude.{◌≡◌, ◌<◌, ◌^◌, ℕ, List, [], ◌∷◌, ◌++◌, length, Bool, true, false, Option, Some, None, ⊤, FitsSigned}
use Rattle.std.specs.Prelude.{if◌then◌else◌}
use Rattle.std.specs.Int.{w32, w64, to_le_bytes, cast_unsigned}
use Rattle.std.specs.List.{AllByRecursion}
use Rattle.std.specs.Str.{IsUtf8}
use Rattle.prettyless_trees.specs.Counted as to
use Rattle.prettyless_trees.specs.Lines.{line, line_}
use Rattle.prettyless_model.specs.declared.choice.ColumnTest.TheVariants as by_column
use Rattle.prettyless_model.specs.declared.choice.NestingTest.TheVariants as by_nesting
use Rattle.prettyless_model.specs.declared.choice.ChoiceTest.TheVariants as ask
use Rattle.prettyless_model.specs.declared.kind.Indenting.TheVariants as by
use Rattle.prettyless_model.specs.declared.kind.Single.{Single}
use Rattle.prettyless_model.specs.declared.kind.Single.TheVariants as one
use Rattle.prettyless_model.specs.declared.kind.Pair.{Pair}
use Rattle.prettyless_model.specs.declared.kind.Pair.TheVariants as two
use Rattle.prettyless_model.specs.Tree as tree
use Rattle.prettyless_model.specs.Tree.{Tree, One, Two}
use Rattle.prettyless_program.specs.declared.instruction.Leaf.{Leaf}
use Rattle.prettyless_program.specs.declared.instruction.Leaf.TheVariants as leaf
use Rattle.prettyless_program.specs.declared.instruction.Words.{Words}
use Rattle.prettyless_program.specs.declared.instruction.Words.TheVariants as words
use Rattle.prettyless_program.specs.Codes.{code_of}
use Rattle.prettyless_program.specs.Instructions.{Instruction, Put, Write, Count, Wrap, WrapNest, Both, BothOnColumn, BothOnNesting, Open, Close}

-- ---- bytes

-- a number in eight bytes, the lowest first
abbrev pub number : ℕ → List ℕ
number n = to_le_bytes w64 n

-- a text after its length in four bytes, the lowest first
abbrev pub sized : List ℕ → List ℕ
sized s = to_le_bytes w32 (length s) ++ s

-- what comes after the code
abbrev pub operands : Instruction → List ℕ
operands (Write w s) = sized s
operands (Count n s) = number n ++ sized s
operands (WrapNest k) = number (cast_unsigned w64 k)
operands (BothOnColumn (by_column.AtMost n)) = number n
operands (BothOnColumn (by_column.AtLeast n)) = number n
operands (BothOnNesting (by_nesting.AtMost n)) = number n
operands (BothOnNesting (by_nesting.AtLeast n)) = number n
operands i = []

-- the bytes of an instruction
abbrev pub written : Instruction → List ℕ
written i = code_of i ∷ operands i

-- the bytes of instructions, one after the other
abbrev pub encoded : List Instruction → List ℕ
encoded [] = []
encoded (i ∷ is) = written i ++ encoded is

-- the number of a kind fits its bytes, if it has one
abbrev pub SingleFits : Single → Type 0
SingleFits (one.Indented (by.Nest k)) = FitsSigned w64 k
SingleFits kind = ⊤

abbrev pub PairFits : Pair → Type 0
PairFits (two.Chosen (ask.OnColumn (by_column.AtMost n))) = n < 2 ^ 64
PairFits (two.Chosen (ask.OnColumn (by_column.AtLeast n))) = n < 2 ^ 64
PairFits (two.Chosen (ask.OnNesting (by_nesting.AtMost n))) = n < 2 ^ 64
PairFits (two.Chosen (ask.OnNesting (by_nesting.AtLeast n))) = n < 2 ^ 64
PairFits kind = ⊤

-- its numbers fit their bytes
abbrev pub Fits : Instruction → Type 0
Fits (Write w s) = length s < 2 ^ 32
Fits (Count n s) = (n < 2 ^ 64) × (length s < 2 ^ 32)
Fits (Wrap kind) = SingleFits kind
Fits (Both kind) = PairFits kind
Fits i = ⊤

-- its text is UTF-8, if it has one
abbrev pub IsText : Instruction → Type 0
IsText (Write w s) = IsUtf8 s
IsText (Count n s) = IsUtf8 s
IsText i = ⊤

-- a program may have it
abbrev pub IsWritable : Instruction → Type 0
IsWritable i = Fits i × IsText i

-- ---- documents

-- the document that a leaf stands for
abbrev pub leaf_document : Leaf → Tree
leaf_document leaf.Nil = tree.Nil
leaf_document leaf.Fail = tree.Fail
leaf_document leaf.WeakSpace = tree.WeakSpace
leaf_document leaf.HardLine = tree.HardLine
leaf_document leaf.WeakLine = tree.WeakLine
leaf_document leaf.ExpandParent = tree.ExpandParent
leaf_document leaf.Line = line
leaf_document leaf.LineOrNil = line_

-- the document of a text, by how it is counted
abbrev pub text_tree : Words → List ℕ → Tree
text_tree words.Measured s = to.text s
text_tree words.Ascii s = tree.Text s
text_tree words.Multiline s = to.multiline_text s

-- ---- what instructions make

-- a document, or where a sequence was opened
pub data CodeItem : Type 0 where
  Document : Tree → CodeItem
  Opened : CodeItem

-- the documents of the last sequence as one; whether it was opened; and the items before that
pub record Gathered : Type 0 where
  pub tree : Tree
  pub opened : Bool
  pub rest : List CodeItem

-- documents in front of others that are one already, the last of them first
abbrev pub gathered_onto : Tree → List CodeItem → Gathered
gathered_onto all [] = record { tree = all; opened = false; rest = [] }
gathered_onto all (Document d ∷ items) = gathered_onto (tree.Append d all) items
gathered_onto all (Opened ∷ items) = record { tree = all; opened = true; rest = items }

-- the documents of the last sequence as one, of items of which the last is first
abbrev pub gathered : List CodeItem → Gathered
gathered [] = record { tree = tree.Nil; opened = false; rest = [] }
gathered (Document d ∷ items) = gathered_onto d items
gathered (Opened ∷ items) = record { tree = tree.Nil; opened = true; rest = items }

-- with one document more
abbrev pub put : Tree → List CodeItem → Option (List CodeItem)
put d items = Some (Document d ∷ items)

-- with a node over the last document in its place
abbrev pub over : (Tree → Tree) → List CodeItem → Option (List CodeItem)
over node (Document d ∷ items) = put (node d) items
over node items = None

-- with a node over the last two documents in their place
abbrev pub over_two : (Tree → Tree → Tree) → List CodeItem → Option (List CodeItem)
over_two node (Document r ∷ (Document l ∷ items)) = put (node l r) items
over_two node items = None

-- with a sequence that was opened as one document
abbrev pub closed : Gathered → Option (List CodeItem)
closed g = if g.opened then put g.tree g.rest else None

-- what an instruction makes of the items, if it can
abbrev pub item_step : Instruction → List CodeItem → Option (List CodeItem)
item_step (Put l) items = put (leaf_document l) items
item_step (Write w s) items = put (text_tree w s) items
item_step (Count n s) items = put (tree.TextWithLen n s) items
item_step (Wrap kind) items = over (One kind) items
item_step (Both kind) items = over_two (Two kind) items
item_step Open items = Some (Opened ∷ items)
item_step Close items = closed (gathered items)

-- one after the other
abbrev pub then_made : {A B : Type 0} → Option A → (A → Option B) → Option B
then_made None next = None
then_made (Some x) next = next x

-- what instructions make of the items, if all of them can
abbrev pub run : List Instruction → List CodeItem → Option (List CodeItem)
run [] items = Some items
run (i ∷ is) items = then_made (item_step i items) (run is)

-- the document of what was gathered at the end, where no sequence is open
abbrev pub gathered_document : Gathered → Option Tree
gathered_document g = if g.opened then None else Some g.tree

-- the one document of all items
abbrev pub whole : List CodeItem → Option Tree
whole items = gathered_document (gathered items)

-- the bytes write this document
pub record WritesDocument (program : List ℕ) (d : Tree) : Type 0 where
  pub instructions : List Instruction
  pub writable : AllByRecursion IsWritable instructions
  pub bytes : program ≡ encoded instructions
  pub document : then_made (run instructions []) whole ≡ Some d
