-- Laws of programs: which documents have one, and that no bytes write two.
use Rattle.std.specs.Prelude.{◌≡◌, ◌<◌, ◌^◌, ℕ, List, [], ◌∷◌, ◌++◌, length, true, ⊤}
use Rattle.std.specs.Str.{IsUtf8}
use Rattle.prettyless_trees.specs.Breaks.{holds_break}
use Rattle.prettyless_model.specs.Tree as tree
use Rattle.prettyless_model.specs.Tree.{Tree}
use Rattle.prettyless_program.specs.declared.instruction.Leaf.TheVariants as leaf
use Rattle.prettyless_program.specs.declared.instruction.Words.TheVariants as words
use Rattle.prettyless_program.specs.Instructions.{Instruction, Put, Write, Count, Wrap, Both}
use Rattle.prettyless_program.specs.Programs.{PairFits, SingleFits, WritesDocument, encoded}

-- bytes write at most one document
abbrev pub WriteAtMostOne : Type 0
WriteAtMostOne = (bytes : List ℕ) (d e : Tree) → WritesDocument bytes d → WritesDocument bytes e → d ≡ e

-- the instructions of a document: those of the documents below a node, and then its own
abbrev pub instructions_of : Tree → List Instruction
instructions_of tree.Nil = Put leaf.Nil ∷ []
instructions_of tree.Fail = Put leaf.Fail ∷ []
instructions_of tree.WeakSpace = Put leaf.WeakSpace ∷ []
instructions_of tree.HardLine = Put leaf.HardLine ∷ []
instructions_of tree.WeakLine = Put leaf.WeakLine ∷ []
instructions_of tree.ExpandParent = Put leaf.ExpandParent ∷ []
instructions_of (tree.Text s) = Write words.Ascii s ∷ []
instructions_of (tree.TextWithLen n s) = Count n s ∷ []
instructions_of (tree.MultilineText s) = Write words.Multiline s ∷ []
instructions_of (tree.One kind d) = instructions_of d ++ Wrap kind ∷ []
instructions_of (tree.Two kind l r) = instructions_of l ++ (instructions_of r ++ Both kind ∷ [])

-- the program of a document
abbrev pub encode : Tree → List ℕ
encode d = encoded (instructions_of d)

-- a text that a program can hold: UTF-8, below 4 GiB
abbrev pub IsSendable : List ℕ → Type 0
IsSendable s = (length s < 2 ^ 32) × IsUtf8 s

-- Its numbers are values of their types, its payloads hold LF or CR, and its texts are UTF-8, each below 4 GiB. All but
-- that length holds of each document in memory.
abbrev pub IsProper : Tree → Type 0
IsProper (tree.Text s) = IsSendable s
IsProper (tree.TextWithLen n s) = (n < 2 ^ 64) × IsSendable s
IsProper (tree.MultilineText s) = IsSendable s × (holds_break s ≡ true)
IsProper (tree.One kind d) = SingleFits kind × IsProper d
IsProper (tree.Two kind l r) = PairFits kind × IsProper l × IsProper r
IsProper d = ⊤

-- each document has a program
abbrev pub EachHasAProgram : Type 0
EachHasAProgram = (d : Tree) → IsProper d → WritesDocument (encode d) d
