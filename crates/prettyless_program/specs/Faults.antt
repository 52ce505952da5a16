-- Bytes that write no document, and how each kind of fault shows that.
use Rattle.std.specs.Prelude.{◌≡◌, ◌<◌, ◌⊎◌, ◌^◌, ℕ, List, [], ◌∷◌, ◌++◌, length, Some, None, ⊤}
use Rattle.std.specs.Int.{w32, to_le_bytes}
use Rattle.std.specs.List.{AllByRecursion}
use Rattle.std.specs.Str.{IsUtf8}
use Rattle.prettyless_model.specs.Tree.{Tree}
use Rattle.prettyless_program.specs.Codes.{code_of}
use Rattle.prettyless_program.specs.Programs as programs
use Rattle.prettyless_program.specs.Instructions.{Instruction, Write, Count, Close}
use Rattle.prettyless_program.specs.Programs.{CodeItem, WritesDocument, Fits, IsText, IsWritable, number, sized, operands, written}
use Rattle.prettyless_program.specs.Programs.{encoded, run, item_step, whole}
use Rattle.prettyless_program.specs.declared.fault.ProgramFault.{ProgramFault}
use Rattle.prettyless_program.specs.declared.fault.ProgramFault.TheVariants.{Memory, Instruction as NoInstruction, Operand, Text, Document}
use Rattle.prettyless_program.specs.declared.fault.ProgramFault.TheVariants.{Unopened, Unclosed}

-- a text is cut off: the bytes end in its length, or before so many bytes
abbrev pub IsTextCutOff : List ℕ → Type 0
IsTextCutOff bytes = (length bytes < 4)
    ⊎ ((n : ℕ) × (rest : List ℕ) × (n < 2 ^ 32) × (bytes ≡ to_le_bytes w32 n ++ rest) × (length rest < n))

-- no text comes next: it is cut off, or it is not UTF-8
abbrev pub IsTextFault : ProgramFault → List ℕ → Type 0
IsTextFault Operand bytes = IsTextCutOff bytes
IsTextFault Text bytes = (s : List ℕ) × (rest : List ℕ) × (bytes ≡ sized s ++ rest) × (length s < 2 ^ 32) × ¬ IsUtf8 s
IsTextFault fault bytes = ⊥

-- the operands of an instruction with this one's code are cut off: the bytes end in them
abbrev pub IsCutOff : Instruction → List ℕ → Type 0
IsCutOff (Write w s) bytes = IsTextCutOff bytes
IsCutOff (Count n s) bytes = (length bytes < 8)
    ⊎ ((m : ℕ) × (rest : List ℕ) × (m < 2 ^ 64) × (bytes ≡ number m ++ rest) × IsTextCutOff rest)
IsCutOff i bytes = length bytes < length (operands i)

-- the last sequence has no document
abbrev pub HasNoDocument : List CodeItem → Type 0
HasNoDocument items = (d : Tree) (rest : List CodeItem) → ¬ (items ≡ programs.Document d ∷ rest)

-- an instruction comes next that a program may have, and can't be followed
abbrev pub IsStuck : Instruction → List ℕ → List CodeItem → Type 0
IsStuck i bytes items = IsWritable i × ((rest : List ℕ) × (bytes ≡ written i ++ rest)) × (item_step i items ≡ None)

-- What each fault says of the bytes that are left, and of the items that were made before them.
abbrev pub Stops : ProgramFault → List ℕ → List CodeItem → Type 0
Stops Memory bytes items = ⊤
-- the next byte is the code of no instruction
Stops NoInstruction bytes items = (code : ℕ) × (rest : List ℕ) × (bytes ≡ code ∷ rest) × ((i : Instruction) → ¬ (code ≡ code_of i))
-- the next byte is the code of an instruction, and its operands are cut off
Stops Operand bytes items = (i : Instruction) × (rest : List ℕ) × (bytes ≡ code_of i ∷ rest) × IsCutOff i rest
-- the text of the next instruction is not UTF-8
Stops Text bytes items = (i : Instruction) × (rest : List ℕ) × (bytes ≡ written i ++ rest) × Fits i × ¬ IsText i
-- the next instruction takes more documents than the last sequence has
Stops Document bytes items = (i : Instruction) × ¬ (i ≡ Close) × IsStuck i bytes items
-- a sequence is closed that was not opened
Stops Unopened bytes items = IsStuck Close bytes items
-- the bytes are at their end, and a sequence is open
Stops Unclosed bytes items = (bytes ≡ []) × (whole items ≡ None)

-- instructions that were followed from the first byte on, the items that they made, and the bytes that are left
pub record Reaches (program rest : List ℕ) (items : List CodeItem) : Type 0 where
  pub instructions : List Instruction
  pub writable : AllByRecursion IsWritable instructions
  pub bytes : program ≡ encoded instructions ++ rest
  pub made : run instructions [] ≡ Some items

-- the bytes have this fault somewhere
pub record HasFault (fault : ProgramFault) (program : List ℕ) : Type 0 where
  pub rest : List ℕ
  pub items : List CodeItem
  pub reached : Reaches program rest items
  pub stops : Stops fault rest items

-- the bytes write no document
abbrev pub WritesNone : List ℕ → Type 0
WritesNone bytes = (d : Tree) → ¬ WritesDocument bytes d

-- unless memory was refused, the bytes have this fault, and write no document
abbrev pub RefusesProgram : ProgramFault → List ℕ → Type 0
RefusesProgram fault bytes = ¬ (fault ≡ Memory) → HasFault fault bytes × WritesNone bytes
