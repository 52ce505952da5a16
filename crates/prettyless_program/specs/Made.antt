-- The instructions and the entries of the code, as the definitions see them.
use Rattle.std.specs.Prelude.{List, [], ◌∷◌, ◌++◌}
use Rattle.prettyless_model.specs.Tree.{Tree}
use Rattle.prettyless_program.specs.Instructions as instructions
use Rattle.prettyless_program.specs.Programs as programs
use Rattle.prettyless_program.specs.declared.instruction.Instruction.{Instruction}
use Rattle.prettyless_program.specs.declared.instruction.Instruction.TheVariants as instruction
use Rattle.prettyless_program.specs.declared.stack.StackEntry.{StackEntry}
use Rattle.prettyless_program.specs.declared.stack.StackEntry.TheVariants.{Document, Opened}

-- an instruction of the code
abbrev pub instruction_of : Instruction → instructions.Instruction
instruction_of (instruction.Leaf l) = instructions.Put l
instruction_of (instruction.Words w s) = instructions.Write w s.now
instruction_of (instruction.Counted n s) = instructions.Count n s.now
instruction_of (instruction.Wrap kind) = instructions.Wrap kind
instruction_of (instruction.Both kind) = instructions.Both kind
instruction_of instruction.Open = instructions.Open
instruction_of instruction.Close = instructions.Close

-- an entry of the code
abbrev pub entry_item : {T : Type 0} → (T → Tree) → StackEntry T → programs.CodeItem
entry_item tree (Document d) = programs.Document (tree d)
entry_item tree Opened = programs.Opened

-- the items of entries, the last first
abbrev pub items_of_entries : {T : Type 0} → (T → Tree) → List (StackEntry T) → List programs.CodeItem
items_of_entries tree [] = []
items_of_entries tree (e ∷ es) = items_of_entries tree es ++ entry_item tree e ∷ []
