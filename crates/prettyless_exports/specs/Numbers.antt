-- The number of each status.
use Rattle.std.specs.Prelude.{ℕ}
use Rattle.prettyless_exports.specs.declared.status.Status.{Status}
use Rattle.prettyless_exports.specs.declared.status.Status.TheVariants.{LaidOut, Memory, Fails, NotJson, NotToml, Refused}
use Rattle.prettyless_exports.specs.declared.text.Put.TheVariants.{Whole, Beginning, PastLimit}
use Rattle.prettyless_program.specs.declared.fault.ProgramFault.TheVariants as fault

-- Numbers are for ever: new ones may come, and none changes.
abbrev pub number_of : Status → ℕ
number_of (LaidOut Whole) = 0
number_of (LaidOut Beginning) = 1
number_of Memory = 2
number_of Fails = 3
number_of (LaidOut PastLimit) = 4
number_of NotJson = 5
number_of NotToml = 6
number_of (Refused fault.Memory) = 2
number_of (Refused fault.Instruction) = 16
number_of (Refused fault.Operand) = 17
number_of (Refused fault.Text) = 18
number_of (Refused fault.Document) = 19
number_of (Refused fault.Unopened) = 20
number_of (Refused fault.Unclosed) = 21
