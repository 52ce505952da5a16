-- What the program says of an ending, and the status that it ends with.
use Rattle.std.specs.Prelude.{ℕ, List, codes}
use Rattle.sexp.specs.declared.error.RunError.{RunError}
use Rattle.sexp.specs.declared.error.RunError.TheVariants as errors
use Rattle.sexp.specs.declared.ending.SexpEnd.{SexpEnd}
use Rattle.sexp.specs.declared.ending.SexpEnd.TheVariants.{BadWords, NotAnSexp, Failed}

-- the program's status
abbrev pub program_status : SexpEnd → ℕ
program_status BadWords = 2
program_status NotAnSexp = 1
program_status Failed = 3

-- what it says
abbrev pub message_of : SexpEnd → List ℕ
message_of BadWords = codes "usage: sexp WIDTH [crlf] [deferred]"
message_of NotAnSexp = codes "error: not an S-expression"
message_of Failed = codes "error: render failed"

-- how a run that stopped ends the program
abbrev pub ending_of : RunError → SexpEnd
ending_of errors.NotAnSexp = NotAnSexp
ending_of (errors.Memory e) = Failed
ending_of (errors.Read e) = Failed
ending_of (errors.Write e) = Failed
