-- What may go wrong with bytes that come in and go out.
use Rattle.sexp.specs.declared.error.RunError.{RunError}
use Rattle.sexp.specs.declared.error.RunError.TheVariants.{NotAnSexp, Memory, Read, Write}

-- memory was refused
abbrev pub IsWantOfMemory : RunError → Type 0
IsWantOfMemory NotAnSexp = ⊥
IsWantOfMemory (Memory e) = Unit {0}
IsWantOfMemory (Read e) = ⊥
IsWantOfMemory (Write e) = ⊥

-- the reader failed, or memory was refused
abbrev pub IsReading : RunError → Type 0
IsReading NotAnSexp = ⊥
IsReading (Memory e) = Unit {0}
IsReading (Read e) = Unit {0}
IsReading (Write e) = ⊥

-- the writer failed
abbrev pub IsWriterFailure : RunError → Type 0
IsWriterFailure NotAnSexp = ⊥
IsWriterFailure (Memory e) = ⊥
IsWriterFailure (Read e) = ⊥
IsWriterFailure (Write e) = Unit {0}
