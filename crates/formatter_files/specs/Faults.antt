-- Why the words of a program ask for nothing that is done.
use Rattle.std.specs.Prelude.{◌≡◌, List, Err}
use Rattle.clap.specs.Words.{Row, kind_of}
use Rattle.clap.specs.declared.error.Error.{Error}
use Rattle.clap.specs.declared.error.kind.ErrorKind.TheVariants.{OutOfMemory}
use Rattle.formatter_files.specs.Words.{action_asked}
use Rattle.formatter_files.specs.declared.request_error.RequestError.{RequestError}
use Rattle.formatter_files.specs.declared.request_error.RequestError.TheVariants.{Words, Conflict}

-- memory was refused
abbrev pub IsOutOfMemory : Error → Type 0
IsOutOfMemory e = kind_of e ≡ OutOfMemory

-- an error of `clap` of which this holds
abbrev pub IsOfWords : (Error → Type 0) → RequestError → Type 0
IsOfWords Holds (Words e) = Holds e
IsOfWords Holds (Conflict c) = ⊥

-- the same, or files are to be replaced and to be compared alone
abbrev pub IsRequestError : (Error → Type 0) → List Row → RequestError → Type 0
IsRequestError Holds rows (Words e) = Holds e
IsRequestError Holds rows (Conflict c) = action_asked rows ≡ Err c
