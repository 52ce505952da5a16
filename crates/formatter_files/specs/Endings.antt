-- How the program ends, and its status.
use Rattle.std.specs.Prelude.{◌≡◌, ◌⊎◌, ℕ}
use Rattle.clap.specs.Words.{kind_of}
use Rattle.clap.specs.declared.error.kind.ErrorKind.{ErrorKind}
use Rattle.clap.specs.declared.error.kind.ErrorKind.TheVariants.{DisplayHelp, DisplayVersion, OutOfMemory}
use Rattle.formatter_files.specs.declared.ending.Ending.{Ending}
use Rattle.formatter_files.specs.declared.ending.Ending.TheVariants.{Good, Refused, BadWords, Failed}
use Rattle.formatter_files.specs.declared.request_error.RequestError.{RequestError}
use Rattle.formatter_files.specs.declared.request_error.RequestError.TheVariants.{Words, Conflict}

-- the program's status
abbrev pub status_of : Ending → ℕ
status_of Good = 0
status_of Refused = 1
status_of BadWords = 2
status_of Failed = 3

-- how the program ends after an error in the words: `--help` and `--version` are such errors too
abbrev pub ending_after : ErrorKind → Ending
ending_after DisplayHelp = Good
ending_after DisplayVersion = Good
ending_after OutOfMemory = Failed
ending_after _ = BadWords

-- how the program may end where its words ask for nothing that is done: where a text is not printed, it failed
abbrev pub EndsAfter : RequestError → Ending → Type 0
EndsAfter (Words e) ending = (ending ≡ ending_after (kind_of e)) ⊎ (ending ≡ Failed)
EndsAfter (Conflict c) ending = ending ≡ BadWords
