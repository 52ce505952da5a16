-- What the words of `tomlfmt` ask for, by what `clap` reads in them.
use Rattle.std.specs.Prelude.{◌≡◌, not, List, [], codes, Result, MatchResult}
use Rattle.clap.specs.Words.{App, HasKind, Kinds, Row, Text, fault_of, matches_of, with_rule}
use Rattle.formatter_files.specs.Faults.{IsRequestError}
use Rattle.formatter_files.specs.Words.{IsIndent, IsTask, IsWidth, flag, has_flag, program, with_files, with_numbers}
use Rattle.formatter_files.specs.declared.request_error.RequestError.{RequestError}
use Rattle.tomlfmt.specs.declared.request.TomlRequest.{TomlRequest}

-- the command
abbrev pub tomlfmt : App
tomlfmt = with_files (with_rule (with_numbers (program (codes "tomlfmt"))) (flag (codes "no-align")))

-- what `clap` reads in the words, of which the first names the program
unfoldable pub tomlfmt_matches : List Text → List Row
tomlfmt_matches words = matches_of tomlfmt words

-- the kinds of error that it has for them
unfoldable pub tomlfmt_faults : List Text → Kinds
tomlfmt_faults words = fault_of tomlfmt words

-- What is asked for.
pub record AsksForToml (rows : List Row) (asked : TomlRequest) : Type 0 where
  pub width : IsWidth rows asked.style.width
  pub indent : IsIndent rows asked.style.indent
  pub align : asked.style.align ≡ not (has_flag (codes "no-align") rows)
  pub task : IsTask rows asked.task

-- an `Ok` comes only where `clap` has no error for the words, and an `Err` is one of those, or files are to be replaced and compared
abbrev pub AnswersTomlWords : {T : Type 0} → List Text → Result T RequestError → Type 0
AnswersTomlWords words result =
    MatchResult result (λ _. tomlfmt_faults words ≡ []) (IsRequestError (HasKind (tomlfmt_faults words)) (tomlfmt_matches words))
