-- What becomes of layouts.
use Rattle.std.specs.Prelude.{Bool, true, false, Option, Some, None, Result, Ok, Err}
use Rattle.formatter_files.specs.declared.action.Action.{Action}
use Rattle.formatter_files.specs.declared.action.Action.TheVariants.{Compare, Print, Replace}
use Rattle.formatter_files.specs.declared.action.Report.{Report}
use Rattle.formatter_files.specs.declared.action.Report.TheVariants.{Difference, Name, NameAndDifference}
use Rattle.formatter_files.specs.declared.action.WriteConflict.{WriteConflict}

-- what is reported, by whether names and differences are asked for
abbrev pub report_of : Bool → Bool → Option Report
report_of true true = Some NameAndDifference
report_of true false = Some Name
report_of false true = Some Difference
report_of false false = None

-- what is done, by whether files are to be replaced, and what is to be reported: not both
abbrev pub action_of : Bool → Option Report → Result Action WriteConflict
action_of false None = Ok Print
action_of true None = Ok Replace
action_of false (Some report) = Ok (Compare report)
action_of true (Some report) = Err (record { report = report })
