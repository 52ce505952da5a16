use Rattle.std.proofs.Common.{ap₂, ◌∙◌}
use Rattle.formatter_files.specs.Actions.{action_of, report_of}
use Rattle.formatter_files.proofs.words.action.Goals as goal

pub returns : goal.returns
returns c =
    c.of.ensures ∙ ap₂ action_of c.has_flag-3.ensures (c.of-report.ensures ∙ ap₂ report_of c.has_flag.ensures c.has_flag-2.ensures)
