use Rattle.std.proofs.Common.{◌∙◌}
use Rattle.json_formatter.proofs.BlankRuns.{first_tabs, tabs_cut}
use Rattle.json_formatter.proofs.blanks.some_tabs.Goals as goal

pub range-requires-clause-end_boundary : goal.range-requires-clause-end_boundary
range-requires-clause-end_boundary c = tabs_cut 64 c.args.count c.requires

pub returns : goal.returns
returns c = c.range.ensures.value ∙ first_tabs 64 c.args.count c.requires
