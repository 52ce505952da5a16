use Rattle.std.proofs.Common.{◌∙◌}
use Rattle.json_formatter.proofs.Lines.{line_cut, first_line}
use Rattle.json_formatter.proofs.output.some_line.Goals as goal

pub range-requires-clause-end_boundary : goal.range-requires-clause-end_boundary
range-requires-clause-end_boundary c = line_cut 100 c.args.indent c.requires

pub returns : goal.returns
returns c = c.range.ensures.value ∙ first_line 100 c.args.indent c.requires
