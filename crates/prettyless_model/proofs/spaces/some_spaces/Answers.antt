use Rattle.std.proofs.Common.{◌∙◌}
use Rattle.prettyless_model.proofs.SpaceRuns.{spaces_cut, first_spaces}
use Rattle.prettyless_model.proofs.spaces.some_spaces.Goals as goal

pub range-requires-clause-end_boundary : goal.range-requires-clause-end_boundary
range-requires-clause-end_boundary c = spaces_cut 100 c.args.count c.requires

pub returns : goal.returns
returns c = c.range.ensures.value ∙ first_spaces 100 c.args.count c.requires
