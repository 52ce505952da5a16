use Rattle.prettyless_laws.proofs.FlatLines.{one_line, group_is_flat, breaks_skip, settle_skips, traced_on_one_line, traced_as_flat_group}
use Rattle.prettyless_laws.proofs.FlatLines.{trace_breaks_pass}
use Rattle.prettyless_laws.proofs.flat.law_flat_group.Goals as goal

pub returns-clause-one_line : goal.returns-clause-one_line
returns-clause-one_line c = one_line

pub returns-clause-group : goal.returns-clause-group
returns-clause-group c = group_is_flat

pub returns-clause-breaks : goal.returns-clause-breaks
returns-clause-breaks c = λ o. (breaks_skip o, settle_skips o)

pub returns-clause-traced : goal.returns-clause-traced
returns-clause-traced c = traced_on_one_line

pub returns-clause-traced_group : goal.returns-clause-traced_group
returns-clause-traced_group c = traced_as_flat_group

pub returns-clause-traced_breaks : goal.returns-clause-traced_breaks
returns-clause-traced_breaks c = trace_breaks_pass
