use Rattle.prettyless_laws.proofs.Enclosed.{enclosed_is_trace}
use Rattle.prettyless_laws.proofs.WithinWidth.{flat_groups_stay, past_is_broken, kept_stays}
use Rattle.prettyless_laws.proofs.width.law_width.Goals as goal

pub returns-clause-trace : goal.returns-clause-trace
returns-clause-trace c = enclosed_is_trace

pub returns-clause-flat : goal.returns-clause-flat
returns-clause-flat c = flat_groups_stay

pub returns-clause-past : goal.returns-clause-past
returns-clause-past c = past_is_broken

pub returns-clause-kept : goal.returns-clause-kept
returns-clause-kept c = kept_stays
