use Rattle.prettyless_laws.proofs.Regrouping.{layout_right, layouts_shared}
use Rattle.prettyless_laws.proofs.regrouped.law_regroup.Goals as goal

pub returns-clause-kept : goal.returns-clause-kept
returns-clause-kept c = layout_right

pub returns-clause-shared : goal.returns-clause-shared
returns-clause-shared c = layouts_shared
