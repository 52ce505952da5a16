use Rattle.json_formatter.proofs.Sinks.{fewer_left}
use Rattle.json_formatter.proofs.gaps.Layout.next.Goals as goal

pub returns-clause-fewer : goal.returns-clause-fewer
returns-clause-fewer c = fewer_left c.advance.result _ _ c.advance.ensures.next c.advance.ensures.named
