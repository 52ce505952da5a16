use Rattle.std.proofs.Common.{rules}
use Rattle.prettyless_text.proofs.display.DisplayWriter.finished.Goals as goal

pub returns-in-Ok-clause-text : goal.returns-in-Ok-clause-text
returns-in-Ok-clause-text c = search rules depth 1

pub returns-in_err-text-clause-memory : goal.returns-in_err-text-clause-memory
returns-in_err-text-clause-memory c = search rules depth 1
