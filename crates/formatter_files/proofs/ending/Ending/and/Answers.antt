use Rattle.std.proofs.Common.{rules}
use Rattle.formatter_files.proofs.ending.Ending.and.Goals as goal

pub returns-then-status : goal.returns-then-status
returns-then-status c = search rules depth 1

pub returns-else-status : goal.returns-else-status
returns-else-status c = search rules depth 1
