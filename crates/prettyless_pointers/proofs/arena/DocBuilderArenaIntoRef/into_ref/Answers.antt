use Rattle.std.proofs.Common.{rules}
use Rattle.prettyless_pointers.proofs.arena.DocBuilderArenaIntoRef.into_ref.Goals as goal

pub returns-clause-ok : goal.returns-clause-ok
returns-clause-ok c = search rules depth 1

pub returns-clause-placed : goal.returns-clause-placed
returns-clause-placed c = search rules depth 1
