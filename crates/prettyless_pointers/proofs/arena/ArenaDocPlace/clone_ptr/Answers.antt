use Rattle.std.proofs.Common.{refl}
use Rattle.prettyless_pointers.proofs.arena.ArenaDocPlace.clone_ptr.Goals as goal

pub returns-clause-ok : goal.returns-clause-ok
returns-clause-ok c = refl

pub returns-clause-same : goal.returns-clause-same
returns-clause-same c = refl
