use Rattle.std.proofs.Common.{rules}
use Rattle.prettyless_pointers.proofs.boxes.BoxAllocatorDocPlace.clone_ptr.Goals as goal

pub returns-clause-ok : goal.returns-clause-ok
returns-clause-ok c = search rules depth 1

pub returns-clause-err : goal.returns-clause-err
returns-clause-err c = search rules depth 1
