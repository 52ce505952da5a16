use Rattle.std.proofs.Common.{rules}
use Rattle.prettyless_alloc.proofs.allocator.AnyDocAllocator.alloc_cow.Goals as goal

pub returns-clause-ok : goal.returns-clause-ok
returns-clause-ok g c = search rules depth 1

pub returns-clause-placed : goal.returns-clause-placed
returns-clause-placed g c = search rules depth 1
