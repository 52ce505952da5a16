-- How many nodes a document has.
use Rattle.std.proofs.Common.{◌<◌, arith}
use Rattle.prettyless_model.specs.Tree.{Tree, Nil, size}

-- a node is one at least
pub size_positive : (d : Tree) → 0 < size d
size_positive Nil = omega arith
size_positive _ = omega arith
