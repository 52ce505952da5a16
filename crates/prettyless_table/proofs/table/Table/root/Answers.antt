use Rattle.prettyless_table.proofs.Trees.{root_read}
use Rattle.prettyless_table.proofs.table.Table.root.Goals as goal

pub returns-clause-tree : goal.returns-clause-tree
returns-clause-tree g c =
    root_read g.N.Walk.tree c.args.self.now.cells.items c.args.at c.index.result.now c.in-Root.place c.in-Root.node
    c.requires.within.within c.index.ensures c.in-Root.is
