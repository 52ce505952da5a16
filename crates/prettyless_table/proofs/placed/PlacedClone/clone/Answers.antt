use Rattle.std.proofs.Common.{ap}
use Rattle.prettyless_table.specs.Cells.{In-prop}
use Rattle.prettyless_table.proofs.placed.PlacedClone.clone.Goals as goal

pub returns : goal.returns
returns g c =
    let p = c.args.self.now in
    record { cases = ap (λ s. record p { stands = s }) (In-prop p.table.now.cells.items (g.N.Walk.tree p.node) p.at _ p.stands) }
