use Rattle.std.proofs.Common.{◌≡◌, ◌++◌, ◌∷◌, [], ℕ, ap, arith, length, length-append, reverse, subst, sym}
use Rattle.prettyless_table.specs.declared.cell.Cell.TheVariants.{Root}
use Rattle.prettyless_table.specs.Cells.{cell_trees}
use Rattle.prettyless_table.specs.Stored.{HasAt}
use Rattle.prettyless_table.specs.Owners.{large}
use Rattle.prettyless_table.proofs.Standing.{stand_grown}
use Rattle.prettyless_table.proofs.Trees.{grows, has_new}
use Rattle.prettyless_table.proofs.table.Table.add.Goals as goal

pub returns-clause-grows : goal.returns-clause-grows
returns-clause-grows g c =
    let f = g.N.Walk.tree in
    let cells = c.args.self.now.cells.items in
    rw c.in_ok-push.ensures.items
    (grows f cells (Root c.place_of-place.result c.args.root) (c.place_of-place.ensures cells c.requires.stands.0 c.requires.stands.1).0)

pub returns-clause-stored : goal.returns-clause-stored
returns-clause-stored g c =
    let f = g.N.Walk.tree in
    let cells = c.args.self.now.cells.items in
    let root = Root c.place_of-place.result c.args.root in
    let at : c.last.result ≡ length cells =
    omega (arith, c.last.ensures, ap length {y = cells ++ root ∷ []} c.in_ok-push.ensures.items, length-append cells (root ∷ [])) in
    subst (λ (i : ℕ). HasAt (cell_trees f c.push.new.list.items) i (f c.args.root)) (sym at)
    (rw c.in_ok-push.ensures.items (has_new f cells c.place_of-place.result c.args.root))

pub returns-clause-later : goal.returns-clause-later
returns-clause-later g c = λ later h.
    let cells = c.args.self.now.cells.items in
    rw c.in_ok-push.ensures.items
    (stand_grown cells (Root c.place_of-place.result c.args.root) (large later) (reverse c.place_of-place.new.waiting.items)
    (c.place_of-place.ensures cells later h).1)
