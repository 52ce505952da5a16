use Rattle.std.proofs.Common.{◌≡◌, ◌+◌, ◌≤◌, ◌∷◌, vec_capacity}
use Rattle.std.specs.List.{sum_by}
use Rattle.prettyless_model.specs.Tree.{size}
use Rattle.prettyless_printer.specs.Points.{point, seen}
use Rattle.prettyless_printer.proofs.Laying.{left_trees, trees_waiting}
use Rattle.prettyless_printer.proofs.Laying.{Laid}
use Rattle.prettyless_printer.proofs.flat_texts.lay_texts.Given as goal

abbrev pub invariant-nodes : goal.invariant-nodes
invariant-nodes g l =
    let f = g.N.Walk.tree in
    let sink = seen g.W.Render.bytes g.W.Render.failures g.W.Render.lender in
    record {
      left : Laid (f l.fn.first) (point f l.fn.printer (sink l.fn.out) l.fn.visits) (f l.node ∷ left_trees f l.printer.flat.items)
          l.is_written l.gap l.position (sink l.out) l.count;
      printer : l.printer ≡ record l.fn.printer { flat = l.printer.flat };
      visits : l.visits ≡ l.fn.visits;
      room : trees_waiting (f l.node ∷ left_trees f l.printer.flat.items) ≤ vec_capacity l.printer.flat;
    }

abbrev pub decreases-nodes : goal.decreases-nodes
decreases-nodes g l =
    let f = g.N.Walk.tree in
    size (f l.node) + sum_by size (left_trees f l.printer.flat.items)
