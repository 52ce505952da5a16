-- How many cells what a printer has left takes: no more than it has nodes.
use Rattle.std.proofs.Common.{◌≡◌, ◌+◌, ◌≤◌, List, [], ◌∷◌, ◌++◌, length, map, ap, arith, length-append}
use Rattle.std.specs.List.{sum_by}
use Rattle.std.proofs.lemmas.List.{length-map}
use Rattle.std.proofs.lemmas.List.Sums.{sum_by-cons}
use Rattle.prettyless_model.specs.Tree.{Tree, size}
use Rattle.prettyless_probe.specs.Stack.{Task, nodes, trees}
use Rattle.prettyless_step.specs.Printing.{tasks_of}
use Rattle.prettyless_step.specs.declared.printer.Printer.{Printer}
use Rattle.prettyless_table.specs.Owners.{all_owners, task_trees}
use Rattle.prettyless_shift.specs.Shift.{documents_left, nodes_left}
use Rattle.prettyless_table.proofs.Owners.{owners_fewer, sizes}

sizes-append : (ds es : List Tree) → sizes (ds ++ es) ≡ sizes ds + sizes es
sizes-append [] es = omega arith
sizes-append (d ∷ ds) es = omega (arith, sizes-append ds es)

sizes_tasks : (ts : List Task) → sizes (task_trees ts) ≡ nodes ts
sizes_tasks [] = omega arith
sizes_tasks (t ∷ ts) = omega (arith, sizes_tasks ts)

sizes_nodes : {N : Type 0} (f : N → Tree) (ns : List N) → sizes (trees f ns) ≡ sum_by (λ n. size (f n)) ns
sizes_nodes f [] = omega arith
sizes_nodes f (n ∷ ns) = omega (arith, sizes_nodes f ns, sum_by-cons (λ m. size (f m)) n ns)

sizes_sum : (ds : List Tree) → sizes ds ≡ sum_by size ds
sizes_sum [] = omega arith
sizes_sum (d ∷ ds) = omega (arith, sizes_sum ds, sum_by-cons size d ds)

-- the listed nodes of what a printer has left and of further documents, and a cell for each document, are no more than all nodes
pub room_for : {N : Type 0} (f : N → Tree) (p : Printer N) (ds : List Tree) (ns : List N) → map f ns ≡ all_owners (documents_left f p ++ ds)
    → length ns + length (documents_left f p) + length ds ≤ nodes_left f p + sum_by size ds
room_for f p ds ns list =
    let first : List Tree = task_trees (tasks_of f p) in
    let queue : List Tree = trees f p.queue.nodes.items in
    omega (
      arith,
      ap length list,
      length-map ns f,
      owners_fewer (documents_left f p ++ ds),
      length-append (documents_left f p) ds,
      sizes-append (documents_left f p) ds,
      sizes-append first queue,
      sizes_tasks (tasks_of f p),
      sizes_nodes f p.queue.nodes.items,
      sizes_sum ds,
    )
