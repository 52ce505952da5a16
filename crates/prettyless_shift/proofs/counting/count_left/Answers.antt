use Rattle.std.proofs.Common.{◌++◌, ◌∙◌, List, ap, append_assoc, sym}
use Rattle.prettyless_model.specs.Tree.{Tree}
use Rattle.prettyless_step.specs.Printing.{tasks_of}
use Rattle.prettyless_probe.specs.Stack.{trees}
use Rattle.prettyless_table.specs.Owners.{all_owners, task_trees}
use Rattle.prettyless_table.proofs.Listing.{all_owners-append}
use Rattle.prettyless_shift.proofs.counting.count_left.Goals as goal

pub returns-clause-listed : goal.returns-clause-listed
returns-clause-listed g c =
    let f = g.N.Walk.tree in
    let old = trees f c.args.owners.now.items in
    let first : List Tree = task_trees (tasks_of f c.args.printer.now) in
    let queue : List Tree = trees f c.args.printer.now.queue.nodes.items in
    let commands = rw c.in-Some.is at c.in_ok-room.ensures.listed in
    let roots = rw c.in-Some-2.is at c.in_ok-left.ensures.listed in
    roots ∙ ap (λ us. us ++ all_owners (trees f c.all.result.now)) commands
    ∙ ap (λ ns. (old ++ all_owners first) ++ all_owners (trees f ns)) c.all.ensures
    ∙ append_assoc old (all_owners first) (all_owners queue) ∙ ap (λ ds. old ++ ds) (sym (all_owners-append first queue))
