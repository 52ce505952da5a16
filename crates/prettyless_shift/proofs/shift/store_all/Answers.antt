use Rattle.std.proofs.Common.{List, subst}
use Rattle.prettyless_step.specs.Printing.{tasks_of}
use Rattle.prettyless_probe.specs.Stack.{trees}
use Rattle.prettyless_shift.specs.Shift.{AreNodes}
use Rattle.prettyless_shift.proofs.Shifting.{commands_kept}
use Rattle.prettyless_shift.proofs.shift.store_all.Goals as goal

pub returns-clause-stored : goal.returns-clause-stored
returns-clause-stored g c =
    let f = g.N.Walk.tree in
    let mid = c.store_commands.new.table.cells.items in
    let new = c.store_nodes.new.table.cells.items in
    let queue = c.in_ok-queue.queue.items in
    record {
      commands = commands_kept f mid new c.in_ok-commands.commands.items (tasks_of f c.args.printer.now) c.store_nodes.ensures.grows
          c.in_ok-commands.ensures.stored;
      queue = subst (λ (ns : List _). AreNodes f new queue (trees f ns)) c.all.ensures c.in_ok-queue.ensures.stored;
    }
