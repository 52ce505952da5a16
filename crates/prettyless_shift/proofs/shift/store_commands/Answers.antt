use Rattle.std.proofs.Common.{◌≡◌, ℕ, ◌++◌, ◌∷◌, ap, arith, length, subst}
use Rattle.prettyless_probe.specs.Stack.{task, unread}
use Rattle.prettyless_probe.specs.declared.command.Command.{Command}
use Rattle.prettyless_table.specs.Owners.{Stand, task_trees}
use Rattle.prettyless_table.proofs.Trees.{grows_then}
use Rattle.prettyless_shift.proofs.Shifting.{command_more}
use Rattle.prettyless_shift.proofs.shift.store_commands.Goals as goal

pub commands-preserved : goal.commands-preserved
commands-preserved g c =
    let f = g.N.Walk.tree in
    let old = c.commands.table.cells.items in
    let new = c.add.new.self.cells.items in
    let command = c.in-Some.command in
    let placed : Command ℕ = record { indent = command.indent; mode = command.mode; node = c.in_ok-node.node } in
    let left = unread f c.args.commands.now c.commands.below in
    let later = unread f c.args.commands.now c.read_down.new.cursor in
    let read : left ≡ task f command ∷ later = c.in-Some.ensures.unread in
    record {
      of_this = c.in-Some.ensures.of_this;
      grows = grows_then f c.args.table.now.cells.items old new c.commands.invariant.grows c.add.ensures.grows;
      first = command_more f {c = placed} c.add.ensures.grows c.in_ok-node.ensures.stored c.in_ok-push.ensures.items read
          c.commands.invariant.first;
      count = omega (arith, c.commands.invariant.count, ap length read, c.in_ok-node.ensures.count);
      stand = λ more h.
          c.in_ok-node.ensures.later (task_trees later ++ more)
          (subst (λ ts. Stand old (task_trees ts ++ more) c.commands.waiting.items) read (c.commands.invariant.stand more h));
    }

pub add-requires : goal.add-requires
add-requires g c =
    let f = g.N.Walk.tree in
    let old = c.commands.table.cells.items in
    let later = unread f c.args.commands.now c.read_down.new.cursor in
    let read : unread f c.args.commands.now c.commands.below ≡ task f c.in-Some.command ∷ later = c.in-Some.ensures.unread in
    let more = c.requires.stand.0 in
    record {
      sound = c.commands.invariant.grows.sound c.requires.sound;
      room = omega (arith, c.commands.invariant.count, c.requires.room, ap length read);
      stands = (
        task_trees later ++ more,
        subst (λ ts. Stand old (task_trees ts ++ more) c.commands.waiting.items) read
            (c.commands.invariant.stand more c.requires.stand.1),
      );
    }
