use Rattle.std.proofs.Common.{arith, refl}
use Rattle.prettyless_probe.proofs.Stacks.{length-unread}
use Rattle.prettyless_probe.proofs.stack.Stack.skip_to.Goals as goal

pub frames-init : goal.frames-init
frames-init g c = record {
  of_this = c.requires.of_this;
  left = omega (arith, c.requires.left, length-unread g.N.Walk.tree c.args.self.now c.args.cursor.now c.requires.of_this);
  same = refl;
}
