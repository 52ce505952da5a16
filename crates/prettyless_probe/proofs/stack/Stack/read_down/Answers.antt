use Rattle.std.proofs.Common.{◌≡◌, ◌∙◌, [], ap, take, arith, refl, sym}
use Rattle.std.proofs.lemmas.List.{length-take-le}
use Rattle.prettyless_probe.specs.Stack.{unread}
use Rattle.prettyless_probe.proofs.Stacks.{no_tasks}
use Rattle.prettyless_probe.proofs.stack.Stack.read_down.Goals as goal

pub returns-then-not-leave_read-clause-unread : goal.returns-then-not-leave_read-clause-unread
returns-then-not-leave_read-clause-unread g c =
    let f = g.N.Walk.tree in
    let s = c.args.self.now in
    let new = c.leave_read.new.cursor in
    let reads = c.leave_read.ensures.of_this in
    let long = length-take-le new.nodes s.nodes.items reads.nodes in
    let none : unread f s new ≡ [] = no_tasks f (take new.frames s.frames.items) new.here (take new.nodes s.nodes.items) reads.covers.bottom
    reads.covers.rises (omega (arith, reads.covers.top, long)) (omega (arith, c.if-not-leave_read.ensures.none refl, long)) in
    (sym (ap (unread f s) c.in_default.ensures.unread.1) ∙ sym c.leave_read.ensures.same ∙ none, none)
