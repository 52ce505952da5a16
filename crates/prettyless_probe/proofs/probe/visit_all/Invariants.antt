use Rattle.std.proofs.Common.{◌≡◌, ◌++◌, ◌∷◌, ◌+◌, ◌-◌, ◌^◌, ◌≤◌, max, min, [], IsTrue, false}
use Rattle.prettyless_model.specs.Tree.{size}
use Rattle.prettyless_model.specs.declared.mode.Mode.TheVariants.{Flat}
use Rattle.prettyless_probe.specs.Stack.{IsCursor, in_break, make_task, nodes, room_of, stack_of, task, tasks_fit, unread}
use Rattle.prettyless_probe.specs.Reads.{reads_all, reads_below}
use Rattle.prettyless_probe.specs.Texts.{IsTextsIf, tasks_waiting, texts_waiting}
use Rattle.prettyless_probe.proofs.probe.visit_all.Given as goal

abbrev pub invariant-read : goal.invariant-read
invariant-read g l = record {
  of_this : IsCursor l.commands l.below;
  same : tasks_fit l.width (make_task l.stack.here.indent l.stack.here.mode (g.N.Walk.tree l.node)
      ∷ (stack_of g.N.Walk.tree l.stack ++ in_break (unread g.N.Walk.tree l.commands l.below))) l.line.column l.line.pending
      ≡ tasks_fit l.width (task g.N.Walk.tree
      l.fn.first ∷ (stack_of g.N.Walk.tree l.fn.stack ++ in_break (unread g.N.Walk.tree l.commands l.fn.cursor))) l.fn.start.column
      l.fn.start.pending;
  texts : IsTrue l.is_texts → stack_of g.N.Walk.tree l.fn.stack ≡ []
      → (l.fn.first.mode ≡ Flat) × IsTextsIf (g.N.Walk.tree l.fn.first.node)
      (make_task l.stack.here.indent l.stack.here.mode (g.N.Walk.tree l.node) ∷ stack_of g.N.Walk.tree l.stack);
  waiting : IsTrue l.is_texts → stack_of g.N.Walk.tree l.fn.stack ≡ [] → texts_waiting (g.N.Walk.tree l.fn.first.node) 0
      ≤ max (room_of l.stack)
      (tasks_waiting (make_task l.stack.here.indent l.stack.here.mode (g.N.Walk.tree l.node) ∷ stack_of g.N.Walk.tree l.stack));
  rises : l.fn.probes ≤ l.probes;
  counted : l.probes + (size (g.N.Walk.tree l.node)
      + (nodes (stack_of g.N.Walk.tree l.stack) + nodes (unread g.N.Walk.tree l.commands l.below)))
      ≤ l.fn.probes + (size (g.N.Walk.tree l.fn.first.node)
      + (nodes (stack_of g.N.Walk.tree l.fn.stack) + nodes (unread g.N.Walk.tree l.commands l.fn.cursor)));
  reads : min (l.probes + reads_all false l.width
      (make_task l.stack.here.indent l.stack.here.mode (g.N.Walk.tree l.node) ∷ stack_of g.N.Walk.tree l.stack)
      (reads_below false l.width false (unread g.N.Walk.tree l.commands l.below)) l.line.column l.line.pending) (2 ^ 64 - 1)
      ≡ min (l.fn.probes + reads_all false l.width (task g.N.Walk.tree l.fn.first ∷ stack_of g.N.Walk.tree l.fn.stack)
      (reads_below false l.width false (unread g.N.Walk.tree l.commands l.fn.cursor)) l.fn.start.column l.fn.start.pending) (2 ^ 64 - 1);
}

abbrev pub decreases-read : goal.decreases-read
decreases-read g l =
    size (g.N.Walk.tree l.node) + (nodes (stack_of g.N.Walk.tree l.stack) + nodes (unread g.N.Walk.tree l.commands l.below))
