use Rattle.std.proofs.Common.{◌≡◌}
use Rattle.prettyless_pointers.specs.Copying.{task_tree, whole_copy, copying_work}
use Rattle.prettyless_pointers.specs.Trees.{box_tree}
use Rattle.prettyless_pointers.proofs.boxes.BoxDoc.clone.Given as goal

abbrev pub invariant-loop-task : goal.invariant-loop-task
invariant-loop-task l = whole_copy l.frames.items (task_tree l.task) ≡ box_tree l.self

abbrev pub decreases-loop-task : goal.decreases-loop-task
decreases-loop-task l = copying_work l.frames.items l.task
