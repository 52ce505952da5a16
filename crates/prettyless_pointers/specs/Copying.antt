-- A boxed document in the copying: nodes that are still to be made, the outermost first.
use Rattle.std.specs.Prelude.{ℕ, ◌+◌, ◌*◌, List, [], ◌∷◌}
use Rattle.prettyless_model.specs.Tree as t
use Rattle.prettyless_model.specs.Tree.{Tree, size}
use Rattle.prettyless_pointers.specs.Trees.{box_tree}
use Rattle.prettyless_pointers.specs.declared.copying.CopyFrame.{CopyFrame}
use Rattle.prettyless_pointers.specs.declared.copying.CopyFrame.TheVariants.{Around, First, Second}
use Rattle.prettyless_pointers.specs.declared.copying.CopyTask.{CopyTask}
use Rattle.prettyless_pointers.specs.declared.copying.CopyTask.TheVariants.{Copy, Put}

-- the node of a frame, where what it waits for is copied as x
abbrev pub filled : CopyFrame → Tree → Tree
filled (Around kind) x = t.One kind x
filled (First kind second) x = t.Two kind x (box_tree second.now)
filled (Second kind first) x = t.Two kind (box_tree first) x

-- all that is copied, where what the innermost frame waits for is copied as x
abbrev pub whole_copy : List CopyFrame → Tree → Tree
whole_copy [] x = x
whole_copy (f ∷ fs) x = filled f (whole_copy fs x)

-- the tree that a task copies
abbrev pub task_tree : CopyTask → Tree
task_tree (Copy source) = box_tree source.now
task_tree (Put copy) = box_tree copy

-- how much work it is to copy a tree
abbrev pub tree_work : Tree → ℕ
tree_work x = 3 * size x

-- how much work a frame is
abbrev pub frame_work : CopyFrame → ℕ
frame_work (Around kind) = 1
frame_work (First kind second) = tree_work (box_tree second.now) + 2
frame_work (Second kind first) = 1

-- how much work frames are
abbrev pub frames_work : List CopyFrame → ℕ
frames_work [] = 0
frames_work (f ∷ fs) = frame_work f + frames_work fs

-- how much work a task is
abbrev pub task_work : CopyTask → ℕ
task_work (Copy source) = tree_work (box_tree source.now)
task_work (Put copy) = 0

-- how much work is left in all
abbrev pub copying_work : List CopyFrame → CopyTask → ℕ
copying_work fs t = frames_work fs + task_work t

-- the same, where a tree is to be copied
abbrev pub copying_work_at : List CopyFrame → Tree → ℕ
copying_work_at fs x = frames_work fs + tree_work x
