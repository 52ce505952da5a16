-- Stacks of nodes, seen as tasks.
use Rattle.std.specs.Prelude.{ℕ, ◌+◌, ◌≤◌, List, [], ◌∷◌, ◌++◌, map, take, length, Bool, vec_capacity}
use Rattle.prettyless_model.specs.Tree.{Tree, size}
use Rattle.prettyless_model.specs.Column.{padding_fits}
use Rattle.prettyless_model.specs.Look.{Look, GoesOn, answer_of, look, look_then}
use Rattle.prettyless_model.specs.Layout.{Entry, entry}
use Rattle.prettyless_model.specs.declared.column.Column.{Column}
use Rattle.prettyless_model.specs.declared.mode.Mode.{Mode}
use Rattle.prettyless_model.specs.declared.mode.Mode.TheVariants.{Break}
use Rattle.prettyless_probe.specs.declared.command.Command.{Command}
use Rattle.prettyless_probe.specs.declared.command.Frame.{Frame}
use Rattle.prettyless_probe.specs.declared.stack.Cursor.{Cursor}
use Rattle.prettyless_probe.specs.declared.stack.Stack.{Stack}
use Rattle.prettyless_probe.specs.Frames.{Covers, spread}

-- a tree to be laid, with its indent and mode
pub record Task : Type 0 where
  pub indent : ℕ
  pub mode : Mode
  pub tree : Tree

-- a task of these parts
abbrev pub make_task : ℕ → Mode → Tree → Task
make_task i m d = record { indent = i; mode = m; tree = d }

-- a command of these parts
abbrev pub make_command : {N : Type 0} → ℕ → Mode → N → Command N
make_command i m n = record { indent = i; mode = m; node = n }

-- a command as a task
abbrev pub task : {N : Type 0} → (N → Tree) → Command N → Task
task f c = make_task c.indent c.mode (f c.node)

-- the tasks of a list's items, the last item first
abbrev pub downwards : {A : Type 0} → (A → Task) → List A → List Task
downwards g [] = []
downwards g (x ∷ xs) = downwards g xs ++ g x ∷ []

-- the tasks of nodes in frames, the last node first
abbrev pub framed_tasks : {N : Type 0} → (N → Tree) → List Frame → Frame → List N → List Task
framed_tasks f frames here nodes = downwards (task f) (spread frames here nodes)

-- the tasks of a stack, the one on top first
abbrev pub stack_of : {N : Type 0} → (N → Tree) → Stack N → List Task
stack_of f s = framed_tasks f s.frames.items s.here s.nodes.items

-- the same, after a node of the topmost frame
abbrev pub with_next : {N : Type 0} → (N → Tree) → N → Stack N → List Task
with_next f n s = make_task s.here.indent s.here.mode (f n) ∷ stack_of f s

-- how many nodes a stack has memory for
abbrev pub room_of : {N : Type 0} → Stack N → ℕ
room_of s = vec_capacity s.nodes

-- the tasks of a stack that are not read yet, the one that is read next first
abbrev pub unread : {N : Type 0} → (N → Tree) → Stack N → Cursor → List Task
unread f s c = framed_tasks f (take c.frames s.frames.items) c.here (take c.nodes s.nodes.items)

-- the cursor is one of the stack: its frames are the lowest ones, and they cover the nodes that are not read yet
pub record IsCursor {N : Type 0} (s : Stack N) (c : Cursor) : Type 0 where
  pub frames : c.frames ≤ length s.frames.items
  pub nodes : c.nodes ≤ length s.nodes.items
  pub covers : Covers (take c.frames s.frames.items) c.here c.nodes

-- the tasks of trees at one indent in one mode
abbrev pub tasks : ℕ → Mode → List Tree → List Task
tasks i m = map (make_task i m)

-- the tasks as what follows a node
abbrev pub follow : List Task → List Entry
follow = map (λ t. entry t.indent t.tree)

-- the tasks, each in Break
abbrev pub in_break : List Task → List Task
in_break = map (λ t. make_task t.indent Break t.tree)

-- whether tasks stay within the width, each at its own indent in its own mode, up to the end of the line
abbrev pub tasks_fit : ℕ → List Task → Column → Bool → Bool
tasks_fit width [] c p = padding_fits width p c
tasks_fit width (t ∷ ts) c p = answer_of (look width t.tree t.indent t.mode c p) (λ e q. tasks_fit width ts e q)

-- a look at tasks, one after another
abbrev pub tasks_look : ℕ → List Task → Column → Bool → Look
tasks_look width [] c p = GoesOn c p
tasks_look width (t ∷ ts) c p = look_then (look width t.tree t.indent t.mode c p) (λ e q. tasks_look width ts e q)

-- how many nodes tasks have
abbrev pub nodes : List Task → ℕ
nodes [] = 0
nodes (t ∷ ts) = size t.tree + nodes ts

-- the trees of nodes
abbrev pub trees : {N : Type 0} → (N → Tree) → List N → List Tree
trees f = map f
