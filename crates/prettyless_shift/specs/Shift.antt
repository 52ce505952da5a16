-- The shift of a printer to a table: what it has left stands at places of the table.
use Rattle.std.specs.Prelude.{◌≡◌, ℕ, ◌+◌, ◌++◌, List, map, true}
use Rattle.std.specs.List.{All, sum_by}
use Rattle.prettyless_model.specs.Tree.{Tree, size}
use Rattle.prettyless_probe.specs.Stack.{Task, nodes, task, trees}
use Rattle.prettyless_step.specs.Printing.{tasks_of}
use Rattle.prettyless_probe.specs.Sums.{IsSummed}
use Rattle.prettyless_probe.specs.declared.command.Command.{Command}
use Rattle.prettyless_step.specs.declared.printer.Printer.{Printer}
use Rattle.prettyless_table.specs.declared.cell.Cell.{Cell}
use Rattle.prettyless_shift.specs.declared.shift.Places.{Places}
use Rattle.prettyless_table.specs.Cells.{IsRoot, tree_at}
use Rattle.prettyless_table.specs.Owners.{task_trees}

-- How many nodes all that a printer has left has: its commands and its whole queue.
abbrev pub nodes_left : {N : Type 0} → (N → Tree) → Printer N → ℕ
nodes_left f p = nodes (tasks_of f p) + sum_by (λ n. size (f n)) p.queue.nodes.items

-- The documents that a printer has left: those of its commands, the next one first, and those of its queue.
abbrev pub documents_left : {N : Type 0} → (N → Tree) → Printer N → List Tree
documents_left f p = task_trees (tasks_of f p) ++ trees f p.queue.nodes.items

-- The commands at places of a table are these tasks.
pub record AreCommands {N : Type 0} (f : N → Tree) (cells : List (Cell N)) (commands : List (Command ℕ)) (ts : List Task) : Type 0 where
  pub within : All (λ c. IsRoot cells c.node) commands
  pub tasks : map (task (tree_at f cells)) commands ≡ ts

-- The nodes at places of a table have these trees.
pub record AreNodes {N : Type 0} (f : N → Tree) (cells : List (Cell N)) (places : List ℕ) (ds : List Tree) : Type 0 where
  pub within : All (λ at. IsRoot cells at) places
  pub trees : trees (tree_at f cells) places ≡ ds

-- All that a printer has left stands in a table.
pub record IsInTable {N : Type 0} (f : N → Tree) (cells : List (Cell N)) (p : Printer N) (places : Places) : Type 0 where
  pub commands : AreCommands f cells places.commands.items (tasks_of f p)
  pub queue : AreNodes f cells places.queue.items (trees f p.queue.nodes.items)

-- A printer over other nodes, which have summaries, stands where this one does, and the sums of its commands are right.
pub record IsShifted {N M : Type 0} (f : N → Tree) (g : M → Tree) (old : Printer N) (new : Printer M) : Type 0 where
  pub options : new.options ≡ old.options
  pub column : new.column ≡ old.column
  pub within : new.within ≡ old.within
  pub tasks : tasks_of g new ≡ tasks_of f old
  pub queue : trees g new.queue.nodes.items ≡ trees f old.queue.nodes.items
  pub start : new.queue.start ≡ old.queue.start
  pub summed : IsSummed true g new.commands
