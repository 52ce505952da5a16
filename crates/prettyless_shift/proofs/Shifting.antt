-- What stands at places of a table, one place more.
use Rattle.std.proofs.Common.{◌≡◌, ℕ, List, [], ◌∷◌, ◌++◌, map, refl, ap, ap₂, sym, ◌∙◌, append_assoc}
use Rattle.std.specs.List.{All}
use Rattle.std.proofs.lemmas.List.{map-append}
use Rattle.std.proofs.lemmas.List.Elements.{All-head, All-push, All-same, All-tail, All-weaker}
use Rattle.prettyless_model.specs.Tree.{Tree}
use Rattle.prettyless_probe.specs.Stack.{Task, make_task, task}
use Rattle.prettyless_probe.specs.Stack as step
use Rattle.prettyless_step.specs.Printing.{tasks_of}
use Rattle.prettyless_probe.specs.declared.command.Command.{Command}
use Rattle.prettyless_step.specs.declared.printer.Printer.{Printer}
use Rattle.prettyless_shift.specs.declared.shift.Places.{Places}
use Rattle.prettyless_table.specs.declared.cell.Cell.{Cell}
use Rattle.prettyless_table.specs.Cells.{IsRoot, tree_at, tree_or_nil, cell_trees, CellsGrow}
use Rattle.prettyless_table.specs.Stored.{HasAt}
use Rattle.prettyless_shift.specs.Shift.{AreCommands, AreNodes, IsInTable}
use Rattle.prettyless_table.proofs.Trees.{at_root, root_stays, tree_same}

-- What is at these places is the first of all, and the later ones come after it.
pub record AreFirst {A B : Type 0} (P : A → Type 0) (at : A → B) (places : List A) (later all : List B) : Type 0 where
  pub within : All P places
  pub same : map at places ++ later ≡ all

-- two functions that agree on some items
map_same : {A B : Type 0} (P : A → Type 0) (g h : A → B) → ((a : A) → P a → h a ≡ g a)
    → (xs : List A) → All P xs → map h xs ≡ map g xs
map_same P g h same [] all = refl
map_same P g h same (x ∷ xs) all =
    ap₂ (λ y ys. y ∷ ys) (same x (All-head P x xs all)) (map_same P g h same xs (All-tail P x xs all))

-- what is at a place is there still, and so is its place
abbrev pub KeptAt : {A B : Type 0} → (A → Type 0) → (A → B) → (A → B) → A → Type 0
KeptAt Q g h a = Q a × (h a ≡ g a)

-- one more, after the table has grown
first_more : {A B : Type 0} {P Q : A → Type 0} {g h : A → B} {xs ys : List A} {x : A} {y : B} {left later all : List B}
    → ((a : A) → P a → KeptAt Q g h a) → Q x → h x ≡ y → ys ≡ xs ++ x ∷ [] → left ≡ y ∷ later
    → AreFirst P g xs left all → AreFirst Q h ys later all
first_more {A} {B} {P} {Q} {g} {h} {xs} {ys} {x} {y} {left} {later} kept within is longer_by less first = record {
  within = All-same Q ys (xs ++ x ∷ []) longer_by (All-push Q xs x (All-weaker P Q (λ a p. (kept a p).0) xs first.within) within);
  same = ap (λ (zs : List A). map h zs ++ later) longer_by
      ∙ ap (λ (zs : List B). zs ++ later) (map-append h xs (x ∷ []))
      ∙ append_assoc (map h xs) (h x ∷ []) later
      ∙ ap₂ (λ (zs : List B) (z : B). zs ++ z ∷ later) (map_same P g h (λ a p. (kept a p).1) xs first.within) is
      ∙ ap (λ (zs : List B). map g xs ++ zs) (sym less)
      ∙ first.same;
}

-- commands at places are the first of these tasks
abbrev pub FirstCommands : {N : Type 0} → (N → Tree) → List (Cell N) → List (Command ℕ) → List Task → List Task → Type 0
FirstCommands f cells = AreFirst (λ (c : Command ℕ). IsRoot cells c.node) (task (tree_at f cells))

-- nodes at places are the first of these trees
abbrev pub FirstNodes : {N : Type 0} → (N → Tree) → List (Cell N) → List ℕ → List Tree → List Tree → Type 0
FirstNodes f cells = AreFirst (λ (at : ℕ). IsRoot cells at) (tree_at f cells)

pub command_more : {N : Type 0} (f : N → Tree) {old new : List (Cell N)} {places after : List (Command ℕ)} {c : Command ℕ} {d : Tree}
    {left later all : List Task}
    → CellsGrow f old new → HasAt (cell_trees f new) c.node d → after ≡ places ++ c ∷ [] → left ≡ make_task c.indent c.mode d ∷ later
    → FirstCommands f old places left all → FirstCommands f new after later all
command_more f {old} {new} {places} {after} {c} {d} grows has longer less first =
    first_more (λ b l. (root_stays f old new b.node grows l, ap (make_task b.indent b.mode) (tree_same f old new b.node grows l)))
    (at_root f new c.node d has) (ap (λ u. make_task c.indent c.mode (tree_or_nil u)) has.is) longer less first

pub node_more : {N : Type 0} (f : N → Tree) {old new : List (Cell N)} {places after : List ℕ} {at : ℕ} {d : Tree}
    {left later all : List Tree}
    → CellsGrow f old new → HasAt (cell_trees f new) at d → after ≡ places ++ at ∷ [] → left ≡ d ∷ later
    → FirstNodes f old places left all → FirstNodes f new after later all
node_more f {old} {new} {places} {after} {at} {d} grows has longer less first =
    first_more (λ i l. (root_stays f old new i grows l, tree_same f old new i grows l)) (at_root f new at d has)
    (ap tree_or_nil has.is) longer less first

-- commands at places are there after the table has grown
pub commands_kept : {N : Type 0} (f : N → Tree) (old new : List (Cell N)) (places : List (Command ℕ)) (ts : List Task)
    → CellsGrow f old new → AreCommands f old places ts → AreCommands f new places ts
commands_kept f old new places ts grows are = record {
  within = All-weaker (λ (c : Command ℕ). IsRoot old c.node) (λ c. IsRoot new c.node) (λ c. root_stays f old new c.node grows)
      places are.within;
  tasks = map_same (λ (c : Command ℕ). IsRoot old c.node) (task (tree_at f old)) (task (tree_at f new))
      (λ c l. ap (make_task c.indent c.mode) (tree_same f old new c.node grows l)) places are.within ∙ are.tasks;
}

-- nodes at places are there after the table has grown
pub nodes_kept : {N : Type 0} (f : N → Tree) (old new : List (Cell N)) (places : List ℕ) (ds : List Tree)
    → CellsGrow f old new → AreNodes f old places ds → AreNodes f new places ds
nodes_kept f old new places ds grows are = record {
  within = All-weaker (λ (at : ℕ). IsRoot old at) (λ at. IsRoot new at) (λ at. root_stays f old new at grows) places are.within;
  trees = map_same (λ (at : ℕ). IsRoot old at) (tree_at f old) (tree_at f new) (λ at l. tree_same f old new at grows l) places are.within
      ∙ are.trees;
}

-- all that a printer has left stands in a table after it has grown
pub stored_kept : {N : Type 0} (f : N → Tree) (old new : List (Cell N)) (p : Printer N) (places : Places)
    → CellsGrow f old new → IsInTable f old p places → IsInTable f new p places
stored_kept f old new p places grows stored = record {
  commands = commands_kept f old new places.commands.items (tasks_of f p) grows stored.commands;
  queue = nodes_kept f old new places.queue.items (step.trees f p.queue.nodes.items) grows stored.queue;
}
