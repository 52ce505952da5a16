-- Sums of summaries: what a stack shows a probe from each of its nodes down.
use Rattle.std.specs.Prelude.{◌≡◌, ℕ, ◌-◌, ◌^◌, ◌<◌, ◌≤◌, Bool, IsTrue, List, [], ◌∷◌, ◌++◌, drop, take, get_or, length, ⊤, if◌then◌else◌}
use Rattle.prettyless_model.specs.Tree.{Tree, size}
use Rattle.prettyless_model.specs.declared.mode.Mode.TheVariants.{Break}
use Rattle.prettyless_summary.specs.Summary.{HasSummaries, IsSmall, ReadsLook, has_summary}
use Rattle.prettyless_probe.specs.Stack.{Task, in_break, nodes, stack_of, tasks_look}
use Rattle.prettyless_probe.specs.declared.stack.Below.{Below}
use Rattle.prettyless_probe.specs.declared.stack.Stack.{Stack}

-- the n tasks at the bottom
abbrev pub bottom : ℕ → List Task → List Task
bottom n ts = drop (length ts - n) ts

-- the tasks on top of those, which a sum combines that leaves n
abbrev pub combined : ℕ → List Task → List Task
combined n ts = take (length ts - n) ts

-- what is below the run of tasks on top that have summaries in Break
abbrev pub below_run : List Task → List Task
below_run [] = []
below_run (t ∷ ts) = if has_summary t.tree Break then below_run ts else t ∷ ts

-- tasks all of whose nodes have summaries
abbrev pub HaveSummaries : List Task → Type 0
HaveSummaries [] = ⊤
HaveSummaries (t ∷ ts) = HasSummaries t.tree × HaveSummaries ts

-- tasks that are combined: all of their nodes have summaries, and they are too few for a number of their sum to pass 32 bits
abbrev pub HaveSum : List Task → Type 0
HaveSum ts = HaveSummaries ts × (nodes ts < 2 ^ 32)

-- A sum of tasks: what it reads is a look at those that it combines, each in Break. Where no number can pass 32 bits, it combines the
-- run of tasks on top that have summaries.
pub record SumsUp (b : Below) (ts : List Task) : Type 0 where
  pub left : b.left ≤ length ts
  pub looks : ReadsLook b.sum (λ width. tasks_look width (in_break (combined b.left ts)))
  pub run : nodes ts < 2 ^ 32 → (b.left ≡ length (below_run ts)) × IsSmall (nodes ts) b.sum

-- each sum is one of the task at its height and of those below that
abbrev pub AreSums : List Below → List Task → Type 0
AreSums sums ts =
    (above below : List Task) (t : Task) (b : Below) →
    ts ≡ above ++ t ∷ below → length below < length sums → b ≡ get_or sums (length below) b → SumsUp b (t ∷ below)

-- A stack has a sum for each of its nodes where nodes have summaries, and else none.
pub record IsSummed {N : Type 0} (has : Bool) (f : N → Tree) (s : Stack N) : Type 0 where
  pub long : length s.sums.items ≡ (if has then length s.nodes.items else 0)
  pub sums : AreSums s.sums.items (stack_of f s)

-- A probe of a document before tasks finds all summed up: nodes have summaries, the document has one, and the tasks are combined.
pub record AllSummed (has : Bool) (d : Tree) (ts : List Task) : Type 0 where
  pub summaries : IsTrue has
  pub own : HasSummaries d
  pub small : size d < 2 ^ 32
  pub below : HaveSum ts

-- trees all of whose nodes have summaries
abbrev pub TreesHaveSummaries : List Tree → Type 0
TreesHaveSummaries [] = ⊤
TreesHaveSummaries (d ∷ ds) = HasSummaries d × TreesHaveSummaries ds
