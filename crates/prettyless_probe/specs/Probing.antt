-- The result of a probe at one node, and how many nodes a probe may visit.
use Rattle.std.specs.Prelude.{◌≡◌, ℕ, ◌+◌, ◌*◌, ◌-◌, ◌^◌, ◌≤◌, min, max, Bool, true, false, IsTrue, List, [], ◌∷◌, length}
use Rattle.prettyless_model.specs.Tree.{Tree, Group, PartialUnion, size}
use Rattle.prettyless_model.specs.Look.{by_mode}
use Rattle.prettyless_model.specs.declared.mode.Mode.{Mode}
use Rattle.prettyless_model.specs.declared.column.Column.{Column}
use Rattle.prettyless_probe.specs.Stack.{Task, task, tasks_fit}
use Rattle.prettyless_probe.specs.Frames.{framed}
use Rattle.prettyless_probe.specs.Sums.{AllSummed, HaveSum}
use Rattle.prettyless_probe.specs.declared.stack.Below.{Below}
use Rattle.prettyless_probe.specs.Texts.{IsTextsIf, tasks_waiting}
use Rattle.prettyless_probe.specs.declared.stack.Stack.{Stack}
use Rattle.prettyless_probe.specs.declared.probe.Fit.{Fit}
use Rattle.prettyless_probe.specs.declared.probe.Fit.TheVariants.{Exceeds, Fits, FitsAsTexts}
use Rattle.prettyless_probe.specs.declared.command.Command.{Command}
use Rattle.prettyless_probe.specs.declared.visit.ProbeStep.{ProbeStep}
use Rattle.prettyless_probe.specs.declared.visit.ProbeStep.TheVariants.{Answer, Next, Silent}

-- whether the line stays within the width: the answer, or what comes, from this column on, of the node that is read next, if there is
-- one, and of the tasks after it
abbrev pub fits_on : {N : Type 0} → (N → Tree) → ℕ → ProbeStep (Command N) → List Task → Column → Bool → Bool
fits_on f width (Answer b) ts c p = b
fits_on f width (Next n) ts c p = tasks_fit width (task f n ∷ ts) c p
fits_on f width Silent ts c p = tasks_fit width ts c p

-- x is whether the line stays within the width, from a result on
abbrev pub ReadsAs : {N : Type 0} → (N → Tree) → ℕ → ProbeStep (Command N) → Bool → List Task → Column → Bool → Type 0
ReadsAs f width read x ts c p = x ≡ fits_on f width read ts c p

-- how many nodes the node that is read next has
abbrev pub nodes_next : {N : Type 0} → (N → Tree) → ProbeStep (Command N) → ℕ
nodes_next f (Answer b) = 0
nodes_next f (Next n) = size (f n.node)
nodes_next f Silent = 0

-- the result at a node, where the node that is read next is one of the stack's topmost frame
abbrev pub read_in : {N : Type 0} → Stack N → ProbeStep N → ProbeStep (Command N)
read_in s (Answer b) = Answer b
read_in s (Next n) = Next (framed s.here n)
read_in s Silent = Silent

-- the document is its texts: at an answer that is true, and else if those of what comes next are theirs
abbrev pub TextsAt : {N : Type 0} → (N → Tree) → Tree → ProbeStep (Command N) → List Task → Type 0
TextsAt f d (Answer b) ts = IsTrue b → IsTextsIf d []
TextsAt f d (Next n) ts = IsTextsIf d (task f n ∷ ts)
TextsAt f d Silent ts = IsTextsIf d ts

-- k nodes that wait are no more than there is room for, or than are still to wait: at an answer that is true, there is room for all
abbrev pub RoomAt : {N : Type 0} → (N → Tree) → ℕ → ℕ → ProbeStep (Command N) → List Task → Type 0
RoomAt f k room (Answer b) ts = IsTrue b → k ≤ room
RoomAt f k room (Next n) ts = k ≤ max room (tasks_waiting (task f n ∷ ts))
RoomAt f k room Silent ts = k ≤ max room (tasks_waiting ts)

-- whether a node stays within the width
abbrev pub is_fit : Fit → Bool
is_fit Exceeds = false
is_fit Fits = true
is_fit FitsAsTexts = true

-- what a probe has still to do after a result, so that it ends: twice the nodes, and a step more where it goes on with nothing
abbrev pub pace : {N : Type 0} → (N → Tree) → ProbeStep (Command N) → ℕ
pace f (Answer b) = 0
pace f (Next n) = 2 * size (f n.node)
pace f Silent = 1

-- how many nodes the probe that a node needs in a mode may visit, where k nodes follow the node
abbrev pub asked : Tree → Mode → ℕ → ℕ
asked (Group d) m k = by_mode m (size d + k) 0
asked (PartialUnion l r) m k = by_mode m (size l + k) 0
asked _ m k = 0

-- a count that rose by k at least, or is the greatest value
abbrev pub RisesBy : ℕ → ℕ → ℕ → Type 0
RisesBy k old new = min (old + k) (2 ^ 64 - 1) ≤ new

-- where all is summed up, k probes visit two nodes each at most: one for the document, one for all that follows
abbrev pub Few : Bool → Tree → List Task → ℕ → ℕ → ℕ → Type 0
Few has d ts k old new = AllSummed has d ts → new ≤ old + 2 * k

-- a probe has a sum to read at most: nothing comes next, it has no tasks of its own, and those that follow are combined
pub record OneLeft {N : Type 0} (f : N → Tree) (read : ProbeStep (Command N)) (mine under : List Task) (sums : List Below) : Type 0 where
  pub next : nodes_next f read ≡ 0
  pub own : mine ≡ []
  pub whole : HaveSum under
  pub long : length under ≤ length sums
