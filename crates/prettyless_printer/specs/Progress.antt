-- How far a run has come.
use Rattle.std.specs.Prelude.{◌≡◌, ℕ, ◌+◌, ◌*◌, ◌≤◌, ◌<◌, List, ◌++◌, Bool, true, false}
use Rattle.prettyless_model.specs.declared.options.RenderOptions.{RenderOptions}
use Rattle.prettyless_model.specs.Tree.{Tree, size}
use Rattle.prettyless_model.specs.Layout.{State, Outcome, Done, after_bytes, and_then, accept}
use Rattle.prettyless_model.specs.Levels.{settle}
use Rattle.prettyless_probe.specs.Stack.{Task, follow}
use Rattle.prettyless_step.specs.Steps.{lay_all, chosen, work}

-- What was written since `old`, and then what the tasks above `below` lay, is the whole.
pub record Inside (o : RenderOptions) (whole : Outcome) (limit : ℕ) (below : List Task) (old : List ℕ) (stack : List Task) (st : State)
    (out : List ℕ) : Type 0 where
  pub above : List Task
  pub bytes : List ℕ
  pub stack_is : stack ≡ above ++ below
  pub out_is : out ≡ old ++ bytes
  pub same : after_bytes bytes (lay_all o (settle o) above (follow below) st) ≡ whole
  pub bound : work above st ≤ limit

-- the same, where a choice between two branches comes next
pub record ChoiceNext (o : RenderOptions) (whole : Outcome) (limit : ℕ) (below : List Task) (old : List ℕ) (i : ℕ) (x y : Tree)
    (stack : List Task) (st : State) (out : List ℕ) : Type 0 where
  pub above : List Task
  pub bytes : List ℕ
  pub stack_is : stack ≡ above ++ below
  pub out_is : out ≡ old ++ bytes
  pub same : after_bytes bytes (and_then (chosen o (settle o) i x y (follow stack) st)
      (λ u. lay_all o (settle o) above (follow below) u)) ≡ whole
  pub bound : 2 * (size x + size y) + work above st < limit

-- what a trial of a branch decided: kept or not, by its outcome, with what was written and the states before and after
abbrev pub Decides : Bool → RenderOptions → Outcome → Bool → List ℕ → List ℕ → State → State → Type 0
Decides true o out was old new st u = (bytes : List ℕ) × (new ≡ old ++ bytes) × ((other : Outcome) → accept o was out other ≡ Done bytes u)
Decides false o out was old new st u = (new ≡ old) × (u ≡ st) × ((other : Outcome) → accept o was out other ≡ other)
