-- Nodes with frames: which indent and mode each node has.
use Rattle.std.specs.Prelude.{◌≡◌, ℕ, ◌<◌, ◌≤◌, List, [], ◌∷◌, ◌++◌, map, take, drop, ⊤}
use Rattle.std.specs.Coded.{×_prop, Unit-prop, le_prop}
use Rattle.prettyless_probe.specs.declared.command.Command.{Command}
use Rattle.prettyless_probe.specs.declared.command.Frame.{Frame}

-- a node in a frame
abbrev pub framed : {N : Type 0} → Frame → N → Command N
framed x n = record { indent = x.indent; mode = x.mode; node = n }

-- the height from which the first of some frames and a last one has its nodes
abbrev pub lowest : List Frame → Frame → ℕ
lowest [] here = here.below
lowest (x ∷ xs) here = x.below

-- the nodes, each in its frame: those of a frame go up to where the next one begins
abbrev pub spread : {N : Type 0} → List Frame → Frame → List N → List (Command N)
spread [] here nodes = map (framed here) (drop here.below nodes)
spread (x ∷ xs) here nodes = map (framed x) (drop x.below (take (lowest xs here) nodes)) ++ spread xs here nodes

-- the heights of frames rise, so each but the last has a node
abbrev pub Rises : List Frame → Frame → Type 0
Rises [] here = ⊤
Rises (x ∷ xs) here = (x.below < lowest xs here) × Rises xs here

-- that is so in one way only
pub Rises-prop : (xs : List Frame) (here : Frame) → IsProp (Rises xs here)
Rises-prop [] here = Unit-prop
Rises-prop (x ∷ xs) here = ×_prop le_prop (Rises-prop xs here)

-- the frames cover n nodes: the first begins at the bottom, and the last no higher than the top
pub record Covers (xs : List Frame) (here : Frame) (n : ℕ) : Type 0 where
  pub bottom : lowest xs here ≡ 0
  pub rises : Rises xs here
  pub top : here.below ≤ n
