use Rattle.std.proofs.Common.{◌≡◌, ◌<◌, ◌≤◌, ◌||◌, ℕ, false, get_or}
use Rattle.editor_config.proofs.pattern.join.Given as goal

-- joined so far
abbrev pub invariant-loop-place : goal.invariant-loop-place
invariant-loop-place l =
    ((k : ℕ) → k < l.place → get_or l.passes k false ≡ (get_or l.initial.passes k false || get_or l.others k false))
    × ((k : ℕ) → l.place ≤ k → get_or l.passes k false ≡ get_or l.initial.passes k false)
