use Rattle.std.proofs.Common.{◌≡◌, ◌≤◌, ◌-◌, true, length, take}
use Rattle.prettyless_model.specs.Metrics.{is_ascii}
use Rattle.json_formatter.proofs.columns.ascii_front.Given as goal

-- the bytes so far are below 128
abbrev pub invariant-loop-front : goal.invariant-loop-front
invariant-loop-front l = (l.front ≤ length l.bytes) × (is_ascii (take l.front l.bytes) ≡ true)

abbrev pub decreases-loop-front : goal.decreases-loop-front
decreases-loop-front l = length l.bytes - l.front
