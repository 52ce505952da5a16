use Rattle.std.proofs.Common.{◌≡◌, true, take}
use Rattle.prettyless_model.specs.Metrics.{is_ascii}
use Rattle.json_formatter.proofs.columns.is_short_ascii.Given as goal

-- the bytes so far are below 128
abbrev pub invariant-loop-place : goal.invariant-loop-place
invariant-loop-place l = is_ascii (take l.place l.bytes) ≡ true
