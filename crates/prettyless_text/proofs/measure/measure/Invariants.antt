use Rattle.std.proofs.Common.{◌≡◌}
use Rattle.std.specs.Option.{option_copied}
use Rattle.prettyless_model.specs.Metrics as spec
use Rattle.prettyless_trees.specs.Breaks.{parts_left}
use Rattle.prettyless_text.proofs.Measured.{measured, bytes_left}
use Rattle.prettyless_text.proofs.measure.measure.Given as goal

abbrev pub invariant-loop-rest : goal.invariant-loop-rest
invariant-loop-rest l = measured l.metrics (parts_left (option_copied l.rest)) ≡ spec.metrics l.source

abbrev pub decreases-loop-rest : goal.decreases-loop-rest
decreases-loop-rest l = bytes_left (option_copied l.rest)
