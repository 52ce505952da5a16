use Rattle.std.proofs.Common.{◌≡◌, take, nat_lt}
use Rattle.prettyless_model.specs.Metrics.{is_ascii}
use Rattle.prettyless_text.proofs.measure.is_ascii.Given as goal

abbrev pub invariant-loop-byte : goal.invariant-loop-byte
invariant-loop-byte l = nat_lt l.all 128 ≡ is_ascii (take l.byte-index l.bytes)
