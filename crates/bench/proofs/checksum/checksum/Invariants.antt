use Rattle.std.proofs.Common.{◌<◌}
use Rattle.bench.proofs.checksum.checksum.Given as goal

-- the sum stays below the modulus
abbrev pub invariant-loop-byte : goal.invariant-loop-byte
invariant-loop-byte l = l.sum < 4294967291
