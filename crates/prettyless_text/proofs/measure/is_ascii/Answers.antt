use Rattle.std.proofs.Common.{arith}
use Rattle.std.proofs.lemmas.Grind.{common_steps}
use Rattle.prettyless_text.proofs.Ascii.{is_ascii-or}
use Rattle.prettyless_text.proofs.measure.is_ascii.Goals as goal

pub loop-byte-preserved : goal.loop-byte-preserved
loop-byte-preserved c =
    is_ascii-or c.loop-byte.all c.as_bytes-bytes.result.now c.loop-byte.byte-index c.loop-byte-test.true c.loop-byte.invariant

pub returns : goal.returns
returns c = grind (arith, common_steps)
