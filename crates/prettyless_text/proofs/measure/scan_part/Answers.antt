use Rattle.std.proofs.Common.{◌∙◌, sym, below_more}
use Rattle.prettyless_text.proofs.Ascii.{is_ascii-take_below, is_ascii-take_above}
use Rattle.prettyless_text.proofs.measure.scan_part.Goals as goal
use Rattle.prettyless_text.proofs.measure.scan_part.Goals.{then-byte-ge128, else-byte-ge128}

pub loop-i-preserved : goal.loop-i-preserved
loop-i-preserved c = (
  below_more _ _ c.loop-i.invariant.0 (sym c.is_break.ensures ∙ c.if-is_break.false),
  elim c.if-byte-ge128.branch [
    | then-byte-ge128 w ↦ w.ascii-is ∙ sym (is_ascii-take_above _ _ c.loop-i-test.true w.if-byte-ge128.true)
    | else-byte-ge128 w ↦ w.ascii-is ∙ c.loop-i.invariant.1
        ∙ sym (is_ascii-take_below c.as_bytes-bytes.result.now c.loop-i.i w.if-byte-ge128.false)
  ],
)
