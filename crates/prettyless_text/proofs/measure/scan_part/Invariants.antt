use Rattle.std.proofs.Common.{◌≡◌, ℕ, ◌<◌, false, take, slice_index}
use Rattle.prettyless_model.specs.Metrics.{is_break, is_ascii}
use Rattle.prettyless_text.proofs.measure.scan_part.Given as goal

abbrev pub invariant-loop-i : goal.invariant-loop-i
invariant-loop-i l =
    ((k : ℕ) → k < l.i → is_break (slice_index l.bytes k) ≡ false) × (l.ascii ≡ is_ascii (take l.i l.bytes))
