-- Metrics that are kept with a payload.
use Rattle.std.specs.Prelude.{◌≡◌, true}
use Rattle.std.specs.Int.{from_le_bytes, w32}
use Rattle.prettyless_model.specs.declared.metrics.Metrics.{Metrics}
use Rattle.prettyless_text.specs.declared.cached.CachedMetrics.{CachedMetrics}

-- the metrics that are kept
abbrev pub widened : CachedMetrics → Metrics
widened c = record {
  first_width = from_le_bytes w32 c.first_width;
  first_nonempty = c.first_nonempty;
  rest_width = from_le_bytes w32 c.rest_width;
  last_width = from_le_bytes w32 c.last_width;
  last_nonempty = c.last_nonempty;
}

-- they are these, if any are kept
abbrev pub IsCacheOf : CachedMetrics → Metrics → Type 0
IsCacheOf c m = c.kept ≡ true → widened c ≡ m
