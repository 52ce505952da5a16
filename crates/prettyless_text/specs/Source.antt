-- Where the source of a payload is.
use Rattle.std.specs.Prelude.{ℕ, List}
use Rattle.std.specs.Box.{boxed_str_bytes}
use Rattle.prettyless_text.specs.declared.cached.CachedMetrics.{CachedMetrics}
use Rattle.prettyless_text.specs.declared.multiline.MultilineSource.{MultilineSource}
use Rattle.prettyless_text.specs.declared.multiline.MultilineSource.TheVariants.{Owned, Borrowed}

-- the bytes of a source, wherever they are
abbrev pub source_bytes : MultilineSource → List ℕ
source_bytes (Owned c s) = boxed_str_bytes s.value
source_bytes (Borrowed c s) = s.now

-- the metrics that are kept beside a source
abbrev pub cache_of : MultilineSource → CachedMetrics
cache_of (Owned c s) = c
cache_of (Borrowed c s) = c
