-- Gaps: runs of spaces.
use Rattle.std.specs.Prelude.{ℕ, List, replicate}

-- so many spaces
abbrev pub spaces : ℕ → List ℕ
spaces n = replicate n 32
