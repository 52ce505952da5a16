-- What a formatter took, piece by piece.
use Rattle.std.specs.Prelude.{ℕ, List}
use Rattle.std.specs.Fmt.{IsFlush, HasWrittenStyled}
use Rattle.std.specs.declared.fmt.Formatter.{Formatter}

-- The formatter was f, and took these bytes since: it is g. That is so if it indents nothing.
abbrev pub Streams : {W : Type 0} → (W → List ℕ → W → Type 0) → Formatter W → List ℕ → Formatter W → Type 0
Streams took f given g = IsFlush f → HasWrittenStyled took f given g
