-- The layout of pieces from a state on.
use Rattle.std.proofs.Common.{ℕ, List}
use Rattle.json_lexemes.specs.SpacedLexemes.{put_together}
use Rattle.json_formatter.specs.Gaps.{spaced_from}
use Rattle.json_formatter.specs.declared.gaps.State.{State}
use Rattle.json_formatter.specs.declared.style.Style.{Style}

-- the bytes of pieces, each after its gap
abbrev pub laid_from : Style → State → List (List ℕ) → List ℕ
laid_from style st ss = put_together (spaced_from style st ss)
