use Rattle.std.proofs.Common.{length}
use Rattle.toml_formatter.specs.Presses.{IsPressed}
use Rattle.toml_formatter.proofs.document.lay_text.Given as goal

-- the statements are laid out but for those that are left
abbrev pub invariant-loop-first : goal.invariant-loop-first
invariant-loop-first l = IsPressed l.press l.laid l.lexemes

abbrev pub decreases-loop-first : goal.decreases-loop-first
decreases-loop-first l = length l.lexemes
