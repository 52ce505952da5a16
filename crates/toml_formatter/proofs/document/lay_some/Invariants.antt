use Rattle.std.proofs.Common.{◌≤◌, length}
use Rattle.toml_formatter.specs.Presses.{IsPressed}
use Rattle.toml_formatter.proofs.document.lay_some.Given as goal

-- the statements are laid out but for those that are left
abbrev pub invariant-loop-lexemes : goal.invariant-loop-lexemes
invariant-loop-lexemes l = IsPressed l.press l.laid l.lexemes × (length l.lexemes ≤ length l.fn.lexemes)

abbrev pub decreases-loop-lexemes : goal.decreases-loop-lexemes
decreases-loop-lexemes l = length l.lexemes
