use Rattle.toml_grammar.proofs.Depths.{IsShallow}
use Rattle.toml_grammar.proofs.nesting.too_deep.Given as goal

-- the brackets of the lexemes so far are not too deep
abbrev pub invariant-loop-found : goal.invariant-loop-found
invariant-loop-found l = IsShallow l.text l.found-iterator l.depth l.left
