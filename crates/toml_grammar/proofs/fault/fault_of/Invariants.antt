use Rattle.toml_grammar.specs.Readings.{reading_of}
use Rattle.toml_grammar.proofs.Steps.{IsRead}
use Rattle.toml_grammar.proofs.fault.fault_of.Given as goal

-- the lexemes so far may stand where they do, and have the bytes that are not left
abbrev pub invariant-loop-found : goal.invariant-loop-found
invariant-loop-found l = IsRead l.text l.found-iterator (reading_of l.reading) l.left
