use Rattle.json_grammar.specs.Steps.{json_reading_of}
use Rattle.json_grammar.proofs.Reached.{IsRead}
use Rattle.json_grammar.proofs.fault.stop_in.Given as goal

-- the lexemes so far may stand where they do, and end at the offset
abbrev pub invariant-loop-lexeme : goal.invariant-loop-lexeme
invariant-loop-lexeme l = IsRead l.text l.lexeme-iterator (json_reading_of l.reading) l.offset
