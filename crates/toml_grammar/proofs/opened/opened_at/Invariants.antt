use Rattle.toml_grammar.proofs.Opening.{IsOpened}
use Rattle.toml_grammar.proofs.opened.opened_at.Given as goal

-- the lexemes so far are before the fault
abbrev pub invariant-loop-found : goal.invariant-loop-found
invariant-loop-found l = IsOpened l.text l.fault l.found-iterator l.opened.items l.left
