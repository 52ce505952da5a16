use Rattle.json_grammar.proofs.Grammar.{spell_document}
use Rattle.json_grammar.proofs.laws.law_grammar.Goals as goal

pub returns : goal.returns
returns c = spell_document
