use Rattle.std.proofs.Common.{◌≡◌, length}
use Rattle.toml_documents.specs.Numbers.{only_number_words}
use Rattle.toml_documents.proofs.numbers.only_numbers.Given as goal

-- what is left decides
abbrev pub invariant-loop-lexeme : goal.invariant-loop-lexeme
invariant-loop-lexeme l = only_number_words l.fn.lexemes ≡ only_number_words l.lexemes

abbrev pub decreases-loop-lexeme : goal.decreases-loop-lexeme
decreases-loop-lexeme l = length l.lexemes
