use Rattle.std.proofs.Common.{◌≡◌, length}
use Rattle.toml_lexemes.specs.SpacedLexemes.{toml_spaced_lexemes}
use Rattle.toml_documents.specs.Walks.{walked}
use Rattle.toml_documents.proofs.walk.LinesRead.over.Given as goal

-- what is left decides
abbrev pub invariant-loop-found : goal.invariant-loop-found
invariant-loop-found l = walked l.walk l.lexemes ≡ walked l.fn.self (toml_spaced_lexemes l.text)

abbrev pub decreases-loop-found : goal.decreases-loop-found
decreases-loop-found l = length l.lexemes
