-- Where a text stops being TOML.
use Rattle.std.specs.Prelude.{◌≡◌, ℕ, ◌+◌, List, ◌∷◌, ◌++◌, length, Ok, Err}
use Rattle.toml_lexemes.specs.SpacedLexemes.{SpacedToml, toml_spaced_lexemes, toml_put_together}
use Rattle.toml_lexemes.specs.SpacedLexer.{text_if}
use Rattle.toml_grammar.specs.Grammar.{Reading, first_reading, lexeme_step, reading_after}
use Rattle.toml_grammar.specs.declared.fault.Fault.{Fault}

-- The fault of a text: the lexemes before it may stand where they do, and the one that was found may not. The fault has its
-- offset, which is in bytes, and what was expected in its place.
pub record IsFault (text : List ℕ) (fault : Fault) : Type 0 where
  pub before : List SpacedToml
  pub found : SpacedToml
  pub after : List SpacedToml
  pub reading : Reading
  pub cut : toml_spaced_lexemes text ≡ before ++ found ∷ after
  pub reads : reading_after first_reading before ≡ Ok reading
  pub stops : lexeme_step reading found ≡ Err fault.expected
  pub lexeme : text_if fault.found ≡ found.lexeme
  pub place : fault.offset ≡ length (toml_put_together before) + length found.gap
