use Rattle.std.proofs.Common.{◌≡◌, ◌++◌, map, All}
use Rattle.toml_lexemes.specs.Lexemes.{toml_lexemes_of}
use Rattle.toml_lexemes.specs.View.{toml_text_of, HasTomlKind}
use Rattle.toml_lexemes.proofs.lexer.lexemes.Given as goal

-- the lexemes so far, and then those that are left
abbrev pub invariant-loop-lexeme : goal.invariant-loop-lexeme
invariant-loop-lexeme l = record {
  texts : map toml_text_of l.found.items ++ l.lexeme-iterator ≡ toml_lexemes_of l.text;
  names : All HasTomlKind l.found.items;
}
