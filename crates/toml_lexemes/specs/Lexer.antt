-- The model of a lexer.
use Rattle.std.specs.Prelude.{ℕ, List, drop}
use Rattle.std.specs.Str.{IsUtf8, IsCharBoundary}
use Rattle.text_lexemes.specs.Languages.{between}
use Rattle.toml_lexemes.specs.Lexemes.{cut_toml}
use Rattle.toml_lexemes.specs.declared.lexer.Lexer.TheInside.{Inside}

-- the lexemes that are left
abbrev pub toml_lexer_view : Inside → List (List ℕ)
toml_lexer_view a = cut_toml between (drop a.place a.text.now)

-- the text may be cut at the place
pub record IsTomlLexer (a : Inside) : Type 0 where
  pub utf8 : IsUtf8 a.text.now
  pub boundary : IsCharBoundary a.text.now a.place
