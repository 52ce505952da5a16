-- The model of a lexer that returns gaps too.
use Rattle.std.specs.Prelude.{◌≡◌, ℕ, List, [], ◌∷◌, cond, drop, Option, Some, None, MatchOption, ⊤}
use Rattle.std.specs.Str.{IsUtf8, IsCharBoundary}
use Rattle.toml_lexemes.specs.SpacedLexemes as spec
use Rattle.toml_lexemes.specs.View.{toml_text_of, HasTomlKind}
use Rattle.toml_lexemes.specs.declared.lexeme.Lexeme.{Lexeme}
use Rattle.toml_lexemes.specs.declared.spaced.Spaced.{Spaced}
use Rattle.toml_lexemes.specs.declared.spaced.SpacedLexer.TheInside.{Inside}

-- the lexemes that are left, with their gaps, and the end
abbrev pub spaced_lexer_view : Inside → List spec.SpacedToml
spaced_lexer_view a = cond a.ended [] (spec.toml_spaced_lexemes (drop a.place a.text.now))

-- the text may be cut at the place
pub record IsSpacedLexer (a : Inside) : Type 0 where
  pub utf8 : IsUtf8 a.text.now
  pub boundary : IsCharBoundary a.text.now a.place

-- how a lexeme is spelled, if there is one
abbrev pub text_if : Option Lexeme → List ℕ
text_if None = []
text_if (Some l) = toml_text_of l

-- the lexeme, if there is one, is named by how it begins
abbrev pub IsNamedIf : Option Lexeme → Type 0
IsNamedIf None = ⊤
IsNamedIf (Some l) = HasTomlKind l

-- what a clause sees of a lexeme after its gap
abbrev pub spaced_of : Spaced → spec.SpacedToml
spaced_of p = spec.after_toml_gap p.gap.now (text_if p.lexeme)

-- of these the first is returned, and the others are left; or none was left
abbrev pub YieldsSpaced : List spec.SpacedToml → Option Spaced → List spec.SpacedToml → Type 0
YieldsSpaced old r new = MatchOption r ((old ≡ []) × (new ≡ [])) (λ p. (old ≡ spaced_of p ∷ new) × IsNamedIf p.lexeme)
