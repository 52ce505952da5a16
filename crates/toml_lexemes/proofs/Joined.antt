-- The lexemes of a text with their gaps are the text, put together.
use Rattle.std.proofs.Common.{◌≡◌, ℕ, List, [], ◌∷◌, ◌++◌, map, All}
use Rattle.text_lexemes.specs.Languages.{between}
use Rattle.text_lexemes.proofs.JoinedTexts as joined
use Rattle.text_lexemes.proofs.WellSpaced.{ends_alone}
use Rattle.toml_lexemes.specs.Lexemes.{cut_toml, toml}
use Rattle.toml_lexemes.specs.Spaced.{IsTomlGap}
use Rattle.toml_lexemes.specs.SpacedLexemes.{SpacedToml, after_toml_gap, toml_spaced_as, toml_spaced_lexemes, toml_put_together}

-- the first lexeme with its gap, and the others
pub first_spaced : (g s rest : List ℕ) (ss : List (List ℕ)) → IsTomlGap g → cut_toml between s ≡ s ∷ []
    → toml_spaced_as (g ++ (s ++ rest)) (s ∷ ss) ≡ after_toml_gap g s ∷ toml_spaced_as rest ss
first_spaced g s rest ss gap alone = joined.first_spaced toml g s [] rest ss gap (ends_alone toml s alone)

pub joined_spaced : (text : List ℕ) → toml_put_together (toml_spaced_lexemes text) ≡ text
joined_spaced text = joined.texts_joined toml text

pub gaps_spaced : (text : List ℕ) → All (λ p. IsTomlGap p.gap) (toml_spaced_lexemes text)
gaps_spaced text = joined.gaps_blank toml text

pub lexemes_spaced : (text : List ℕ) → map (λ (p : SpacedToml). p.lexeme) (toml_spaced_lexemes text) ≡ cut_toml between text ++ [] ∷ []
lexemes_spaced text = joined.lexemes_spaced toml text
