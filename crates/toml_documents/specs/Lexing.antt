-- What comes next among the lexemes of a list.
use Rattle.std.specs.Prelude.{◌≡◌, ◌⊎◌, List, [], ◌∷◌, ℕ, true}
use Rattle.toml_lexemes.specs.View.{toml_text_of}
use Rattle.toml_lexemes.specs.declared.lexeme.Lexeme.{Lexeme}
use Rattle.toml_documents.specs.Kinds.{is_closing}

-- nothing comes next, or what closes a list
abbrev pub ClosesNext : List (List ℕ) → Type 0
ClosesNext ss = (ss ≡ []) ⊎ ((x : Lexeme) × (rest : List (List ℕ)) × (ss ≡ toml_text_of x ∷ rest) × (is_closing x ≡ true))
