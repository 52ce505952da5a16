-- What the lexemes of a text are, where its strings are closed: what may be shown.
use Rattle.std.specs.Prelude.{◌≡◌, ℕ, true, List, [], ◌∷◌, ◌⊎◌, ⊤}
use Rattle.toml_lexemes.specs.Bytes as byte
use Rattle.toml_lexemes.specs.Bytes.{is_quote, head}
use Rattle.toml_lexemes.specs.Spaced.{MayFollow}
use Rattle.toml_lexemes.specs.Statements.{Role, a_comment, a_line_end, role, trimmed}
use Rattle.toml_lexemes.specs.Shown.{IsWholeLexeme}

-- if the lexeme is a string, it is closed: a space may stand after it
abbrev pub IsClosedString : List ℕ → Type 0
IsClosedString s = is_quote (head s) ≡ true → MayFollow s (byte.blank_space ∷ [])

-- no lexeme comes next, or a line end does
abbrev pub LineEndsNext : List (List ℕ) → Type 0
LineEndsNext ss = (ss ≡ []) ⊎ ((rest : List (List ℕ)) × (ss ≡ (byte.line_feed ∷ []) ∷ rest))

-- A lexeme of this role in front of others is whole. Of a comment so are the bytes without the blanks at its end, and its line
-- ends after it.
abbrev pub IsSoundIn : Role → List ℕ → List (List ℕ) → Type 0
IsSoundIn a_comment s ss = IsWholeLexeme (trimmed s) × LineEndsNext ss
IsSoundIn a_line_end s ss = s ≡ byte.line_feed ∷ []
IsSoundIn r s ss = IsWholeLexeme s

-- the lexeme may be shown, in front of these
pub record IsSound (s : List ℕ) (ss : List (List ℕ)) : Type 0 where
  pub sound : IsSoundIn (role s) s ss

-- each lexeme may be shown
abbrev pub AreSound : List (List ℕ) → Type 0
AreSound [] = ⊤
AreSound (s ∷ ss) = IsSound s ss × AreSound ss
