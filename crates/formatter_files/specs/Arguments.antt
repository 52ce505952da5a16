-- The words that a program is called with, as texts.
use Rattle.std.specs.Prelude.{◌≡◌, ℕ, List, [], ◌∷◌, ◌++◌}
use Rattle.std.specs.Str.{IsUtf8}

-- The text of a word: its bytes. Where they are no UTF-8, a text that no word has and no file is called by: it ends with a NUL, which
-- the system has in neither.
pub record IsTextOf (bytes text : List ℕ) : Type 0 where
  pub same : IsUtf8 bytes → text ≡ bytes
  pub marked : ¬ (IsUtf8 bytes) → (shown : List ℕ) × (text ≡ shown ++ 0 ∷ [])
