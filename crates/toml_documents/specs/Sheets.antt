-- Lines that are laid out one after another, with their comments aligned.
use Rattle.std.specs.Prelude.{◌≡◌, ℕ, Bool, true, false, List, [], ◌∷◌, ◌++◌, ⊤}
use Rattle.std.specs.String.{string_bytes}
use Rattle.toml_lexemes.specs.SpacedLexemes.{SpacedToml, toml_spaced_lexemes}
use Rattle.toml_documents.specs.Alignment.{comments_as, with_aligned_comments}
use Rattle.toml_documents.specs.Walks.{first_walk, is_text_end, walked}
use Rattle.toml_documents.specs.declared.sheet.Sheet.{Sheet}
use Rattle.toml_documents.specs.declared.walk.LinesRead.{LinesRead}

-- lines with their comments aligned, where they have none at their ends or may have some
abbrev pub settled_lines : Bool → List ℕ → List ℕ
settled_lines true bytes = bytes
settled_lines false bytes = with_aligned_comments bytes

-- none is the end of the text
abbrev pub AreLexemes : List SpacedToml → Type 0
AreLexemes [] = ⊤
AreLexemes (p ∷ ps) = (is_text_end p.lexeme ≡ false) × AreLexemes ps

-- The bytes are lines with these lexemes, which they have in front of any others. The walk is that after them.
pub record AreWalked (w : LinesRead) (bytes : List ℕ) : Type 0 where
  pub spaced : List SpacedToml
  pub lexemes : AreLexemes spaced
  pub walk : w ≡ walked first_walk spaced
  pub before : (later : List ℕ) → toml_spaced_lexemes (bytes ++ later) ≡ spaced ++ toml_spaced_lexemes later

-- The sheet has lines that were laid out as these bytes.
pub record IsSheet (sheet : Sheet) (bytes : List ℕ) : Type 0 where
  -- the lines that are as they are to be, as they were laid out
  pub front : List ℕ
  pub split : bytes ≡ front ++ string_bytes sheet.waiting
  -- whatever comes after them
  pub done : (later : List ℕ) → comments_as sheet.align (front ++ later) ≡ string_bytes sheet.done ++ comments_as sheet.align later
  -- lines wait for their comments alone
  pub none : sheet.align ≡ false → string_bytes sheet.waiting ≡ []
  pub walked : sheet.walk.whole ≡ true → AreWalked sheet.walk (string_bytes sheet.waiting)
