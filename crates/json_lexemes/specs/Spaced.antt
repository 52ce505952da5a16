-- Texts with gaps around them.
use Rattle.std.specs.Prelude.{◌≡◌, ℕ, true, List, [], ◌∷◌, ◌++◌, ⊤}
use Rattle.json.specs.Word.{is_space}

-- a gap: JSON's spaces alone, which are the space, the tab, LF and CR
abbrev pub IsGap : List ℕ → Type 0
IsGap [] = ⊤
IsGap (x ∷ xs) = (is_space x ≡ true) × IsGap xs

-- bytes that are these texts in their order, with gaps before, between and after them, any of which may be empty
abbrev pub IsSpacedJson : List ℕ → List (List ℕ) → Type 0
IsSpacedJson bytes [] = IsGap bytes
IsSpacedJson bytes (s ∷ ss) =
    (g : List ℕ) × (rest : List ℕ) × IsGap g × (bytes ≡ g ++ (s ++ rest)) × IsSpacedJson rest ss
