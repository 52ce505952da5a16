-- What bytes are that show texts and gaps alone: the texts, with gaps around them.
use Rattle.std.specs.Prelude.{◌≡◌, ℕ, List, [], ◌∷◌, ◌++◌}
use Rattle.prettyless_model.specs.Shows.{Item, Shown, Gap, Place, at_start, after_text, with_gap, IsGapAt, IsEndAt, AreFixed, AreShown}

-- Bytes that are the texts among these items, each whole and in their order, with the gaps around them that the items say,
-- from a place on. None of the items is an optional text, and none is late.
abbrev pub IsSpacedFrom : Place → List ℕ → List Item → Type 0
IsSpacedFrom p bytes [] = IsEndAt p bytes
IsSpacedFrom p bytes (Gap r l ∷ items) = IsSpacedFrom (with_gap r l p) bytes items
IsSpacedFrom p bytes (Shown s ∷ items) =
    (g : List ℕ) × (rest : List ℕ) × IsGapAt p g × (bytes ≡ g ++ (s ++ rest)) × IsSpacedFrom after_text rest items
IsSpacedFrom p bytes (i ∷ items) = ⊥

-- the same, from their beginning on
abbrev pub IsSpacedBy : List ℕ → List Item → Type 0
IsSpacedBy bytes items = IsSpacedFrom at_start bytes items

-- bytes that show items of which each is there, in its place, are spaced by them
abbrev pub FixedAreSpaced : Type 0
FixedAreSpaced = (b : List ℕ) (items : List Item) → AreFixed items → AreShown b items → IsSpacedBy b items
