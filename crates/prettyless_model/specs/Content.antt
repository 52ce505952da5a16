-- The content of a layout: what a document spells is what its layout writes, but for space, CR and LF. What it shows is there:
-- each text whole, with such gaps between them.
use Rattle.std.specs.Prelude.{◌≡◌, ℕ, ◌+◌, ◌≤◌, max, ◌==◌, List, [], ◌∷◌, ◌++◌, Option, Some, ◌⊎◌, ⊤, count_by}
use Rattle.prettyless_model.specs.declared.options.RenderOptions.{RenderOptions}
use Rattle.prettyless_model.specs.Tree.{Tree, Append, LineSuffix, Indented, Flatten, BreakOrFlat, Group, Union, PartialUnion, Chosen}
use Rattle.prettyless_model.specs.Layout.{Whole, layout}
use Rattle.prettyless_model.specs.Spelling.{ink, spells, spelled_parts}
use Rattle.prettyless_model.specs.Shows.{Item, AreShown, shows}

-- how deep line suffixes are in one another: 0 where there are none, 1 where none is inside another
abbrev pub suffix_depth : Tree → ℕ
suffix_depth (Append l r) = max (suffix_depth l) (suffix_depth r)
suffix_depth (LineSuffix d) = suffix_depth d + 1
suffix_depth (Indented how d) = suffix_depth d
suffix_depth (Flatten d) = suffix_depth d
suffix_depth (BreakOrFlat b f) = max (suffix_depth b) (suffix_depth f)
suffix_depth (Group d) = suffix_depth d
suffix_depth (Union l r) = max (suffix_depth l) (suffix_depth r)
suffix_depth (PartialUnion l r) = max (suffix_depth l) (suffix_depth r)
suffix_depth (Chosen test y n) = max (suffix_depth y) (suffix_depth n)
suffix_depth _ = 0

-- how often a byte occurs
abbrev pub count : ℕ → List ℕ → ℕ
count c bytes = count_by (λ b. b == c) bytes

-- the bytes are two words that are interleaved, each in its own order
abbrev pub IsMerge : List ℕ → List ℕ → List ℕ → Type 0
IsMerge [] v u = (v ≡ []) × (u ≡ [])
IsMerge (b ∷ bs) v u =
    ((rest : List ℕ) × (v ≡ b ∷ rest) × IsMerge bs rest u) ⊎ ((rest : List ℕ) × (u ≡ b ∷ rest) × IsMerge bs v rest)

-- what bytes have of the content of a document that they are the layout of
pub record HasContent (d : Tree) (b : List ℕ) : Type 0 where
  -- with no line suffix: what the document spells, in its order
  pub in_order : (w : List ℕ) → spells d w → suffix_depth d ≡ 0 → ink b ≡ w
  -- each byte as often as in what the document spells
  pub counted : (w : List ℕ) → spells d w → (c : ℕ) → count c (ink b) ≡ count c w
  -- with no line suffix inside another: what it spells outside its line suffixes and what it spells inside them, interleaved
  pub merged : (v u : List ℕ) → spelled_parts d v u → suffix_depth d ≤ 1 → IsMerge (ink b) v u
  -- what the document shows: its texts, each whole, in their order, with such gaps between them; late ones at the end of
  -- their line
  pub shown : (items : List Item) → shows d items → AreShown b items

-- whole layouts have the content of their documents
abbrev pub LayoutsHaveContent : Type 0
LayoutsHaveContent = (o : RenderOptions) (d : Tree) (b : List ℕ) → layout o d ≡ Whole b → HasContent d b

-- what was appended has the content of the document
abbrev pub AppendsContent : Tree → List ℕ → List ℕ → Type 0
AppendsContent d old new = (b : List ℕ) × (new ≡ old ++ b) × HasContent d b

-- the same where it is known what was there before and afterwards
abbrev pub AppendsKnownContent : Tree → Option (List ℕ) → Option (List ℕ) → Type 0
AppendsKnownContent d (Some old) (Some new) = AppendsContent d old new
AppendsKnownContent d _ _ = ⊤
