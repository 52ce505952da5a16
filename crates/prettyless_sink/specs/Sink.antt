-- What a call does to a sink's bytes, where those are known, and to its count of failures.
use Rattle.std.specs.Prelude.{◌≡◌, ℕ, List, ◌++◌, ◌+◌, ◌-◌, ◌^◌, ◌<◌, ◌≤◌, min, length, take, Option, None, Some, IsSome, []}
use Rattle.std.specs.Str.{IsCharBoundary}
use Rattle.std.specs.Io.KnownBytes.{Appends}

-- a beginning of the text was appended
abbrev pub AppendsBeginning : List ℕ → List ℕ → List ℕ → Type 0
AppendsBeginning old new text = (front : List ℕ) × (back : List ℕ) × (text ≡ front ++ back) × (new ≡ old ++ front)

-- one failure more, in a count that stays at its greatest value
abbrev pub rise : ℕ → ℕ
rise n = min (n + 1) (2 ^ 64 - 1)

-- a count of bytes that ends between two characters of the text, and is not 0 unless the text is empty
abbrev pub IsFairCount : List ℕ → ℕ → Type 0
IsFairCount text count = IsCharBoundary text count × (0 < length text → 0 < count)

-- so many bytes of the text were appended; of a count past its end only that a beginning was
abbrev pub AppendsCount : List ℕ → List ℕ → List ℕ → ℕ → Type 0
AppendsCount old new text count = (count ≤ length text → new ≡ old ++ take count text) × AppendsBeginning old new text

-- a count that is not fair is a failure, and no other is
abbrev pub RisesIfUnfair : ℕ → ℕ → List ℕ → ℕ → Type 0
RisesIfUnfair old new text count = (IsFairCount text count → new ≡ old) × (¬ IsFairCount text count → new ≡ rise old)

-- the bytes that are known, or none
abbrev pub known : Option (List ℕ) → List ℕ
known None = []
known (Some bytes) = bytes

-- Known bytes stay known, and P holds of those before and after.
abbrev pub IfKnown : Option (List ℕ) → Option (List ℕ) → (List ℕ → List ℕ → Type 0) → Type 0
IfKnown old new P = IsSome old → IsSome new × P (known old) (known new)

-- All of the text was appended, and the failures stayed, from n to m.
abbrev pub Accepts : Option (List ℕ) → Option (List ℕ) → List ℕ → ℕ → ℕ → Type 0
Accepts old new text n m = IfKnown old new (λ before after. (after ≡ before ++ text) × (m ≡ n))

-- A beginning of the text was appended, and the failures rose by one, from n to m.
abbrev pub Refuses : Option (List ℕ) → Option (List ℕ) → List ℕ → ℕ → ℕ → Type 0
Refuses old new text n m = IfKnown old new (λ before after. AppendsBeginning before after text × (m ≡ rise n))

-- So many bytes of the text were appended, and the failures rose where that count is not fair.
abbrev pub AcceptsCount : Option (List ℕ) → Option (List ℕ) → List ℕ → ℕ → ℕ → ℕ → Type 0
AcceptsCount old new text count n m = IfKnown old new (λ before after. AppendsCount before after text count × RisesIfUnfair n m text count)

-- a beginning of the bytes was appended to those that are known
abbrev pub AppendsKnownBeginning : Option (List ℕ) → Option (List ℕ) → List ℕ → Type 0
AppendsKnownBeginning old new bytes = (front : List ℕ) × (back : List ℕ) × (bytes ≡ front ++ back) × Appends old new front

-- the same, and not all of the bytes
abbrev pub AppendsProperBeginning : Option (List ℕ) → Option (List ℕ) → List ℕ → Type 0
AppendsProperBeginning old new bytes = (front : List ℕ) × (back : List ℕ) × (bytes ≡ front ++ back) × (0 < length back)
    × Appends old new front
