-- Which content a document spells, whichever alternatives are taken. No width, column or mode occurs here.
use Rattle.std.specs.Prelude.{◌≡◌, ℕ, Bool, not, ◌||◌, ◌==◌, List, [], ◌++◌, filter}
use Rattle.prettyless_model.specs.Tree as t
use Rattle.prettyless_model.specs.Tree.{Tree}

-- space, CR and LF
abbrev pub is_blank_byte : ℕ → Bool
is_blank_byte b = (b == 0x20) || (b == 0x0D) || (b == 0x0A)

-- the bytes other than space, CR and LF, in their order
abbrev pub ink : List ℕ → List ℕ
ink bytes = filter (λ b. not (is_blank_byte b)) bytes

-- a document spells a word where it has the word's bytes in their order, by every choice among its alternatives; a
-- failure spells each word
abbrev pub spells : Tree → List ℕ → Type 0
spells t.Fail w = Unit {0}
spells (t.Text s) w = w ≡ ink s
spells (t.TextWithLen n s) w = w ≡ ink s
spells (t.MultilineText s) w = w ≡ ink s
spells (t.Append l r) w = (v : List ℕ) × (u : List ℕ) × spells l v × spells r u × (w ≡ v ++ u)
spells (t.LineSuffix d) w = spells d w
spells (t.Indented how d) w = spells d w
spells (t.Flatten d) w = spells d w
spells (t.BreakOrFlat b f) w = spells b w × spells f w
spells (t.Group d) w = spells d w
spells (t.Union l r) w = spells l w × spells r w
spells (t.PartialUnion l r) w = spells l w × spells r w
spells (t.Chosen test y n) w = spells y w × spells n w
spells _ w = w ≡ []

-- the same with two words: outside line suffixes, and inside them
abbrev pub spelled_parts : Tree → List ℕ → List ℕ → Type 0
spelled_parts t.Fail v u = Unit {0}
spelled_parts (t.Text s) v u = (v ≡ ink s) × (u ≡ [])
spelled_parts (t.TextWithLen n s) v u = (v ≡ ink s) × (u ≡ [])
spelled_parts (t.MultilineText s) v u = (v ≡ ink s) × (u ≡ [])
spelled_parts (t.Append l r) v u =
    (v1 : List ℕ) × (u1 : List ℕ) × (v2 : List ℕ) × (u2 : List ℕ) × spelled_parts l v1 u1 × spelled_parts r v2 u2 × (v ≡ v1 ++ v2)
    × (u ≡ u1 ++ u2)
spelled_parts (t.LineSuffix d) v u = (v ≡ []) × spells d u
spelled_parts (t.Indented how d) v u = spelled_parts d v u
spelled_parts (t.Flatten d) v u = spelled_parts d v u
spelled_parts (t.BreakOrFlat b f) v u = spelled_parts b v u × spelled_parts f v u
spelled_parts (t.Group d) v u = spelled_parts d v u
spelled_parts (t.Union l r) v u = spelled_parts l v u × spelled_parts r v u
spelled_parts (t.PartialUnion l r) v u = spelled_parts l v u × spelled_parts r v u
spelled_parts (t.Chosen test y n) v u = spelled_parts y v u × spelled_parts n v u
spelled_parts _ v u = (v ≡ []) × (u ≡ [])
