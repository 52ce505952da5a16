-- Small texts and their statements, and small items that are read or not.
use Rattle.std.specs.Prelude.{◌≡◌, ◌≢◌, ℕ, false, List, map, codes}
use Prim.Native.String.{String}
use Rattle.prettyless_model.specs.Shows.{Item, Shown, Mark}
use Rattle.toml_lexemes.specs.Statements.{statements, statements_of}
use Rattle.toml_lexemes.specs.Shown.{Stage, first_stage, AreRead}

-- a statement of these lexemes
abbrev pub statement : List String → List (List ℕ)
statement ss = map codes ss

-- the text has these statements
abbrev pub SaysStatements : String → List (List (List ℕ)) → Type 0
SaysStatements text lines = statements (codes text) ≡ lines

-- the text has the statements of another, in which they are easier to read
abbrev pub SaysTheSame : String → String → Type 0
SaysTheSame text other = statements (codes text) ≡ statements (codes other)

-- the text has other statements
abbrev pub SaysOther : String → String → Type 0
SaysOther text other = statements (codes text) ≢ statements (codes other)

-- a text and an optional text that are ASCII
abbrev pub shown : String → Item
shown s = Shown (codes s)

abbrev pub mark : String → Item
mark s = Mark (codes s)

-- the items are read as these statements
abbrev pub AreReadAs : List Item → List (List (List ℕ)) → Type 0
AreReadAs items lines = (b : Stage) × AreRead first_stage items b × (b.marked ≡ false) × (statements_of b.collected ≡ lines)

-- the items are not read
abbrev pub AreNotRead : List Item → Type 0
AreNotRead items = (b : Stage) → AreRead first_stage items b → ⊥
