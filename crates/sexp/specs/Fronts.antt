-- What bytes begin with, as a reader finds it from the left, and what is after it.
use Rattle.std.specs.Prelude.{◌≡◌, ℕ, ◌≤◌, ◌⊎◌, false, List, [], ◌∷◌, ◌++◌}
use Rattle.std.specs.Char.{is_ascii_digit}
use Rattle.sexp.specs.Value.{SexpValue, Values, number, value_depth, depth_of_all}
use Rattle.sexp.specs.Grammar.{closing, input_line_feed, IsValueText, AreTexts}
use Rattle.sexp.specs.declared.error.RunError.{RunError}
use Rattle.sexp.specs.declared.error.RunError.TheVariants.{NotAnSexp, Memory, Read, Write}

-- after a number no digit comes
abbrev pub EndsNumber : List ℕ → Type 0
EndsNumber [] = Unit {0}
EndsNumber (b ∷ bs) = is_ascii_digit b ≡ false

-- after the whole value nothing comes, or one line feed
abbrev pub IsEnd : List ℕ → Type 0
IsEnd rest = (rest ≡ []) ⊎ (rest ≡ input_line_feed ∷ [])

-- the text of a value, and then these bytes
abbrev pub BeginsValue : SexpValue → List ℕ → List ℕ → Type 0
BeginsValue v bytes rest = (text : List ℕ) × (bytes ≡ text ++ rest) × IsValueText v text

-- the values of a list up to its parenthesis, and then these bytes
abbrev pub Closes : Values → List ℕ → List ℕ → Type 0
Closes vs bytes rest = (text : List ℕ) × (bytes ≡ text ++ closing ∷ rest) × AreTexts vs text

-- the bytes begin with this number, and with no other
pub record IsNumberFront (bytes : List ℕ) (n : ℕ) (rest : List ℕ) : Type 0 where
  pub begins : BeginsValue (number n) bytes rest
  pub only : (m : ℕ) (other : List ℕ) → BeginsValue (number m) bytes other → EndsNumber other → (m ≡ n) × (other ≡ rest)

-- the bytes begin with no number
abbrev pub HasNoNumberFront : List ℕ → Type 0
HasNoNumberFront bytes = (m : ℕ) (other : List ℕ) → BeginsValue (number m) bytes other → EndsNumber other → ⊥

-- the bytes begin with this value of at most so many levels, and with no other of at most so many
pub record IsFront (levels : ℕ) (bytes : List ℕ) (v : SexpValue) (rest : List ℕ) : Type 0 where
  pub begins : BeginsValue v bytes rest
  pub nesting : value_depth v ≤ levels
  pub only : (w : SexpValue) (other : List ℕ) → BeginsValue w bytes other → value_depth w ≤ levels → EndsNumber other
      → (w ≡ v) × (other ≡ rest)

-- the bytes begin with no value of at most so many levels
abbrev pub HasNoFront : ℕ → List ℕ → Type 0
HasNoFront levels bytes = (w : SexpValue) (other : List ℕ) → BeginsValue w bytes other → value_depth w ≤ levels → EndsNumber other → ⊥

-- the bytes begin with these values of a list, of at most so many levels, and with no others of at most so many
pub record IsListFront (levels : ℕ) (bytes : List ℕ) (vs : Values) (rest : List ℕ) : Type 0 where
  pub closes : Closes vs bytes rest
  pub nesting : depth_of_all vs ≤ levels
  pub only : (ws : Values) (other : List ℕ) → Closes ws bytes other → depth_of_all ws ≤ levels → (ws ≡ vs) × (other ≡ rest)

-- the bytes begin with no values of a list of at most so many levels
abbrev pub HasNoListFront : ℕ → List ℕ → Type 0
HasNoListFront levels bytes = (ws : Values) (other : List ℕ) → Closes ws bytes other → depth_of_all ws ≤ levels → ⊥

-- why nothing was read: this fact, or a refusal of memory
abbrev pub RefusesInput : RunError → Type 0 → Type 0
RefusesInput NotAnSexp fact = fact
RefusesInput (Memory e) fact = Unit {0}
RefusesInput (Read e) fact = ⊥
RefusesInput (Write e) fact = ⊥
