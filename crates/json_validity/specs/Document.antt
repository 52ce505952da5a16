-- Which value a text is. It is what `document` of the toolchain's `json` says, but for the depth.
use Rattle.std.specs.Prelude.{◌≡◌, ◌≤◌, ℕ, List, Option, Some, option_and_then}
use Rattle.json.specs.Json.{Json, if_last, value}
use Rattle.json.specs.Lex.{tokens}
use Rattle.json.specs.Tree.{depth}

-- how deep arrays and objects may nest
abbrev pub max_depth : ℕ
max_depth = 100000

-- the value that a text is, read with so many levels
abbrev pub document_within : ℕ → List ℕ → Option Json
document_within most text = option_and_then (λ p. if_last p.0 p.1) (value most (tokens text))

-- the value that a text is
abbrev pub document : List ℕ → Option Json
document text = document_within max_depth text

-- the text is a value whose arrays and objects are at most so deep in one another
pub record IsJsonWithin (most : ℕ) (text : List ℕ) : Type 0 where
  pub json : Json
  pub is : document text ≡ Some json
  pub shallow : depth json ≤ most
