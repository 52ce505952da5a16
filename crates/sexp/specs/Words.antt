-- The words that the program is started with.
use Rattle.std.specs.Prelude.{◌≡◌, ℕ, ◌^◌, ◌<◌, List, [], ◌∷◌, ◌++◌, String, string_bytes, map, codes}
use Rattle.std.specs.Global.{Global}
use Rattle.prettyless_model.specs.declared.options.RenderOptions.{RenderOptions}
use Rattle.prettyless_model.specs.declared.options.LineEnding.{LineEnding}
use Rattle.prettyless_model.specs.declared.options.LineEnding.TheVariants.{Lf, Crlf}
use Rattle.prettyless_model.specs.declared.options.IndentationPolicy.{IndentationPolicy}
use Rattle.prettyless_model.specs.declared.options.IndentationPolicy.TheVariants.{Eager, Deferred}
use Rattle.sexp.specs.Grammar.{IsDecimal}

-- the word for an end of lines, or none
abbrev pub ending_words : LineEnding → List (List ℕ)
ending_words Lf = []
ending_words Crlf = codes "crlf" ∷ []

-- the word for a policy, or none
abbrev pub policy_words : IndentationPolicy → List (List ℕ)
policy_words Eager = []
policy_words Deferred = codes "deferred" ∷ []

-- they are a width in decimal, below 2 ^ 64, and the words for the other options
abbrev pub AskFor : List (String Global) → RenderOptions → Type 0
AskFor [] options = ⊥
AskFor (word ∷ words) options =
    IsDecimal (string_bytes word) options.width × (options.width < 2 ^ 64)
    × (map string_bytes words ≡ ending_words options.line_ending ++ policy_words options.indentation_policy)
