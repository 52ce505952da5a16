-- What the options mean in bytes.
use Rattle.std.specs.Prelude.{ℕ, List, [], ◌∷◌}
use Rattle.prettyless_model.specs.declared.options.LineEnding.{LineEnding}
use Rattle.prettyless_model.specs.declared.options.LineEnding.TheVariants.{Lf, Crlf}
use Rattle.prettyless_model.specs.declared.options.IndentationPolicy.TheVariants.{Eager}
use Rattle.prettyless_model.specs.declared.options.RenderOptions.{RenderOptions}

-- the bytes that end a line
abbrev pub ending : LineEnding → List ℕ
ending Lf = 10 ∷ []
ending Crlf = 13 ∷ 10 ∷ []

-- this width, with LF and indents that are written at once
abbrev pub options_at : ℕ → RenderOptions
options_at width = record { width = width; line_ending = Lf; indentation_policy = Eager }
