-- How the documents of statements are laid out.
use Rattle.std.specs.Prelude.{◌≡◌, ℕ, ◌-◌, ◌^◌, ◌<◌, List}
use Rattle.prettyless_model.specs.Layout.{Whole, layout}
use Rattle.prettyless_model.specs.declared.options.IndentationPolicy.{IndentationPolicy}
use Rattle.prettyless_model.specs.declared.options.LineEnding.TheVariants.{Lf}
use Rattle.prettyless_model.specs.declared.options.RenderOptions.{RenderOptions}
use Rattle.toml_syntax.specs.Tree.{Statement}
use Rattle.toml_syntax.specs.Formed.{AreFormed}
use Rattle.toml_syntax.specs.Formatted.{laid_out}
use Rattle.toml_layouts.specs.Documents.{text_style, statements_tree}
use Rattle.toml_layouts.specs.Keyed.{AreKeyed}

-- lines of this width that LF ends
abbrev pub options_with : ℕ → IndentationPolicy → RenderOptions
options_with width policy = record { width = width; line_ending = Lf; indentation_policy = policy }

-- The document of statements is laid out as they are. The printer counts no column past the greatest number, so the width is below that.
abbrev pub LayoutsAreSettled : Type 0
LayoutsAreSettled =
    (width : ℕ) (indent : List ℕ) (policy : IndentationPolicy) (ts : List Statement) → width < 2 ^ 64 - 1 → AreKeyed ts
    → layout (options_with width policy) (statements_tree (text_style width indent) ts) ≡ Whole (laid_out (text_style width indent) ts)

-- statements that may be spelled have such keys
abbrev pub FormedAreKeyed : Type 0
FormedAreKeyed = (ts : List Statement) → AreFormed ts → AreKeyed ts
