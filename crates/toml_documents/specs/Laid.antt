-- What the document of a text is laid out as.
use Rattle.std.specs.Prelude.{◌≡◌, ℕ, List}
use Rattle.prettyless_model.specs.Layout.{Whole, layout}
use Rattle.prettyless_model.specs.declared.options.IndentationPolicy.TheVariants.{Deferred}
use Rattle.prettyless_model.specs.declared.options.LineEnding.{LineEnding}
use Rattle.prettyless_model.specs.declared.options.RenderOptions.{RenderOptions}
use Rattle.toml_lexemes.specs.Lexemes.{toml_lexemes_of}
use Rattle.toml_documents.specs.Alignment.{with_comments_as}
use Rattle.toml_documents.specs.Documents.{toml_document}
use Rattle.toml_documents.specs.declared.style.Style.{Style}

-- the options of a layout in this style, whose lines end so
abbrev pub toml_options : Style → LineEnding → RenderOptions
toml_options style ending = record { width = style.width; line_ending = ending; indentation_policy = Deferred }

-- options of a layout in this style
abbrev pub HasTomlOptions : Style → RenderOptions → Type 0
HasTomlOptions style options = (ending : LineEnding) × (options ≡ toml_options style ending)

-- These bytes are the layout of the document of the text's lexemes, at the style's width. All lines end alike.
pub record IsLaidTomlDocument (style : Style) (text bytes : List ℕ) : Type 0 where
  pub ending : LineEnding
  pub laid : layout (toml_options style ending) (toml_document style (toml_lexemes_of text)) ≡ Whole bytes

-- The same, with comments aligned where the style says so.
pub record IsLaidToml (style : Style) (text bytes : List ℕ) : Type 0 where
  pub before : List ℕ
  pub laid : IsLaidTomlDocument style text before
  pub aligned : bytes ≡ with_comments_as style before
