-- What holds of the layouts of texts that are TOML.
use Rattle.std.specs.Prelude.{◌≡◌, ℕ, List, true}
use Rattle.prettyless_model.specs.Layout.{Whole, layout}
use Rattle.prettyless_model.specs.declared.options.LineEnding.{LineEnding}
use Rattle.toml_lexemes.specs.Lexemes.{toml_lexemes_of}
use Rattle.toml_grammar.specs.Grammar.{is_toml}
use Rattle.toml_documents.specs.Alignment.{with_comments_as}
use Rattle.toml_documents.specs.Documents.{toml_document}
use Rattle.toml_documents.specs.Laid.{IsLaidToml, toml_options}
use Rattle.toml_documents.specs.declared.style.Style.{Style}

-- the layout of a text that is TOML is TOML, in any style, with comments aligned or not
abbrev pub LayoutsAreToml : Type 0
LayoutsAreToml = (style : Style) (text bytes : List ℕ) → is_toml text ≡ true → IsLaidToml style text bytes → is_toml bytes ≡ true

-- the layout of a text that is TOML, with comments aligned or not, has that very layout
abbrev pub LayoutsAreLaidAgain : Type 0
LayoutsAreLaidAgain =
    (style : Style) (ending : LineEnding) (text before : List ℕ) → is_toml text ≡ true
    → layout (toml_options style ending) (toml_document style (toml_lexemes_of text)) ≡ Whole before
    → layout (toml_options style ending) (toml_document style (toml_lexemes_of (with_comments_as style before))) ≡ Whole before
