-- What formatting a text answers.
use Rattle.std.specs.Prelude.{◌≡◌, ◌⊎◌, ℕ, true, false, List}
use Rattle.prettyless_model.specs.Layout.{Whole, layout}
use Rattle.prettyless_model.specs.Tree.{Tree}
use Rattle.prettyless_model.specs.declared.options.RenderOptions.{RenderOptions}
use Rattle.toml_documents.specs.Alignment.{with_aligned_comments}
use Rattle.toml_grammar.specs.Grammar.{is_toml}
use Rattle.toml_grammar.specs.Nesting.{is_too_deep}
use Rattle.toml_lexemes.specs.Statements.{statements}
use Rattle.toml_formatter.specs.Lines.{HasStatements}
use Rattle.toml_formatter.specs.declared.error.FormatError.{FormatError}
use Rattle.toml_formatter.specs.declared.error.FormatError.TheVariants.{NotToml, TooDeep, Memory}

-- These bytes are the text laid out.
pub record IsFormattedToml (text bytes : List ℕ) : Type 0 where
  -- The text is TOML.
  pub toml : is_toml text ≡ true
  -- Its brackets are not too deep in one another.
  pub shallow : is_too_deep text ≡ false
  -- They are TOML too.
  pub valid : is_toml bytes ≡ true
  -- They have the same statements in the same order, each with the same lexemes.
  pub same : statements bytes ≡ statements text

-- These bytes are the layout of a document that shows the statements of the text.
pub record ShowsToml (text bytes : List ℕ) : Type 0 where
  pub document : Tree
  pub options : RenderOptions
  pub shows : HasStatements text document
  pub laid : layout options document ≡ Whole bytes
  -- They have the same statements.
  pub same : statements bytes ≡ statements text

-- These bytes are such a layout, with comments aligned or not.
pub record IsTomlLayout (text bytes : List ℕ) : Type 0 where
  pub before : List ℕ
  pub shown : ShowsToml text before
  pub aligned : (bytes ≡ before) ⊎ (bytes ≡ with_aligned_comments before)
  -- They have the same statements.
  pub same : statements bytes ≡ statements text

-- the text is not TOML; or it is, and brackets are too deep in one another, or memory was refused
abbrev pub IsRefusedToml : List ℕ → FormatError → Type 0
IsRefusedToml text NotToml = is_toml text ≡ false
IsRefusedToml text TooDeep = (is_toml text ≡ true) × (is_too_deep text ≡ true)
IsRefusedToml text (Memory e) = Unit {0}
