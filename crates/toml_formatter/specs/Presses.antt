-- Statements that are laid out one after another.
use Rattle.std.specs.Prelude.{◌≡◌, ℕ, Bool, true, false, List, [], ◌++◌}
use Rattle.prettyless_trees.specs.Built.{append}
use Rattle.prettyless_model.specs.Tree.{Tree, HardLine}
use Rattle.prettyless_model.specs.declared.options.RenderOptions.{RenderOptions}
use Rattle.prettyless_laws.specs.InTurn.{AreLines}
use Rattle.toml_lexemes.specs.Lexemes.{toml_lexemes_of}
use Rattle.toml_grammar.specs.Nesting.{max_brackets}
use Rattle.toml_formatter.specs.Depths.{TakesWithin}
use Rattle.toml_documents.specs.Documents.{document_from, toml_document}
use Rattle.toml_documents.specs.Laid.{HasTomlOptions}
use Rattle.toml_formatter.specs.Lines.{IsDocument}
use Rattle.toml_documents.specs.Sheets.{IsSheet}
use Rattle.toml_formatter.specs.declared.document.Laid.{Laid}
use Rattle.toml_formatter.specs.declared.document.Press.{Press}
use Rattle.toml_documents.specs.declared.sheet.Sheet.{Sheet}

-- ---- lines

-- the sheet has the lines of the document
abbrev pub HasLines : RenderOptions → Sheet → Tree → Type 0
HasLines o sheet d = (bytes : List ℕ) × AreLines o d bytes × IsSheet sheet bytes

-- where it had those of a document before, it has those of the document with more after it
abbrev pub AddsLines : RenderOptions → Sheet → Sheet → (Tree → Tree) → Type 0
AddsLines o before after more = (d : Tree) → HasLines o before d → HasLines o after (more d)

-- ---- statements

-- a document, with a blank line after it or not
abbrev pub blank_after : Bool → Tree → Tree
blank_after false d = d
blank_after true d = append d HardLine

-- The statements of the text are laid out but for those that have these lexemes.
pub record IsPressed (press : Press) (laid : Laid) (left : List (List ℕ)) : Type 0 where
  -- the document of those that are
  pub done : Tree
  -- their lexemes
  pub taken : List (List ℕ)
  pub options : HasTomlOptions press.style press.options
  pub align : laid.sheet.align ≡ press.style.align
  pub cut : toml_lexemes_of press.text.now ≡ taken ++ left
  pub document : IsDocument left taken done
  pub within : TakesWithin max_brackets (toml_lexemes_of press.text.now) left
  pub same : toml_document press.style (toml_lexemes_of press.text.now)
      ≡ document_from press.style (record { done = done; some = laid.some; blank = laid.blank; levels = [] }) left
  pub lines : HasLines press.options laid.sheet done
