-- Which texts a layout spells: the lexemes of its text, each as it is spelled.
use Rattle.std.specs.Prelude.{◌≡◌, ℕ, ◌==◌, ◌||◌, true, cond, List, [], ◌∷◌}
use Rattle.prettyless_laws.specs.Bits.{AreWritten, Bit, IsSpelled, end_of_line, text_of}
use Rattle.prettyless_model.specs.Options.{ending}
use Rattle.prettyless_model.specs.Tree.{Tree}
use Rattle.prettyless_model.specs.Layout.{Whole, layout}
use Rattle.prettyless_model.specs.declared.mode.Mode.TheVariants.{Break}
use Rattle.prettyless_model.specs.declared.options.LineEnding.{LineEnding}
use Rattle.prettyless_model.specs.declared.options.RenderOptions.{RenderOptions}
use Rattle.toml_lexemes.specs.Bytes as byte
use Rattle.toml_lexemes.specs.Lexemes.{toml_lexemes_of}
use Rattle.toml_lexemes.specs.Statements.{trimmed}
use Rattle.toml_grammar.specs.Sorts as sort
use Rattle.toml_grammar.specs.Sorts.{Sort, sort_of}
use Rattle.toml_documents.specs.Documents.{toml_document}
use Rattle.toml_documents.specs.Laid.{toml_options}
use Rattle.toml_documents.specs.declared.style.Style.{Style}

-- a text in front of others, but for a space and a comma; an empty text is nothing
abbrev pub with_text : List ℕ → List (List ℕ) → List (List ℕ)
with_text [] ss = ss
with_text (x ∷ []) ss = cond ((x == byte.blank_space) || (x == byte.comma)) ss ((x ∷ []) ∷ ss)
with_text (x ∷ y ∷ s) ss = (x ∷ y ∷ s) ∷ ss

-- the texts of a spelling in front of others, but for spaces and commas
abbrev pub texts_then : List Bit → List (List ℕ) → List (List ℕ)
texts_then [] ss = ss
texts_then (text_of s ∷ bits) ss = with_text s (texts_then bits ss)
texts_then (end_of_line ∷ bits) ss = texts_then bits ss

-- what is kept of a lexeme of this sort, in front of others: of a comment what is left without the blanks at its end, and of a comma
-- and a line end nothing
abbrev pub kept_first : Sort → List ℕ → List (List ℕ) → List (List ℕ)
kept_first sort.line_end s ss = ss
kept_first sort.comment s ss = with_text (trimmed s) ss
kept_first k s ss = with_text s ss

-- what is kept of lexemes, in front of others
abbrev pub kept_then : List (List ℕ) → List (List ℕ) → List (List ℕ)
kept_then [] ts = ts
kept_then (s ∷ ss) ts = kept_first (sort_of s) s (kept_then ss ts)

-- The document has a layout, which is one of its spellings, written out. Its texts are the lexemes of the text in their order, each
-- as it is spelled, but that commas and line ends may be others, and comments have no blanks at their end.
pub record IsSpelledOut (o : RenderOptions) (text : List ℕ) (d : Tree) : Type 0 where
  pub bytes : List ℕ
  pub laid : layout o d ≡ Whole bytes
  pub bits : List Bit
  pub spelled : IsSpelled d Break bits
  pub written : AreWritten o true bits bytes
  pub texts : texts_then bits [] ≡ kept_then (toml_lexemes_of text) []

-- so is the document of any text, TOML or not, in any style
abbrev pub LayoutsAreSpelledOut : Type 0
LayoutsAreSpelledOut =
    (style : Style) (ending : LineEnding) (text : List ℕ)
    → IsSpelledOut (toml_options style ending) text (toml_document style (toml_lexemes_of text))
