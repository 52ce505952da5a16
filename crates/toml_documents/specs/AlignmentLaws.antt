-- What holds of texts whose comments are aligned.
use Rattle.std.specs.Prelude.{◌≡◌, ℕ, List, true}
use Rattle.toml_lexemes.specs.Lexemes.{toml_lexemes_of}
use Rattle.toml_grammar.specs.Grammar.{is_toml}
use Rattle.toml_documents.specs.Alignment.{with_aligned_comments, with_comments_as}
use Rattle.toml_documents.specs.Documents.{toml_document}
use Rattle.toml_documents.specs.declared.style.Style.{Style}

-- a text and the same text with its comments aligned have the same lexemes
abbrev pub AlignedLexemesStay : Type 0
AlignedLexemesStay = (text : List ℕ) → toml_lexemes_of (with_aligned_comments text) ≡ toml_lexemes_of text

-- comments that are aligned stay where they are when they are aligned again
abbrev pub AlignedCommentsStay : Type 0
AlignedCommentsStay = (text : List ℕ) → with_aligned_comments (with_aligned_comments text) ≡ with_aligned_comments text

-- a text that is TOML is TOML with its comments aligned
abbrev pub AlignedTextsAreToml : Type 0
AlignedTextsAreToml = (text : List ℕ) → is_toml text ≡ true → is_toml (with_aligned_comments text) ≡ true

-- so whether comments are aligned, the document of a text is the same
abbrev pub AlignedDocumentsStay : Type 0
AlignedDocumentsStay =
    (style : Style) (text : List ℕ)
    → toml_document style (toml_lexemes_of (with_comments_as style text)) ≡ toml_document style (toml_lexemes_of text)
