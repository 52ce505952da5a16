-- What is written of an expression reads back.
use Rattle.std.proofs.Common.{◌≡◌, sym, ap, subst, ◌∙◌, ℕ, List, ◌++◌, Some}
use Rattle.std.proofs.lemmas.List.{append_cancel_left}
use Rattle.prettyless.specs.Content.{AppendsContent, HasContent}
use Rattle.prettyless.specs.Layout.{Whole}
use Rattle.prettyless.proofs.SpacedTexts.{texts_shown}
use Rattle.example_formatters.specs.Documents.{document_of}
use Rattle.example_formatters.specs.Expression.{Expression, HasSmallNumbers}
use Rattle.example_formatters.specs.Reader.{expression_at, expression_in}
use Rattle.example_formatters.specs.Written.{layout_at}
use Rattle.example_formatters.proofs.ExpressionTokens.{tokens_of}
use Rattle.example_formatters.proofs.Lexed.{expression_lexed}
use Rattle.example_formatters.proofs.Reading.{read_alone}
use Rattle.example_formatters.proofs.Texts.{document_has}

-- bytes with the content of the document read back
pub reads_back : (e : Expression) (bytes : List ℕ) → HasSmallNumbers e → HasContent (document_of e) bytes → expression_in bytes ≡ Some e
reads_back e bytes small h =
    let spaced = texts_shown (document_of e) bytes (tokens_of e) h (document_has e small) in
    ap expression_at (expression_lexed e bytes small spaced) ∙ read_alone e small

-- the whole layout, appended with the content of the document, reads back
pub wrote : (width : ℕ) (e : Expression) (old new : List ℕ) → HasSmallNumbers e → AppendsContent (document_of e) old new → (bytes : List ℕ)
    × (layout_at width e ≡ Whole bytes) × (new ≡ old ++ bytes)
    → (bytes : List ℕ) × (layout_at width e ≡ Whole bytes) × (new ≡ old ++ bytes) × (expression_in bytes ≡ Some e)
wrote width e old new small content laid =
    let same = append_cancel_left old content.0 laid.0 (sym content.1 ∙ laid.2) in
    (laid.0, laid.1, laid.2, reads_back e laid.0 small (subst (HasContent (document_of e)) same content.2))
