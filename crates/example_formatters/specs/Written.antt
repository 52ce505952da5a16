-- What a layout of an expression leaves.
use Rattle.std.specs.Prelude.{◌≡◌, ℕ, List, ◌++◌, Some, Result, Ok, Err}
use Rattle.prettyless.specs.Layout.{Bytes, Whole, layout, bytes_in}
use Rattle.prettyless.specs.Options.{options_at}
use Rattle.prettyless.specs.Sink.{AppendsBeginning}
use Rattle.prettyless_doc.specs.declared.error.PrettyError.{PrettyError}
use Rattle.prettyless_doc.specs.declared.error.PrettyError.TheVariants.{Build, Render}
use Rattle.example_formatters.specs.Documents.{document_of}
use Rattle.example_formatters.specs.Expression.{Expression}
use Rattle.example_formatters.specs.Reader.{expression_in}

-- the layout of an expression at this width
abbrev pub layout_at : ℕ → Expression → Bytes
layout_at width e = layout (options_at width) (document_of e)

-- The whole layout was appended, and it reads back as the expression; or nothing, where the document was not built; or a
-- beginning of the layout, where its render stopped.
abbrev pub WritesExpression : {A E : Type 0} → ℕ → Expression → List ℕ → List ℕ → Result A (PrettyError E) → Type 0
WritesExpression width e old new (Ok done) =
    (bytes : List ℕ) × (layout_at width e ≡ Whole bytes) × (new ≡ old ++ bytes) × (expression_in bytes ≡ Some e)
WritesExpression width e old new (Err (Build error)) = new ≡ old
WritesExpression width e old new (Err (Render error)) = AppendsBeginning old new (bytes_in (layout_at width e))
