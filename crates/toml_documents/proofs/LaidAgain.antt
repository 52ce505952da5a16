-- The layout of a TOML text that is laid out again is the same bytes.
use Rattle.std.proofs.Common.{◌≡◌, refl, ◌∙◌, ap, ℕ, List, []}
use Rattle.std.specs.Prelude.{None}
use Rattle.prettyless_model.specs.Layout.{Whole, layout}
use Rattle.prettyless_model.specs.declared.mode.Mode.TheVariants.{Break}
use Rattle.toml_lexemes.specs.Lexemes.{toml_lexemes_of}
use Rattle.toml_grammar.specs.Grammar.{first_reading}
use Rattle.toml_documents.specs.Documents.{toml_document}
use Rattle.toml_documents.specs.Laid.{toml_options}
use Rattle.toml_documents.specs.LaidLaws.{LayoutsAreLaidAgain}
use Rattle.toml_documents.proofs.ReadTexts.{joined_from, lexemes_then}
use Rattle.prettyless_laws.specs.Bits.{Bit}
use Rattle.prettyless_laws.proofs.Again.{layout_modes, spelled_in}
use Rattle.toml_documents.proofs.AlignedAgain.{documents_stay}
use Rattle.toml_documents.proofs.ExactDocuments.{exact_document}
use Rattle.toml_documents.proofs.JoinedLayouts.{joined_documents}
use Rattle.toml_documents.proofs.LaidTexts.{document_runs}
use Rattle.toml_documents.proofs.LexedLayouts.{lexemes_written}
use Rattle.toml_documents.proofs.OrderlyTexts.{toml_is_orderly}
use Rattle.toml_documents.proofs.ReadDrafts.{document_reads}
use Rattle.prettyless_laws.proofs.Spellings.{spelled_so}
use Rattle.toml_documents.proofs.TreesAgain.{again_layout, layout_written}
use Rattle.toml_documents.proofs.Written.{Place}

pub layouts_are_laid_again : LayoutsAreLaidAgain
layouts_are_laid_again style ending text before toml laid =
    let o = toml_options style ending in
    let x = toml_document style (toml_lexemes_of text) in
    let ms = layout_modes o x in
    let bits = spelled_in x Break ms in
    let read = document_reads style (toml_lexemes_of text) ms (toml_is_orderly style text toml) in
    let apart : layout o (toml_document style (lexemes_then bits [])) ≡ Whole before =
    ap (λ (l : List Bit). layout o (toml_document style (lexemes_then l []))) read.related.spelled
    ∙ again_layout o x (toml_document style (lexemes_then read.bits [])) read.left read.bits before read.related laid in
    let runs = document_runs style text bits toml (spelled_so x Break ms) in
    let written = layout_written o x before refl (exact_document style (toml_lexemes_of text)) laid in
    let lexemes : toml_lexemes_of before ≡ joined_from None bits =
    lexemes_written o runs.0 (ap (λ (p : Place). p.touch) runs.2) bits first_reading before runs.1 written in
    let y = toml_document style (lexemes_then bits []) in
    let alike = joined_documents style bits runs.0 runs.1 Break (layout_modes o y) in
    ap (layout o) (documents_stay style before) ∙ ap (λ (ss : List (List ℕ)). layout o (toml_document style ss)) lexemes
    ∙ again_layout o y (toml_document style (joined_from None bits)) alike.0 alike.1 before alike.2 apart
