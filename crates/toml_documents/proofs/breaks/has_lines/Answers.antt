use Rattle.std.proofs.Common.{rules, tests}
use Rattle.std.proofs.lemmas.Iterator.{YieldsList-from_slice}
use Rattle.std.proofs.lemmas.Iterator.Search.{any_from_yields_List}
use Rattle.toml_documents.specs.Documents.{is_line_feed_byte}
use Rattle.toml_documents.proofs.breaks.has_lines.Goals as goal

pub returns : goal.returns
returns c =
    any_from_yields_List is_line_feed_byte _ _ _ c.any.ensures.ran (YieldsList-from_slice c.args.text.now cc) (λ x b q k. search (rules, tests))
