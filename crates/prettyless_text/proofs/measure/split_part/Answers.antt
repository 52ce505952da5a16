use Rattle.std.proofs.Common.{◌∙◌, ap, sym, arith}
use Rattle.std.proofs.lemmas.Str.{lead_after_ascii}
use Rattle.prettyless_model.specs.Metrics.{text_width, parts}
use Rattle.prettyless_text.proofs.Parts.{first-front, first-nonempty, later-inside, later-end, break-ascii}
use Rattle.prettyless_text.proofs.measure.split_part.Goals as goal

-- a text may be cut after a break
pub range_from-requires : goal.range_from-requires
range_from-requires c =
    λ _. (
      omega (arith, c.if-end-text.true),
      lead_after_ascii _ _ c.utf8.text (break-ascii _ (c.scan_part-end.ensures.end.found c.if-end-text.true)),
    )

pub returns-then-end-text-clause-width : goal.returns-then-end-text-clause-width
returns-then-end-text-clause-width c =
    c.text_width.ensures ∙ ap text_width (c.range.ensures.value ∙ first-front _ _ c.scan_part-end.ensures.end)

pub returns-then-end-text-clause-nonempty : goal.returns-then-end-text-clause-nonempty
returns-then-end-text-clause-nonempty c = first-nonempty _ _ c.scan_part-end.ensures.end

pub returns-then-end-text-clause-rest : goal.returns-then-end-text-clause-rest
returns-then-end-text-clause-rest c =
    later-inside _ _ c.scan_part-end.ensures.end c.if-end-text.true ∙ ap parts (sym c.range_from.ensures.value)

pub returns-else-end-text-clause-width : goal.returns-else-end-text-clause-width
returns-else-end-text-clause-width c =
    c.text_width.ensures ∙ ap text_width (c.range.ensures.value ∙ first-front _ _ c.scan_part-end.ensures.end)

pub returns-else-end-text-clause-nonempty : goal.returns-else-end-text-clause-nonempty
returns-else-end-text-clause-nonempty c = first-nonempty _ _ c.scan_part-end.ensures.end

pub returns-else-end-text-clause-rest : goal.returns-else-end-text-clause-rest
returns-else-end-text-clause-rest c = later-end _ _ c.scan_part-end.ensures.end c.if-end-text.false
