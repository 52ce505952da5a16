use Rattle.std.proofs.Common.{◌∙◌, sym, ap}
use Rattle.json_lexemes.specs.SpacedLexemes.{first_spaces}
use Rattle.json_formatter.specs.BlankLines.{kept_gap}
use Rattle.json_formatter.specs.Gaps.{gap_bytes}
use Rattle.json_formatter.specs.declared.gaps.Gap.{Gap}
use Rattle.json_formatter.proofs.GapsKept.{line_kept}
use Rattle.json_formatter.proofs.kept.Kept.gap.Goals as goal

pub returns-in-Line-clause-gap : goal.returns-in-Line-clause-gap
returns-in-Line-clause-gap c =
    let source = first_spaces c.args.self.now.blank_lines in
    let comma = c.args.self.now.after_comma in
    line_kept c.in-Line.indent comma source c.if-after_comma.true (sym c.pass-is_blank.ensures.blank ∙ c.if-is_blank.true)
    ∙ ap (λ (g : Gap). kept_gap comma source (gap_bytes g)) (sym c.in-Line.is)
