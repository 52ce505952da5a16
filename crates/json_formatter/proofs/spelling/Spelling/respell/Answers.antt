use Rattle.std.proofs.Common.{sym, ◌∙◌, ap, ◌++◌}
use Rattle.json_formatter.specs.Gaps.{gap_bytes}
use Rattle.json_formatter.specs.Spelling.{columns_spelled, respelled}
use Rattle.json_formatter.specs.declared.gaps.Gap.{Gap}
use Rattle.json_formatter.proofs.Respelled.{blank_line_respelled, line_respelled}
use Rattle.json_formatter.proofs.spelling.Spelling.respell.Goals as goal

pub returns-in-Line : goal.returns-in-Line
returns-in-Line c =
    let sp = c.args.self in
    let i = c.in-Line.indent in
    c.line.ensures
    ∙ (λ j. c.line_end.ensures j ++ columns_spelled sp.tab i)
    ∙ sym (line_respelled sp i)
    ∙ ap (λ (g : Gap). respelled sp (gap_bytes g)) (sym c.in-Line.is)

pub returns-in-BlankLine : goal.returns-in-BlankLine
returns-in-BlankLine c =
    let sp = c.args.self in
    let i = c.in-BlankLine.indent in
    c.line-in-BlankLine.ensures
    ∙ (λ j. c.blank_line.ensures j ++ columns_spelled sp.tab i)
    ∙ sym (blank_line_respelled sp i)
    ∙ ap (λ (g : Gap). respelled sp (gap_bytes g)) (sym c.in-BlankLine.is)
