use Rattle.std.proofs.Common.{false, not, ◌&&◌, nat_le, sym, ◌∙◌, ap}
use Rattle.json_lexemes.specs.SpacedLexemes.{line_feeds}
use Rattle.json_formatter.proofs.NextPieces.{begins_by_gap, ends_no_line}
use Rattle.json_formatter.proofs.ahead.begins_line.Goals as goal

pub returns-then-not-list_ends : goal.returns-then-not-list_ends
returns-then-not-list_ends c =
    let none = ap not (sym (c.list_ends.ensures false) ∙ c.if-not-list_ends.true) in
    c.has_line_end.ensures
    ∙ sym (begins_by_gap c.args.lexemes.now c.gap.result.now c.gap.ensures
    ∙ (λ i. none i && nat_le 1 (line_feeds c.gap.result.now)))

pub returns-else-not-list_ends : goal.returns-else-not-list_ends
returns-else-not-list_ends c =
    ap not c.if-not-list_ends.false
    ∙ sym (ends_no_line c.args.lexemes.now (ap not (sym (c.list_ends.ensures false) ∙ c.if-not-list_ends.false)))
