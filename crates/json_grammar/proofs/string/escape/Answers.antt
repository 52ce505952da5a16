use Rattle.std.proofs.Common.{sym, ◌∙◌}
use Rattle.json_grammar.proofs.Content.{never_ended, never_number, never_short, reads_number, reads_short}
use Rattle.json_grammar.proofs.string.escape.Goals as goal

pub returns-in_err-first : goal.returns-in_err-first
returns-in_err-first c = rw c.from_residual.ensures (never_ended c.args.bytes.now c.in_err-first.ensures.cases)

pub returns-in_err-number : goal.returns-in_err-number
returns-in_err-number c =
    rw c.from_residual-in_err-number.ensures
    (never_number c.in_ok-first.first.now c.in_ok-first.rest.now c.args.bytes.now c.in_ok-first.ensures.cases.0 c.if-first-eq117.true
    c.in_err-number.ensures)

pub returns-then-first-eq117 : goal.returns-then-first-eq117
returns-then-first-eq117 c =
    reads_number c.in_ok-first.first.now c.in_ok-first.rest.now c.args.bytes.now c.in_ok-first.ensures.cases.0 c.in_ok-number.field-0
    c.if-first-eq117.true c.in_ok-number.ensures

pub returns-then-is_short : goal.returns-then-is_short
returns-then-is_short c =
    reads_short c.in_ok-first.first.now c.in_ok-first.rest.now c.args.bytes.now c.in_ok-first.ensures.cases.0 c.if-first-eq117.false
    (sym c.is_short.ensures ∙ c.if-is_short.true)

pub returns-else-is_short : goal.returns-else-is_short
returns-else-is_short c =
    never_short c.in_ok-first.first.now c.in_ok-first.rest.now c.args.bytes.now c.in_ok-first.ensures.cases.0 c.if-first-eq117.false
    (sym c.is_short.ensures ∙ c.if-is_short.false)
