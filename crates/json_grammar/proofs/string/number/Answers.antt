use Rattle.std.proofs.Common.{sym, ◌∙◌, arith}
use Rattle.json_grammar.proofs.Content.{take_rest, never_digits, never_high, never_low, reads_pair, reads_unit}
use Rattle.json_grammar.proofs.string.number.Goals as goal

pub returns-in_err-unit : goal.returns-in_err-unit
returns-in_err-unit c = rw c.from_residual.ensures (never_digits c.args.bytes.now (sym c.in_err-unit.ensures))

pub returns-in_err-second_half : goal.returns-in_err-second_half
returns-in_err-second_half c =
    let u = c.in_ok-unit.unit in
    rw c.from_residual-in_err-second_half.ensures
    (never_high u c.args.bytes.now (sym c.in_ok-unit.ensures) (sym c.is_high.ensures ∙ c.if-is_high.true)
    (rw take_rest at (c.in_err-second_half.ensures u)))

pub overflow_add-result : goal.overflow_add-result
overflow_add-result c = omega (arith, (c.in_ok-second_half.ensures 0).within)

pub returns-then-is_high : goal.returns-then-is_high
returns-then-is_high c =
    let u = c.in_ok-unit.unit in
    reads_pair u c.in_ok-second_half.field-0 c.args.bytes.now (sym c.in_ok-unit.ensures) (sym c.is_high.ensures ∙ c.if-is_high.true)
    (rw take_rest at (c.in_ok-second_half.ensures u))

pub returns-then-is_low : goal.returns-then-is_low
returns-then-is_low c =
    never_low c.in_ok-unit.unit c.args.bytes.now (sym c.in_ok-unit.ensures) (sym c.is_high.ensures ∙ c.if-is_high.false)
    (sym c.is_low.ensures ∙ c.if-is_low.true)

pub returns : goal.returns
returns c =
    reads_unit c.in_ok-unit.unit c.args.bytes.now (sym c.in_ok-unit.ensures) (sym c.is_high.ensures ∙ c.if-is_high.false)
    (sym c.is_low.ensures ∙ c.if-is_low.false)
