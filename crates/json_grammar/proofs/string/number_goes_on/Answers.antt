use Rattle.std.proofs.Common.{sym, ◌∙◌, arith}
use Rattle.json_grammar.proofs.Content.{take_rest}
use Rattle.json_grammar.proofs.CutOff.{first_digits, number_none, number_stops, number_tells, pair_tells}
use Rattle.json_grammar.proofs.string.number_goes_on.Goals as goal

pub returns-in_default : goal.returns-in_default
returns-in_default c = λ never more. number_none c.args.bytes.now (sym c.in_default.ensures) more

pub returns-then-bytes-lt4 : goal.returns-then-bytes-lt4
returns-then-bytes-lt4 c =
    number_tells c.args.bytes.now c.in-Some.unit c.is_low.result (omega arith) (sym c.in-Some.ensures) c.is_low.ensures

pub returns-then-is_high : goal.returns-then-is_high
returns-then-is_high c =
    let first = first_digits c.args.bytes.now c.in-Some.unit (omega arith) (sym c.in-Some.ensures) in
    pair_tells c.args.bytes.now c.in-Some.unit c.half_goes_on.result (omega arith) first (sym c.is_high.ensures ∙ c.if-is_high.true)
    (rw take_rest at (c.half_goes_on.ensures c.in-Some.unit))

pub returns : goal.returns
returns c = λ never more.
    let first = first_digits c.args.bytes.now c.in-Some.unit (omega arith) (sym c.in-Some.ensures) in
    number_stops c.args.bytes.now c.in-Some.unit (omega arith) first (sym c.is_high.ensures ∙ c.if-is_high.false) never more
