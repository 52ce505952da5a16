use Rattle.json_grammar.proofs.CutOff.{escape_at_end, escape_stops, escape_tells}
use Rattle.json_grammar.proofs.string.escape_goes_on.Goals as goal

pub returns-in_default : goal.returns-in_default
returns-in_default c = escape_at_end c.args.bytes.now c.in_default.ensures.cases

pub returns-then-first-eq117 : goal.returns-then-first-eq117
returns-then-first-eq117 c =
    escape_tells c.in-Some.first.now c.in-Some.rest.now c.args.bytes.now c.in-Some.ensures.cases.0 c.number_goes_on.result
    c.if-first-eq117.true c.number_goes_on.ensures

pub returns : goal.returns
returns c = λ never more.
    escape_stops c.in-Some.first.now c.in-Some.rest.now c.args.bytes.now c.in-Some.ensures.cases.0 c.if-first-eq117.false never more
