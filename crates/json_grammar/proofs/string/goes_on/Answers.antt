use Rattle.json_grammar.proofs.CutOff.{string_at_end, string_stops, string_tells}
use Rattle.json_grammar.proofs.string.goes_on.Goals as goal

pub returns-in_default : goal.returns-in_default
returns-in_default c = string_at_end c.args.bytes.now c.in_default.ensures.cases

pub returns-then-first-eq92 : goal.returns-then-first-eq92
returns-then-first-eq92 c =
    string_tells c.in-Some.first.now c.in-Some.rest.now c.args.bytes.now c.in-Some.ensures.cases.0 c.escape_goes_on.result
    c.if-first-eq92.true c.escape_goes_on.ensures

pub returns : goal.returns
returns c = λ none.
    string_stops c.in-Some.first.now c.in-Some.rest.now c.args.bytes.now c.in-Some.ensures.cases.0 c.if-first-eq92.false none
